-- The readers of a layout text over its tokens alone. Each is made of steps that look at one token, by `bind`.
use Rattle.std.specs.Prelude.{None, Option, Some}
use mathlib.Core.Bool.{Bool, true, false, cond, not}
use mathlib.Core.List.{List, [], ◌∷◌, ◌++◌}
use Prim.Native.Nat.{ℕ, zero, suc, ◌+◌}
use lib.Dec.{eqb, leb, ltb}
use lib.ListN.{length, get_or}
use Rattle.octets.specs.Tests.{◌and◌}
use Rattle.text_words.specs.Classes.{is_digit}
use Rattle.fmd_lex.specs.Numbers.{number_in}
use Rattle.fmd_lex.specs.Names.{good_name, flag_of}
use Rattle.fmd_lex.specs.declared.Flag.{Flag}
use Rattle.fmd_lex.specs.declared.Flag.TheVariants.{Cbfs, Preserve}
use Rattle.fmd_table.specs.declared.Section.{Section}
use Rattle.fmd_head.specs.Heads.{set_cbfs, set_preserve, set_offset, set_size}
use Rattle.fmd_head.specs.Images.{set_address, set_length}
use Rattle.fmd_head.specs.declared.TextImage.{TextImage}
use Rattle.fmd_grammar.specs.Grammar.{Lexeme, word, sign}
use Rattle.fmd_grammar.specs.Claims.{lexeme_place}

-- ---- a parser, and the step that looks at one token

-- the first fault, its number and place; or what is read, and the tokens after it
pub data Got (A : Type 0) : Type 0 where
  no : ℕ → ℕ → Got A
  ok : A → List Lexeme → Got A

abbrev pub Parser : Type 0 → Type 0
Parser A = List Lexeme → Got A

-- what a token gives: a fault there; a value, and the token is read; a value, and the token stays
pub data Act (A : Type 0) : Type 0 where
  stop : ℕ → Act A
  eat : A → Act A
  leave : A → Act A

module _ {A : Type 0} where
  abbrev pub acted : Act A → Lexeme → List Lexeme → Got A
  acted (stop n) x xs = no n (lexeme_place x)
  acted (eat a) x xs = ok a xs
  acted (leave a) x xs = ok a (x ∷ xs)

  abbrev pub item : (Lexeme → Act A) → Parser A
  item f [] = no 0 0
  item f (x ∷ xs) = acted (f x) x xs

  abbrev pub ret : A → Parser A
  ret a ts = ok a ts

module _ {A B : Type 0} where
  abbrev pub after : Got A → (A → Parser B) → Got B
  after (no n p) k = no n p
  after (ok a us) k = k a us

  abbrev pub bind : Parser A → (A → Parser B) → Parser B
  bind q k ts = after (q ts) k

-- ---- what each token gives

abbrev pub is_it : ℕ → Lexeme → Act Bool
is_it k (word p w) = leave false
is_it k (sign p j) = cond (eqb j k) (eat true) (leave false)

abbrev pub valued : {A : Type 0} → Option ℕ → (ℕ → Act A) → Act A
valued (Some n) f = f n
valued None f = stop 52

abbrev pub number_act : Lexeme → Act ℕ
number_act (word p w) = valued (number_in w) eat
number_act (sign p k) = stop 51

abbrev pub name_act : ℕ → ℕ → ℕ → Lexeme → Act Section
name_act lv par n (word p w) =
    cond (not (good_name w)) (stop 53)
    (cond (leb 128 n) (stop 55)
    (cond (ltb 8 lv) (stop 55)
    (eat (record { offset = None; size = None; place = p; length = length w; cbfs = false; preserve = false; parent = par; level = lv }))))
name_act lv par n (sign p k) = stop 51

abbrev pub flag_act : Section → Option Flag → Act Section
flag_act h (Some Cbfs) = cond h.cbfs (stop 56) (eat (set_cbfs h))
flag_act h (Some Preserve) = cond h.preserve (stop 56) (eat (set_preserve h))
flag_act h None = stop 56

abbrev pub mark_act : Section → Lexeme → Act Section
mark_act h (word p w) = flag_act h (flag_of w)
mark_act h (sign p k) = stop 51

abbrev pub size_act : Section → Lexeme → Act Section
size_act h (word p w) = cond (is_digit (get_or w 0 0)) (valued (number_in w) (λ n. eat (set_size n h))) (leave h)
size_act h (sign p k) = leave h

abbrev pub title_act : Lexeme → Act TextImage
title_act (word p w) =
    cond (not (good_name w)) (stop 53) (eat (record { address = None; size = 0; place = p; length = length w }))
title_act (sign p k) = stop 51

abbrev pub length_act : TextImage → Lexeme → Act TextImage
length_act i (word p w) = valued (number_in w) (λ n. cond (leb 98 n and leb n 16777216) (eat (set_length n i)) (stop 52))
length_act i (sign p k) = stop 51

abbrev pub must_be : {A : Type 0} → ℕ → A → Lexeme → Act A
must_be k a (word p w) = stop 51
must_be k a (sign p j) = cond (eqb j k) (eat a) (stop 51)

-- ---- the readers

unfoldable pub last_p : Section → Parser Section
last_p h = bind (item (is_it 41)) (λ b. cond b (ret h) (item (mark_act h)))

unfoldable pub other_p : Section → Parser Section
other_p h = bind (item (is_it 41)) (λ b. cond b (ret h) (bind (item (mark_act h)) last_p))

unfoldable pub flags_p : Section → Parser Section
flags_p h = bind (item (is_it 40)) (λ b. cond b (bind (item (mark_act h)) other_p) (ret h))

unfoldable pub offset_p : Section → Parser Section
offset_p h = bind (item (is_it 64)) (λ b. cond b (bind (item number_act) (λ n. ret (set_offset n h))) (ret h))

unfoldable pub head_p : ℕ → ℕ → ℕ → Parser Section
head_p lv par n = bind (item (name_act lv par n)) (λ h. bind (flags_p h) (λ i. bind (offset_p i) (λ j. item (size_act j))))

unfoldable mutual
  pub section_p : ℕ → ℕ → ℕ → List Section → Parser (List Section)
  section_p zero lv par l = λ ts. no 0 0
  section_p (suc f) lv par l =
      bind (head_p lv par (length l))
      (λ h. bind (item (is_it 123)) (λ b. cond b (list_p f (lv + 1) (length l) (l ++ (h ∷ []))) (ret (l ++ (h ∷ [])))))

  pub list_p : ℕ → ℕ → ℕ → List Section → Parser (List Section)
  list_p zero lv par l = λ ts. no 0 0
  list_p (suc f) lv par l = bind (section_p f lv par l) (λ m. bind (item (is_it 125)) (λ b. cond b (ret m) (list_p f lv par m)))

unfoldable pub address_p : TextImage → Parser TextImage
address_p i = bind (item (is_it 64)) (λ b. cond b (bind (item number_act) (λ n. ret (set_address n i))) (ret i))

unfoldable pub image_p : Parser TextImage
image_p = bind (item title_act) (λ i. bind (address_p i) (λ j. bind (item (length_act j)) (λ k. item (must_be 123 k))))

unfoldable pub layout_p : ℕ → Parser (TextImage × List Section)
layout_p f = bind image_p (λ i. bind (list_p f 1 128 []) (λ l. item (must_be 0 (i, l))))
