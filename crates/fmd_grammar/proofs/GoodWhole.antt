-- The parsers of the image and of the whole are good.
use Rattle.std.specs.Prelude.{Option, Some, None}
use mathlib.Core.Path.{◌≡◌, refl, sym, ap, subst, ◌∙◌}
use mathlib.Core.Bool.{Bool, true, false, cond, not}
use mathlib.Core.List.{List, [], ◌∷◌, ◌++◌, append_assoc, append-nil}
use Prim.Native.Nat.{ℕ, ◌≤◌}
use native.Mathlib.Omega.{arith}
use lib.Dec.{eqb, leb}
use lib.ListN.{length}
use borrow.Author.Tests.{eqb-true, leb-true, le-leb}
use Rattle.octets.specs.Tests.{◌and◌}
use Rattle.octets.proofs.Bools.{and_l, and_r, clash, and_i, choice}
use Rattle.octets.specs.Ascii.{ascii}
use Rattle.fmd_lex.specs.Numbers.{number_in}
use Rattle.fmd_lex.specs.Names.{good_name}
use Rattle.fmd_table.specs.declared.Section.{Section}
use Rattle.fmd_head.specs.Images.{set_address, set_length}
use Rattle.fmd_head.specs.declared.TextImage.{TextImage}
use Rattle.fmd_grammar.specs.Grammar.{Lexeme, word, sign, no_flags, no_offset, no_size, section, no_braces, SectionList, one, OptionalAddress, no_address}
use Rattle.fmd_grammar.specs.Grammar.{address, LayoutText, image}
use Rattle.fmd_grammar.specs.Claims.{Viable, Fault, unfit_sign, word_before_braces, word_after_braces, bad_image_size, bad_length, bad_name}
use Rattle.fmd_grammar.proofs.Built.{built}
use Rattle.fmd_grammar.proofs.Built.{pictured, Addressed}
use Rattle.fmd_grammar.proofs.Parsers.{Parser, Act, stop, eat, item, ret, bind, valued, number_act, title_act, length_act, must_be, list_p, address_p}
use Rattle.fmd_grammar.proofs.Parsers.{image_p, layout_p}
use Rattle.fmd_grammar.proofs.Good.{Exchange, no_number, no_name, Follow, Steady, Good, Fine, map-good, ret-good, item-good, bind-good, sign-good}
use Rattle.fmd_grammar.proofs.GoodHeads.{ninety-eight, Numbered, number-fine, letter, no-exchange, wrong-follows, number-steady}
use Rattle.fmd_grammar.proofs.GoodLists.{plus, ListSays, ListOn, list-good}

-- ---- a layout that ends so: 98 { A }

abbrev tail : List Lexeme
tail = word 0 (ascii "A") ∷ sign 0 125 ∷ sign 0 0 ∷ []

lone : SectionList 129 9 1 128 0 (word 0 (ascii "A") ∷ []) (built 0 1 1 128 false false None None ∷ [])
lone = one (section {level = 1} {before = 0} {name = ascii "A"} (letter 0 0 0) (omega arith) (omega arith) no_flags no_offset no_size no_braces)

module _ {p : ℕ} {w : List ℕ} (g : good_name w ≡ true) where
  -- the tokens ts after the name, and an ending
  moved : {xs : List Lexeme} {i : TextImage} {l : List Section} (ys us : List Lexeme) → xs ≡ ys ++ us → LayoutText 129 9 (word p w ∷ xs) i l → Viable
      (word p w ∷ ys)
  moved {xs} {i} {l} ys us e d = (us, i, l, subst (λ (ts : List Lexeme). LayoutText 129 9 (word p w ∷ ts) i l) e d)

  address_on : {os : List Lexeme} {d : Option ℕ} → OptionalAddress os d
      → (ts us : List Lexeme) → os ≡ ts ++ us → Viable (word p w ∷ ts)
  address_on {os} o ts us e =
      moved ts (us ++ (word 0 (ascii "98") ∷ sign 0 123 ∷ tail))
      (ap (λ (r : List Lexeme). r ++ (word 0 (ascii "98") ∷ sign 0 123 ∷ tail)) e ∙ append_assoc ts us (word 0 (ascii "98") ∷ sign 0 123 ∷ tail))
      (image 0 0 0 0 (ascii "98") g o ninety-eight (omega arith) (omega arith) lone)

  length-on : {os : List Lexeme} {d : Option ℕ} → OptionalAddress os d → Viable (word p w ∷ (os ++ []))
  length-on {os} o =
      moved (os ++ []) (word 0 (ascii "98") ∷ sign 0 123 ∷ tail) (ap (λ (r : List Lexeme). r ++ (word 0 (ascii "98") ∷ sign 0 123 ∷ tail))
      (sym (append-nil os)))
      (image 0 0 0 0 (ascii "98") g o ninety-eight (omega arith) (omega arith) lone)

  open-on : {os : List Lexeme} {d : Option ℕ} (q n : ℕ) (v : List ℕ) → OptionalAddress os d → number_in v ≡ Some n → 98 ≤ n → n ≤ 16777216 → Viable
      (word p w ∷ (os ++ (word q v ∷ [])))
  open-on {os} q n v o m a b =
      moved (os ++ (word q v ∷ [])) (sign 0 123 ∷ tail) (sym (append_assoc os (word q v ∷ []) (sign 0 123 ∷ tail)))
      (image q 0 0 0 v g o m a b lone)

  braces-on : {os : List Lexeme} {d : Option ℕ} (q n : ℕ) (v : List ℕ) → OptionalAddress os d → number_in v ≡ Some n → 98 ≤ n → n ≤ 16777216
      → (c : ℕ) → Viable (word p w ∷ (os ++ (word q v ∷ sign c 123 ∷ tail)))
  braces-on {os} q n v o m a b c =
      moved (os ++ (word q v ∷ sign c 123 ∷ tail)) [] (sym (append-nil (os ++ (word q v ∷ sign c 123 ∷ tail)))) (image q c 0 0 v g o m a b lone)

-- ---- the image

-- its tokens ts and us, up to its opening brace
pub record Front (own : List Lexeme) (i : TextImage) : Type 0 where
  pub p : ℕ
  pub q : ℕ
  pub a : ℕ
  pub n : ℕ
  pub w : List ℕ
  pub v : List ℕ
  pub os : List Lexeme
  pub d : Option ℕ
  pub good : good_name w ≡ true
  pub addresses : OptionalAddress os d
  pub number : number_in v ≡ Some n
  pub low : 98 ≤ n
  pub high : n ≤ 16777216
  pub list : own ≡ word p w ∷ (os ++ (word q v ∷ sign a 123 ∷ []))
  pub says : i ≡ pictured p (length w) d n

abbrev Titled : List Lexeme → TextImage → Type 0
Titled own i = (p : ℕ) × (w : List ℕ) × (own ≡ word p w ∷ []) × (good_name w ≡ true) × (i ≡ pictured p (length w) None 0)

abbrev Long : ℕ → ℕ → Option ℕ → List Lexeme → TextImage → Type 0
Long p m d own i =
    (q : ℕ) × (v : List ℕ) × (n : ℕ) × (own ≡ word q v ∷ []) × (number_in v ≡ Some n) × (98 ≤ n) × (n ≤ 16777216) × (i ≡ pictured p m d n)

an-image : (p : ℕ) (v : List ℕ) → good_name v ≡ true
    → LayoutText 129 9 (word p v ∷ word 0 (ascii "98") ∷ sign 0 123 ∷ tail) (pictured p (length v) None 98)
    (built 0 1 1 128 false false None None ∷ [])
an-image p v h = image 0 0 0 0 (ascii "98") h no_address ninety-eight (omega arith) (omega arith) lone

titled : Viable []
titled = (word 0 (ascii "A") ∷ word 0 (ascii "98") ∷ sign 0 123 ∷ tail, _, _, an-image 0 (ascii "A") (letter 0 0 0))

title-steady : Steady title_act
title-steady p w v d = go (good_name w)
  where
    bad : {n : ℕ} → n ≡ 53 → Exchange n v → title_act (word p v) ≡ stop 53
    bad z (no_number e) = absurd (omega arith)
    bad z (no_name e) = rw e

    go : (b : Bool) → Follow (cond (not b) (stop 53) (eat (pictured p (length w) None 0))) v (title_act (word p v))
    go true = tt
    go false = bad refl

length-steady : (i : TextImage) → Steady (length_act i)
length-steady i p w v d = go (number_in w)
  where
    P : Act TextImage → Type 0
    P a = Follow a v (length_act i (word p v))

    go : (n : Option ℕ) → P (valued n (λ m. cond (leb 98 m and leb m 16777216) (eat (set_length m i)) (stop 52)))
    go (Some n) = choice P (leb 98 n and leb n 16777216) _ _ (λ e. tt) (λ e. wrong-follows _ v)
    go None = wrong-follows _ v

title-fine : (x : Lexeme) → Fine Titled Viable x (title_act x)
title-fine (sign p k) = (unfit_sign, titled)
title-fine (word p w) = go (good_name w) refl
  where
    go : (b : Bool) → good_name w ≡ b → Fine Titled Viable (word p w) (cond (not b) (stop 53) (eat (pictured p (length w) None 0)))
    go true g = (p, w, refl, g, refl)
    go false g = (bad_name g (λ v h. (word 0 (ascii "98") ∷ sign 0 123 ∷ tail, _, _, an-image p v h)), titled)

module _ (p : ℕ) (w : List ℕ) (g : good_name w ≡ true) where
  address-good : Good (Addressed p (length w)) (λ (us : List Lexeme). Viable (word p w ∷ us)) (address_p (pictured p (length w) None 0))
      (λ e. address_p (pictured p (length w) None 0))
  unfolding address_p
  address-good =
      let i = pictured p (length w) None 0 in
      let q : Parser TextImage = bind (item number_act) (λ m. ret (set_address m i)) in
      sign-good 64 q (λ e. q) (ret i) (λ e. ret i)
      (λ a. bind-good {F = Numbered} (item number_act) (λ e. item number_act) (λ m. ret (set_address m i)) (λ e m. ret (set_address m i))
      (item-good number_act number-steady
      (number-fine (λ (us : List Lexeme). Viable (word p w ∷ (sign a 64 ∷ us)))
      (address_on g (address {a = a} {b = 0} ninety-eight) (sign a 64 ∷ []) (word 0 (ascii "98") ∷ []) refl)
      (λ q. open-on g 0 98 (ascii "98") (address {a = a} {b = q} ninety-eight) ninety-eight (omega arith) (omega arith))))
      (λ own m f. rw f.2 (ret-good (set_address m i) (Some m, address f.3, refl))))
      (ret-good i (None, no_address, refl))

  module _ {os : List Lexeme} {d : Option ℕ} (o : OptionalAddress os d) where
    length-fine : (x : Lexeme) → Fine (Long p (length w) d) (λ (us : List Lexeme). Viable (word p w ∷ (os ++ us))) x (length_act (pictured p (length w) d 0) x)
    length-fine (sign q k) = (unfit_sign, length-on g o)
    length-fine (word q v) = go (number_in v) refl
      where
        P : Act TextImage → Type 0
        P = Fine (Long p (length w) d) (λ (us : List Lexeme). Viable (word p w ∷ (os ++ us))) (word q v)

        may : Viable (word p w ∷ (os ++ (word q (ascii "98") ∷ sign 0 123 ∷ tail)))
        may = braces-on g q 98 (ascii "98") o ninety-eight (omega arith) (omega arith) 0

        in-range : (n : ℕ) → number_in v ≡ Some n → (b : Bool) → (leb 98 n and leb n 16777216) ≡ b → P (cond b (eat (pictured p (length w) d n)) (stop 52))
        in-range n e true f = (q, v, n, refl, e, leb-true 98 n (and_l _ _ f), leb-true n 16777216 (and_r _ _ f), refl)
        in-range n e false f = (bad_length e (λ x y. clash (and_i _ _ (le-leb 98 n x) (le-leb n 16777216 y)) f) may, length-on g o)

        go : (n : Option ℕ) → number_in v ≡ n → P (valued n (λ m. cond (leb 98 m and leb m 16777216) (eat (pictured p (length w) d m)) (stop 52)))
        go (Some n) e = in-range n e (leb 98 n and leb n 16777216) refl
        go None e = (bad_image_size e may, length-on g o)

must-fine : {A : Type 0} (F : List Lexeme → A → Type 0) (W : List Lexeme → Type 0) (k : ℕ) (a : A)
    → ((p : ℕ) → F (sign p k ∷ []) a) → ((p : ℕ) (w : List ℕ) → Fault W 51 (word p w)) → W [] → (x : Lexeme) → Fine F W x (must_be k a x)
must-fine F W k a f m g (word p w) = (m p w, g)
must-fine F W k a f m g (sign p j) = go (eqb j k) refl
  where
    go : (b : Bool) → eqb j k ≡ b → Fine F W (sign p j) (cond b (eat a) (stop 51))
    go true e = subst (λ (i : ℕ). F (sign p i ∷ []) a) (sym (eqb-true j k e)) (f p)
    go false e = (unfit_sign, g)

must-good : {A : Type 0} {F : List Lexeme → A → Type 0} {W : List Lexeme → Type 0} (k : ℕ) (a : A)
    → ((p : ℕ) → F (sign p k ∷ []) a) → ((p : ℕ) (w : List ℕ) → Fault W 51 (word p w)) → W [] → Good F W (item (must_be k a)) (λ e. item (must_be k a))
must-good {A} {F} {W} k a f m g = item-good (must_be k a) (λ p w v d. no-exchange (λ e. omega arith) (λ e. omega arith)) (must-fine F W k a f m g)

image-good : Good Front Viable image_p (λ e. image_p)
unfolding image_p
image-good =
    bind-good {F = Titled} (item title_act) (λ e. item title_act) _ _ (item-good title_act title-steady title-fine)
    (λ own i f. rw (f.2, f.4) (titled f.0 f.1 f.3))
  where
    J : TextImage → Parser TextImage
    J j = bind (item (length_act j)) (λ k. item (must_be 123 k))

    addressed : (p : ℕ) (w : List ℕ) → good_name w ≡ true → (os : List Lexeme) (d : Option ℕ) → OptionalAddress os d
        → Good (λ (us : List Lexeme) (i : TextImage). Front (word p w ∷ (os ++ us)) i) (λ (us : List Lexeme). Viable (word p w ∷ (os ++ us)))
        (J (pictured p (length w) d 0)) (λ e. J (pictured p (length w) d 0))
    addressed p w g os d o =
        bind-good {F = Long p (length w) d} (item (length_act (pictured p (length w) d 0))) (λ e. item (length_act (pictured p (length w) d 0))) _ _
        (item-good (length_act (pictured p (length w) d 0)) (length-steady (pictured p (length w) d 0)) (length-fine p w g o))
        (λ own i f.
        rw (f.3, f.7)
        (must-good 123 (pictured p (length w) d f.2)
        (λ a.
        record {
          p = p;
          q = f.0;
          a = a;
          n = f.2;
          w = w;
          v = f.1;
          os = os;
          d = d;
          good = g;
          addresses = o;
          number = f.4;
          low = f.5;
          high = f.6;
          list = refl;
          says = refl;
        })
        (λ q u. word_before_braces (braces-on g f.0 f.2 f.1 o f.4 f.5 f.6 q))
        (open-on g f.0 f.2 f.1 o f.4 f.5 f.6)))

    titled : (p : ℕ) (w : List ℕ) → good_name w ≡ true
        → Good (λ (us : List Lexeme) (i : TextImage). Front (word p w ∷ us) i) (λ (us : List Lexeme). Viable (word p w ∷ us))
        (bind (address_p (pictured p (length w) None 0)) J) (λ e. bind (address_p (pictured p (length w) None 0)) J)
    titled p w g =
        bind-good {F = Addressed p (length w)} (address_p (pictured p (length w) None 0)) (λ e. address_p (pictured p (length w) None 0)) J (λ e. J)
        (address-good p w g)
        (λ os i f. rw f.2 (addressed p w g os f.0 f.1))

-- ---- the whole

module _ (most deepest : ℕ) (own : List Lexeme) (i : TextImage) (f : Front own i) where
  whole : (b c : ℕ) (ts us : List Lexeme) (l : List Section) → SectionList most deepest 1 128 0 ts l → us ≡ ts ++ (sign b 125 ∷ sign c 0 ∷ []) → LayoutText
      most deepest (own ++ us) i l
  whole b c ts us l d e =
      rw (f.says, f.list, append_assoc f.os (word f.q f.v ∷ sign f.a 123 ∷ []) us, e)
      (image f.q f.a b c f.v f.good f.addresses f.number f.low f.high d)

pub layout-good : (f : ℕ) → Good (λ (ts : List Lexeme) (r : TextImage × List Section). LayoutText 128 8 ts r.0 r.1) Viable (layout_p f)
    (λ k. layout_p (plus f k))
unfolding layout_p
layout-good f =
    bind-good {F = Front} image_p (λ e. image_p) _ _ image-good
    (λ own i x.
    bind-good {F = ListSays 1 128 []} (list_p f 1 128 []) (λ k. list_p (plus f k) 1 128 []) (λ l. item (must_be 0 (i, l))) (λ k l. item (must_be 0 (i, l)))
    (map-good _ _ (λ ts l s. s) (λ ts s. listed own i x ts s) (list-good f 1 128 [] (omega arith) (omega arith)))
    (λ us l s.
    must-good 0 (i, l) (λ c. ended own i x us l s c) (λ q w. word_after_braces (endable own i x us l s q)) (unended own i x us l s)))
  where
    listed : (own : List Lexeme) (i : TextImage) → Front own i → (ts : List Lexeme) → ListOn 1 128 0 ts → Viable (own ++ ts)
    listed own i x ts s = (
      s.0 ++ (sign 0 0 ∷ []),
      i,
      s.3,
      rw (append_assoc own ts (s.0 ++ (sign 0 0 ∷ [])))
          (whole 129 9 own i x s.1 0 s.2 (ts ++ (s.0 ++ (sign 0 0 ∷ []))) s.3 s.5
          (sym (append_assoc ts s.0 (sign 0 0 ∷ [])) ∙ ap (λ (r : List Lexeme). r ++ (sign 0 0 ∷ [])) s.4 ∙ append_assoc s.2 (sign s.1 125 ∷ [])
          (sign 0 0 ∷ []))),
    )

    ended : (own : List Lexeme) (i : TextImage) → Front own i → (us : List Lexeme) (l : List Section) → ListSays 1 128 [] us l → (c : ℕ) → LayoutText 128 8
        (own ++ (us ++ (sign c 0 ∷ []))) i l
    ended own i x us l s c =
        rw s.1
        (whole 128 8 own i x s.2 c s.3 (us ++ (sign c 0 ∷ [])) s.0 (s.5 128 8 (omega arith) (omega arith))
        (ap (λ (r : List Lexeme). r ++ (sign c 0 ∷ [])) s.4 ∙ append_assoc s.3 (sign s.2 125 ∷ []) (sign c 0 ∷ [])))

    unended : (own : List Lexeme) (i : TextImage) → Front own i → (us : List Lexeme) (l : List Section) → ListSays 1 128 [] us l → Viable (own ++ (us ++ []))
    unended own i x us l s = (
      sign 0 0 ∷ [],
      i,
      s.0,
      rw (append_assoc own (us ++ []) (sign 0 0 ∷ []))
          (whole 129 9 own i x s.2 0 s.3 ((us ++ []) ++ (sign 0 0 ∷ [])) s.0 (s.5 129 9 (omega arith) (omega arith))
          (ap (λ (r : List Lexeme). r ++ (sign 0 0 ∷ [])) (append-nil us ∙ s.4) ∙ append_assoc s.3 (sign s.2 125 ∷ []) (sign 0 0 ∷ []))),
    )

    endable : (own : List Lexeme) (i : TextImage) → Front own i → (us : List Lexeme) (l : List Section) → ListSays 1 128 [] us l → (c : ℕ)
        → Viable (own ++ (us ++ (sign c 0 ∷ [])))
    endable own i x us l s c = (
      [],
      i,
      s.0,
      subst (λ (ts : List Lexeme). LayoutText 129 9 ts i s.0) (sym (append-nil (own ++ (us ++ (sign c 0 ∷ [])))))
          (whole 129 9 own i x s.2 c s.3 (us ++ (sign c 0 ∷ [])) s.0 (s.5 129 9 (omega arith) (omega arith))
          (ap (λ (r : List Lexeme). r ++ (sign c 0 ∷ [])) s.4 ∙ append_assoc s.3 (sign s.2 125 ∷ []) (sign c 0 ∷ []))),
    )
