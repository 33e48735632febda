-- The parsers of a section up to its braces are good.
use Rattle.std.specs.Prelude.{Option, Some, None}
use mathlib.Core.Path.{◌≡◌, refl, sym, ap, subst, ◌∙◌}
use mathlib.Core.Logic.{◌⊎◌, inl, inr}
use mathlib.Core.Bool.{Bool, true, false, cond, not}
use mathlib.Core.List.{List, [], ◌∷◌, ◌++◌, append_assoc, append-nil}
use Prim.Native.Nat.{ℕ, ◌≤◌, ◌<◌}
use native.Mathlib.Omega.{arith}
use lib.Dec.{leb, ltb}
use lib.ListN.{length, get_or}
use borrow.Author.Tests.{leb-false, ltb-false}
use Rattle.octets.specs.Tests.{◌and◌}
use Rattle.octets.specs.Ascii.{ascii}
use Rattle.octets.specs.Bytes.{same}
use Rattle.octets.proofs.Bools.{choice, clash}
use Rattle.octets.proofs.Equal.{same_true}
use Rattle.text_words.specs.Classes.{is_digit, digit_of}
use Rattle.text_words.specs.Numerals.{up_to, digits_from, some_digits, numeral_of}
use Rattle.fmd_lex.specs.Numbers.{capped, scaled, number_in}
use Rattle.fmd_lex.specs.Names.{good_name, cbfs, preserve, flag_of}
use Rattle.fmd_lex.specs.declared.Flag.{Flag}
use Rattle.fmd_lex.specs.declared.Flag.TheVariants.{Cbfs, Preserve}
use Rattle.fmd_table.specs.declared.ParentOffset.{ParentOffset}
use Rattle.fmd_table.specs.declared.Section.{Section}
use Rattle.fmd_head.specs.Heads.{set_cbfs, set_preserve, set_offset, set_size}
use Rattle.fmd_grammar.specs.Grammar.{Lexeme, word, sign, OptionalFlags, no_flags, only_cbfs, only_preserve, cbfs_preserve, preserve_cbfs, OptionalOffset}
use Rattle.fmd_grammar.specs.Grammar.{no_offset, offset, OptionalSize, no_size, size}
use Rattle.fmd_grammar.specs.Claims.{unfit_sign, bad_number, bad_size, bad_name, too_many, bad_flag}
use Rattle.fmd_grammar.proofs.Built.{built, Flagged, Placed, Sized, Head}
use Rattle.fmd_grammar.proofs.Parsers.{Parser, Act, stop, eat, leave, item, ret, bind, valued, number_act, name_act, flag_act, mark_act, size_act, last_p}
use Rattle.fmd_grammar.proofs.Parsers.{other_p, flags_p, offset_p, head_p}
use Rattle.fmd_grammar.proofs.Good.{digital, Exchange, no_number, no_name, Follow, Steady, Good, Fine, map-good, ret-good, item-good, bind-good, sign-good}

-- ---- numbers

pub ninety-eight : number_in (ascii "98") ≡ Some 98
unfolding number_in scaled capped numeral_of some_digits digits_from up_to digit_of
ninety-eight = refl

abbrev pub Numbered : List Lexeme → ℕ → Type 0
Numbered own n = (b : ℕ) × (w : List ℕ) × (own ≡ word b w ∷ []) × (number_in w ≡ Some n)

-- a number after @: a size may come after it
pub number-fine : (W : List Lexeme → Type 0) → W [] → ((p : ℕ) → W (word p (ascii "98") ∷ word 0 (ascii "98") ∷ []))
    → (x : Lexeme) → Fine Numbered W x (number_act x)
number-fine W g i (sign p k) = (unfit_sign, g)
number-fine W g i (word p w) = go (number_in w) refl
  where
    go : (n : Option ℕ) → number_in w ≡ n → Fine Numbered W (word p w) (valued n eat)
    go (Some n) e = (p, w, refl, e)
    go None e = (bad_number e (i p), g)

-- for a fault that no other word need have
pub no-exchange : {n : ℕ} {v : List ℕ} {A : Type 0} → (n ≡ 52 → ⊥) → (n ≡ 53 → ⊥) → Exchange n v → A
no-exchange a b (no_number e) = absurd (a refl)
no-exchange a b (no_name e) = absurd (b refl)

-- a number that must stand there
pub wrong-follows : {A : Type 0} (f : ℕ → Act A) (v : List ℕ) → Exchange 52 v → valued (number_in v) f ≡ stop 52
wrong-follows {A} f v c = go c refl
  where
    go : {n : ℕ} → Exchange n v → n ≡ 52 → valued (number_in v) f ≡ stop 52
    go (no_number e) z = ap (λ (m : Option ℕ). valued m f) e
    go (no_name e) z = absurd (omega arith)

pub number-steady : Steady number_act
number-steady p w v d = go (number_in w)
  where
    go : (n : Option ℕ) → Follow (valued n eat) v (number_act (word p v))
    go (Some n) = tt
    go None = wrong-follows eat v

-- ---- flags

mark-steady : (h : Section) → Steady (mark_act h)
mark-steady h p w v d = go (flag_of w)
  where
    P : Act Section → Type 0
    P a = Follow a v (mark_act h (word p v))

    bad : P (stop 56)
    bad = no-exchange (λ e. omega arith) (λ e. omega arith)

    go : (f : Option Flag) → P (flag_act h f)
    go (Some Cbfs) = choice P h.cbfs _ _ (λ z. bad) (λ z. tt)
    go (Some Preserve) = choice P h.preserve _ _ (λ z. bad) (λ z. tt)
    go None = bad

mark-fine : (F : List Lexeme → Section → Type 0) (W : List Lexeme → Type 0) (h : Section)
    → W [] → ((p : ℕ) → W (sign p 41 ∷ []) ⊎ W (word p cbfs ∷ sign 0 41 ∷ [])) → (h.cbfs ≡ false → (p : ℕ) → F (word p cbfs ∷ []) (set_cbfs h))
    → (h.preserve ≡ false → (p : ℕ) → F (word p preserve ∷ []) (set_preserve h)) → (x : Lexeme) → Fine F W x (mark_act h x)
unfolding flag_of
mark-fine F W h g m c v (sign p k) = (unfit_sign, g)
mark-fine F W h g m c v (word p w) = go
  where
    P : Act Section → Type 0
    P = Fine F W (word p w)

    bad : P (stop 56)
    bad = (bad_flag (m p), g)

    go : P (flag_act h (flag_of w))
    go =
        choice (λ (f : Option Flag). P (flag_act h f)) (same w cbfs) _ _
        (λ e. choice P h.cbfs _ _ (λ z. bad) (λ z. subst (λ (u : List ℕ). F (word p u ∷ []) (set_cbfs h)) (sym (same_true _ _ e)) (c z p)))
        (λ e. choice (λ (f : Option Flag). P (flag_act h f)) (same w preserve) _ _
        (λ d. choice P h.preserve _ _ (λ z. bad) (λ z. subst (λ (u : List ℕ). F (word p u ∷ []) (set_preserve h)) (sym (same_true _ _ d)) (v z p)))
        (λ d. bad))

abbrev pub FlagsOn : List Lexeme → Type 0
FlagsOn own = (us : List Lexeme) × (c : Bool) × (v : Bool) × OptionalFlags (own ++ us) c v

module _ (p n lv par : ℕ) where
  abbrev h : Bool → Bool → Section
  h c v = built p n lv par c v None None

  -- after the tokens o, which are ( and both flags
  last-good : (o : List Lexeme) → ((c : ℕ) → OptionalFlags (o ++ (sign c 41 ∷ [])) true true)
      → Good (λ (us : List Lexeme) (x : Section). Flagged p n lv par (o ++ us) x) (λ (us : List Lexeme). FlagsOn (o ++ us)) (last_p (h true true))
      (λ e. last_p (h true true))
  unfolding last_p
  last-good o g =
      sign-good 41 (ret (h true true)) (λ e. ret (h true true)) (item (mark_act (h true true))) (λ e. item (mark_act (h true true)))
      (λ c. ret-good (h true true) (true, true, g c, refl))
      (item-good (mark_act (h true true)) (mark-steady (h true true))
      (mark-fine (λ (us : List Lexeme) (x : Section). Flagged p n lv par (o ++ us) x) (λ (us : List Lexeme). FlagsOn (o ++ us)) (h true true)
      (sign 0 41 ∷ [], true, true, subst (λ (r : List Lexeme). OptionalFlags (r ++ (sign 0 41 ∷ [])) true true) (sym (append-nil o)) (g 0))
      (λ q. inl ([], true, true, subst (λ (r : List Lexeme). OptionalFlags r true true) (sym (append-nil (o ++ (sign q 41 ∷ [])))) (g q)))
      (λ z. absurd (clash refl z)) (λ z. absurd (clash refl z))))

  -- after ( and one flag u; the other flag is w, and makes it both
  module _ (a b : ℕ) (u w : List ℕ) (c v : Bool) (g : (d : ℕ) → OptionalFlags (sign a 40 ∷ word b u ∷ sign d 41 ∷ []) c v)
      (k : (d e : ℕ) → OptionalFlags (sign a 40 ∷ word b u ∷ word d w ∷ sign e 41 ∷ []) true true)
      (i : c ≡ false → (w ≡ cbfs) × (set_cbfs (h c v) ≡ h true true)) (j : v ≡ false → (w ≡ preserve) × (set_preserve (h c v) ≡ h true true)) where
    abbrev Other : List Lexeme → Section → Type 0
    Other own x = (d : ℕ) × (own ≡ word d w ∷ []) × (x ≡ h true true)

    other-good : Good (λ (us : List Lexeme) (x : Section). Flagged p n lv par (sign a 40 ∷ word b u ∷ us) x)
        (λ (us : List Lexeme). FlagsOn (sign a 40 ∷ word b u ∷ us))
        (other_p (h c v)) (λ e. other_p (h c v))
    unfolding other_p
    other-good =
        sign-good 41 (ret (h c v)) (λ e. ret (h c v)) (bind (item (mark_act (h c v))) last_p) (λ e. bind (item (mark_act (h c v))) last_p)
        (λ d. ret-good (h c v) (c, v, g d, refl))
        (bind-good {F = Other} (item (mark_act (h c v))) (λ e. item (mark_act (h c v))) last_p (λ e. last_p)
        (item-good (mark_act (h c v)) (mark-steady (h c v))
        (mark-fine Other (λ (us : List Lexeme). FlagsOn (sign a 40 ∷ word b u ∷ us)) (h c v) (sign 0 41 ∷ [], c, v, g 0) (λ q. inl ([], c, v, g q))
        (λ z q. (q, ap (λ (t : List ℕ). word q t ∷ []) (sym (i z).0), (i z).1)) (λ z q. (q, ap (λ (t : List ℕ). word q t ∷ []) (sym (j z).0), (j z).1))))
        (λ own x f.
        rw (f.1, f.2) (last-good (sign a 40 ∷ word b u ∷ word f.0 w ∷ []) (k f.0))))

  abbrev One : List Lexeme → Section → Type 0
  One own x = (b : ℕ) × (((own ≡ word b cbfs ∷ []) × (x ≡ h true false)) ⊎ ((own ≡ word b preserve ∷ []) × (x ≡ h false true)))

  pub flags-good : Good (Flagged p n lv par) FlagsOn (flags_p (h false false)) (λ e. flags_p (h false false))
  unfolding flags_p
  flags-good =
      sign-good 40 (bind (item (mark_act (h false false))) other_p) (λ e. bind (item (mark_act (h false false))) other_p) (ret (h false false))
      (λ e. ret (h false false))
      (λ a.
      bind-good {F = One} (item (mark_act (h false false))) (λ e. item (mark_act (h false false))) other_p (λ e. other_p)
      (item-good (mark_act (h false false)) (mark-steady (h false false))
      (mark-fine One (λ (us : List Lexeme). FlagsOn (sign a 40 ∷ us)) (h false false) (word 0 cbfs ∷ sign 0 41 ∷ [], true, false, only_cbfs)
      (λ q. inr ([], true, false, only_cbfs))
      (λ z q. (q, inl (refl, refl))) (λ z q. (q, inr (refl, refl)))))
      (λ own x f. by_one a own x f.0 f.1))
      (ret-good (h false false) (false, false, no_flags, refl))
    where
      by_one : (a : ℕ) (own : List Lexeme) (x : Section) (b : ℕ) → ((own ≡ word b cbfs ∷ []) × (x ≡ h true false)) ⊎
          ((own ≡ word b preserve ∷ []) × (x ≡ h false true))
          → Good (λ (us : List Lexeme) (y : Section). Flagged p n lv par (sign a 40 ∷ (own ++ us)) y)
          (λ (us : List Lexeme). FlagsOn (sign a 40 ∷ (own ++ us))) (other_p x) (λ e. other_p x)
      by_one a own x b (inl f) =
          rw (f.0, f.1)
          (other-good a b cbfs preserve true false (λ d. only_cbfs) (λ d e. cbfs_preserve) (λ z. absurd (clash refl z)) (λ z. (refl, refl)))
      by_one a own x b (inr f) =
          rw (f.0, f.1)
          (other-good a b preserve cbfs false true (λ d. only_preserve) (λ d e. preserve_cbfs) (λ z. (refl, refl)) (λ z. absurd (clash refl z)))

-- ---- offset and size

-- an offset begins so, and a size after it
abbrev pub OffsetsOn : List Lexeme → Type 0
OffsetsOn own =
    (us : List Lexeme) × (o : Option ParentOffset) × (z : Option ℕ) × (os : List Lexeme) × (zs : List Lexeme) × OptionalOffset os o × OptionalSize zs z × (own ++ us ≡ os ++ zs)

abbrev pub SizesOn : List Lexeme → Type 0
SizesOn own = (us : List Lexeme) × (z : Option ℕ) × OptionalSize (own ++ us) z

-- L7: .. a word beginning with a digit is its size.
size-steady : (h : Section) → Steady (size_act h)
size-steady h p w v d = go (digital w) refl (number_in w)
  where
    go : (b : Bool) → digital w ≡ b → (m : Option ℕ) → Follow (cond b (valued m (λ k. eat (set_size k h))) (leave h)) v (size_act h (word p v))
    go false e m = rw (sym d ∙ e)
    go true e (Some m) = tt
    go true e None = λ c. rw (sym d ∙ e) (wrong-follows (λ k. eat (set_size k h)) v c)

module _ (p n lv par : ℕ) (c v : Bool) where
  pub offset-good : Good (Placed p n lv par c v) OffsetsOn (offset_p (built p n lv par c v None None))
      (λ e. offset_p (built p n lv par c v None None))
  unfolding offset_p
  offset-good =
      let h = built p n lv par c v None None in
      let q : Parser Section = bind (item number_act) (λ m. ret (set_offset m h)) in
      sign-good 64 q (λ e. q) (ret h) (λ e. ret h)
      (λ a. bind-good {F = Numbered} (item number_act) (λ e. item number_act) (λ m. ret (set_offset m h)) (λ e. λ m. ret (set_offset m h))
      (item-good number_act number-steady (number-fine (λ (us : List Lexeme). OffsetsOn (sign a 64 ∷ us))
      (word 0 (ascii "98") ∷ [], Some (record { 0 = 98 }), None, sign a 64 ∷ word 0 (ascii "98") ∷ [], [], offset ninety-eight, no_size, refl)
      (λ q. (
        [],
        Some (record { 0 = 98 }),
        Some 98,
        sign a 64 ∷ word q (ascii "98") ∷ [],
        word 0 (ascii "98") ∷ [],
        offset ninety-eight,
        size ninety-eight,
        refl,
      ))))
      (λ own m f. rw f.2 (ret-good (set_offset m h) (Some (record { 0 = m }), offset f.3, refl))))
      (ret-good h (None, no_offset, refl))

  pub size-good : (o : Option ParentOffset) → Good (Sized p n lv par c v o) SizesOn (item (size_act (built p n lv par c v o None)))
      (λ e. item (size_act (built p n lv par c v o None)))
  size-good o = item-good (size_act (built p n lv par c v o None)) (size-steady (built p n lv par c v o None)) fine
    where
      h : Section
      h = built p n lv par c v o None

      by_number : (q : ℕ) (w : List ℕ) (b : Bool) → is_digit (get_or w 0 0) ≡ b → (m : Option ℕ) → number_in w ≡ m
          → Fine (Sized p n lv par c v o) SizesOn (word q w) (cond b (valued m (λ k. eat (set_size k (built p n lv par c v o None))))
          (leave (built p n lv par c v o None)))
      by_number q w false d m e = (None, no_size, refl)
      by_number q w true d (Some m) e = (Some m, size e, refl)
      by_number q w true d None e = (bad_size d e ([], Some 98, size ninety-eight), ([], None, no_size))

      fine : (x : Lexeme) → Fine (Sized p n lv par c v o) SizesOn x (size_act (built p n lv par c v o None) x)
      fine (sign q k) = (None, no_size, refl)
      fine (word q w) = by_number q w (is_digit (get_or w 0 0)) refl (number_in w) refl

-- ---- the whole head

abbrev pub HeadOn : ℕ → ℕ → ℕ → List Lexeme → Type 0
HeadOn lv par k own = (us : List Lexeme) × (x : Section) × Head 129 9 lv par k (own ++ us) x

abbrev Named : ℕ → ℕ → ℕ → List Lexeme → Section → Type 0
Named lv par k own x =
    (p : ℕ) × (w : List ℕ) × (own ≡ word p w ∷ []) × (good_name w ≡ true) × (k < 128) × (lv ≤ 8)
    × (x ≡ built p (length w) lv par false false None None)

module _ (lv par k : ℕ) where
  headed : {most deepest p : ℕ} {w : List ℕ} {fs os zs : List Lexeme} {c v : Bool} {o : Option ParentOffset} {z : Option ℕ} → good_name w ≡ true → k < most → lv ≤ deepest
      → OptionalFlags fs c v → OptionalOffset os o → OptionalSize zs z → Head most deepest lv par k (word p w ∷ (fs ++ (os ++ zs)))
      (built p (length w) lv par c v o z)
  headed {most} {deepest} {p} {w} {fs} {os} {zs} {c} {v} {o} {z} g r d x y n =
      record {
        p = p;
        w = w;
        fs = fs;
        os = os;
        zs = zs;
        c = c;
        v = v;
        o = o;
        z = z;
        good = g;
        room = r;
        deep = d;
        flags = x;
        offsets = y;
        sizes = n;
        list =
            refl;
        says = refl;
      }

  pub letter : good_name (ascii "A") ≡ true
  unfolding good_name ◌and◌ is_digit
  letter = refl

  name-steady : Steady (name_act lv par k)
  name-steady p w v d = go (good_name w) (leb 128 k) (ltb 8 lv)
    where
      P : Act Section → Type 0
      P a = Follow a v (name_act lv par k (word p v))

      many : P (stop 55)
      many = no-exchange (λ e. omega arith) (λ e. omega arith)

      bad : {n : ℕ} → n ≡ 53 → Exchange n v → name_act lv par k (word p v) ≡ stop 53
      bad z (no_number e) = absurd (omega arith)
      bad z (no_name e) = rw e

      go : (b e f : Bool)
          → P (cond (not b) (stop 53) (cond e (stop 55) (cond f (stop 55) (eat (built p (length w) lv par false false None None)))))
      go false e f = bad refl
      go true true f = many
      go true false true = many
      go true false false = tt

  name-fine : k < 129 → lv ≤ 9 → (x : Lexeme) → Fine (Named lv par k) (HeadOn lv par k) x (name_act lv par k x)
  name-fine r d (sign p j) = (unfit_sign, (word 0 (ascii "A") ∷ [], _, headed letter r d no_flags no_offset no_size))
  name-fine r d (word p w) = go (good_name w) (leb 128 k) (ltb 8 lv) refl refl refl
    where
      may : HeadOn lv par k []
      may = (word 0 (ascii "A") ∷ [], _, headed letter r d no_flags no_offset no_size)

      any : (v : List ℕ) → good_name v ≡ true → HeadOn lv par k (word p v ∷ [])
      any v g = ([], _, headed g r d no_flags no_offset no_size)

      go : (b e f : Bool) → good_name w ≡ b → leb 128 k ≡ e → ltb 8 lv ≡ f
          → Fine (Named lv par k) (HeadOn lv par k) (word p w)
          (cond (not b) (stop 53) (cond e (stop 55) (cond f (stop 55) (eat (built p (length w) lv par false false None None)))))
      go false e f g x y = (bad_name g any, may)
      go true true f g x y = (too_many g any, may)
      go true false true g x y = (too_many g any, may)
      go true false false g x y = (p, w, refl, g, leb-false 128 k x, ltb-false 8 lv y, refl)

  pub head-good : k < 129 → lv ≤ 9 → Good (Head 128 8 lv par k) (HeadOn lv par k) (head_p lv par k) (λ e. head_p lv par k)
  unfolding head_p
  head-good r d =
      bind-good {F = Named lv par k} (item (name_act lv par k)) (λ e. item (name_act lv par k)) _ _ (item-good (name_act lv par k) name-steady (name-fine r d))
      (λ own x f. rw (f.2, f.6) (named f.0 f.1 f.3 f.4 f.5))
    where
      K : Section → Parser Section
      K x = bind (flags_p x) (λ i. bind (offset_p i) (λ j. item (size_act j)))

      named : (p : ℕ) (w : List ℕ) → good_name w ≡ true → k < 128 → lv ≤ 8
          → Good (λ (us : List Lexeme) (x : Section). Head 128 8 lv par k (word p w ∷ us) x) (λ (us : List Lexeme). HeadOn lv par k (word p w ∷ us))
          (K (built p (length w) lv par false false None None)) (λ e. K (built p (length w) lv par false false None None))
      named p w g m e =
          bind-good {F = Flagged p n lv par} (flags_p (h false false None)) (λ e. flags_p (h false false None)) _ _
          (map-good _ _ (λ ts x f. f)
          (λ ts f. (f.0, _, moved (append-nil (ts ++ f.0)) (headed g r d f.3 no_offset no_size)))
          (flags-good p n lv par))
          (λ fs x f. rw f.3 (flagged fs f.0 f.1 f.2))
        where
          n : ℕ
          n = length w

          h : Bool → Bool → Option ParentOffset → Section
          h c v o = built p n lv par c v o None

          moved : {xs ys : List Lexeme} {x : Section} → xs ≡ ys → Head 129 9 lv par k (word p w ∷ xs) x → Head 129 9 lv par k (word p w ∷ ys) x
          moved {xs} {ys} {x} q = subst (λ (ts : List Lexeme). Head 129 9 lv par k (word p w ∷ ts) x) q

          flagged : (fs : List Lexeme) (c v : Bool) → OptionalFlags fs c v
              → Good (λ (us : List Lexeme) (x : Section). Head 128 8 lv par k (word p w ∷ (fs ++ us)) x)
              (λ (us : List Lexeme). HeadOn lv par k (word p w ∷ (fs ++ us)))
              (bind (offset_p (h c v None)) (λ j. item (size_act j))) (λ e. bind (offset_p (h c v None)) (λ j. item (size_act j)))
          flagged fs c v x =
              bind-good {F = Placed p n lv par c v} (offset_p (h c v None)) (λ e. offset_p (h c v None)) _ _
              (map-good _ _ (λ ts i f. f)
              (λ ts f. (
                f.0,
                _,
                moved (ap (λ (q : List Lexeme). fs ++ q) (sym f.7) ∙ sym (append_assoc fs ts f.0))
                    (headed g r d x f.5 f.6),
              ))
              (offset-good p n lv par c v))
              (λ os i f.
              rw f.2
              (map-good _ _ (λ ts j t. rw t.2 (headed g m e x f.1 t.1))
              (λ ts t. (
                t.0,
                _,
                moved (ap (λ (q : List Lexeme). fs ++ q) (sym (append_assoc os ts t.0)) ∙ sym (append_assoc fs (os ++ ts) t.0))
                    (headed g r d x f.1 t.2),
              ))
              (size-good p n lv par c v f.0)))
