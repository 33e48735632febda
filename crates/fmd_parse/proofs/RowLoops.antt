-- Laws of the rows' loops over the places of a section list.
use Rattle.std.specs.Prelude.{is_some, Option, Some, None}
use mathlib.Core.Path.{◌≡◌, refl, sym, ap, ◌∙◌}
use mathlib.Core.Bool.{Bool, true, false}
use mathlib.Core.Logic.{◌⊎◌, inl, inr}
use mathlib.Core.List.{List, ◌∷◌}
use Prim.Native.Nat.{ℕ, zero, suc, ◌+◌, ◌-◌, ◌≤◌, ◌<◌}
use native.Mathlib.Nat.{add-zero, sub-zero}
use native.Mathlib.Numerals.{add-one}
use native.Mathlib.Omega.{arith}
use lib.Dec.{eqb}
use lib.ListN.{length, get_or, take, drop, drop_of_length-le}
use lib.Seq.{drop-cons, get_or-take, length-take-le}
use borrow.Author.Tests.{eq-eqb, ne_eqb, eqb-true, eqb-false}
use Rattle.octets.specs.Tests.{any}
use Rattle.octets.specs.Bytes.{same}
use Rattle.octets.proofs.Bools.{choice, bool_cases}
use Rattle.octets.proofs.Tests.{any-make, any_false, any-on, any-stop, any-done}
use Rattle.fmd_parse.specs.Trees.{blank_section, Tree}
use Rattle.fmd_table.specs.declared.Section.{Section}
use Rattle.fmd_table.specs.Table.{section_at, sections_in}
use Rattle.fmd_table.specs.Invariants.{row_of, next_link, last_link, last_child_at, parent_at, NextIn, LastIn, Linked}
use Rattle.fmd_table.proofs.Table.{length-sections, section-in}
use Rattle.fmd_table.specs.declared.SectionRow.{SectionRow}
use Rattle.fmd_parse.specs.Rows.{found_from, section_name, repeats, has_child, sibling_in}
use Rattle.fmd_parse.specs.Invariants.{Inside}

-- one of the sections from j on, before the index k, has the name of the section h
abbrev pub among : List ℕ → Section → ℕ → List Section → ℕ → Bool
among s h k l j = any (λ e. same (section_name s e) (section_name s h)) (drop j (take k l))

-- ---- the first index that passes

module _ (p : ℕ → Bool) (n k : ℕ) where
  pub first_on : k < n → p k ≡ false → found_from p (n - (k + 1)) (k + 1) ≡ found_from p (n - k) k
  unfolding found_from
  first_on h e = let m : n - k ≡ suc (n - (k + 1)) = omega arith in rw (m, e, add-one k)

  pub first-stop : k < n → p k ≡ true → Some k ≡ found_from p (n - k) k
  unfolding found_from
  first-stop h e = let m : n - k ≡ suc (n - (k + 1)) = omega arith in rw (m, e)

  pub first_done : n ≤ k → None ≡ found_from p (n - k) k
  unfolding found_from
  first_done h = let m : n - k ≡ 0 = omega arith in rw m

-- the indices below k do not pass: the first is sought from k on
pub first-from : (p : ℕ → Bool) (n k : ℕ) → k ≤ n → ((j : ℕ) → j < k → p j ≡ false) → found_from p (n - k) k ≡ found_from p (n - 0) 0
first-from p n zero h e = refl
first-from p n (suc k) h e =
    let w : suc k ≡ k + 1 = omega arith in rw w (first_on p n k (omega arith) (e k (omega arith))) ∙ first-from p n k (omega arith) (λ j q. e j (omega arith))

-- of the n indices from k on, the one found passes; where none is found, none does
abbrev pub FirstFacts : (ℕ → Bool) → ℕ → ℕ → Option ℕ → Type 0
FirstFacts p n k (Some j) = (j < k + n) × (p j ≡ true)
FirstFacts p n k None = (j : ℕ) → k ≤ j → j < k + n → p j ≡ false

later : (p : ℕ → Bool) (n k : ℕ) → p k ≡ false → (r : Option ℕ) → FirstFacts p n (suc k) r → FirstFacts p (suc n) k r
later p n k e (Some j) w = (omega (arith, w.0), w.1)
later p n k e None w = λ j a b. cases j a b (bool_cases (eqb j k))
  where
    cases : (j : ℕ) → k ≤ j → j < k + suc n → (eqb j k ≡ true) ⊎ (eqb j k ≡ false) → p j ≡ false
    cases j a b (inl q) = rw (eqb-true j k q) e
    cases j a b (inr q) = let d : j ≡ k → ⊥ = eqb-false j k q in w j (omega arith) (omega arith)

pub first-facts : (p : ℕ → Bool) (n k : ℕ) → FirstFacts p n k (found_from p n k)
unfolding found_from
first-facts p zero k = λ j a b. absurd (omega arith)
first-facts p (suc n) k =
    choice (FirstFacts p (suc n) k) (p k) (Some k) (found_from p n (suc k)) (λ e. (omega arith, e))
    (λ e. later p n k e (found_from p n (suc k)) (first-facts p n (suc k)))

-- ---- the first n rows of a table: the section e of row j

module _ (n : ℕ) (rows : List SectionRow) where
  pub first-start : (p : ℕ → Bool) → found_from p (n - 0) 0 ≡ found_from p (length (sections_in n rows)) 0
  first-start p = rw (length-sections n rows, sub-zero)

  pub item : (i : ℕ) → i < n → get_or (sections_in n rows) i blank_section ≡ section_at rows i
  item i h = section-in n rows i blank_section h

  module _ (j : ℕ) {e : Section} (q : e ≡ section_at rows j) where
    here : j < n → drop j (sections_in n rows) ≡ e ∷ drop (j + 1) (sections_in n rows)
    here h =
        rw (add-one, drop-cons (sections_in n rows) j blank_section (omega (arith, length-sections n rows)), item j h, sym q)

    -- ---- the next sibling with the parent k

    sibling-stop : (k : ℕ) → j < n → e.parent ≡ k → Some e.offset ≡ sibling_in k (drop j (sections_in n rows))
    unfolding sibling_in
    sibling-stop k h d = rw (here h, eq-eqb e.parent k d)

    sibling-on : (k : ℕ) → j < n → (e.parent ≡ k → ⊥) → sibling_in k (drop (j + 1) (sections_in n rows)) ≡ sibling_in k (drop j (sections_in n rows))
    unfolding sibling_in
    sibling-on k h d = rw (here h, ne_eqb e.parent k d)

  sibling-done : (k j : ℕ) → n ≤ j → None ≡ sibling_in k (drop j (sections_in n rows))
  unfolding sibling_in
  sibling-done k j h = rw (drop_of_length-le (sections_in n rows) {i = j} (omega (arith, length-sections n rows)))

  -- d sections from the index j on have another parent
  siblings-on : (k d j : ℕ) → j + d ≤ n → ((i : ℕ) → j ≤ i → i < j + d → parent_at rows i ≡ k → ⊥)
      → sibling_in k (drop (j + d) (sections_in n rows)) ≡ sibling_in k (drop j (sections_in n rows))
  siblings-on k zero j h f = rw (add-zero j)
  siblings-on k (suc d) j h f =
      let e : j + suc d ≡ j + 1 + d = omega arith in
      rw e (siblings-on k d (j + 1) (omega arith) (λ i a b. f i (omega arith) (omega arith)))
      ∙ sibling-on j refl k (omega arith) (f j (omega arith) (omega arith))

  -- ---- the links tell the next sibling of section k, and whether it has a child

  module _ (w : Linked n rows) (k : ℕ) (b : k < n) where
    pub next-below : {j : ℕ} → next_link rows k ≡ Some j → j < n
    next-below {j} q = cases (w.after k b)
      where
        cases : NextIn n rows k → j < n
        cases (inl x) = absurd (cc)
        cases (inr x) = let e = ap row_of q in omega (arith, x.1)

    pub next-is : {j : ℕ} → next_link rows k ≡ Some j → Some (section_at rows j).offset ≡ sibling_in (parent_at rows k) (drop (k + 1) (sections_in n rows))
    next-is {j} q = cases (w.after k b)
      where
        cases : NextIn n rows k → Some (section_at rows j).offset ≡ sibling_in (parent_at rows k) (drop (k + 1) (sections_in n rows))
        cases (inl x) = absurd (cc)
        cases (inr x) =
            let e = ap row_of q in
            let d : k + 1 + (j - (k + 1)) ≡ j = omega (arith, x.0) in
            sibling-stop j refl (parent_at rows k) (next-below q) (ap (parent_at rows) (sym e) ∙ x.2)
            ∙ rw d at (siblings-on (parent_at rows k) (j - (k + 1)) (k + 1) (omega (arith, x.1))
            (λ i y z f. let m = w.between k i (omega arith) (omega (arith, x.1)) f in omega arith))

    pub next-none : next_link rows k ≡ None → None ≡ sibling_in (parent_at rows k) (drop (k + 1) (sections_in n rows))
    next-none q =
        let e = ap row_of q in
        let d : k + 1 + (n - (k + 1)) ≡ n = omega arith in
        sibling-done (parent_at rows k) n (omega arith)
        ∙ rw d at (siblings-on (parent_at rows k) (n - (k + 1)) (k + 1) (omega arith)
        (λ i y z f. let m = w.between k i (omega arith) (omega arith) f in omega (arith, w.room)))

    pub child-is : is_some (last_link rows k) ≡ has_child (sections_in n rows) k
    unfolding has_child
    child-is = cases (last_link rows k) refl (w.last k (inr b))
      where
        cases : (o : Option ℕ) → last_link rows k ≡ o → LastIn n rows k → is_some o ≡ any (λ x. eqb x.parent k) (sections_in n rows)
        cases (Some j) e (inl y) = absurd (cc)
        cases (Some j) e (inr y) =
            sym (any-make (λ x. eqb x.parent k) (sections_in n rows) blank_section (last_child_at rows k) (omega (arith, y.0, length-sections n rows))
            (rw (item (last_child_at rows k) y.0) (eq-eqb (parent_at rows (last_child_at rows k)) k y.1)))
        cases None e y =
            sym (any_false (λ x. eqb x.parent k) (sections_in n rows) blank_section
            (λ i h.
            let a : i < n = omega (arith, h, length-sections n rows) in
            rw (item i a) (ne_eqb (parent_at rows i) k
            (λ p. let m = rw p at (w.greatest i a) in let z = ap row_of e in omega (arith, m.1, w.room)))))

  -- ---- names of the sections before the section h of row k

  module _ (s : List ℕ) (k : ℕ) {h : Section} (q : h ≡ section_at rows k) (b : k < n) where
    pub among-start : among s h k (sections_in n rows) 0 ≡ repeats s (sections_in n rows) k
    unfolding repeats
    among-start = rw (item k b, sym q)

    length_before : length (take k (sections_in n rows)) ≡ k
    length_before = length-take-le k (sections_in n rows) (omega (arith, length-sections n rows))

    module _ (j : ℕ) {e : Section} (p : e ≡ section_at rows j) (a : j < k) where
      before : get_or (take k (sections_in n rows)) j blank_section ≡ e
      before = get_or-take k (sections_in n rows) j blank_section a ∙ item j (omega arith) ∙ sym p

      pub among-on : same (section_name s e) (section_name s h) ≡ false → among s h k (sections_in n rows) (j + 1) ≡ among s h k (sections_in n rows) j
      among-on d =
          sym (any-on (λ x. same (section_name s x) (section_name s h)) (take k (sections_in n rows)) blank_section j (omega (arith, length_before))
          (rw before d))

      pub among-stop : same (section_name s e) (section_name s h) ≡ true → true ≡ among s h k (sections_in n rows) j
      among-stop d =
          sym (any-stop (λ x. same (section_name s x) (section_name s h)) (take k (sections_in n rows)) blank_section j (omega (arith, length_before))
          (rw before d))

    pub among-done : (j : ℕ) → k ≤ j → false ≡ among s h k (sections_in n rows) j
    among-done j c = sym (any-done (λ x. same (section_name s x) (section_name s h)) (take k (sections_in n rows)) j (omega (arith, length_before)))

  -- where all names lie in the text, that of row k does
  pub name-inside : (s : List ℕ) → Inside s (sections_in n rows) → (k : ℕ) {h : Section} → h ≡ section_at rows k → k < n → h.place + h.length ≤ length s
  name-inside s i k q b = rw (q, sym (item k b)) (i k (omega (arith, length-sections n rows)))

-- the names of a list that was read from a text lie in it
pub inside : {s : List ℕ} {l : List Section} → Tree s l → Inside s l
inside t k h = (t.each k h).named.inside
