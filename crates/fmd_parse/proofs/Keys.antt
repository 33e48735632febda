-- Laws of a name's key, and of the keys that were seen.
use mathlib.Core.Path.{◌≡◌, sym, ap, ◌∙◌}
use mathlib.Core.Bool.{true, false}
use mathlib.Core.Logic.{◌⊎◌, inl, inr}
use mathlib.Core.List.{List}
use Prim.Native.Nat.{ℕ, ◌+◌, ◌*◌, ◌%◌, ◌≤◌, ◌<◌}
use native.Mathlib.Numerals.{add-one}
use native.Mathlib.Nat.{eq-or-lt_of_le}
use native.Mathlib.Omega.{arith}
use lib.Dec.{eqb}
use lib.ListN.{length, get_or, set, take, drop, drop_of_length-le}
use lib.Seq.{drop-cons, get_or-take, length-take-le, get_or-set_same, get_or-set_other}
use borrow.Author.Tests.{eqb-true, eqb-false}
use Rattle.octets.specs.Bytes.{same}
use Rattle.octets.proofs.Bools.{bool_cases}
use Rattle.octets.proofs.Equal.{same_false}
use Rattle.octets.proofs.Tests.{any_false}
use Rattle.fmd_parse.specs.Trees.{blank_section}
use Rattle.fmd_table.specs.declared.Section.{Section}
use Rattle.fmd_parse.specs.Rows.{section_name, repeats}
use Rattle.fmd_parse.specs.Invariants.{key_from, key_at, Seen}

module _ (x : ℕ) (s : List ℕ) (i : ℕ) where
  pub key-on : i < length s → key_from ((33 * x + get_or s i 0) % 2048) (drop (i + 1) s) ≡ key_from x (drop i s)
  unfolding key_from
  key-on h = rw (drop-cons s i 0 h, add-one i)

  pub key-done : length s ≤ i → x ≡ key_from x (drop i s)
  unfolding key_from
  key-done h = rw (drop_of_length-le s {i = i} h)

module _ (s : List ℕ) (l : List Section) where
  pub none_seen : (marks : List ℕ) → Seen s l 0 marks
  none_seen marks = record { marked = λ j h. absurd (omega arith) }

  module _ (k : ℕ) (marks : List ℕ) (seen : Seen s l k marks) where
    -- names with other keys differ
    pub unseen : k ≤ length l → get_or marks (key_at s l k) 0 ≡ 0 → false ≡ repeats s l k
    unfolding repeats
    unseen h z =
        sym (any_false (λ e. same (section_name s e) (section_name s (get_or l k blank_section))) (take k l) blank_section
        (λ j a.
        let q : j < k = omega (arith, a, length-take-le k l h) in
        rw (get_or-take k l j blank_section q)
        (same_false (section_name s (get_or l j blank_section)) (section_name s (get_or l k blank_section))
        (λ e. let m = rw e at (seen.marked j q) in omega (arith, m, z)))))

    -- section k's key marked
    seen_more : key_at s l k < length marks → Seen s l (k + 1) (set marks (key_at s l k) 1)
    seen_more room = record { marked = λ j h. cases j h (bool_cases (eqb (key_at s l j) (key_at s l k))) }
      where
        cases : (j : ℕ) → j < k + 1 → (eqb (key_at s l j) (key_at s l k) ≡ true) ⊎ (eqb (key_at s l j) (key_at s l k) ≡ false)
            → get_or (set marks (key_at s l k) 1) (key_at s l j) 0 ≡ 1
        cases j h (inl q) = rw (eqb-true (key_at s l j) (key_at s l k) q) (get_or-set_same marks (key_at s l k) 1 0 room)
        cases j h (inr q) =
            let d = eqb-false (key_at s l j) (key_at s l k) q in
            get_or-set_other marks (key_at s l k) (key_at s l j) 1 0 d ∙ seen.marked j (below j h d)
          where
            below : (j : ℕ) → j < k + 1 → (key_at s l j ≡ key_at s l k → ⊥) → j < k
            below j h d = by (eq-or-lt_of_le {n = j} {m = k} (omega arith))
              where
                by : (j ≡ k) ⊎ (j < k) → j < k
                by (inl e) = absurd (d (ap (key_at s l) e))
                by (inr e) = e

    pub seen-mark : (key : ℕ) → key ≡ key_at s l k → key < length marks → Seen s l (k + 1) (set marks key 1)
    seen-mark key e room = rw e (seen_more (rw (sym e) room))
