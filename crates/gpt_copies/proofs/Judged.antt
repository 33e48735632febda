-- A copy judged in two steps, and the state by what was judged.
use mathlib.Core.Path.{◌≡◌, refl, sym, ap, ap₂, ◌∙◌}
use mathlib.Core.Bool.{Bool, true, false}
use mathlib.Core.List.{List}
use Prim.Native.Nat.{ℕ}
use Rattle.octets.specs.Tests.{◌and◌}
use Rattle.octets.specs.Bytes.{same}
use Rattle.octets.proofs.Equal.{same_refl}
use Rattle.gpt_model.specs.Table.{good_table}
use Rattle.gpt_model.specs.Disk.{Shape, last_usable, Side, primary, backup, guid_in, entries_in, good_copy, state_of, state}
use Rattle.gpt_places.specs.Sides.{good_header}

and-true : (a : Bool) → (a and true) ≡ a
unfolding ◌and◌
and-true true = refl
and-true false = refl

and-false : (a : Bool) → (a and false) ≡ false
unfolding ◌and◌
and-false true = refl
and-false false = refl

module _ (g : Shape) (n : ℕ) (side : Side) (b es : List ℕ) (header table : Bool) (e : es ≡ entries_in g side b) (p : header ≡ good_header g n side b)
    (q : table ≡ good_table g.first (last_usable g n) es) where
  copy-judged : (header and table) ≡ good_copy g n side b
  unfolding good_copy
  copy-judged = ap₂ ◌and◌ p (q ∙ ap (good_table g.first (last_usable g n)) e)

  pub copy-table : header ≡ true → table ≡ good_copy g n side b
  unfolding ◌and◌
  copy-table h = ap (λ (a : Bool). a and table) (sym h) ∙ copy-judged

  pub copy-header : table ≡ true → good_copy g n side b ≡ header
  copy-header h = sym copy-judged ∙ ap (λ (a : Bool). header and a) h ∙ and-true header

  pub copy-bad : table ≡ false → good_copy g n side b ≡ false
  copy-bad h = sym copy-judged ∙ ap (λ (a : Bool). header and a) h ∙ and-false header

pub bad-header : (g : Shape) (n : ℕ) (side : Side) (b : List ℕ) (header : Bool) → header ≡ good_header g n side b → header ≡ false
    → false ≡ good_copy g n side b
unfolding good_copy ◌and◌
bad-header g n side b header p h = ap (λ (a : Bool). a and good_table g.first (last_usable g n) (entries_in g side b)) (sym h ∙ p)

module _ (g : Shape) (n : ℕ) (h t : List ℕ) where
  pub state-apart : (first second : Bool) → first ≡ good_copy g n primary h → second ≡ good_copy g n backup t
      → same (entries_in g primary h) (entries_in g backup t) ≡ false → state_of first second false ≡ state g n h t
  unfolding state
  state-apart first second p q e =
      rw (← p, ← q, e, and-false (same (guid_in g primary h) (guid_in g backup t)))

  -- the tables hold the same bytes es, which are judged once
  module _ (es : List ℕ) (table : Bool) (p : es ≡ entries_in g primary h) (q : es ≡ entries_in g backup t)
      (w : table ≡ good_table g.first (last_usable g n) es) where
    pub state-bad : table ≡ false → 0 ≡ state g n h t
    unfolding state
    state-bad e =
        rw (copy-bad g n primary h es (good_header g n primary h) table p refl w e, copy-bad g n backup t es (good_header g n backup t) table q refl w e)

    pub state-alike : (first second equal : Bool) → table ≡ true → first ≡ good_header g n primary h → second ≡ good_header g n backup t
        → equal ≡ same (guid_in g primary h) (guid_in g backup t) → state_of first second equal ≡ state g n h t
    unfolding state
    state-alike first second equal e a b c =
        let s : same (entries_in g primary h) (entries_in g backup t) ≡ true = ap₂ same (sym p) (sym q) ∙ same_refl es in
        rw (copy-header g n primary h es first table p a w e, copy-header g n backup t es second table q b w e, s, ← c, and-true equal)
