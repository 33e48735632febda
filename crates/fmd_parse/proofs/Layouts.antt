-- Laws of the two readers' contracts: one for each way out of each reader.
use Rattle.std.specs.Prelude.{Ok, Err}
use mathlib.Core.Path.{◌≡◌, sym, ap, ◌∙◌}
use mathlib.Core.Logic.{inl, inr}
use mathlib.Core.Bool.{true, false}
use mathlib.Core.List.{List, [], ◌∷◌, ◌++◌}
use Prim.Native.Nat.{ℕ, zero, suc, ◌+◌, ◌*◌, ◌-◌, ◌≤◌, ◌<◌}
use native.Mathlib.Omega.{arith}
use lib.ListN.{length}
use Rattle.fmd_lex.specs.Tokens.{token_at}
use Rattle.fmd_lex.specs.Invariants.{Within}
use Rattle.fmd_lex.specs.declared.Token.{Token}
use Rattle.fmd_lex.proofs.Tokens.{earlier}
use Rattle.fmd_table.specs.Table.{sections_in}
use Rattle.fmd_table.specs.Invariants.{IsParent, Linked}
use Rattle.fmd_table.specs.declared.Section.{Section}
use Rattle.fmd_table.proofs.Table.{length-sections, no-sections}
use Rattle.fmd_table.specs.declared.SectionRow.{SectionRow}
use Rattle.fmd_head.specs.Heads.{is_kind, head_at, ReadPart, read}
use Rattle.fmd_parse.specs.Layouts.{Parsed, section_from, list_from}
use Rattle.fmd_parse.specs.Invariants.{step_of, StepIn, SectionRead, ListRead}
use Rattle.fmd_head.specs.declared.TextFault.{TextFault}

step-earlier : (n a b par : ℕ) (rows : List SectionRow) (p : ReadPart ℕ) → StepIn n a par rows p → b ≤ a → StepIn n b par rows p
step-earlier n a b par rows (Ok got) w l = (earlier w.0 l, w.1, w.2)
step-earlier n a b par rows (Err bad) w l = tt

-- what is a parent before the section m is one after its children
parent-on : {m k par : ℕ} → m < 128 → IsParent m par → IsParent k m → IsParent k par
parent-on b (inl e) w = inl e
parent-on b (inr e) (inl w) = absurd (omega arith)
parent-on b (inr e) (inr w) = inr (omega arith)

step-outer : (n a b m par : ℕ) (rows : List SectionRow) (p : ReadPart ℕ) → StepIn n a m rows p → b ≤ a → m < 128 → IsParent m par → StepIn n b par rows p
step-outer n a b m par rows (Ok got) w l o i = (earlier w.0 l, parent-on o i w.1, w.2)
step-outer n a b m par rows (Err bad) w l o i = tt

parent-next : {m par : ℕ} → IsParent m par → IsParent (m + 1) par
parent-next (inl e) = inl e
parent-next (inr e) = inr (omega arith)

-- n rows of the table old before
module _ {s : List ℕ} {t : Token} {lv par : ℕ} (n : ℕ) (old : List SectionRow) where
  pub section-stopped : {b : TextFault} {rows : List SectionRow} {r : ReadPart ℕ} → head_at s t lv par n ≡ Err b → r ≡ Err b
      → SectionRead s t lv par (sections_in n old) rows r
  unfolding section_from
  section-stopped {b} {rows} e q = rw q (record { within = tt; same = same })
    where
      same : (f : ℕ) → 2 * (length s - t.start) < f → step_of (Err b) rows ≡ section_from f s t lv par (sections_in n old)
      same zero m = absurd (omega arith)
      same (suc f) m = rw (length-sections n old, e)

  -- the head h with the token u after it, and the table with h in row n
  module _ {h : Section} {u : Token} (new : List SectionRow) (e : head_at s t lv par n ≡ read h u) (w : Within (length s) (t.start + 1) u)
      (q : sections_in (n + 1) new ≡ sections_in n old ++ (h ∷ [])) where
    pub section-shut : IsParent n par → Linked (n + 1) new → is_kind 123 u ≡ false → SectionRead s t lv par (sections_in n old) new (read (n + 1) u)
    unfolding section_from
    section-shut i o k = record { within = (w, parent-next i, o); same = same }
      where
        same : (f : ℕ) → 2 * (length s - t.start) < f → step_of (read (n + 1) u) new ≡ section_from f s t lv par (sections_in n old)
        same zero m = absurd (omega arith)
        same (suc f) m = rw (length-sections n old, e, k, q)

    pub section-open : {v : Token} {rows : List SectionRow} {r : ReadPart ℕ} → is_kind 123 u ≡ true → v ≡ token_at s u.end → Within (length s) u.end v
        → ListRead s v (lv + 1) n (sections_in (n + 1) new) rows r → n < 128 → IsParent n par → SectionRead s t lv par (sections_in n old) rows r
    unfolding section_from
    section-open {v} {rows} {r} k z x o b i =
        record { within = step-outer (length s) (v.start + 1) (t.start + 1) n par rows r o.within (omega arith) b i; same = same }
      where
        same : (f : ℕ) → 2 * (length s - t.start) < f → step_of r rows ≡ section_from f s t lv par (sections_in n old)
        same zero m = absurd (omega arith)
        same (suc f) m = rw (length-sections n old, e, k, sym z, sym q) (o.same f (omega arith))

module _ {s : List ℕ} {t : Token} {lv par : ℕ} {l : List Section} {new : List SectionRow} {o : ReadPart ℕ} (h : SectionRead s t lv par l new o) where
  pub list-stopped : {b : TextFault} {r : ReadPart ℕ} → o ≡ Err b → r ≡ Err b → ListRead s t lv par l new r
  unfolding list_from
  list-stopped {b} e q = rw q (record { within = tt; same = same })
    where
      same : (f : ℕ) → 2 * (length s - t.start) + 1 < f → step_of (Err b) new ≡ list_from f s t lv par l
      same zero m = absurd (omega arith)
      same (suc f) m = rw (sym (h.same f (omega arith)), e)

  -- the token u after a section of the list
  module _ {u : Token} {n : ℕ} (e : o ≡ read n u) where
    pub here : Within (length s) (t.start + 1) u × IsParent n par × Linked n new
    here = rw e at h.within

    pub list-closed : {v : Token} → is_kind 125 u ≡ true → v ≡ token_at s u.end → Within (length s) u.end v → ListRead s t lv par l new (read n v)
    unfolding list_from
    list-closed {v} k z x = record { within = (earlier x (let w = here in omega arith), here.1, here.2); same = same }
      where
        same : (f : ℕ) → 2 * (length s - t.start) + 1 < f → step_of (read n v) new ≡ list_from f s t lv par l
        same zero m = absurd (omega arith)
        same (suc f) m = rw (sym (h.same f (omega arith)), e, k, z)

    pub list-more : {rows : List SectionRow} {r : ReadPart ℕ} → is_kind 125 u ≡ false → ListRead s u lv par (sections_in n new) rows r → ListRead s t lv par l rows r
    unfolding list_from
    list-more {rows} {r} k q =
        record { within = step-earlier (length s) (u.start + 1) (t.start + 1) par rows r q.within (let w = here in omega arith); same = same }
      where
        same : (f : ℕ) → 2 * (length s - t.start) + 1 < f → step_of r rows ≡ list_from f s t lv par l
        same zero m = absurd (omega arith)
        same (suc f) m = let w = here in rw (sym (h.same f (omega arith)), e, k) (q.same f (omega arith))

-- a list read into a table without a section
pub from-none : {p : Parsed} (f : ℕ) (s : List ℕ) (t : Token) (lv par : ℕ) (rows : List SectionRow) → p ≡ list_from f s t lv par (sections_in 0 rows)
    → p ≡ list_from f s t lv par []
from-none f s t lv par rows e = e ∙ ap (list_from f s t lv par) (no-sections rows)
