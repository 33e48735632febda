use mathlib.Core.Path.{◌≡◌}
use mathlib.Core.List.{List}
use lib.ListN.{length}
use Rattle.fmd_lex.specs.Invariants.{Within}
use Rattle.fmd_table.specs.Table.{sections_in}
use Rattle.fmd_table.specs.Invariants.{IsParent, Linked}
use Rattle.fmd_table.specs.declared.SectionRow.{SectionRow}
use Rattle.fmd_parse.specs.Invariants.{ListRead}
use Rattle.fmd_head.specs.Heads.{ReadPart}
use Prim.Native.Nat.{ℕ, ◌+◌, ◌*◌, ◌-◌}
use Rattle.fmd_parse.proofs.braces.+read_list_read_section.Given as goal

abbrev pub decreases-read_list : goal.decreases-read_list
decreases-read_list l = 2 * (length l.text.now - l.t.start) + 1

abbrev pub decreases-read_section : goal.decreases-read_section
decreases-read_section l = 2 * (length l.text.now - l.t.start)

abbrev pub invariant-read_list-sections : goal.invariant-read_list-sections
invariant-read_list-sections l =
    Within (length l.text) l.initial.now.start l.now × (length l.rows ≡ length l.initial.rows) × IsParent l.m l.parent × Linked l.m l.rows
    × ((after : List SectionRow) (r : ReadPart ℕ) → ListRead l.text l.now l.level l.parent (sections_in l.m l.rows) after r
    → ListRead l.text l.initial.now l.level l.parent (sections_in l.initial.m l.initial.rows) after r)

abbrev pub decreases-read_list-sections : goal.decreases-read_list-sections
decreases-read_list-sections l = length l.text - l.now.start
