use mathlib.Core.Path.{ap, ◌∙◌}
use mathlib.Core.List.{List, map}
use native.Mathlib.Numerals.{add-one}
use native.Mathlib.Omega.{arith}
use lib.Seq.{take_all}
use lib.ListN.{set, take}
use Rattle.fmap_rules.specs.Map.{blank_area}
use Rattle.fmap_rules.specs.declared.Area.{Area}
use Rattle.fmd.specs.Calls.{list_record, filled}
use Rattle.fmd.specs.declared.SectionRecord.{SectionRecord}
use Rattle.fmd.proofs.Filled.{filled_on}
use Rattle.fmd.proofs.fill.Goals as goal

pub loop-k-preserved : goal.loop-k-preserved
loop-k-preserved c =
    let l = c.loop-k in
    let ys = c.args.sections.now in
    rw add-one (
    ap (λ (z : List SectionRecord). set z l.k c.from.result) l.invariant
    ∙ ap (λ (z : SectionRecord). set (filled (map list_record (take l.k c.args.areas.now)) ys) l.k z) (c.from.ensures ∙ ap list_record c.at.ensures)
    ∙ filled_on list_record c.args.areas.now ys l.k blank_area (omega arith) (omega arith)
    )

pub returns : goal.returns
returns c =
    c.loop-k.invariant
    ∙ ap (λ (us : List Area). filled (map list_record us) c.args.sections.now) (take_all c.loop-k.k c.args.areas.now (omega arith))
