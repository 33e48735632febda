use mathlib.Core.Path.{ap, ◌∙◌}
use Rattle.gpt_model.specs.Disk.{Side, guid_in, entries_in}
use Rattle.gpt_edits.proofs.Copied.{copied}
use Rattle.gpt_edits.proofs.repair.Goals as goal

pub returns : goal.returns
returns c =
    let g = c.args.disk.shape in
    let good = c.args.good.now in
    let e = c.other-from.ensures in
    copied _ _ _ _ _ _ _ _ _ (c.guid_in-guid.ensures ∙ ap (λ (s : Side). guid_in g s good) e)
    (c.table_in-table.ensures ∙ ap (λ (s : Side). entries_in g s good) e) c.put_copy.ensures
