use mathlib.Core.Path.{ap, ◌∙◌}
use Rattle.gpt_model.specs.Calls.{outcome, refused}
use Rattle.gpt_build.specs.declared.Refusal.{Refusal}
use Rattle.gpt_build.specs.Answers.{number_of}
use Rattle.gpt_checks.proofs.Judged.{lent-facts}
use Rattle.gpt_string.proofs.Written.{handed, or-some, or-none, laid-by, unlaid-by, empty-table, guid-zero, guid-some, refused-form, refused-guid}
use Rattle.gpt_string.proofs.Written.{refused-part, written_all}
use Rattle.gpt_string.proofs.write.Goals as goal

pub returns-in_err-guid : goal.returns-in_err-guid
returns-in_err-guid c =
    let a = c.args in
    let w = c.from_residual.ensures in
    let o = or-none _ _ _ c.ok_or.ensures.value _ c.in_err-guid.was in
    handed _ _ w.0 w.1 _ _
    ∙ ap (λ (r : Refusal). outcome (refused (number_of r)) a.head.now a.tail.now) o.1
    ∙ refused-form a.disk.shape a.disk.n a.alignment a.text.now a.head.now a.tail.now c.requires (unlaid-by _ _ c.disk_of.ensures o.0)

pub returns-then-is_zero : goal.returns-then-is_zero
returns-then-is_zero c =
    let a = c.args in
    let l = laid-by _ _ c.disk_of.ensures _ (or-some _ _ _ c.ok_or.ensures.value _ c.in_ok-guid.was) in
    refused-guid a.disk.shape a.disk.n a.alignment a.text.now a.head.now a.tail.now c.requires l.0
    (guid-zero _ _ _ l.1 c.is_zero.ensures c.if-is_zero.true)

pub fill-requires : goal.fill-requires
fill-requires c =
    let a = c.args in
    let f = lent-facts a.disk.shape a.disk.n a.head.now a.tail.now c.requires in
    (f.most, (laid-by _ _ c.disk_of.ensures _ (or-some _ _ _ c.ok_or.ensures.value _ c.in_ok-guid.was)).0)

pub built_both-requires : goal.built_both-requires
built_both-requires c =
    let a = c.args in
    let f = lent-facts a.disk.shape a.disk.n a.head.now a.tail.now c.requires in
    (f.head, f.tail, f.most, c.crc32-crc.ensures)

pub returns-in_err-fill : goal.returns-in_err-fill
returns-in_err-fill c =
    let a = c.args in
    let w = c.from_residual-in_err-fill.ensures in
    let l = laid-by _ _ c.disk_of.ensures _ (or-some _ _ _ c.ok_or.ensures.value _ c.in_ok-guid.was) in
    let some_guid = guid-some _ _ _ l.1 c.is_zero.ensures c.if-is_zero.false in
    handed _ _ w.0 w.1 _ _
    ∙ refused-part a.disk.shape a.disk.n a.alignment a.text.now a.head.now a.tail.now c.requires l.0 some_guid
    _ (empty-table _) _ _ c.fill.ensures _ c.in_err-fill.was

pub returns : goal.returns
returns c =
    let a = c.args in
    let l = laid-by _ _ c.disk_of.ensures _ (or-some _ _ _ c.ok_or.ensures.value _ c.in_ok-guid.was) in
    let some_guid = guid-some _ _ _ l.1 c.is_zero.ensures c.if-is_zero.false in
    written_all a.disk.shape a.disk.n a.alignment a.text.now a.head.now a.tail.now c.requires l.0 some_guid
    _ (empty-table _) _ _ c.fill.ensures _ c.in_ok-fill.was _ l.1 _ _ c.built_both.ensures.0 c.built_both.ensures.1
