use mathlib.Core.Path.{◌≡◌, ◌∙◌}
use lib.ListN.{length}
use borrow.Author.Rules.{rules}
use Rattle.gpt_string.proofs.Fills.{handed, filling-start, filling-end, next-is, next-asks, next-wanted, filling-stop, filling-on}
use Rattle.gpt_string.proofs.fill.Goals as goal

pub loop-rest-init : goal.loop-rest-init
loop-rest-init c =
    let a = c.args in
    filling-start a.disk.shape a.disk.n a.alignment a.text.now a.table.now c.requires.1 _ c.cut.ensures.behind

pub unwrap-wanted-requires : goal.unwrap-wanted-requires
unwrap-wanted-requires c =
    let a = c.args in
    let k = c.cut-in-loop-rest.ensures in
    next-asks _ _ c.partition.ensures
    (next-is a.disk.shape a.disk.n a.alignment a.text.now a.table.now c.loop-rest.table c.loop-rest.rest.now c.loop-rest.invariant (search rules) _ _
    k.before k.behind)

pub returns-in_err-add : goal.returns-in_err-add
returns-in_err-add c =
    let a = c.args in
    let k = c.cut-in-loop-rest.ensures in
    let f = c.loop-rest.invariant in
    let p = next-is a.disk.shape a.disk.n a.alignment a.text.now a.table.now c.loop-rest.table c.loop-rest.rest.now f (search rules) _ _
    k.before k.behind in
    let w = c.from_residual.ensures in
    handed _ _ w.0 w.1 _
    ∙ filling-stop a.disk.shape a.disk.n a.alignment a.text.now a.table.now c.loop-rest.table c.loop-rest.rest.now f (search rules) _ _ k.before k.behind
    _ c.is_empty-last.ensures _ (next-wanted _ _ c.partition.ensures p c.unwrap-wanted.result (search rules)) _ _ c.add.ensures _ c.in_err-add.was

pub loop-rest-preserved : goal.loop-rest-preserved
loop-rest-preserved c =
    let a = c.args in
    let k = c.cut-in-loop-rest.ensures in
    let f = c.loop-rest.invariant in
    let p = next-is a.disk.shape a.disk.n a.alignment a.text.now a.table.now c.loop-rest.table c.loop-rest.rest.now f (search rules) _ _
    k.before k.behind in
    filling-on a.disk.shape a.disk.n a.alignment a.text.now a.table.now c.loop-rest.table c.loop-rest.rest.now f (search rules) _ _ k.before k.behind
    _ c.is_empty-last.ensures _ (next-wanted _ _ c.partition.ensures p c.unwrap-wanted.result (search rules)) _ _ c.add.ensures _ c.in_ok-add.was

pub returns : goal.returns
returns c =
    let a = c.args in
    let h : length c.loop-rest.rest.now ≡ 0 = search rules in
    filling-end a.disk.shape a.disk.n a.alignment a.text.now a.table.now _ _ c.loop-rest.invariant h
