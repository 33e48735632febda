use mathlib.Core.Path.{sym, ap₂, ◌∙◌}
use Prim.Native.Nat.{ℕ}
use Rattle.octets.specs.Bytes.{zeros}
use Rattle.gpt_model.specs.Disk.{Shape, fresh_head, fresh_tail}
use Rattle.gpt_calls.proofs.Found.{format-done}
use Rattle.gpt_checks.proofs.Judged.{format-facts}
use Rattle.gpt_calls.proofs.format.Goals as goal

pub fresh-requires : goal.fresh-requires
fresh-requires c =
    let a = c.args in
    let f = format-facts a.shape a.n a.head.now a.tail.now a.guid (sym c.in_ok-disk.ensures.refused) in
    let is = c.in_ok-disk.ensures.disk in
    (rw is.0 f.head, λ _. rw is.1 f.most)

pub fresh-requires-2 : goal.fresh-requires-2
fresh-requires-2 c =
    let a = c.args in
    let f = format-facts a.shape a.n a.head.now a.tail.now a.guid (sym c.in_ok-disk.ensures.refused) in
    let is = c.in_ok-disk.ensures.disk in
    (rw is.0 f.tail, λ _. rw is.1 f.most)

pub returns : goal.returns
returns c =
    let a = c.args in
    let is = c.in_ok-disk.ensures.disk in
    format-done a.shape a.n a.guid a.head.now a.tail.now (sym c.in_ok-disk.ensures.refused) _ _
    (c.fresh.ensures ∙ ap₂ (λ (g : Shape) (n : ℕ). fresh_head g n a.guid (zeros 16384)) is.0 is.1)
    (c.fresh-2.ensures ∙ ap₂ (λ (g : Shape) (n : ℕ). fresh_tail g n a.guid (zeros 16384)) is.0 is.1)
