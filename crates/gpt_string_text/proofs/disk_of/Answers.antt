use mathlib.Core.Path.{◌≡◌, sym, ap, ◌∙◌}
use Prim.Native.Nat.{◌<◌}
use borrow.Author.Rules.{rules}
use lib.ListN.{length}
use Rattle.std.specs.Prelude.{None}
use Rattle.gpt_string_text.proofs.Taken.{layout-long, layout-alone, no-disk, disk-read}
use Rattle.gpt_string_text.proofs.disk_of.Goals as goal

pub returns-then-text-gt8192 : goal.returns-then-text-gt8192
returns-then-text-gt8192 c = rw (← layout-long c.args.text.now c.if-text-gt8192.true)

pub returns-then-is_empty : goal.returns-then-is_empty
returns-then-is_empty c =
    let h : length c.cut.result.1.now ≡ 0 = search rules in
    rw (← layout-alone c.args.text.now c.if-text-gt8192.false (ap length (sym c.cut.ensures.behind) ∙ h))

pub returns-in_err-guid : goal.returns-in_err-guid
returns-in_err-guid c =
    let h : 0 < length c.cut.result.1.now = search rules in
    let b = c.cut.ensures.behind in
    let none : c.from_residual.result ≡ None = search rules in
    none ∙ no-disk c.args.text.now c.if-text-gt8192.false (rw b at h) _ _ c.cut.ensures.before b _ c.disk_in.ensures c.in_err-guid.was

pub returns-then-all_partitions : goal.returns-then-all_partitions
returns-then-all_partitions c =
    let h : 0 < length c.cut.result.1.now = search rules in
    let b = c.cut.ensures.behind in
    rw c.if-all_partitions.true at
    (disk-read c.args.text.now c.if-text-gt8192.false (rw b at h) _ _ c.cut.ensures.before b _ c.disk_in.ensures _ c.in_ok-guid.was
    _ c.all_partitions.ensures)

pub returns-else-all_partitions : goal.returns-else-all_partitions
returns-else-all_partitions c =
    let h : 0 < length c.cut.result.1.now = search rules in
    let b = c.cut.ensures.behind in
    rw c.if-all_partitions.false at
    (disk-read c.args.text.now c.if-text-gt8192.false (rw b at h) _ _ c.cut.ensures.before b _ c.disk_in.ensures _ c.in_ok-guid.was
    _ c.all_partitions.ensures)
