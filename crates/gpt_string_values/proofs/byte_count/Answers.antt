use mathlib.Core.Path.{◌≡◌, ap, ◌∙◌}
use mathlib.Core.List.{List}
use Prim.Native.Nat.{ℕ, ◌≤◌}
use lib.ListN.{length}
use borrow.Author.Rules.{rules}
use Rattle.std.specs.Prelude.{None}
use Rattle.gpt_string_model.specs.Text.{units, factor_in, multiplied}
use Rattle.gpt_string_values.proofs.Values.{slice-rest, count-some, count-none}
use Rattle.gpt_string_values.proofs.byte_count.Goals as goal

pub slice_bounds-counted-count : goal.slice_bounds-counted-count
slice_bounds-counted-count c = (count-some c.args.v.now _ c.some_digits.ensures _ c.ok.ensures.value _ c.in_ok-n.was).0

pub slice_bounds-counted-start : goal.slice_bounds-counted-start
slice_bounds-counted-start c =
    let h : c.in_ok-n.n.end ≤ length c.args.v.now = (count-some c.args.v.now _ c.some_digits.ensures _ c.ok.ensures.value _ c.in_ok-n.was).0 in
    search rules

pub returns-in_err-n : goal.returns-in_err-n
returns-in_err-n c =
    let none : c.from_residual.result ≡ None = search rules in
    none ∙ count-none c.args.v.now _ c.some_digits.ensures _ c.ok.ensures.value c.in_err-n.was

pub returns : goal.returns
returns c =
    let n = c.in_ok-n.n in
    c.counted.ensures ∙ ap (λ (u : List ℕ). multiplied n.value (factor_in units u)) (slice-rest n.end c.args.v.now)
    ∙ (count-some c.args.v.now _ c.some_digits.ensures _ c.ok.ensures.value _ c.in_ok-n.was).1
