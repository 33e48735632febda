use mathlib.Core.Path.{◌≡◌, ap, ◌∙◌}
use mathlib.Core.List.{[], ◌∷◌, map-append}
use Prim.Native.Char.{code}
use lib.Dec.{eqb}
use lib.ListN.{length}
use borrow.Author.Rules.{rules}
use borrow.Author.Tests.{tests}
use Rattle.std.specs.Prelude.{None, Some}
use Rattle.std.proofs.lemmas.Iterator.Consumers.{YieldsList-end, YieldsList-turn, YieldsList-so_far}
use Rattle.std.proofs.lemmas.Iterator.Splits.{YieldsList-from_slice_split}
use Rattle.gpt_string_text.specs.Invariants.{all_read}
use Rattle.gpt_string_text.proofs.Taken.{once-nil, one-more, all-once, wrong-field, split-parts}
use Rattle.gpt_string_text.proofs.fields.all_fields.Goals as goal

pub loop-field-init : goal.loop-field-init
loop-field-init c = record { once = once-nil; says = c.none-fields.ensures }

pub loop-field-preserved : goal.loop-field-preserved
loop-field-preserved c =
    let inv = c.loop-field.invariant in
    let m = one-more _ inv.once c.in-Some.field.now _ (rw c.in_ok-take.was at (c.take.ensures _ inv.says)) in
    rw (map-append (λ x. x.now) c.loop-field.yielded (c.in-Some.field ∷ [])) (record { once = m.0; says = m.1 })

pub returns : goal.returns
returns c =
    let p = c.args.p.now in
    let inv = c.loop-field.invariant in
    let parts = YieldsList-from_slice_split _ (λ b. eqb b (code ",")) p (cc) (cc) (cc) (λ x b q k. search (rules, tests)) in
    let end = YieldsList-end parts c.loop-field.yielded _ c.loop-field.yielded_by _ _ c.in-None.is c.next.ensures.steps in
    ap Some inv.says ∙ all-once _ inv.once ∙ ap all_read (end.0 ∙ split-parts (code ",") p)

pub returns-in_err-take : goal.returns-in_err-take
returns-in_err-take c =
    let p = c.args.p.now in
    let inv = c.loop-field.invariant in
    let parts = YieldsList-from_slice_split _ (λ b. eqb b (code ",")) p (cc) (cc) (cc) (λ x b q k. search (rules, tests)) in
    let far = YieldsList-so_far parts c.loop-field.yielded _ c.loop-field.yielded_by in
    let turn = YieldsList-turn parts c.loop-field.yielded _ c.loop-field.yielded_by _ _ _ c.in-Some.is c.next.ensures.steps in
    let none : c.from_residual.result ≡ None = search rules in
    none
    ∙ wrong-field _ inv.once c.in-Some.field.now _ (length c.loop-field.yielded) far turn.0 turn.1 (rw c.in_err-take.was at (c.take.ensures _ inv.says))
    ∙ ap all_read (split-parts (code ",") p)
