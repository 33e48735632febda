use mathlib.Core.Path.{sym, ◌∙◌}
use Prim.Native.Nat.{ℕ}
use Prim.Native.Char.{code}
use lib.Dec.{eqb}
use borrow.Author.Rules.{rules}
use borrow.Author.Tests.{tests}
use Rattle.std.proofs.lemmas.Iterator.{YieldsList-from_slice}
use Rattle.std.proofs.lemmas.Iterator.Search.{position_from_yields_List}
use Rattle.gpt_string_model.proofs.Reading.{keyed-on, keyed-all}
use Rattle.gpt_string_values.proofs.Values.{place-some, place-none}
use Rattle.gpt_string_text.proofs.fields.keyed.Goals as goal

pub returns-in-Some : goal.returns-in-Some
returns-in-Some c =
    let f = c.args.f.now in
    let is = λ (b : ℕ). eqb b (code "=") in
    let at = position_from_yields_List is _ _ c.position.result c.position.ensures.ran (YieldsList-from_slice f cc) (λ x b q k. search (rules, tests)) in
    let p = place-some is f c.in-Some.at (sym at ∙ c.in-Some.is) in
    let k = keyed-on f c.in-Some.at p.0 p.1 in
    record { key = c.split_at.ensures.front ∙ k.0; value = c.split_at.ensures.back ∙ k.1 }

pub returns-in-None : goal.returns-in-None
returns-in-None c =
    let f = c.args.f.now in
    let is = λ (b : ℕ). eqb b (code "=") in
    let at = position_from_yields_List is _ _ c.position.result c.position.ensures.ran (YieldsList-from_slice f cc) (λ x b q k. search (rules, tests)) in
    let k = keyed-all f (place-none is f (sym at ∙ c.in-None.is)) in
    record { key = k.0; value = k.1 }
