use Rattle.std.proofs.Common.{◌≡◌, ◌∙◌, ℕ, ◌+◌, ◌-◌, List, length, take, drop, ◌&&◌, rules, arith}
use borrow.Author.Tests.{tests}
use Rattle.std.proofs.lemmas.Iterator.{YieldsList-from_slice}
use Rattle.std.proofs.lemmas.Iterator.Consumers.{YieldsList-from_enumerate}
use Rattle.std.proofs.lemmas.Iterator.Search.{any_from_yields_List}
use Rattle.octets.specs.Bytes.{part, same}
use Rattle.gpt_table.specs.Invariants.{wanted}
use Rattle.gpt_table.proofs.Entries.{some-passes}
use Rattle.gpt_table.proofs.carried.Goals as goal

pub returns : goal.returns
unfolding part
returns c =
    let a = c.args in
    let long = length a.bytes.now in
    let test = λ (p : ℕ × List ℕ). wanted a.but p.0 p.1 && same (take (a.at + long - a.at) (drop a.at p.1)) a.bytes.now in
    let found = any_from_yields_List test _ _ c.any.result c.any.ensures.ran
    (YieldsList-from_enumerate (YieldsList-from_slice a.t.now cc) (cc)) (λ x b q k. search (rules, tests)) in
    let k : a.at + long - a.at ≡ long = omega arith in
    rw k at (found ∙ some-passes (λ (e : List ℕ). same (take (a.at + long - a.at) (drop a.at e)) a.bytes.now) a.but a.t.now)
