use mathlib.Core.Path.{sym, ◌∙◌}
use Prim.Native.Nat.{ℕ, ◌+◌}
use native.Mathlib.Nat.{le_refl}
use native.Mathlib.Omega.{arith}
use lib.Dec.{eqb}
use lib.ListN.{length, drop_of_length-le}
use lib.Seq.{take_all}
use borrow.Author.Rules.{rules}
use borrow.Author.Tests.{tests}
use Rattle.std.proofs.lemmas.Iterator.{YieldsList-from_slice}
use Rattle.std.proofs.lemmas.Iterator.Search.{position_from_yields_List}
use Rattle.gpt_string_values.proofs.Values.{slice-rest, place-some, place-none}
use Rattle.gpt_string_values.proofs.cut.Goals as goal

pub returns-in-Some : goal.returns-in-Some
returns-in-Some c =
    let s = c.args.s.now in
    let is = λ (b : ℕ). eqb b c.args.c in
    let at = position_from_yields_List is _ _ c.position.result c.position.ensures.ran (YieldsList-from_slice s cc) (λ x b q k. search (rules, tests)) in
    let p = place-some is s c.in-Some.at (sym at ∙ c.in-Some.is) in
    record { before = rw p.0 (search rules); behind = rw p.0 (slice-rest (c.in-Some.at + 1) s) }

pub returns-in-None : goal.returns-in-None
returns-in-None c =
    let s = c.args.s.now in
    let is = λ (b : ℕ). eqb b c.args.c in
    let at = position_from_yields_List is _ _ c.position.result c.position.ensures.ran (YieldsList-from_slice s cc) (λ x b q k. search (rules, tests)) in
    let p = place-none is s (sym at ∙ c.in-None.is) in
    record { before = rw p (sym (take_all (length s) s (le_refl _))); behind = rw p (sym (drop_of_length-le s {i = length s + 1} (omega arith))) }
