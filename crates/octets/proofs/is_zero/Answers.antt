use Rattle.std.proofs.Common.{◌≡◌, ◌∙◌, sym, ap, rules, Bool, length, ◌/◌, ◌*◌}
use borrow.Author.Tests.{tests}
use lib.ListN.{drop}
use Rattle.std.specs.Simd.{first_chunks}
use Rattle.std.proofs.lemmas.Iterator.{YieldsList-from_slice}
use Rattle.std.proofs.lemmas.Iterator.Search.{all_from_yields_List}
use Rattle.octets.specs.Tests.{◌and◌, all}
use Rattle.octets.specs.Bytes.{is_zero}
use Rattle.octets.proofs.Chains.{all_list}
use Rattle.octets.proofs.Equal.{zero_blocks}
use Rattle.octets.proofs.is_zero.Goals as goal

pub returns-then-all : goal.returns-then-all
unfolding ◌and◌
returns-then-all c =
    let s = c.args.s.now in
    let k = length s / 64 in
    let found = all_from_yields_List is_zero _ _ c.all.result c.all.ensures.ran (YieldsList-from_slice c.as_chunks.result.0.now cc) (λ x b q k. search (rules, tests)) in
    let e : c.all.result ≡ all is_zero (first_chunks 64 k s) = found ∙ all_list is_zero c.as_chunks.result.0.now ∙ ap (all is_zero) c.as_chunks.ensures.front in
    c.joins_to_zero.ensures
    ∙ rw c.as_chunks.ensures.back (ap (λ (b : Bool). b and is_zero (drop (k * 64) s)) (sym c.if-all.true ∙ e))
    ∙ zero_blocks 64 k s

pub returns-else-all : goal.returns-else-all
unfolding ◌and◌
returns-else-all c =
    let s = c.args.s.now in
    let k = length s / 64 in
    let found = all_from_yields_List is_zero _ _ c.all.result c.all.ensures.ran (YieldsList-from_slice c.as_chunks.result.0.now cc) (λ x b q k. search (rules, tests)) in
    let e : c.all.result ≡ all is_zero (first_chunks 64 k s) = found ∙ all_list is_zero c.as_chunks.result.0.now ∙ ap (all is_zero) c.as_chunks.ensures.front in
    c.if-all.false
    ∙ ap (λ (b : Bool). b and is_zero (drop (k * 64) s)) (sym c.if-all.false ∙ e)
    ∙ zero_blocks 64 k s
