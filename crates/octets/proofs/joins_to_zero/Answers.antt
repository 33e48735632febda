use Rattle.std.proofs.Common.{◌≡◌, ◌∙◌, ap, rules, eqb, ℕ}
use Rattle.std.specs.List.{fold}
use Rattle.std.specs.Int.RustNames.{bit_or}
use Rattle.octets.specs.Tests.{◌and◌}
use Rattle.octets.proofs.Equal.{zero_fold}
use Rattle.octets.proofs.joins_to_zero.Goals as goal

pub returns : goal.returns
unfolding ◌and◌
returns c =
    let e : c.fold.result ≡ fold bit_or 0 c.args.s.now = search rules in
    ap (λ (n : ℕ). eqb n 0) e ∙ zero_fold 0 c.args.s.now
