use Rattle.std.proofs.Common.{◌∙◌, take}
use Rattle.octets.specs.Bytes.{part}
use Rattle.fmap_rules.specs.Map.{signed, signature}
use Rattle.fmap_rules.proofs.Signature.{pointwise-same}
use Rattle.fmap_rules.proofs.is_signed.Goals as goal

pub returns : goal.returns
unfolding signed part
returns c = c.starts_with.ensures.value ∙ pointwise-same signature (take 8 c.args.m.now)
