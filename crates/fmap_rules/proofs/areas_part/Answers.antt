use Rattle.std.proofs.Common.{◌+◌, ◌*◌, ◌-◌, take, drop, refl}
use Rattle.fmap_rules.proofs.Areas.{areas-behind}
use Rattle.fmap_rules.proofs.areas_part.Goals as goal

pub returns : goal.returns
returns c =
    areas-behind _ _ (take (56 + 42 * c.count_of.result - 56) (drop 56 c.args.m.now)) _ c.count_of.ensures c.requires refl
    c.as_chunks.ensures.front c.as_chunks.ensures.front_len
