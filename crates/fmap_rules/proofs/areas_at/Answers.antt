use Rattle.std.proofs.Common.{arith, ap, ◌∙◌}
use Rattle.octets.proofs.Parts.{rest-slice}
use Rattle.fmap_rules.specs.Map.{areas_of, count_of}
use Rattle.fmap_rules.proofs.Good.{good-fits, good-within}
use Rattle.fmap_rules.proofs.areas_at.Goals as goal

pub slice_bounds-areas_part-count : goal.slice_bounds-areas_part-count
slice_bounds-areas_part-count c = omega (arith, good-within _ _ c.requires)

pub slice_bounds-areas_part-start : goal.slice_bounds-areas_part-start
slice_bounds-areas_part-start c = omega (arith, good-within _ _ c.requires)

pub areas_part-requires : goal.areas_part-requires
areas_part-requires c = rw rest-slice (good-fits _ _ c.requires).whole

pub returns : goal.returns
returns c = (
  c.areas_part.ensures.0 ∙ ap areas_of (rest-slice _ _),
  omega (arith, c.areas_part.ensures.1, ap count_of (rest-slice c.args.at.0 c.args.image.now), (good-fits _ _ c.requires).few),
)
