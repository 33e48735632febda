use Rattle.std.proofs.Common.{◌∙◌, ap}
use Rattle.fmap_rules.specs.Map.{good_map, is_none, none_holds}
use Rattle.fmap_rules.proofs.Rules.{ok-none}
use Rattle.fmap_rules.proofs.good_at.Goals as goal

pub returns : goal.returns
unfolding good_map none_holds
returns c = c.is_ok.ensures.value ∙ ok-none c.judge.result ∙ ap is_none c.judge.ensures
