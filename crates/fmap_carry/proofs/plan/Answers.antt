use Rattle.std.proofs.Common.{sym, ◌∙◌, ap, ap₂, map, rules, Option, unwrap_or}
use Rattle.fmap_rules.specs.declared.Extent.{Extent}
use Rattle.std.proofs.Math.Option.{some}
use Rattle.std.proofs.lemmas.Result.{err_from_is_err_and}
use Rattle.octets.proofs.Rows.{pick_true}
use Rattle.octets.specs.Bytes.{zeros}
use Rattle.fmap_rules.specs.Map.{area_of, fmap_name}
use Rattle.fmap_carry.specs.Carry.{number_of}
use Rattle.fmap_carry.specs.declared.Conflict.{Conflict}
use Rattle.fmap_carry.proofs.Moves.{rows-moves, place-or}
use Rattle.fmap_carry.proofs.plan.Goals as goal

pub returns-in_err-n : goal.returns-in_err-n
returns-in_err-n c =
    let p = err_from_is_err_and c.from_residual.result c.from_residual.ensures.1 in
    rw (p.1, p.2) (pick_true _ 60 _ c.in_err-n.ensures.1 ∙ ap (λ (e : Conflict). some (number_of e)) (sym c.in_err-n.ensures.0))

pub returns-in_err-judge : goal.returns-in_err-judge
unfolding zeros
returns-in_err-judge c =
    let p = err_from_is_err_and c.from_residual-in_err-judge.result c.from_residual-in_err-judge.ensures.1 in
    rw (p.1, p.2) (rows-moves (map area_of c.args.news.now) c.unwrap_or-map.result (map area_of c.args.olds.now) (c.unwrap_or-map.ensures
    ∙ ap₂ (λ (o : Option Extent) (d : Extent). unwrap_or o d) c.place_of.ensures (search rules) ∙ place-or (map area_of c.args.news.now) fmap_name) c.in_ok-n.ensures.0 ∙ rw (← c.in_ok-n.ensures.2) (sym c.in_err-judge.ensures))

pub returns : goal.returns
unfolding zeros
returns c = (
  rows-moves (map area_of c.args.news.now) c.unwrap_or-map.result (map area_of c.args.olds.now) (c.unwrap_or-map.ensures
      ∙ ap₂ (λ (o : Option Extent) (d : Extent). unwrap_or o d) c.place_of.ensures (search rules) ∙ place-or (map area_of c.args.news.now) fmap_name) c.in_ok-n.ensures.0 ∙ rw (← c.in_ok-n.ensures.2) (sym c.in_ok-judge.ensures),
  c.in_ok-n.ensures.1,
  c.in_ok-n.ensures.2,
)
