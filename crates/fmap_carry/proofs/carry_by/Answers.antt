use Rattle.std.proofs.Common.{sym, ◌∙◌, length, ◌≡◌}
use Rattle.std.proofs.lemmas.Result.{err_from_is_err_and}
use Rattle.std.proofs.Math.Option.{none}
use Rattle.octets.specs.Rows.{refusal}
use Rattle.octets.specs.Bytes.{rest}
use Rattle.fmap_carry.specs.Carry.{carry_rows}
use Rattle.fmap_rules.specs.Map.{areas_of}
use Rattle.fmap_carry.proofs.Passed.{fitting, good-ends-of, refuses, accepts}
use Rattle.fmap_carry.proofs.Moves.{moves-lie, moved-all}
use Rattle.fmap_carry.proofs.carry_by.Goals as goal

pub returns-in_err-n : goal.returns-in_err-n
returns-in_err-n c =
    let p = err_from_is_err_and c.from_residual.result c.from_residual.ensures.1 in
    rw (p.1, p.2) (refuses _ _ _ _ _ (sym (rw (c.areas_at.ensures.0, c.areas_at-2.ensures.0) at c.in_err-n.ensures)))

pub make_moves-requires : goal.make_moves-requires
make_moves-requires c =
    let olds = areas_of (rest c.args.at.0 c.args.old.now) in
    let news = areas_of (rest c.args.bt.0 c.args.new.now) in
    let free : refusal (carry_rows olds news) ≡ none = rw (c.areas_at.ensures.0, c.areas_at-2.ensures.0) at c.in_ok-n.ensures.0 in
    rw (c.in_ok-n.ensures.2, c.areas_at.ensures.0, c.areas_at-2.ensures.0)
    (moves-lie (length c.args.old.now) (length c.args.new.now) news olds
    (fitting olds news free _ _ (good-ends-of _ _ c.requires.0) (good-ends-of _ _ c.requires.1)))

pub returns : goal.returns
returns c =
    let olds = areas_of (rest c.args.at.0 c.args.old.now) in
    let news = areas_of (rest c.args.bt.0 c.args.new.now) in
    let free : refusal (carry_rows olds news) ≡ none = rw (c.areas_at.ensures.0, c.areas_at-2.ensures.0) at c.in_ok-n.ensures.0 in
    accepts _ _ _ _ _ (sym free) (rw (c.in_ok-n.ensures.2, c.areas_at.ensures.0, c.areas_at-2.ensures.0) at c.make_moves.ensures ∙ moved-all c.args.old.now news olds _)
