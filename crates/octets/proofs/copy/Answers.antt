use Rattle.std.proofs.Common.{◌≡◌, ◌+◌, ◌-◌, length, arith, refl}
use Rattle.octets.proofs.Puts.{put_back}
use Rattle.octets.proofs.copy.Goals as goal

pub returns : goal.returns
returns c =
    let e : c.args.at + length c.args.src.now - c.args.at ≡ length c.args.src.now = omega arith in
    rw (e, c.copy_from_slice.ensures.after) (put_back c.args.dst.now c.args.src.now c.args.at (length c.args.src.now) c.requires refl)
