use mathlib.Core.Path.{ap₂, ◌∙◌}
use mathlib.Core.List.{List}
use Prim.Native.Nat.{ℕ}
use native.Mathlib.Omega.{arith}
use Rattle.octets.specs.Bytes.{put}
use Rattle.gpt_places.specs.Sides.{side_of}
use Rattle.gpt_places.proofs.Places.{header-end}
use Rattle.gpt_copies.proofs.writing.put_header.Goals as goal

pub copy-requires : goal.copy-requires
copy-requires c = omega (arith, header-end c.args.disk.shape c.args.disk.fits.legal (side_of c.args.side))

pub returns : goal.returns
returns c =
    λ es p. c.copy.ensures ∙ ap₂ (λ (at : ℕ) (h : List ℕ). put at h c.args.b.now) c.header_at.ensures (c.of-header.ensures.0 es p)
