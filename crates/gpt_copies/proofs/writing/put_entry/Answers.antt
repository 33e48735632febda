use Rattle.gpt_places.specs.Sides.{side_of}
use Rattle.gpt_copies.proofs.Writes.{table-put, length-changed}
use Rattle.gpt_copies.proofs.writing.put_entry.Goals as goal

pub returns : goal.returns
returns c =
    let g = c.args.disk.shape in
    let ok = c.args.disk.fits.legal in
    let s = side_of c.args.side in
    let b = c.args.b.now in
    table-put g ok s b c.requires.0 c.args.disk.n _ _ _ (length-changed g ok s b c.requires.0 c.args.i c.args.e.now c.requires.1 c.told-e) c.set_entry.ensures
    (c.renew_header.ensures _ c.requires.2)
