use mathlib.Core.Path.{sym, ap, ◌∙◌}
use mathlib.Core.List.{List}
use Prim.Native.Nat.{ℕ}
use Rattle.octets.specs.Bytes.{put_chunk}
use Rattle.crc_lanes.specs.Crc.{crc32}
use Rattle.gpt_model.specs.Disk.{backup, guid_in, with_table}
use Rattle.gpt_copies.proofs.writing.put_both.Goals as goal

pub put_entry-requires : goal.put_entry-requires
put_entry-requires c = (
  c.requires.0,
  c.requires.2,
  c.crc_with-crc.ensures
      ∙ ap (λ (es : List ℕ). crc32 (put_chunk 128 c.args.i c.args.e.now es)) c.table_in.ensures,
)

pub put_entry-requires-2 : goal.put_entry-requires-2
put_entry-requires-2 c = (
  c.requires.1,
  c.requires.2,
  c.crc_with-crc.ensures ∙ ap (λ (es : List ℕ). crc32 (put_chunk 128 c.args.i c.args.e.now es)) (c.table_in.ensures ∙ c.requires.3),
)

pub returns : goal.returns
returns c =
    let t = c.args.tail.now in
    let table : List ℕ → List ℕ = λ es. with_table c.args.disk.shape c.args.disk.n backup (guid_in c.args.disk.shape backup t) (put_chunk 128 c.args.i c.args.e.now es) t in
    (c.put_entry.ensures, c.put_entry-2.ensures ∙ ap table (sym c.requires.3))
