use Rattle.gpt_build.proofs.Places.{put-needs, part-put}
use Rattle.gpt_build.proofs.request.Request.add.Goals as goal

pub put_entry-requires : goal.put_entry-requires
put_entry-requires c =
    let a = c.args.self.now in
    put-needs a.disk.shape a.disk.n a.alignment c.args.table.now a.wanted a.last _ _ _ c.as_new.ensures c.in_ok-place.ensures a.few

pub returns : goal.returns
returns c =
    let a = c.args.self.now in
    part-put a.disk.shape a.disk.n a.alignment c.args.table.now a.wanted a.last _ _ _ c.as_new.ensures c.in_ok-place.ensures _ c.put_entry.ensures
