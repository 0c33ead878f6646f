use Rattle.std.proofs.Common.{rules}
use Rattle.zx_io.proofs.Told.{Appends-take, length-rest}
use Rattle.zx_io.proofs.loops.write_all.Goals as goal

pub loop-done-preserved : goal.loop-done-preserved
loop-done-preserved g c =
    let fits = length-rest c.args.bytes.now c.loop-done.done c.in-Ok.count c.loop-done.invariant.within c.in-Ok.ensures.bound in
    record {
      within = fits;
      appended = Appends-take _ _ _ _ _ _ fits c.loop-done.invariant.appended c.in-Ok.ensures.bytes;
      quiet = search rules;
    }
