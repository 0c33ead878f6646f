use Rattle.std.proofs.Common.{◌+◌, ◌≤◌, length, arith}
use Rattle.std.proofs.lemmas.Grind.{common_steps}
use Rattle.zx_io.proofs.Told.{drop-moved}
use Rattle.zx_io.proofs.moving.move_bytes.Goals as goal

pub returns-clause-rest : goal.returns-clause-rest
returns-clause-rest c =
    let fits : c.args.at + c.min-count.result ≤ length c.args.bytes.now = grind (arith, common_steps) in
    drop-moved c.args.bytes.now c.args.buf.now c.copy_from_slice.new.self c.args.at c.min-count.result fits c.copy_from_slice.ensures.after
