-- The graph of no gates.
use Rattle.std.proofs.Common.{refl}
use Rattle.zx_reduce.proofs.Growths.{grown_wires}
use Rattle.zx_reduce.proofs.progress.Progress.wires.Goals as goal

pub returns : goal.returns
returns c = grown_wires c.args.qubits _ c.in_ok-ordered.ensures.graph c.in_ok-ordered.ensures.ordered c.one.ensures refl refl refl
