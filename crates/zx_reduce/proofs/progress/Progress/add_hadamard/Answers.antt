-- The outputs are plain, and H is a gate more.
use Rattle.zx_gates.specs.declared.gate.Gate.TheVariants.{H}
use Rattle.zx_reduce.proofs.Growths.{ok_three, plain_inside, gate_inside}
use Rattle.zx_reduce.proofs.progress.Progress.add_hadamard.Goals as goal

pub add_hadamard-requires-clause-plain : goal.add_hadamard-requires-clause-plain
add_hadamard-requires-clause-plain c = plain_inside _ c.args.self.now c.self.view_is c.requires.grown

pub returns : goal.returns
returns c =
    ok_three c.add_hadamard.result c.add_hadamard.ensures.fresh c.add_hadamard.ensures.gate c.add_hadamard.ensures.ordered
    (λ next fresh gate ordered. gate_inside _ c.args.self.now c.self.view_is next (H c.args.q)
    c.add_hadamard.new.self tt (λ formed. fresh) c.requires.on_qubits gate ordered)
