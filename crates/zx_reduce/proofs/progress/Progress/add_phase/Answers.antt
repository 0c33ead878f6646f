-- The outputs are plain, and a phase is a gate more.
use Rattle.zx_gates.specs.declared.gate.Gate.TheVariants.{Phase}
use Rattle.zx_reduce.proofs.Growths.{plain_inside, still_inside}
use Rattle.zx_reduce.proofs.progress.Progress.add_phase.Goals as goal

pub add_phase-requires-clause-plain : goal.add_phase-requires-clause-plain
add_phase-requires-clause-plain c = plain_inside _ c.args.self.now c.self.view_is c.requires.grown

pub returns : goal.returns
returns c =
    still_inside _ c.args.self.now c.self.view_is (Phase c.args.q c.args.phase) c.add_phase.new.self tt
    c.requires.on_qubits c.add_phase.ensures.gate c.add_phase.ensures.ordered
