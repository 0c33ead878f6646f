-- The outputs are plain, and Cz is a gate more.
use Rattle.zx_gates.specs.declared.gate.Gate.TheVariants.{Cz}
use Rattle.zx_reduce.proofs.Growths.{ok_both, plain_inside, still_inside}
use Rattle.zx_reduce.proofs.progress.Progress.toggle.Goals as goal

pub toggle-requires-clause-plain : goal.toggle-requires-clause-plain
toggle-requires-clause-plain c = plain_inside _ c.args.self.now c.self.view_is c.requires.grown

pub returns : goal.returns
returns c =
    ok_both c.toggle.result c.toggle.ensures.gate c.toggle.ensures.ordered
    (λ done gate ordered. still_inside _ c.args.self.now c.self.view_is (Cz c.args.p c.args.q)
    c.toggle.new.self tt c.requires.on_qubits gate ordered)
