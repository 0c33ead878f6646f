-- H, and steps that are tried afterwards.
use Rattle.std.proofs.Common.{[], ◌∷◌, subst, sym}
use Rattle.std.proofs.lemmas.Result.{on_ok_weaker}
use Rattle.zx_gates.specs.declared.gate.Gate.TheVariants.{H}
use Rattle.zx_reduce.specs.Internal.Growing.{Gains}
use Rattle.zx_reduce.proofs.Growths.{gains_tried}
use Rattle.zx_reduce.proofs.growing.Growing.add_hadamard.Goals as goal

pub returns-in-None : goal.returns-in-None
returns-in-None c =
    subst (Gains (H c.args.q ∷ []) c.args.self.now.engine.progress) (sym c.in_ok-add.ensures.progress)
    (gains_tried (H c.args.q ∷ []) c.args.self.now.engine.progress c.add_hadamard.new.self c.pass.new.self.engine.progress c.in_ok-next.ensures c.in_ok-pass.ensures)

pub returns-in-Some : goal.returns-in-Some
returns-in-Some c =
    on_ok_weaker c.drain.result (gains_tried (H c.args.q ∷ []) c.args.self.now.engine.progress c.add.new.self.progress c.drain.new.self.progress
    (subst (Gains (H c.args.q ∷ []) c.args.self.now.engine.progress) (sym c.in_ok-add.ensures.progress)
    (gains_tried (H c.args.q ∷ []) c.args.self.now.engine.progress c.add_hadamard.new.self c.pass.new.self.engine.progress c.in_ok-next.ensures c.in_ok-pass.ensures)))
    c.drain.ensures.tries
