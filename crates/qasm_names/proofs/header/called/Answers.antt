use Rattle.std.proofs.Common.{◌+◌, sym, ap, ◌∙◌}
use Rattle.qasm_names.specs.declared.gates.CalledGate.TheVariants.{Gate}
use Rattle.qasm_names.specs.Internal.HeaderTable.{called_after}
use Rattle.qasm_names.proofs.Including.{after_is}
use Rattle.qasm_names.proofs.header.called.Goals as goal

pub returns-in-Gate : goal.returns-in-Gate
returns-in-Gate c =
    ap (λ n. Gate (n + c.args.base)) c.from.ensures ∙ ap Gate (sym (after_is c.in-Gate.number c.args.base)) ∙ ap (called_after c.args.base) (sym c.in-Gate.is)
