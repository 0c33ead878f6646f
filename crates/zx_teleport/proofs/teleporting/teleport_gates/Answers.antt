-- The phases by groups are those that the steps bring together.
use Rattle.zx_teleport.proofs.Held.{all_of_it, has_teleported}
use Rattle.zx_teleport.proofs.teleporting.teleport_gates.Goals as goal

pub returns : goal.returns
returns c =
    all_of_it c.with_groups.result _ _ _ c.with_groups.ensures.circuit c.with_groups.ensures.qubits c.with_groups.ensures.gates
    (λ made formed qubits gates. has_teleported c.args.read.now made c.in_ok-groups.groups c.in_ok-groups.ensures formed qubits gates)
