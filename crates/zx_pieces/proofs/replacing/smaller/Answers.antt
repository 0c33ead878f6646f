-- A scalar between the maps makes them proportional.
use Rattle.std.proofs.Common.{refl, subst}
use Rattle.std.specs.List.{All}
use Rattle.zx_model.proofs.Scalars.{scaled_proportional}
use Rattle.zx_gates.specs.Circuit.{Circuit, IsGateOn}
use Rattle.zx_gates.specs.Maps.{amp}
use Rattle.zx_pieces.proofs.replacing.smaller.Goals as goal

pub returns-in-Some-2-clause-replacement : goal.returns-in-Some-2-clause-replacement
returns-in-Some-2-clause-replacement c =
    let n = c.args.piece.now.qubits in
    let old = c.args.piece.now.gates in
    let new = c.in-Some.gates.gates in
    let same = rw c.in-Some.is at c.in_ok-gates.ensures in
    record {
      on_qubits = subst (λ m. All (IsGateOn m) new) same (subst (λ (made : Circuit). All (IsGateOn made.qubits) made.gates) c.gates.view_is c.gates.invariant.circuit.on_qubits);
      map = scaled_proportional n n (amp old) (amp new) c.in-Some-2.scalar (rw c.in-Some-2.is at c.in_ok-scalar.ensures.scaled);
      odd = (rw c.in-Some-2.is at c.in_ok-scalar.ensures.odd) refl;
      size = (rw c.in-Some-2.is at c.in_ok-scalar.ensures.size) refl;
    }
