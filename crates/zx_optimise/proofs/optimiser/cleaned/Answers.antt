-- Cleanup of a copy of the read circuit.
use Rattle.zx_model.proofs.Scalars.{scaled_proportional}
use Rattle.std.proofs.Common.{arith, le_refl, subst}
use Rattle.zx_gates.specs.Circuit.{Circuit, gate_odd_phases}
use Rattle.zx_gates.specs.Maps.{amp}
use Rattle.zx_optimise.specs.Optimising.{IsCleaned}
use Rattle.zx_gates.proofs.Passing.{implements_more}
use Rattle.zx_optimise.specs.Internal.Candidates.{most_whole_root2, IsCandidate}
use Rattle.zx_optimise.proofs.optimiser.cleaned.Goals as goal

pub returns-clause-cleaned : goal.returns-clause-cleaned
returns-clause-cleaned c =
    let copy = c.in_ok-gates.gates in
    let made = c.tidy-scalar.new.g in
    let t = c.tidy-scalar.ensures in
    subst (λ (read : Circuit). IsCleaned read made) c.in_ok-gates.ensures
    (record {
      qubits = t.kept.qubits;
      map = scaled_proportional copy.qubits copy.qubits (amp copy.gates) (amp made.gates) c.tidy-scalar.result t.kept.scaled;
      tidy = t.tidy;
      total = t.length;
      odd = t.kept.odd;
      two_qubit = t.two_qubit;
    })

pub returns-clause-candidate : goal.returns-clause-candidate
returns-clause-candidate c =
    let t = c.tidy-scalar.ensures in
    subst (λ (read : Circuit). IsCandidate most_whole_root2 read (record { gates = c.tidy-scalar.new.g; scalar = c.tidy-scalar.result })) c.in_ok-gates.ensures
    (record { kept = implements_more t.kept (le_refl (gate_odd_phases c.in_ok-gates.gates.gates)) (omega arith); tidy = t.tidy })
