-- At the start nothing is done.
use Rattle.std.proofs.Common.{◌≡◌, ◌≤◌, sym, ap, ap₂, ◌∙◌, subst, arith, rules, ◌++◌, drop, length, List}
use Rattle.zx_model.specs.Scalar.{IsWithin}
use Rattle.zx_model.specs.declared.scalar.Scalar.{Scalar}
use Rattle.zx_model.proofs.Scalars.{scaled_refl}
use Rattle.zx_gates.specs.Circuit.{Circuit}
use Rattle.zx_gates.specs.Maps.{amp}
use Rattle.zx_gates.specs.declared.gate.Gate.{Gate}
use Rattle.piece_laws.specs.Replacement.{AreScaled, IsReplacement}
use Rattle.piece_laws.proofs.Replacements.{replacement-refl}
use Rattle.zx_pieces.specs.Scaling.{most_root2_of_pass}
use Rattle.zx_pieces.proofs.Works.{work_done}
use Rattle.zx_pieces.proofs.replacing.replace_by.Goals as goal

pub pieces-init : goal.pieces-init
pieces-init c =
    let n = c.args.circuit.now.qubits in
    let gates = c.args.circuit.now.gates in
    let left = ap₂ (λ (ds ps : List Gate). ds ++ (ps ++ drop 0 gates)) (ap (λ (d : Circuit). d.gates) c.new.ensures) c.new-2.ensures.items in
    record {
      qubits = ap (λ (d : Circuit). d.qubits) c.new.ensures ∙ c.qubits.ensures.value;
      within = omega arith;
      all = subst (IsReplacement n gates) (sym left) (replacement-refl n gates c.gates-gates.ensures.valid.on_qubits);
      scaled = subst (AreScaled n gates c.one.result) (sym left)
          (subst (λ (s : Scalar). AreScaled n gates s gates) (sym c.one.ensures) (scaled_refl n n (amp gates)));
      small = subst (IsWithin most_root2_of_pass) (sym c.one.ensures) (omega arith);
    }

pub returns-clause-kept : goal.returns-clause-kept
returns-clause-kept c =
    let none : length c.pieces.work.passed.items ≡ 0 = search rules in
    let all : length c.args.circuit.now.gates ≤ c.pieces.work.next = search rules in
    (work_done c.args.circuit.now c.pieces.work c.pieces.invariant none all).0

pub returns-clause-no_larger : goal.returns-clause-no_larger
returns-clause-no_larger c =
    let none : length c.pieces.work.passed.items ≡ 0 = search rules in
    let all : length c.args.circuit.now.gates ≤ c.pieces.work.next = search rules in
    (work_done c.args.circuit.now c.pieces.work c.pieces.invariant none all).1
