-- The gate in the middle, turned over, stands for the next gate.
use Rattle.std.proofs.Common.{◌≡◌, ℕ, length, set, refl, sym, ap, ap₂, ◌∙◌, subst, arith, true}
use Rattle.std.proofs.lemmas.List.{length-set}
use Rattle.zx_gates.specs.Circuit.{IsGateOn}
use Rattle.zx_peephole.specs.Tidy.{is_turned}
use Rattle.zx_peephole.specs.Internal.Chains.{nothing}
use Rattle.zx_peephole.proofs.SoundLemmas.{left_on, sound_written}
use Rattle.zx_peephole.proofs.AdvanceLemmas.{conjugated_on, middle_is, middle_on, turned_one}
use Rattle.zx_peephole.proofs.changing.turn_over.Goals as goal

pub returns-clause-sound : goal.returns-clause-sound
returns-clause-sound c =
    let w = c.args.work.now in
    let one = c.remove.ensures.removed in
    let two = c.remove-2.ensures.removed in
    let t = c.requires.triple in
    let g = c.index.result.now in
    let turned : is_turned t.triple.qubit g ≡ true =
    ap (is_turned t.triple.qubit) (middle_is w c.requires.reading w refl c.args.first c.args.middle t g c.index.ensures)
    ∙ t.triple.turned in
    let on : IsGateOn c.remove-2.new.work.qubits c.conjugated-gate.result =
    subst (λ (n : ℕ). IsGateOn n c.conjugated-gate.result) (sym (two.qubits ∙ one.qubits))
    (subst (IsGateOn w.qubits) (sym c.conjugated-gate.ensures)
    (conjugated_on w.qubits t.triple.qubit g turned
    (middle_on w c.requires.reading w refl c.args.first c.args.middle t g c.index.ensures))) in
    sound_written c.remove-2.new.work _ c.conjugated-gate.result c.remove-2.ensures.sound
    (omega (
      arith,
      two.next,
      one.next,
      ap length two.gates,
      length-set c.remove.new.work.gates.items c.args.first nothing,
      ap length one.gates,
      length-set w.gates.items c.args.middle nothing,
      c.requires.reading.more,
    )) on
    (left_on c.remove-2.new.work.qubits c.conjugated-gate.result on) refl refl refl refl refl refl

pub returns-clause-advance : goal.returns-clause-advance
returns-clause-advance c =
    let one = c.remove.ensures.removed in
    let two = c.remove-2.ensures.removed in
    turned_one c.args.work.now c.requires.reading _ (two.qubits ∙ one.qubits) c.args.first c.args.middle c.requires.triple
    c.index.result.now c.index.ensures c.conjugated-gate.result c.conjugated-gate.ensures
    (ap₂ (λ xs n. set xs n c.conjugated-gate.result) (two.gates ∙ ap (λ xs. set xs c.args.first nothing) one.gates)
    (two.next ∙ one.next)) (two.next ∙ one.next)
