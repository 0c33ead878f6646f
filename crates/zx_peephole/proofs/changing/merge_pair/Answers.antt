-- What the pair becomes stands for the next gate.
use Rattle.std.proofs.Common.{ℕ, ◌+◌, length, set, refl, sym, ap, ap₂, ◌∙◌, subst, arith}
use Rattle.std.specs.Option.{option_to_list}
use Rattle.std.proofs.lemmas.List.{length-set}
use Rattle.zx_gates.specs.Circuit.{IsGateOn}
use Rattle.zx_peephole.specs.Internal.Chains.{nothing}
use Rattle.zx_peephole.proofs.LeftLemmas.{read_at}
use Rattle.zx_peephole.proofs.SoundLemmas.{left_on, sound_written, sound_passed}
use Rattle.zx_peephole.proofs.AdvanceLemmas.{merged_on, pair_one, pair_none}
use Rattle.zx_peephole.proofs.changing.merge_pair.Goals as goal

pub returns-in-Some-clause-sound : goal.returns-in-Some-clause-sound
returns-in-Some-clause-sound c =
    let w = c.args.work.now in
    let r = c.remove.ensures.removed in
    let reading = c.requires.reading in
    let next = read_at w.gates.items w.next c.index.result.now reading.more c.index.ensures in
    let on : IsGateOn c.remove.new.work.qubits c.in-Some.gate =
    subst (λ (n : ℕ). IsGateOn n c.in-Some.gate) (sym r.qubits)
    (merged_on w.qubits c.index-earlier.result.now c.index.result.now c.in-Some.gate
    (subst (IsGateOn w.qubits) (sym next)
    (reading.sound.on_qubits w.next reading.more (reading.sound.unread w.next (omega arith) reading.more)))
    (sym (ap option_to_list c.in-Some.is) ∙ c.merged-one.ensures)) in
    sound_written c.remove.new.work _ c.in-Some.gate c.remove.ensures.sound
    (omega (arith, r.next, ap length r.gates, length-set w.gates.items c.args.first nothing, reading.more)) on
    (left_on c.remove.new.work.qubits c.in-Some.gate on) refl refl refl refl refl refl

pub returns-in-Some-clause-advance : goal.returns-in-Some-clause-advance
returns-in-Some-clause-advance c =
    let r = c.remove.ensures.removed in
    pair_one c.args.work.now c.requires.reading _ r.qubits c.args.first c.requires.pair c.index-earlier.result.now
    c.index.result.now c.index-earlier.ensures c.index.ensures c.doublings-power.result c.doublings-power.ensures c.in-Some.gate
    (sym (ap option_to_list c.in-Some.is) ∙ c.merged-one.ensures)
    (ap₂ (λ xs n. set xs n c.in-Some.gate) r.gates r.next) r.next

pub returns-in-None-clause-sound : goal.returns-in-None-clause-sound
returns-in-None-clause-sound c =
    let w = c.args.work.now in
    let r = c.remove.ensures.removed in
    sound_passed c.remove.new.work _ c.nothing.result c.nothing.ensures c.remove.ensures.sound
    (omega (arith, r.next, ap length r.gates, length-set w.gates.items c.args.first nothing, c.requires.reading.more))
    refl refl refl refl refl refl

pub returns-in-None-clause-advance : goal.returns-in-None-clause-advance
returns-in-None-clause-advance c =
    let r = c.remove.ensures.removed in
    pair_none c.args.work.now c.requires.reading _ r.qubits c.args.first c.requires.pair c.index-earlier.result.now
    c.index.result.now c.index-earlier.ensures c.index.ensures c.doublings-power.result c.doublings-power.ensures
    (sym (ap option_to_list c.in-None.is) ∙ c.merged-one.ensures)
    (ap₂ (λ xs n. set xs n c.nothing.result) r.gates r.next
    ∙ ap (set (set c.args.work.now.gates.items c.args.first nothing) c.args.work.now.next) c.nothing.ensures)
    (ap (λ n. n + 1) r.next)
