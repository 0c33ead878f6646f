-- The next gate is the last of its chains.
use Rattle.std.proofs.Common.{◌≡◌, ℕ, ◌+◌, List, length, refl, sym, ap, ◌∙◌, subst}
use Rattle.std.specs.Vec.{with_item, with_items}
use Rattle.std.proofs.lemmas.List.{with_items_is}
use Rattle.std.proofs.lemmas.Grind.{get_or_default_zero}
use Rattle.zx_peephole.specs.Internal.Chains.{gate_at, first_qubit, second_qubit}
use Rattle.zx_peephole.specs.Internal.Marks.{IsMarkedBehind}
use Rattle.zx_peephole.proofs.LeftLemmas.{read_at}
use Rattle.zx_peephole.proofs.SoundLemmas.{sound_kept, first_linked, second_linked}
use Rattle.zx_peephole.proofs.AdvanceLemmas.{keeps}
use Rattle.zx_peephole.proofs.changing.keep.Goals as goal

pub returns-clause-sound : goal.returns-clause-sound
returns-clause-sound c =
    let w = c.args.work.now in
    let gate = read_at w.gates.items w.next c.index-gate.result.now c.requires.reading.more c.index-gate.ensures in
    let first : c.from-first.result ≡ first_qubit (gate_at w.gates.items w.next) =
    c.from-first.ensures ∙ c.first_qubit.ensures ∙ ap first_qubit gate in
    let second : c.from-second.result ≡ second_qubit (gate_at w.gates.items w.next) =
    c.from-second.ensures ∙ c.second_qubit.ensures ∙ ap second_qubit gate in
    let sound = c.requires.reading.sound in
    let more = c.requires.reading.more in
    let rows = c.mark.ensures.rows ∙ ap length c.deref_mut.ensures.value in
    let marks = with_items_is w.marks c.mark.new.marks (rows ∙ sym w.marks.ok.0) in
    sound_kept w c.from-first.result c.from-second.result (record { first = c.index.result.now; second = c.index-2.result.now })
    (record w {
      links = with_item w.links w.next (record { first = c.index.result.now; second = c.index-2.result.now });
      last = with_item (with_item w.last c.from-first.result (w.next + 1)) c.from-second.result (w.next + 1);
      marks = with_items w.marks c.mark.new.marks;
      next = w.next + 1;
    })
    sound more first second
    (c.index.ensures ∙ get_or_default_zero w.last.items c.from-first.result c.index.result.now
    (first_linked w sound more c.from-first.result first))
    (c.index-2.ensures ∙ get_or_default_zero w.last.items c.from-second.result c.index-2.result.now
    (second_linked w sound more c.from-second.result second))
    refl refl refl refl refl (ap length marks ∙ rows)
    (subst (IsMarkedBehind w.marks.items (with_items w.marks c.mark.new.marks).items) gate
    (subst (λ (l : List (List ℕ)). IsMarkedBehind l (with_items w.marks c.mark.new.marks).items c.index-gate.result.now)
    c.deref_mut.ensures.value
    (subst (λ (l : List (List ℕ)). IsMarkedBehind c.deref_mut.result.now l c.index-gate.result.now) (sym marks)
    c.mark.ensures.marked)))

pub returns-clause-advance : goal.returns-clause-advance
returns-clause-advance c = keeps c.args.work.now c.requires.reading _ refl refl refl c.requires.tidy
