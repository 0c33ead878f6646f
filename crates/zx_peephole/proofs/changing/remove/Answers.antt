-- The gate is in no chain when it goes, and what it barred is open.
use Rattle.std.proofs.Common.{◌≡◌, ℕ, List, length, refl, sym, ap, ◌∙◌, subst, arith}
use Rattle.std.specs.Vec.{with_item, with_items}
use Rattle.std.proofs.lemmas.List.{with_items_is}
use Rattle.zx_peephole.specs.declared.chains.Chains.{Chains}
use Rattle.zx_peephole.specs.Internal.Chains.{gate_at}
use Rattle.zx_peephole.specs.Internal.Marks.{IsMarkedWithout}
use Rattle.zx_peephole.proofs.LeftLemmas.{read_at}
use Rattle.zx_peephole.proofs.SoundLemmas.{sound_removed}
use Rattle.zx_peephole.proofs.changing.remove.Goals as goal

pub returns-clause-sound : goal.returns-clause-sound
returns-clause-sound c =
    let w = c.args.work.now in
    let new = c.unlink_all.new.work in
    let same = c.unlink_all.ensures.same in
    let gate : c.index.result.now ≡ gate_at w.gates.items c.args.place =
    read_at new.gates.items c.args.place c.index.result.now
    (omega (arith, c.requires.kept.before, c.requires.sound.places.within, ap (λ (v : Chains). length v.gates.items) same))
    c.index.ensures ∙ ap (λ (v : Chains). gate_at v.gates.items c.args.place) same in
    let rows = c.open.ensures.rows ∙ ap length c.deref_mut.ensures.value in
    let marks = with_items_is new.marks c.open.new.marks (rows ∙ sym new.marks.ok.0) in
    sound_removed w new c.args.place c.nothing.result
    (record new {
      gates = with_item new.gates c.args.place c.nothing.result;
      marks = with_items new.marks c.open.new.marks;
    }) c.nothing.ensures
    c.requires.sound c.requires.kept c.unlink_all.ensures refl refl refl refl refl
    (ap length marks ∙ rows)
    (subst (IsMarkedWithout new.marks.items (with_items new.marks c.open.new.marks).items) gate
    (subst (λ (l : List (List ℕ)). IsMarkedWithout l (with_items new.marks c.open.new.marks).items c.index.result.now)
    c.deref_mut.ensures.value
    (subst (λ (l : List (List ℕ)). IsMarkedWithout c.deref_mut.result.now l c.index.result.now) (sym marks)
    c.open.ensures.marked)))
