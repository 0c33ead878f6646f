-- A piece of the window is replaced, and fewer gates are left.
use Rattle.std.proofs.Common.{◌≡◌, ◌<◌, sym, ap, subst, ◌∙◌, ◌++◌, drop, length, List}
use Rattle.std.specs.List.{All}
use Rattle.zx_model.specs.declared.scalar.Scalar.{Scalar}
use Rattle.zx_gates.specs.Circuit.{Circuit, IsGateOn}
use Rattle.zx_gates.specs.declared.gate.Gate.{Gate}
use Rattle.piece_laws.specs.Reordering.{IsReordered}
use Rattle.piece_laws.specs.Replacement.{AreScaled, IsReplacement}
use Rattle.zx_pieces.specs.Internal.Working.{IsRescaled}
use Rattle.zx_pieces.proofs.Works.{window_on, replaced_more, rescaled_more, fewer_left}
use Rattle.zx_pieces.proofs.replacing.Work.replace_one.Goals as goal

pub gather-requires-clause-on_qubits : goal.gather-requires-clause-on_qubits
gather-requires-clause-on_qubits c =
    let old = c.args.self.now in
    let gates = c.args.gates.now in
    let window = c.fill.new.self.passed.items in
    let rest : List Gate = drop c.fill.new.self.next gates in
    let whole : IsReplacement old.done.qubits gates (old.done.gates ++ (window ++ rest)) =
    subst (λ gs. IsReplacement old.done.qubits gates (old.done.gates ++ gs)) (sym c.in_ok-fill.ensures.same) c.requires.at.all in
    subst (All (IsGateOn c.qubits.result)) (sym c.deref.ensures.value)
    (subst (λ n. All (IsGateOn n) window) (sym (c.qubits.ensures.value ∙ ap (λ (d : Circuit). d.qubits) c.fill.ensures.done))
    (window_on old.done.qubits gates old.done.gates window rest whole))

pub returns-clause-at : goal.returns-clause-at
returns-clause-at c =
    let old = c.args.self.now in
    let gates = c.args.gates.now in
    let window = c.fill.new.self.passed.items in
    let walk = c.in_ok-walk.walk in
    let rest : List Gate = drop c.fill.new.self.next gates in
    let whole : IsReplacement old.done.qubits gates (old.done.gates ++ (window ++ rest)) =
    subst (λ gs. IsReplacement old.done.qubits gates (old.done.gates ++ gs)) (sym c.in_ok-fill.ensures.same) c.requires.at.all in
    let scaled : AreScaled old.done.qubits gates old.scalar (old.done.gates ++ (window ++ rest)) =
    subst (λ gs. AreScaled old.done.qubits gates old.scalar (old.done.gates ++ gs)) (sym c.in_ok-fill.ensures.same) c.requires.at.scaled in
    let order : IsReordered window (walk.piece.gates ++ walk.passed.items) =
    subst (λ gs. IsReordered gs (walk.piece.gates ++ walk.passed.items)) c.deref.ensures.value c.in_ok-walk.ensures.order in
    let adds = c.in_ok-self.ensures.adds in
    let after = c.add_piece.new.done.gates in
    let scalar = c.in_ok-self.field-0 in
    let on_all : walk.piece.qubits ≡ old.done.qubits =
    c.in_ok-walk.ensures.qubits ∙ c.qubits.ensures.value ∙ ap (λ (d : Circuit). d.qubits) c.fill.ensures.done in
    let before : c.add_piece.new.done.gates ≡ old.done.gates ++ adds.new =
    adds.gates ∙ ap (λ (d : Circuit). d.gates ++ adds.new) c.fill.ensures.done in
    record {
      qubits = c.in_ok-self.ensures.qubits ∙ ap (λ (d : Circuit). d.qubits) c.fill.ensures.done;
      within = c.in_ok-fill.ensures.within;
      all = subst (IsReplacement old.done.qubits gates)
          (sym (ap (λ gs. gs ++ (walk.passed.items ++ rest)) before))
          (replaced_more old.done.qubits gates old.done.gates window walk.piece.gates walk.passed.items adds.new rest whole order
          (subst (λ n. IsReplacement n walk.piece.gates adds.new) on_all adds.replaces));
      scaled = rescaled_more old.done.qubits gates old.done.gates window walk.piece.gates walk.passed.items after rest old.scalar scalar scaled order
          (subst (λ (d : Circuit). IsRescaled old.done.qubits (d.gates ++ walk.piece.gates) after old.scalar scalar) c.fill.ensures.done
          (subst (λ (s : Scalar). IsRescaled old.done.qubits (c.fill.new.self.done.gates ++ walk.piece.gates) after s scalar) c.fill.ensures.scalar
          (subst (λ n. IsRescaled n (c.fill.new.self.done.gates ++ walk.piece.gates) after c.fill.new.self.scalar scalar) on_all c.in_ok-self.ensures.scalar)));
      small = c.in_ok-self.ensures.small;
    }

pub returns-clause-fewer : goal.returns-clause-fewer
returns-clause-fewer c =
    let walk = c.in_ok-walk.walk in
    fewer_left c.args.self.now.passed.items c.fill.new.self.passed.items walk.piece.gates walk.passed.items c.args.gates.now c.args.self.now.next c.fill.new.self.next
    c.in_ok-fill.ensures.same
    (subst (λ gs. IsReordered gs (walk.piece.gates ++ walk.passed.items)) c.deref.ensures.value c.in_ok-walk.ensures.order)
    (c.in_ok-walk.ensures.some
    (subst (λ (gs : List Gate). 0 < length gs) (sym c.deref.ensures.value) (c.in_ok-fill.ensures.some c.requires.some)))
