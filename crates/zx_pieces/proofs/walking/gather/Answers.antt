-- The walk goes on by a gate, and all that is left is passed over.
use Rattle.std.proofs.Common.{◌++◌, [], ◌∷◌, take, sym, ap, ◌∙◌, subst, arith}
use Rattle.std.proofs.lemmas.List.{take_more, take_rest}
use Rattle.std.proofs.lemmas.List.Elements.{All-get_or}
use Rattle.zx_gates.specs.Circuit.{IsGateOn, IsOnQubits}
use Rattle.piece_laws.specs.Places.{ArePlaces}
use Rattle.piece_laws.specs.Reordering.{IsReordered}
use Rattle.zx_pieces.specs.Internal.Walking.{IsWalk}
use Rattle.zx_pieces.proofs.Works.{walked_front}
use Rattle.zx_pieces.proofs.walking.gather.Goals as goal

pub gates-init : goal.gates-init
gates-init c = record {
  within = omega arith;
  qubits = c.in_ok-walk.ensures.qubits;
  wide = c.in_ok-walk.ensures.wide;
  walk = c.in_ok-walk.ensures.walk;
}

pub read-requires-clause-wide : goal.read-requires-clause-wide
read-requires-clause-wide c = c.gates.invariant.wide

pub read-requires-clause-on_qubits : goal.read-requires-clause-on_qubits
read-requires-clause-on_qubits c =
    let gates = c.args.gates.now in
    let gate = c.index-gates-next.result in
    let on : IsGateOn c.args.qubits gate =
    subst (IsGateOn c.args.qubits) (sym c.index-gates-next.is) (All-get_or (IsGateOn c.args.qubits) gates c.gates.next gate c.gates-test.true c.requires.on_qubits) in
    subst (λ n. IsOnQubits n gate) (sym c.gates.invariant.qubits) on.0

pub gates-preserved : goal.gates-preserved
gates-preserved c =
    let gates = c.args.gates.now in
    let i = c.gates.next in
    let gate = c.index-gates-next.result in
    record {
      within = omega (arith, c.gates-test.true);
      qubits = c.in_ok-read.ensures.qubits ∙ c.gates.invariant.qubits;
      wide = c.in_ok-read.ensures.wide;
      walk = subst (λ seen. IsWalk seen c.read.new.self)
          (ap (λ g. take i gates ++ g ∷ []) c.index-gates-next.is ∙ sym (take_more gates i gate c.gates-test.true))
          (c.in_ok-read.ensures.walk (take i gates) c.gates.invariant.walk);
    }

pub returns-clause-places : goal.returns-clause-places
returns-clause-places c =
    subst (λ places. ArePlaces c.args.qubits places.items) (sym c.pass_all.ensures.places)
    (subst (λ n. ArePlaces n c.gates.walk.places.items) c.gates.invariant.qubits c.gates.invariant.wide.places)

pub returns-clause-order : goal.returns-clause-order
returns-clause-order c =
    let gates = c.args.gates.now in
    let passed = c.gates.walk.passed.items in
    subst (λ piece. IsReordered gates (piece.gates ++ c.pass_all.new.self.passed.items)) (sym c.pass_all.ensures.piece)
    (subst (λ gs. IsReordered gates (c.gates.walk.piece.gates ++ gs))
    (sym (c.in_ok-pass_all.ensures.passed ∙ ap (λ gs. passed ++ gs) (take_rest gates c.gates.next)))
    (walked_front gates c.gates.walk.piece.gates passed c.gates.next c.gates.invariant.walk.order))
