-- A piece is replaced, and what is left gets shorter.
use Rattle.std.proofs.Common.{◌≡◌, ◌≤◌, ◌<◌, ◌+◌, ◌-◌, inl, inr, ℕ, List, ◌++◌, append_assoc, append-nil, drop_of_length-le, length, take, drop, refl, sym, ap, ◌∙◌, subst, arith}
use Rattle.std.specs.List.{All}
use Rattle.std.proofs.lemmas.List.{length-append, length-drop, drop-drop, nil_from_length, take-append-drop}
use Rattle.std.proofs.lemmas.List.Sorted.{length_permutation}
use Rattle.std.proofs.Math.Nat.{eq-or-lt_of_le}
use Rattle.zx_model.specs.Scalar.{IsScaled, IsWithin, product_of_scalars}
use Rattle.zx_model.specs.declared.scalar.Scalar.{Scalar}
use Rattle.zx_model.proofs.Scalars.{scaled_trans}
use Rattle.zx_gates.specs.Circuit.{Circuit, IsGateOn}
use Rattle.zx_gates.specs.Maps.{amp}
use Rattle.zx_gates.specs.Passes.{Preserves}
use Rattle.zx_gates.specs.declared.gate.Gate.{Gate}
use Rattle.piece_laws.specs.Reordering.{gates_on, IsReordered}
use Rattle.piece_laws.specs.Replacement.{two_qubit_gates, AreScaled, IsNoLarger, IsReplacement}
use Rattle.piece_laws.proofs.Reorderings.{reordered-append, reordered_gates}
use Rattle.piece_laws.proofs.Replacements.{All-parts, replaced_in_front, replacement-refl, replacement-trans}
use Rattle.piece_laws.proofs.Scaling.{scaled_part, front_map}
use Rattle.zx_pieces.specs.Scaling.{most_root2_of_pass}
use Rattle.zx_pieces.specs.Internal.Working.{AddsScaled, IsAt, IsRescaled}
use Rattle.zx_pieces.specs.declared.replacing.Work.{Work}

-- the gates of the window are on the qubits
pub window_on : (n : ℕ) (gates done window rest : List Gate) → IsReplacement n gates (done ++ (window ++ rest)) → All (IsGateOn n) window
window_on n gates done window rest r =
    (All-parts (IsGateOn n) window rest (All-parts (IsGateOn n) done (window ++ rest) r.on_qubits).1).0

-- a piece of the window comes to its front
piece_first : (window piece passed rest : List Gate) → IsReordered window (piece ++ passed) → IsReordered (window ++ rest) (piece ++ (passed ++ rest))
piece_first window piece passed rest same q =
    reordered-append window (piece ++ passed) rest rest same (λ p. refl) q ∙ ap (gates_on q) (append_assoc piece passed rest)

-- so does a piece that was walked along a part of a list
pub walked_front : (gates piece passed : List Gate) (next : ℕ) → IsReordered (take next gates) (piece ++ passed)
    → IsReordered gates (piece ++ (passed ++ drop next gates))
walked_front gates piece passed next same =
    subst (λ gs. IsReordered gs (piece ++ (passed ++ drop next gates))) (take-append-drop next gates)
    (piece_first (take next gates) piece passed (drop next gates) same)

-- it is replaced
pub replaced_more : (n : ℕ) (gates done window piece passed new rest : List Gate) → IsReplacement n gates (done ++ (window ++ rest))
    → IsReordered window (piece ++ passed) → IsReplacement n piece new → IsReplacement n gates (done ++ new ++ (passed ++ rest))
replaced_more n gates done window piece passed new rest all same r =
    replacement-trans n gates (done ++ (window ++ rest)) (done ++ new ++ (passed ++ rest)) all
    (replaced_in_front n done (window ++ rest) piece (passed ++ rest) new r all.on_qubits (piece_first window piece passed rest same))

pub rescaled_more : (n : ℕ) (gates done window piece passed after rest : List Gate) (s t : Scalar)
    → AreScaled n gates s (done ++ (window ++ rest)) → IsReordered window (piece ++ passed) → IsRescaled n (done ++ piece) after s t
    → AreScaled n gates t (after ++ (passed ++ rest))
rescaled_more n gates done window piece passed after rest s t all same r =
    r (amp gates) (passed ++ rest)
    (subst (IsScaled n n (amp gates) s) (front_map done (window ++ rest) piece (passed ++ rest) (piece_first window piece passed rest same)) all)

-- the scalar is multiplied by that between the piece and what replaces it
pub rescaled_by : (n : ℕ) (before piece new after : List Gate) (s factor t : Scalar) → after ≡ before ++ new → t ≡ product_of_scalars s factor
    → AreScaled n piece factor new → IsRescaled n (before ++ piece) after s t
rescaled_by n before piece new after s factor t same is scaled = λ f behind e.
    subst (λ gs. IsScaled n n f t (amp (gs ++ behind))) (sym same)
    (subst (λ u. IsScaled n n f u (amp (before ++ new ++ behind))) (sym is)
    (scaled_trans n n f (amp (before ++ piece ++ behind)) (amp (before ++ new ++ behind)) s factor e (scaled_part n before piece new behind factor scaled)))

-- the piece replaces itself, and the scalar stays
pub adds_as_read : (piece before after : Circuit) (s : Scalar) → All (IsGateOn piece.qubits) piece.gates → IsWithin most_root2_of_pass s
    → after.qubits ≡ before.qubits → after.gates ≡ before.gates ++ piece.gates → AddsScaled piece before after s s
adds_as_read piece before after s on small qubits same = record {
  qubits = qubits;
  adds = record { new = piece.gates; gates = same; replaces = replacement-refl piece.qubits piece.gates on };
  scalar = λ f behind e. subst (λ gs. IsScaled piece.qubits piece.qubits f s (amp (gs ++ behind))) (sym same) e;
  small = small;
}

-- the window gets the next gates
pub filled : (passed gates : List Gate) (next count : ℕ) → passed ++ take count (drop next gates) ++ drop (next + count) gates ≡ passed ++ drop next gates
filled passed gates next count =
    append_assoc passed (take count (drop next gates)) (drop (next + count) gates)
    ∙ ap (λ gs. passed ++ (take count (drop next gates) ++ gs)) (sym (drop-drop count next gates))
    ∙ ap (λ gs. passed ++ gs) (take-append-drop count (drop next gates))

-- how many gates are in front and from a place on
length_left : (passed gates : List Gate) (next : ℕ) → length (passed ++ drop next gates) ≡ length passed + (length gates - next)
length_left passed gates next = length-append passed (drop next gates) ∙ ap (λ k. length passed + k) (length-drop next gates)

-- fewer gates are left
pub fewer_left : (old window piece passed gates : List Gate) (next end : ℕ) → window ++ drop end gates ≡ old ++ drop next gates
    → IsReordered window (piece ++ passed) → 0 < length piece → length passed + (length gates - end) < length old + (length gates - next)
fewer_left old window piece passed gates next end same order some =
    at (length piece) (length passed) (length window) (length gates - end) (length old + (length gates - next)) some
    (sym (length-append piece passed) ∙ length_permutation window (piece ++ passed) (reordered_gates window (piece ++ passed) order))
    (sym (length_left window gates end) ∙ ap length same ∙ length_left old gates next)
  where
    at : (p q w k all : ℕ) → 0 < p → p + q ≡ w → w + k ≡ all → q + k < all
    at p q w k all more sum whole = omega arith

-- no more gates on two qubits, and no more in all
pub no_larger_by_counts : (old new : List Gate) → two_qubit_gates new ≤ two_qubit_gates old → length new ≤ length old → IsNoLarger new old
no_larger_by_counts old new two shorter =
    elim (eq-or-lt_of_le two) [
      | inl same ↦ inr (same, shorter)
      | inr less ↦ inl less
    ]

-- all pieces are replaced
pub work_done : (circuit : Circuit) (work : Work) → IsAt circuit.qubits circuit.gates work → length work.passed.items ≡ 0 → length circuit.gates ≤ work.next
    → Preserves most_root2_of_pass circuit work.done work.scalar × IsNoLarger work.done.gates circuit.gates
work_done circuit work at none all =
    let rest : work.done.gates ++ (work.passed.items ++ drop work.next circuit.gates) ≡ work.done.gates =
    ap (λ (ps : List Gate). work.done.gates ++ (ps ++ drop work.next circuit.gates)) (nil_from_length work.passed.items none)
    ∙ ap (λ (ps : List Gate). work.done.gates ++ ps) (drop_of_length-le circuit.gates all) ∙ append-nil work.done.gates in
    let replaced = subst (IsReplacement circuit.qubits circuit.gates) rest at.all in (
      record {
        qubits = at.qubits;
        scaled = subst (AreScaled circuit.qubits circuit.gates work.scalar) rest at.scaled;
        small = at.small;
        odd = replaced.odd;
      },
      replaced.size,
    )
