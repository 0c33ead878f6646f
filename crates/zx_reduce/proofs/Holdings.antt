-- The phases that a graph holds, while it grows and is simplified.
use Rattle.std.proofs.Common.{◌≡◌, refl, sym, ◌∙◌, ap, subst, ℕ, zero, suc, ◌+◌, ◌<◌, Bool, true, false, ◌||◌, eqb, eqb-true, cond, List, [], ◌∷◌, ◌++◌, length, filter, take, get_or, add-one, true≢false, arith}
use Rattle.std.specs.Prelude.{Option, None, Some}
use Rattle.std.specs.List.{fold, range_with_len}
use Rattle.std.proofs.lemmas.List.{append-nil}
use Rattle.std.proofs.lemmas.List.Elements.{filter-append}
use Rattle.std.proofs.lemmas.List.Sums.{fold-append}
use Rattle.zx_model.specs.Bits.{member}
use Rattle.zx_model.specs.Phase.{is_odd}
use Rattle.zx_calculus.specs.Graph.{Graph, WellFormed}
use Rattle.zx_calculus.specs.Steps.{Step, IsStep}
use Rattle.zx_calculus.proofs.Ids.{by_test, by_equal, and-left, member-append, member-filter}
use Rattle.zx_gates.specs.Circuit.{Circuit, IsCircuit, is_odd_phase}
use Rattle.zx_gates.specs.declared.gate.Gate.{Gate}
use Rattle.zx_gates.specs.declared.gate.Gate.TheVariants.{H, Phase}
use Rattle.circuit_graph.specs.Translation.{wires, with_gate, written_out, by_hadamards, phase_vertex, places, places_from, last_spider}
use Rattle.teleport_laws.specs.Spots.{moved}
use Rattle.teleport_laws.proofs.Forwards.{later_spot}
use Rattle.teleport_circuits.specs.Circuits.{phase_in}
use Rattle.teleport_circuits.specs.Teleporting.{gate_at, phase_at, vertex_at, place_number}
use Rattle.teleport_circuits.proofs.Teleporting.{phase_at-low}
use Rattle.phase_groups.specs.Groups.{Phases, AreNone, IsAdded}
use Rattle.phase_groups.proofs.Agreeing.{agrees-none, agrees-spots, agrees-gate, agrees-step, added-count, followed-count}
use Rattle.growing_laws.specs.Growth.{Reaches, graph_of_gates}
use Rattle.growing_laws.specs.Internal.Holding.{LivesIn, run_spot, reached_spot}
use Rattle.growing_laws.proofs.SpotsReached.{ReachesOn, ReachesBehind, IsAtOutput}
use Rattle.zx_reduce.specs.Internal.Growing.{Held, held_of, MayBeHeld}
use Rattle.zx_reduce.specs.Internal.Progress.{AreFollowed, AreAdded}

-- ---- a step
pub held_on : (held : Held) (g h : Graph) (r : Reaches g h) (s : Step) (k : Graph) → WellFormed h → IsStep h s k → (on : ReachesOn g h r s k) (a b : Option Phases) → AreFollowed h s a b →
    MayBeHeld held g h r a → MayBeHeld held g k on.reaches b
held_on held g h r s k w c on None b followed m = subst (MayBeHeld held g k on.reaches) (sym followed) m
held_on held g h r s k w c on (Some p) None followed m = absurd followed
held_on held g h r s k w c on (Some p) (Some q) followed m = record {
  below = m.below;
  count = followed-count h s p q followed ∙ m.count;
  live = λ i there. on.moves.lives (held.vertex_of i) (m.live i there);
  agrees = agrees-spots held.phase m.below held.gates (λ i. moved 0 h s (later_spot (reached_spot g h r (held.vertex_of i)))) (λ i. reached_spot g k on.reaches (held.vertex_of i)) q
      (λ i there. on.moves.spots (held.vertex_of i) (m.live i there))
      (agrees-step held.phase m.below held.gates (λ i. reached_spot g h r (held.vertex_of i)) p q h k s w c m.agrees followed);
}

-- ---- a gate
pub held_behind : (held : Held) (g h : Graph) (r : Reaches g h) (g' h' : Graph) (behind : ReachesBehind g h r g' h') (a : Option Phases) →
    MayBeHeld held g h r a → MayBeHeld held g' h' behind.reaches a
held_behind held g h r g' h' behind None m = m
held_behind held g h r g' h' behind (Some p) m = record {
  below = m.below;
  count = m.count;
  live = λ i there. behind.keeps.lives (held.vertex_of i) (m.live i there);
  agrees = agrees-spots held.phase m.below held.gates (λ i. reached_spot g h r (held.vertex_of i)) (λ i. reached_spot g' h' behind.reaches (held.vertex_of i)) p
      (λ i there. behind.keeps.spots (held.vertex_of i) (m.live i there)) m.agrees;
}

-- ---- a gate whose phase is held
-- held with one gate more
abbrev one_held : Held → ℕ → Held
one_held held i = record held { gates = held.gates ++ i ∷ [] }

-- what is said of all of some gates and of one more is said of them all
of_more : {P : ℕ → Type 0} (gates : List ℕ) (i : ℕ) → ((j : ℕ) → member j gates ≡ true → P j) → P i → (j : ℕ) → member j (gates ++ i ∷ []) ≡ true → P j
of_more {P} gates i all one j there =
    by_test (member j gates) (λ t. all j t)
    (λ f. subst P (sym (eqb-true j i (last (eqb j i) (ap (λ b. b || (eqb j i || false)) (sym f) ∙ sym (member-append j gates (i ∷ [])) ∙ there)))) one)
  where
    last : (b : Bool) → (b || false) ≡ true → b ≡ true
    last true t = refl
    last false t = t

pub held_more : (held : Held) (g h : Graph) (r : Reaches g h) (i n k : ℕ) → IsAtOutput g h r n → held.vertex_of i ≡ last_spider g n → held.phase i ≡ k → i < held.count →
    ((j : ℕ) → member j held.gates ≡ true → j < i) → (a b : Option Phases) → AreAdded i (last_spider h n) k a b → MayBeHeld held g h r a → MayBeHeld (one_held held i) g h r b
held_more held g h r i n k out vertex phase room behind None b added m = subst (MayBeHeld (one_held held i) g h r) (sym added) m
held_more held g h r i n k out vertex phase room behind (Some p) None added m = absurd added
held_more held g h r i n k out vertex phase room behind (Some p) (Some q) added m = record {
  below = m.below;
  count = added-count i (last_spider h n) k p q added ∙ m.count;
  live = of_more held.gates i m.live (subst (λ v. Lives v) (sym vertex) out.lives);
  agrees = agrees-gate held.phase m.below held.gates (λ j. reached_spot g h r (held.vertex_of j)) p q i (last_spider h n) m.agrees behind
      (let all = m.count in omega (arith, room, all)) (ap (reached_spot g h r) vertex ∙ out.spot) (subst (λ j. IsAdded i (last_spider h n) j p q) (sym phase) added);
}
  where
    Lives : ℕ → Type 0
    Lives v = LivesIn r.graph (run_spot g h r v).holder

-- ---- the gates of a circuit, one after the other
range_more : (a n j : ℕ) → a + n ≡ j → range_with_len a (suc n) ≡ range_with_len a n ++ j ∷ []
range_more a zero j is = ap (λ x. x ∷ []) (at a j is)
  where
    at : (a j : ℕ) → a + 0 ≡ j → a ≡ j
    at a j is = omega (arith, is)
range_more a (suc n) j is = ap (λ xs. a ∷ xs) (range_more (a + 1) n j (index a n j is))
  where
    index : (a n j : ℕ) → a + suc n ≡ j → (a + 1) + n ≡ j
    index a n j is = omega (arith, is)

range_below : (a n v : ℕ) → member v (range_with_len a n) ≡ true → v < a + n
range_below a zero v inside = absurd (true≢false (sym inside))
range_below a (suc n) v inside =
    by_equal v a
    (λ t e. omega arith)
    (λ f other.
    let rest = range_below (a + 1) n v (ap (λ b. b || member v (range_with_len (a + 1) n)) (sym f) ∙ inside) in
    omega (arith, rest))

module _ (pick : ℕ → Bool) (n : ℕ) where
  picked-more : filter pick (range_with_len 0 (n + 1)) ≡ filter pick (range_with_len 0 n) ++ filter pick (n ∷ [])
  picked-more = ap (λ m. filter pick (range_with_len 0 m)) (add-one n) ∙ ap (filter pick) (range_more 0 n n (omega arith)) ∙ filter-append pick (range_with_len 0 n) (n ∷ [])

  pub picked-one : pick n ≡ true → filter pick (range_with_len 0 (n + 1)) ≡ filter pick (range_with_len 0 n) ++ n ∷ []
  picked-one odd = picked-more ∙ ap (λ b. filter pick (range_with_len 0 n) ++ cond b (n ∷ []) []) odd

  pub picked-none : pick n ≡ false → filter pick (range_with_len 0 (n + 1)) ≡ filter pick (range_with_len 0 n)
  picked-none even = picked-more ∙ ap (λ b. filter pick (range_with_len 0 n) ++ cond b (n ∷ []) []) even ∙ append-nil (filter pick (range_with_len 0 n))

  pub picked-below : (j : ℕ) → member j (filter pick (range_with_len 0 n)) ≡ true → j < n
  picked-below j there =
      let low = range_below 0 n j (and-left (member j (range_with_len 0 n)) (pick j) (sym (member-filter pick (range_with_len 0 n) j) ∙ there)) in omega (arith, low)

-- the place of a gate is where it comes
places_at : (g : Graph) (gates : List Gate) (i : ℕ) (gate : Gate) → i < length gates → gate ≡ get_or gates i (H 0) →
    get_or (places_from g gates) i None ≡ phase_vertex (fold with_gate g (written_out (take i gates))) gate
places_at g [] i gate within is = absurd (omega (arith, within))
places_at g (first ∷ gates) zero gate within is = ap (phase_vertex g) (sym is)
places_at g (first ∷ gates) (suc i) gate within is =
    places_at (fold with_gate g (by_hadamards first)) gates i gate (omega (arith, within)) is
    ∙ ap (λ h. phase_vertex h gate) (sym (fold-append with_gate g (by_hadamards first) (written_out (take i gates))))

pub place_here : (c : Circuit) (i q k : ℕ) → i < length c.gates → gate_at c i ≡ Phase q k →
    get_or (places c) i None ≡ Some (last_spider (graph_of_gates c.qubits (written_out (take i c.gates) ++ Phase q k ∷ [])) q)
place_here c i q k within is =
    places_at (wires c.qubits) c.gates i (Phase q k) within (sym is)
    ∙ ap (λ g. Some (last_spider g q)) (sym (fold-append with_gate (wires c.qubits) (written_out (take i c.gates)) (Phase q k ∷ [])))

pub vertex_here : (c : Circuit) (i q k : ℕ) → i < length c.gates → gate_at c i ≡ Phase q k → vertex_at c i ≡ last_spider (graph_of_gates c.qubits (written_out (take i c.gates) ++ Phase q k ∷ [])) q
vertex_here c i q k within is = ap place_number (place_here c i q k within is)

-- no gate yet
pub held_none : (c : Circuit) → IsCircuit c → (g h : Graph) (r : Reaches g h) (p : Phases) → AreNone (length c.gates) p → MayBeHeld (held_of c 0) g h r (Some p)
held_none c formed g h r p none = record {
  below = phase_at-low c formed;
  count = none.count;
  live = λ i there. absurd (true≢false (sym there));
  agrees = agrees-none (phase_at c) (λ i. reached_spot g h r (vertex_at c i)) p none.groups none.none;
}

-- the next gate, of an odd phase
pub held_next : (c : Circuit) (g h : Graph) (r : Reaches g h) (i n k : ℕ) → i < length c.gates → gate_at c i ≡ Phase n k → is_odd k ≡ true →
    IsAtOutput g h r n → vertex_at c i ≡ last_spider g n → (a b : Option Phases) → AreAdded i (last_spider h n) k a b →
    MayBeHeld (held_of c i) g h r a → MayBeHeld (held_of c (i + 1)) g h r b
held_next c g h r i n k within is odd out vertex a b added m =
    subst (λ gates. MayBeHeld (record (held_of c i) { gates = gates }) g h r b) (sym (picked-one (λ j. is_odd_phase (gate_at c j)) i (ap is_odd_phase is ∙ odd)))
    (held_more (held_of c i) g h r i n k out vertex (ap phase_in is) within (picked-below (λ j. is_odd_phase (gate_at c j)) i) a b added m)
