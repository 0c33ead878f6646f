-- The phases that gates get once no move is left, from the gates of a circuit on.
use Rattle.std.proofs.Common.{◌≡◌, ◌⊎◌, inl, inr, refl, sym, ◌∙◌, ap, subst, ℕ, zero, suc, ◌+◌, ◌<◌, true, false, List, [], ◌∷◌, ◌++◌, length, take, get_or, add-one, true≢false, arith}
use Rattle.std.proofs.Math.Seq.{take-suc, take-length}
use Rattle.std.proofs.lemmas.List.{flat_map_more}
use Rattle.std.specs.Prelude.{Option, None, Some, is_some}
use Rattle.zx_model.specs.Phase.{is_odd}
use Rattle.zx_calculus.specs.Graph.{Graph, WellFormed}
use Rattle.zx_gates.specs.Circuit.{Circuit, IsCircuit, is_odd_phase}
use Rattle.zx_gates.specs.declared.gate.Gate.{Gate}
use Rattle.zx_gates.specs.declared.gate.Gate.TheVariants.{H, Phase, Cz, Cx, Not}
use Rattle.circuit_laws.specs.Peeling.{HasPlainOutput}
use Rattle.circuit_graph.specs.Translation.{written_out, by_hadamards, translated}
use Rattle.circuit_graph.proofs.Graphs.{last_spider_is}
use Rattle.teleport_circuits.specs.Teleporting.{gate_at, phase_at, vertex_at, odd_gates}
use Rattle.phase_groups.specs.Groups.{Phases, AreNone}
use Rattle.graph_rewrites.specs.Steps.{step_named}
use Rattle.graph_rewrites.specs.declared.step.Step.{Step}
use Rattle.growing_laws.specs.Growth.{Reaches, graph_of_gates}
use Rattle.growing_laws.proofs.GrownGraphs.{base_growing, reached_reduced}
use Rattle.growing_laws.proofs.SpotsReached.{ReachesOn, reached_step, reached_output, teleported-named}
use Rattle.zx_moves.proofs.MoveEnds.{stuck-reduced}
use Rattle.zx_reduce.specs.Grouped.{GroupsTo}
use Rattle.zx_reduce.specs.Internal.Growing.{IsGrown, Gains, GainsNumbered, Held, none_held, held_of, AreHeld, MayBeHeld}
use Rattle.zx_reduce.specs.Internal.Ordering.{IsOrdered}
use Rattle.zx_reduce.specs.Internal.Progress.{Progress, AreDone, AreAdded, Notes, Completes}
use Rattle.zx_reduce.proofs.Completing.{completed_ordered}
use Rattle.zx_reduce.proofs.Holdings.{held_on, held_none, held_next, vertex_here, picked-none}

-- the same graph, where other phases are held
held_instead : (n : ℕ) (gates : List Gate) (before after : Held) (p : Progress) (phases : Option Phases) (grown : IsGrown n gates before p) →
    MayBeHeld after (graph_of_gates n gates) p.ordered.graph grown.comes.reaches phases → IsGrown n gates after (record p { phases = phases })
held_instead n gates before after p phases grown held = record {
  on_qubits = grown.on_qubits;
  comes = grown.comes;
  ordered = grown.ordered;
  sum = grown.sum;
  inputs = grown.inputs;
  outputs = grown.outputs;
  takes_gates = grown.takes_gates;
  few = grown.few;
  phases = held;
}

-- ---- it is asked for phases
pub asked : (c : Circuit) (p q : Progress) (none : Phases) → IsCircuit c → IsGrown c.qubits [] none_held p → AreNone (length c.gates) none → q ≡ record p { phases = Some none } →
    IsGrown c.qubits [] (held_of c 0) q
asked c p q none formed grown are is =
    subst (IsGrown c.qubits [] (held_of c 0)) (sym is)
    (held_instead c.qubits [] none_held (held_of c 0) p (Some none) grown (held_none c formed (graph_of_gates c.qubits []) p.ordered.graph grown.comes.reaches none are))

-- ---- the next gate
-- the gates are at the same place whatever stands behind the end
pub any_end : (gates : List Gate) (i : ℕ) (one other : Gate) → i < length gates → get_or gates i one ≡ get_or gates i other
any_end [] i one other within = absurd (omega (arith, within))
any_end (gate ∷ gates) zero one other within = refl
any_end (gate ∷ gates) (suc i) one other within = any_end gates i one other (omega (arith, within))

-- what is noted in a struct that holds what is seen of it
pub note_inside : (inside before : Progress) (is : inside ≡ before) (i n k v : ℕ) (after : Option Phases) → HasPlainOutput inside.ordered.graph n v → AreAdded i v k inside.phases after →
    Notes i n k before (record inside { phases = after })
note_inside inside before is i n k v after output added =
    subst (λ (p : Progress). Notes i n k p (record inside { phases = after })) is
    (record { same = refl; phases = subst (λ u. AreAdded i u k inside.phases after) (sym (last_spider_is inside.ordered.graph.outputs n v output)) added })

module _ (c : Circuit) (i : ℕ) where
  -- its phase is odd, and is held
  noted : (n k : ℕ) (p q : Progress) → i < length c.gates → gate_at c i ≡ Phase n k → is_odd k ≡ true → n < length p.ordered.graph.outputs → Notes i n k p q →
      IsGrown c.qubits (written_out (take i c.gates) ++ Phase n k ∷ []) (held_of c i) p → IsGrown c.qubits (written_out (take i c.gates) ++ Phase n k ∷ []) (held_of c (i + 1)) q
  noted n k p q within is odd on notes grown =
      let gates : List Gate = written_out (take i c.gates) ++ Phase n k ∷ [] in
      subst (IsGrown c.qubits gates (held_of c (i + 1))) (sym notes.same)
      (held_instead c.qubits gates (held_of c i) (held_of c (i + 1)) p q.phases grown
      (held_next c (graph_of_gates c.qubits gates) p.ordered.graph grown.comes.reaches i n k within is odd
      (reached_output (graph_of_gates c.qubits gates) p.ordered.graph (base_growing c.qubits gates grown.on_qubits).well_formed
      grown.comes.reaches grown.comes.no_split n (let same = grown.outputs in omega (arith, same, on)))
      (vertex_here c i n k within is) p.phases q.phases notes.phases grown.phases))

  -- it is even
  passed : (gates : List Gate) (p : Progress) → is_odd_phase (gate_at c i) ≡ false → IsGrown c.qubits gates (held_of c i) p → IsGrown c.qubits gates (held_of c (i + 1)) p
  passed gates p even grown =
      subst (λ picked. IsGrown c.qubits gates (record (held_of c i) { gates = picked }) p) (sym (picked-none (λ j. is_odd_phase (gate_at c j)) i even)) grown

  next_gates : (gate : Gate) → i < length c.gates → gate ≡ gate_at c i → written_out (take (i + 1) c.gates) ≡ written_out (take i c.gates) ++ by_hadamards gate
  next_gates gate within is =
      ap written_out (rw add-one (take-suc c.gates i gate within ∙ ap (λ g. take i c.gates ++ g ∷ []) (any_end c.gates i gate (H 0) within ∙ sym is)))
      ∙ sym (flat_map_more by_hadamards [] (take i c.gates) gate)

pub numbered_odd : (i n k : ℕ) (a b e : Progress) → is_odd k ≡ true → n < length b.ordered.graph.outputs → Gains (Phase n k ∷ []) a b → Notes i n k b e → GainsNumbered i (Phase n k) a e
numbered_odd i n k a b e odd on gains notes c within is grown =
    subst (λ gates. IsGrown c.qubits gates (held_of c (i + 1)) e) (sym (next_gates c i (Phase n k) within is))
    (noted c i n k b e within (sym is) odd on notes (gains c.qubits (written_out (take i c.gates)) (held_of c i) grown))

-- gates that have no phase
pub others_even : (gate : Gate) →
    ((x : ℕ) × (gate ≡ H x)) ⊎ (((x : ℕ) × (y : ℕ) × (gate ≡ Cz x y)) ⊎ (((x : ℕ) × (y : ℕ) × (gate ≡ Cx x y)) ⊎ ((x : ℕ) × (gate ≡ Not x)))) → is_odd_phase gate ≡ false
others_even gate (inl h) = ap is_odd_phase h.1
others_even gate (inr (inl h)) = ap is_odd_phase h.2
others_even gate (inr (inr (inl h))) = ap is_odd_phase h.2
others_even gate (inr (inr (inr h))) = ap is_odd_phase h.1

pub numbered_even : (i : ℕ) (gate : Gate) (a b : Progress) → is_odd_phase gate ≡ false → Gains (by_hadamards gate) a b → GainsNumbered i gate a b
numbered_even i gate a b even gains c within is grown =
    subst (λ gates. IsGrown c.qubits gates (held_of c (i + 1)) b) (sym (next_gates c i gate within is))
    (passed c i (written_out (take i c.gates) ++ by_hadamards gate) b (ap is_odd_phase (sym is) ∙ even) (gains c.qubits (written_out (take i c.gates)) (held_of c i) grown))

-- all gates are there
pub all_gates : (c : Circuit) (i : ℕ) (p : Progress) → i ≡ length c.gates → IsGrown c.qubits (written_out (take i c.gates)) (held_of c i) p →
    IsGrown c.qubits (written_out c.gates) (held_of c (length c.gates)) p
all_gates c i p all grown =
    subst (λ gates. IsGrown c.qubits (written_out gates) (held_of c (length c.gates)) p) (ap (λ n. take n c.gates) all ∙ take-length c.gates)
    (subst (λ n. IsGrown c.qubits (written_out (take i c.gates)) (held_of c n) p) all grown)

-- ---- once no gate comes any more
-- steps, also splits
record AreReached (held : Held) (g : Graph) (q : Progress) : Type 0 where
  reaches : Reaches g q.ordered.graph
  phases : MayBeHeld held g q.ordered.graph reaches q.phases

all_held : (held : Held) (g : Graph) → WellFormed g → (p : Progress) (steps : List Step) (q : Progress) → AreDone p steps q → IsOrdered p.ordered →
    (r : Reaches g p.ordered.graph) → MayBeHeld held g p.ordered.graph r p.phases → AreReached held g q
all_held held g w p [] q same ordered r m = subst (AreReached held g) same (record { reaches = r; phases = m })
all_held held g w p (s ∷ steps) q done ordered r m =
    let one = done.1 in
    let k = done.0 in
    let on : ReachesOn g p.ordered.graph r (step_named s) k.ordered.graph = reached_step g p.ordered.graph w ordered.well_formed r (step_named s) k.ordered.graph one.step in
    all_held held g w k steps q done.2 (one.ordered ordered) on.reaches
    (held_on held g p.ordered.graph r (step_named s) k.ordered.graph ordered.well_formed one.step on p.phases k.phases one.phases m)

module _ (c : Circuit) (p : Progress) (grown : IsGrown c.qubits (written_out c.gates) (held_of c (length c.gates)) p) where
  whole : WellFormed (translated c)
  whole = (base_growing c.qubits (written_out c.gates) grown.on_qubits).well_formed

  module _ (q : Progress) (done : Completes p q) where
    at_end : AreReached (held_of c (length c.gates)) (translated c) q
    at_end = all_held (held_of c (length c.gates)) (translated c) whole (record p { takes_gates = false }) done.steps q done.done grown.ordered grown.comes.reaches grown.phases

    -- there are phases, as it is asked for them
    some_held : (g h : Graph) (r : Reaches g h) (phases : Option Phases) → MayBeHeld (held_of c (length c.gates)) g h r phases → is_some phases ≡ true
    some_held g h r None m = absurd (true≢false m)
    some_held g h r (Some x) m = refl

    pub are_some : is_some q.phases ≡ true
    are_some = some_held (translated c) q.ordered.graph at_end.reaches q.phases at_end.phases

    groups_held : (x : Phases) → AreHeld (held_of c (length c.gates)) (translated c) q.ordered.graph at_end.reaches x → GroupsTo c x
    groups_held x m =
        let r = at_end.reaches in
        let ordered = completed_ordered p q done grown.ordered in
        record {
          steps = r.steps;
          graph = r.graph;
          run = r.run;
          reduced = reached_reduced (translated c) q.ordered.graph whole ordered.well_formed r
              (stuck-reduced q.ordered.graph ordered.flow.flow.table ordered.well_formed ordered.flow.flow.flow done.stuck);
          phases = λ i there. m.agrees.phases i there
              ∙ teleported-named (translated c) q.ordered.graph whole ordered.well_formed r (phase_at c) (vertex_at c) (odd_gates c) i m.below m.live there;
        }

    pub grouped : (x : Phases) → q.phases ≡ Some x → GroupsTo c x
    grouped x is = groups_held x (subst (MayBeHeld (held_of c (length c.gates)) (translated c) q.ordered.graph at_end.reaches) is at_end.phases)
