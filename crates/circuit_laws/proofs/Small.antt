-- The worked graphs.
use Rattle.std.proofs.Common.{◌≡◌, sym, ◌∙◌, ap, ap₂, refl, ℕ, Bool, true, false, cond, ◌&&◌, ◌||◌, eqb, ltb, ne_eqb, List, [], ◌∷◌, ◌<◌, lt-ltb, arith}
use Rattle.zx_model.specs.Phase.{turn, eighth_turn}
use Rattle.zx_model.specs.Bits.{xor, member}
use Rattle.zx_model.specs.Cyclotomic.{add_cyclotomic, mul_cyclotomic, neg_cyclotomic}
use Rattle.zx_model.specs.Number.{zero, one, add, mul, neg, root_power}
use Rattle.zx_model.specs.Proportional.{Proportional}
use Rattle.zx_model.proofs.Ring.{one_nonzero, mul-zero, two_nonzero}
use Rattle.std.specs.List.{list_all}
use Rattle.zx_calculus.specs.Graph.{XY, Vertex, Edge, End, Graph, ids, joined, joins, kind_of, is_XY, end_vertices, in_order, different, edge_before, WellFormed, OrderedEdges, OrderedEnds}
use Rattle.zx_calculus.specs.Turns.{in_plane}
use Rattle.zx_calculus.specs.Sum.{graph_sum}
use Rattle.zx_calculus.specs.Worked.{edge}
use Rattle.zx_calculus.proofs.Booleans.{or-false, and_comm, and-true, and-false, xor_comm}
use Rattle.zx_calculus.proofs.Ids.{eqb_comm, and-left, and-right}
use Rattle.zx_calculus.proofs.Pairs.{not_both}
use Rattle.zx_calculus.proofs.Edges.{joins-xor, joined-xor}
use Rattle.zx_gates.specs.Maps.{act, amp}
use Rattle.zx_gates.specs.declared.gate.Gate.TheVariants.{H, Phase, Cz, Cx}
use Rattle.zx_gates.proofs.WorkedLemmas.{two_qubit_entries}
use Rattle.circuit_laws.specs.Followed.{followed, Peels, Ends}
use Rattle.gflow_laws.specs.Outputs.{row_added}
use Rattle.circuit_laws.specs.Peeling.{IsMarkPeel, IsEdgePeel, IsGadgetPeel, IsLinkedGadgetPeel, IsExchange, IsAdvance, IsRowAddition, IsWires}
use Rattle.circuit_laws.specs.Gates.{exchange_gates, linked_gadget_gates}
use Rattle.circuit_laws.specs.Worked.{bell_pair, bell_unmarked, bell_wires, wires_with_gadget, two_wires, before_addition, after_addition, crossing, linked_gadget, unlinked, advanced_wires}
use Rattle.circuit_laws.proofs.Composing.{peels_end, ends_proportional}
use Rattle.circuit_laws.proofs.Keeping.{mark_formed_back, edge_formed_back, row_formed_back, gadget_formed_back, linked_gadget_formed_back}
use Rattle.circuit_laws.proofs.Settling.{mark_peels, edge_peels}
use Rattle.circuit_laws.proofs.Wires.{wires_end}
use Rattle.circuit_laws.proofs.Taken.{advanced, advanced_formed}
use Rattle.circuit_laws.proofs.Advancing.{spider_peels}
use Rattle.circuit_laws.proofs.Gadgets.{gadget_peels, linked_gadget_peels}
use Rattle.circuit_laws.proofs.Rows.{row_peels}

-- ---- graphs whose form is tested
abbrev ends_pass : List Vertex → List End → Bool
ends_pass vs ends =
    in_order different (end_vertices ends)
    && (list_all (λ u. member u (ids vs)) (end_vertices ends) && list_all (λ u. is_XY (kind_of vs u).plane) (end_vertices ends))

ends_by_tests : (vs : List Vertex) (ends : List End) → ends_pass vs ends ≡ true → OrderedEnds vs ends
ends_by_tests vs ends h = record { one_each = and-left _ _ h; there = and-left _ _ (and-right _ _ h); at_XY = and-right _ _ (and-right _ _ h) }

abbrev edges_pass : List ℕ → List Edge → Bool
edges_pass vs es =
    (list_all (λ e. ltb e.lower e.higher) es && in_order edge_before es)
    && (list_all (λ e. member e.lower vs) es && list_all (λ e. member e.higher vs) es)

edges_by_tests : (vs : List ℕ) (es : List Edge) → edges_pass vs es ≡ true → OrderedEdges vs es
edges_by_tests vs es h = record {
  lower_first = and-left _ _ (and-left _ _ h);
  rising = and-right _ _ (and-left _ _ h);
  lower_there = and-left _ _ (and-right _ _ h);
  higher_there = and-right _ _ (and-right _ _ h);
}

abbrev passes : Graph → Bool
passes g =
    (in_order ltb (ids g.vertices) && edges_pass (ids g.vertices) g.edges)
    && (ends_pass g.vertices g.inputs && ends_pass g.vertices g.outputs)

by_tests : (g : Graph) → list_all (λ v. ltb v.kind.phase turn) g.vertices ≡ true → passes g ≡ true → WellFormed g
by_tests g phases h = record {
  vertices_rising = and-left _ _ (and-left _ _ h);
  phases_below_a_turn = phases;
  edges = edges_by_tests (ids g.vertices) g.edges (and-right _ _ (and-left _ _ h));
  inputs = ends_by_tests g.vertices g.inputs (and-left _ _ (and-right _ _ h));
  outputs = ends_by_tests g.vertices g.outputs (and-right _ _ (and-right _ _ h));
}

-- two vertices of phase 0
no_phase : (a b : Bool) → (cond a (in_plane XY 0) (cond b (in_plane XY 0) (in_plane XY 0))).phase ≡ 0
no_phase true b = refl
no_phase false true = refl
no_phase false false = refl

-- ---- the Bell pair
pub bell_entries : Proportional 2 2 (graph_sum bell_pair) (amp (H 0 ∷ Cx 0 1 ∷ []))
unfolding add mul neg root_power add_cyclotomic mul_cyclotomic neg_cyclotomic
bell_entries =
    two_qubit_entries one (add one one) one_nonzero two_nonzero (graph_sum bell_pair) (amp (H 0 ∷ Cx 0 1 ∷ []))
    ((refl, refl, refl, refl), (refl, refl, refl, refl), (refl, refl, refl, refl), (refl, refl, refl, refl))

bell_formed : WellFormed bell_pair
bell_formed = by_tests bell_pair refl refl

pub bell_mark : IsMarkPeel bell_pair 1 bell_unmarked
bell_mark = record { vertex = 1; output = refl; vertices = refl; edges = refl; inputs = refl; outputs = refl }

unmarked_formed : WellFormed bell_unmarked
unmarked_formed = mark_formed_back bell_pair 1 bell_unmarked bell_formed bell_mark

no_edges_ordered : (ids : List ℕ) → OrderedEdges ids []
no_edges_ordered ids = record { lower_first = refl; rising = refl; lower_there = refl; higher_there = refl }

pub bell_edge : IsEdgePeel bell_unmarked 0 1 bell_wires
bell_edge = record {
  first = 0;
  second = 1;
  different = λ e. absurd (omega arith);
  output = refl;
  output_too = refl;
  vertices = refl;
  ordered_too = no_edges_ordered (0 ∷ 1 ∷ []);
  edges = λ p q n. or-false _ ∙ ap (λ b. (eqb p 0 && eqb q 1) || b) (and_comm (eqb q 0) (eqb p 1));
  frame = record { ordered = bell_formed.edges; inputs = refl; outputs = refl };
}

wires_formed : WellFormed bell_wires
wires_formed = edge_formed_back bell_unmarked 0 1 bell_wires unmarked_formed bell_edge

pub bell_wires_left : IsWires bell_wires
bell_wires_left = record {
  phase = λ u t. no_phase (eqb u 0) (eqb u 1);
  output = λ u t. t;
  in_line = refl;
  plain_outputs = refl;
  no_edges = λ p q. refl;
}

pub bell_gates : Ends bell_pair (H 0 ∷ H 1 ∷ Cz 0 1 ∷ H 1 ∷ [])
bell_gates =
    peels_end bell_pair bell_unmarked (H 0 ∷ H 1 ∷ Cz 0 1 ∷ []) (H 1 ∷ []) (mark_peels bell_pair 1 bell_unmarked bell_formed unmarked_formed bell_mark).0
    (peels_end bell_unmarked bell_wires (H 0 ∷ H 1 ∷ []) (Cz 0 1 ∷ []) (edge_peels bell_unmarked 0 1 bell_wires unmarked_formed wires_formed bell_edge).0 (wires_end bell_wires wires_formed bell_wires_left).0)

-- ---- a gadget
pub gadget_of_two : (k : ℕ) → IsGadgetPeel (wires_with_gadget k) 2 (0 ∷ 1 ∷ []) two_wires
gadget_of_two k = record {
  legs = 0 ∷ 1 ∷ [];
  plane = refl;
  once = (refl, (refl, tt));
  at_outputs = (refl, (refl, tt));
  neighbours = λ p. ap₂ (λ a b. a || (b || false)) (and-true (eqb p 0)) (and-true (eqb p 1));
  removal = record {
    vertices = refl;
    edges = λ p q m n. sym (ap₂ (λ a b. ((eqb p 0 && b) || (eqb q 0 && a)) || (((eqb p 1 && b) || (eqb q 1 && a)) || false)) (ne_eqb p 2 m) (ne_eqb q 2 n) ∙ none (eqb p 0) (eqb q 0) (eqb p 1) (eqb q 1));
    frame = record { ordered = no_edges_ordered (0 ∷ 1 ∷ []); inputs = refl; outputs = refl };
  };
}
  where
    none : (a b c d : Bool) → (((a && false) || (b && false)) || (((c && false) || (d && false)) || false)) ≡ false
    none a b c d = simp and-false

pub gadget_entries : Proportional 2 2 (graph_sum (wires_with_gadget eighth_turn)) (amp (Cx 1 0 ∷ Phase 0 eighth_turn ∷ Cx 1 0 ∷ []))
gadget_entries =
    ends_proportional wires (Cx 1 0 ∷ Phase 0 eighth_turn ∷ Cx 1 0 ∷ [])
    (peels_end wires two_wires [] (Cx 1 0 ∷ Phase 0 eighth_turn ∷ Cx 1 0 ∷ [])
    (gadget_peels wires 2 (0 ∷ 1 ∷ []) two_wires formed left_formed (gadget_of_two eighth_turn)).0
    (wires_end two_wires left_formed are_wires).0)
  where
    wires : Graph
    wires = wires_with_gadget eighth_turn

    formed : WellFormed wires
    formed = by_tests wires refl refl

    left_formed : WellFormed two_wires
    left_formed = gadget_formed_back wires 2 (0 ∷ 1 ∷ []) two_wires formed (gadget_of_two eighth_turn)

    are_wires : IsWires two_wires
    are_wires = record {
      phase = λ u t. no_phase (eqb u 0) (eqb u 1);
      output = λ u t. t;
      in_line = refl;
      plain_outputs = refl;
      no_edges = λ p q. refl;
    }

-- ---- an added row
before_formed : WellFormed before_addition
before_formed = by_tests before_addition refl refl

pub row_is_added : IsRowAddition before_addition 1 0 after_addition
row_is_added = record {
  added = 1;
  to = 0;
  different = λ e. absurd (omega arith);
  output = refl;
  output_too = refl;
  phase = refl;
  no_input = refl;
  not_adjacent = refl;
  vertices = refl;
  ordered_too = record { lower_first = refl; rising = refl; lower_there = refl; higher_there = refl };
  edges = λ p q n. edges p q;
  frame = record { ordered = before_formed.edges; inputs = refl; outputs = refl };
}
  where
    row_of_one : (q : ℕ) → joined before_addition.edges 1 q ≡ eqb q 2
    row_of_one q = or-false _ ∙ ap (λ b. eqb q 2 || b) (and_comm (eqb q 1) false) ∙ or-false (eqb q 2)

    edges : (p q : ℕ) → joined after_addition.edges p q ≡ row_added (joined before_addition.edges) 1 0 p q
    edges p q =
        joined-xor (edge 0 2) (edge 1 2 ∷ []) p q (omega arith) refl refl
        ∙ xor_comm (joins (edge 0 2) p q) (joined before_addition.edges p q)
        ∙ ap (xor (joined before_addition.edges p q))
        (joins-xor (edge 0 2) p q (omega arith)
        ∙ ap₂ (λ a b. xor (a && eqb q 2) (eqb p 2 && b)) (eqb_comm p 0) (eqb_comm q 0)
        ∙ ap₂ (λ a b. xor (eqb 0 p && a) (b && eqb 0 q)) (sym (row_of_one q)) (sym (row_of_one p)))

pub row_gate : Peels before_addition (Cx 0 1 ∷ []) after_addition
row_gate = (row_peels before_addition 1 0 after_addition before_formed (row_formed_back before_addition 1 0 after_addition before_formed row_is_added) row_is_added).0

-- at the input 00 and the output 01
entry_before : followed before_addition (λ z. amp [] z (false ∷ true ∷ [])) (false ∷ false ∷ []) ≡ one
unfolding add mul neg root_power add_cyclotomic mul_cyclotomic neg_cyclotomic
entry_before = refl

entry_after : followed after_addition (act (Cx 1 0) (λ z. amp [] z (false ∷ true ∷ []))) (false ∷ false ∷ []) ≡ zero
unfolding add mul neg root_power add_cyclotomic mul_cyclotomic neg_cyclotomic
entry_after = refl

pub not_reversed : Peels before_addition (Cx 1 0 ∷ []) after_addition → ⊥
not_reversed p = one_nonzero (sym entry_before ∙ p.equal (λ z. amp [] z (false ∷ true ∷ [])) (false ∷ false ∷ []) ∙ ap (mul p.cost) entry_after ∙ mul-zero p.cost)

-- ---- an exchange
pub crossing_entries : Proportional 2 2 (graph_sum crossing) (amp (exchange_gates 0 1))
unfolding add mul neg root_power add_cyclotomic mul_cyclotomic neg_cyclotomic
crossing_entries =
    two_qubit_entries one one one_nonzero one_nonzero (graph_sum crossing) (amp (exchange_gates 0 1))
    ((refl, refl, refl, refl), (refl, refl, refl, refl), (refl, refl, refl, refl), (refl, refl, refl, refl))

pub crossing_exchanged : IsExchange crossing 0 1 two_wires
crossing_exchanged = record {
  first = 1;
  second = 0;
  different = λ e. absurd (omega arith);
  output = refl;
  output_too = refl;
  vertices = refl;
  edges = refl;
  inputs = refl;
  outputs = refl;
}

-- ---- a gadget through an output
pub gadget_linked : (k : ℕ) → IsLinkedGadgetPeel (linked_gadget k) 3 0 (1 ∷ []) unlinked
gadget_linked k = record {
  link = 0;
  legs = 1 ∷ [];
  plane = refl;
  output = refl;
  phase = refl;
  no_input = refl;
  once = (refl, (refl, tt));
  at_outputs = (refl, tt);
  neighbours = λ p. leg_or_row (eqb p 0) (eqb p 1) (eqb p 2) (not_both 1 2 (λ e. absurd (omega arith)) p);
  removal = record {
    vertices = refl;
    edges = λ p q m n.
        sym (ap₂ (λ a b. joins (edge 0 2) p q || (((eqb p 1 && b) || (eqb q 1 && a)) || (((eqb p 2 && b) || (eqb q 2 && a)) || false))) (ne_eqb p 3 m) (ne_eqb q 3 n)
        ∙ ap (λ b. joins (edge 0 2) p q || b) (gone (eqb p 1) (eqb q 1) (eqb p 2) (eqb q 2)));
    frame = record {
      ordered = record { lower_first = refl; rising = refl; lower_there = refl; higher_there = refl };
      inputs = refl;
      outputs = refl;
    };
  };
}
  where
    leg_or_row : (a b c : Bool) → (b && c) ≡ false →
        ((a && false) || ((b && true) || ((c && true) || false))) ≡ xor ((c || (a && false)) || ((b && false) || ((c && false) || false))) (b || false)
    leg_or_row a true true h = cc
    leg_or_row a true false h = simp and-false
    leg_or_row a false true h = simp and-false
    leg_or_row a false false h = simp and-false

    gone : (a b c d : Bool) → (((a && false) || (b && false)) || (((c && false) || (d && false)) || false)) ≡ false
    gone a b c d = simp and-false

pub advance_over : IsAdvance unlinked 0 advanced_wires
advance_over = record {
  spider = 0;
  next = 2;
  output = refl;
  phase = refl;
  only_neighbour = λ p. or-false _ ∙ ap (λ b. eqb p 2 || b) (and-false (eqb p 0)) ∙ or-false (eqb p 2);
  vertices = refl;
  ordered = no_edges_ordered (1 ∷ 2 ∷ []);
  edges = λ p r m n. sym (ap₂ (λ a b. ((a && eqb r 2) || (b && eqb p 2)) || false) (ne_eqb p 0 m) (ne_eqb r 0 n));
  inputs = refl;
  outputs = refl;
}

pub linked_gates : (k : ℕ) → k < turn → Ends (linked_gadget k) (H 0 ∷ linked_gadget_gates k 0 (1 ∷ []))
unfolding advance_over
linked_gates k below =
    peels_end (linked_gadget k) unlinked (H 0 ∷ []) (linked_gadget_gates k 0 (1 ∷ [])) (linked_gadget_peels (linked_gadget k) 3 0 (1 ∷ []) unlinked formed unlinked_formed (gadget_linked k)).0
    (peels_end unlinked advanced_wires [] (H 0 ∷ [])
    (spider_peels unlinked 0 advanced_wires wires_left (advanced unlinked 0 advanced_wires unlinked_formed advance_over) unlinked_formed).0
    (wires_end advanced_wires wires_left are_wires).0)
  where
    formed : WellFormed (linked_gadget k)
    formed = by_tests (linked_gadget k) (ap (λ b. b && true) (lt-ltb k turn below)) refl

    unlinked_formed : WellFormed unlinked
    unlinked_formed = linked_gadget_formed_back (linked_gadget k) 3 0 (1 ∷ []) unlinked formed (gadget_linked k)

    wires_left : WellFormed advanced_wires
    wires_left = advanced_formed unlinked 0 advanced_wires unlinked_formed advance_over refl refl refl

    are_wires : IsWires advanced_wires
    are_wires = record {
      phase = λ u t. no_phase (eqb u 1) (eqb u 2);
      output = λ u t. comes (eqb u 1) (eqb u 2) t;
      in_line = refl;
      plain_outputs = refl;
      no_edges = λ p q. refl;
    }
      where
        comes : (a b : Bool) → (a || (b || false)) ≡ true → (b || (a || false)) ≡ true
        comes true true t = refl
        comes true false t = refl
        comes false true t = refl
        comes false false t = t
