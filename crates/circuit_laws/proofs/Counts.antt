-- Odd phases of graphs and of the gates that are peeled off them.
use Rattle.std.proofs.Common.{◌≡◌, sym, zero-add, ◌∙◌, ap, ap₂, refl, ℕ, ◌+◌, ◌%◌, ◌≤◌, Bool, true, false, cond, List, [], ◌∷◌, arith, ne_eqb, le_of_eq, suc, ◌++◌}
use Rattle.std.specs.Prelude.{slice_get}
use Rattle.zx_model.specs.Phase.{turn, sum_of_phases, is_odd}
use Rattle.zx_model.specs.Bits.{member, one_if}
use Rattle.zx_model.proofs.Odd.{is_odd-sum_even, one_if-odd_sum}
use Rattle.zx_calculus.specs.Graph.{YZ, Distinct, Vertex, End, Graph, ids, kind_of, plane_of, phase_of, with_kinds, without, WellFormed, plain}
use Rattle.zx_calculus.specs.Turns.{with_phase_added}
use Rattle.zx_calculus.specs.Edits.{IsRemoval}
use Rattle.zx_calculus.specs.Gadgets.{fuse_kind}
use Rattle.zx_calculus.specs.Splits.{spider_of_phase_zero}
use Rattle.zx_calculus.specs.Counts.{odd_phases}
use Rattle.zx_calculus.proofs.Ids.{apart_of_member, eqb-self}
use Rattle.zx_calculus.proofs.Vertices.{ids-with_kinds, with_kinds-unchanged, at_front-with_kinds}
use Rattle.zx_calculus.proofs.Splitting.{distinct, member-without}
use Rattle.zx_calculus.proofs.Counting.{YZ_live}
use Rattle.zx_calculus.proofs.CountLemmas.{Test, count, count-cons, count_front, count-insert}
use Rattle.zx_gates.specs.Circuit.{gate_odd_phases as odd_gates}
use Rattle.zx_gates.specs.declared.gate.Gate.TheVariants.{H, Phase, Cx}
use Rattle.zx_gates.proofs.LoweringLemmas.{gate_odd_phases-append, odd-phase_gates}
use Rattle.circuit_laws.specs.Gates.{gadget_on, gadget_gates, linked_gadget_gates, hadamards_from}
use Rattle.circuit_laws.specs.Peeling.{IsPhasePeel, IsSpiderPeel, IsGadgetPeel, IsLinkedGadgetPeel}
use Rattle.circuit_laws.proofs.Places.{output_there}

abbrev odd_at : Test
odd_at p kind = is_odd kind.phase

front_is : (u : ℕ) (vs : List Vertex) → Distinct (ids vs) → member u (ids vs) ≡ true → count odd_at vs ≡ count odd_at (record { id = u; kind = kind_of vs u } ∷ without u vs)
front_is u vs d t = count_front odd_at u vs d t ∙ sym (count-cons odd_at (record { id = u; kind = kind_of vs u }) (without u vs))

pub same_vertices : (g h : Graph) → g.vertices ≡ h.vertices → odd_phases g ≡ odd_phases h
same_vertices g h same = ap (count odd_at) same

-- the vertex at the output, and the others
phase_counts : (g : Graph) (q k : ℕ) (h : Graph) → WellFormed h → (c : IsPhasePeel g q k h) →
    (rest : ℕ) × (odd_phases h ≡ one_if (is_odd (phase_of h c.vertex)) + rest) × (odd_phases g ≡ one_if (is_odd (sum_of_phases (phase_of h c.vertex) k)) + rest)
phase_counts g q k h w c = ((count odd_at) (without c.vertex h.vertices), before, after)
  where
    there : member c.vertex (ids h.vertices) ≡ true
    there = output_there h q (plain c.vertex) w (ap (λ es. slice_get es q) (sym c.outputs) ∙ c.output)

    before : odd_phases h ≡ one_if (is_odd (phase_of h c.vertex)) + (count odd_at) (without c.vertex h.vertices)
    before = front_is c.vertex h.vertices (distinct h w) there ∙ count-cons odd_at (record { id = c.vertex; kind = kind_of h.vertices c.vertex }) (without c.vertex h.vertices)

    after : odd_phases g ≡ one_if (is_odd (sum_of_phases (phase_of h c.vertex) k)) + (count odd_at) (without c.vertex h.vertices)
    after =
        ap (count odd_at) c.vertices
        ∙ front_is c.vertex (with_kinds (fuse_kind c.vertex k) h.vertices) (rw (ids-with_kinds (fuse_kind c.vertex k) h.vertices) (distinct h w)) (ap (member c.vertex) (ids-with_kinds (fuse_kind c.vertex k) h.vertices) ∙ there)
        ∙ ap (count odd_at) (at_front-with_kinds (fuse_kind c.vertex k) c.vertex h.vertices there)
        ∙ ap₂ (λ kind ws. (count odd_at) (record { id = c.vertex; kind = kind } ∷ ws))
        (ap (λ b. cond b (with_phase_added k (kind_of h.vertices c.vertex)) (kind_of h.vertices c.vertex)) (eqb-self c.vertex))
        (with_kinds-unchanged (fuse_kind c.vertex k) (without c.vertex h.vertices)
        (λ p kind t. ap (λ b. cond b (with_phase_added k kind) kind) (ne_eqb p c.vertex (apart_of_member p c.vertex (ids (without c.vertex h.vertices)) t (member-without c.vertex h.vertices)))))
        ∙ count-cons odd_at (record { id = c.vertex; kind = with_phase_added k (kind_of h.vertices c.vertex) }) (without c.vertex h.vertices)

pub one_gate : (q k : ℕ) → odd_gates (Phase q k ∷ []) ≡ one_if (is_odd k)
one_gate q k = omega arith

pub phase_odd : (g : Graph) (q k : ℕ) (h : Graph) → WellFormed h → IsPhasePeel g q k h →
    odd_phases g ≤ odd_phases h + odd_gates (Phase q k ∷ [])
phase_odd g q k h w c =
    let counts = phase_counts g q k h w c in
    at_most _ _ _ _ _ _ counts.0 counts.1 counts.2 (one_gate q k) (one_if-odd_sum (phase_of h c.vertex) k)
  where
    at_most : (a b j s o n rest : ℕ) → a ≡ j + rest → b ≡ s + rest → n ≡ o → s ≤ j + o → b ≤ a + n
    at_most a b j s o n rest p r e le = omega arith

-- where the other graph has phase 0 there
pub phase_odd_exactly : (g : Graph) (q k : ℕ) (h : Graph) → WellFormed h → (c : IsPhasePeel g q k h) →
    phase_of h c.vertex ≡ 0 → odd_phases g ≡ odd_phases h + odd_gates (Phase q k ∷ [])
phase_odd_exactly g q k h w c none =
    let counts = phase_counts g q k h w c in
    let other_way : 0 + k ≡ k + 0 = omega arith in
    exactly _ _ _ _ _ _ counts.0 counts.1 counts.2 (one_gate q k) (ap (λ j. one_if (is_odd j)) none)
    (ap (λ j. one_if (is_odd (sum_of_phases j k))) none ∙ ap (λ s. one_if (is_odd (s % turn))) other_way ∙ ap one_if (is_odd-sum_even k 0 refl))
  where
    exactly : (a b j s o n rest : ℕ) → a ≡ j + rest → b ≡ s + rest → n ≡ o → j ≡ 0 → s ≡ o → b ≡ a + n
    exactly a b j s o n rest p r e z t = omega arith

pub spider_odd : (g : Graph) (q : ℕ) (h : Graph) → IsSpiderPeel g q h → odd_phases g ≡ odd_phases h
spider_odd g q h c = ap (count odd_at) c.vertices ∙ count-insert odd_at (spider_of_phase_zero c.spider) h.vertices ∙ zero-add (odd_phases h)

-- ---- gadgets
nothing_more : (a b m : ℕ) → a ≡ 0 + m → m ≡ b + 0 → a ≡ b
nothing_more a b m e f = omega arith

pub odd-gadget_on : (k target : ℕ) (qs : List ℕ) → odd_gates (gadget_on k target qs) ≡ one_if (is_odd k)
odd-gadget_on k target [] = odd-phase_gates target k
odd-gadget_on k target (q ∷ qs) =
    nothing_more _ _ _ (gate_odd_phases-append (Cx q target ∷ []) (gadget_on k target qs ++ Cx q target ∷ [])) (gate_odd_phases-append (gadget_on k target qs) (Cx q target ∷ [])) ∙ odd-gadget_on k target qs

odd-linked : (k q : ℕ) (qs : List ℕ) → odd_gates (linked_gadget_gates k q qs) ≡ one_if (is_odd k)
odd-linked k q qs =
    nothing_more _ _ _ (gate_odd_phases-append (H q ∷ []) (gadget_on k q qs ++ H q ∷ [])) (gate_odd_phases-append (gadget_on k q qs) (H q ∷ [])) ∙ odd-gadget_on k q qs

removal_odd : (g : Graph) (v : ℕ) (h : Graph) → WellFormed g → plane_of g v ≡ YZ → IsRemoval g v h →
    odd_phases g ≡ one_if (is_odd (phase_of g v)) + odd_phases h
removal_odd g v h w plane r =
    front_is v g.vertices (distinct g w) (YZ_live g.vertices v plane)
    ∙ count-cons odd_at (record { id = v; kind = kind_of g.vertices v }) (without v g.vertices)
    ∙ ap (λ vs. one_if (is_odd (phase_of g v)) + (count odd_at) vs) (sym r.vertices)

pub gadget_odd : (g : Graph) (v : ℕ) (qubits : List ℕ) (h : Graph) → WellFormed g → IsGadgetPeel g v qubits h →
    odd_phases h + odd_gates (gadget_gates (phase_of g v) qubits) ≤ odd_phases g
gadget_odd g v qubits h w c = at qubits
  where
    at_most : (a b c n : ℕ) → c ≡ a + b → n ≤ a → b + n ≤ c
    at_most a b c n e le = omega arith

    at : (qs : List ℕ) → odd_phases h + odd_gates (gadget_gates (phase_of g v) qs) ≤ odd_phases g
    at [] = at_most _ _ _ _ (removal_odd g v h w c.plane c.removal) (omega arith)
    at (q ∷ qs) = at_most _ _ _ _ (removal_odd g v h w c.plane c.removal) (le_of_eq (odd-gadget_on (phase_of g v) q qs))

pub linked_gadget_odd : (g : Graph) (v q : ℕ) (qubits : List ℕ) (h : Graph) → WellFormed g →
    IsLinkedGadgetPeel g v q qubits h →
    odd_phases g ≡ odd_phases h + odd_gates (linked_gadget_gates (phase_of g v) q qubits)
linked_gadget_odd g v q qubits h w c = exactly _ _ _ _ (removal_odd g v h w c.plane c.removal) (odd-linked (phase_of g v) q qubits)
  where
    exactly : (a b c n : ℕ) → c ≡ a + b → n ≡ a → c ≡ b + n
    exactly a b c n e s = omega arith

pub hadamards_odd : (q : ℕ) (es : List End) → odd_gates (hadamards_from q es) ≡ 0
hadamards_odd q [] = refl
hadamards_odd q (e ∷ es) = at e.hadamard (hadamards_odd (suc q) es)
  where
    at : (b : Bool) → odd_gates (hadamards_from (suc q) es) ≡ 0 →
        odd_gates (cond b (H q ∷ hadamards_from (suc q) es) (hadamards_from (suc q) es)) ≡ 0
    at true again = gate_odd_phases-append (H q ∷ []) (hadamards_from (suc q) es) ∙ ap (λ n. 0 + n) again
    at false again = again
