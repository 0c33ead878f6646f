-- The gates that are peeled off are on the qubits of the outputs, and how many they are.
use Rattle.std.proofs.Common.{◌≡◌, ◌≢◌, sym, ◌∙◌, ap, refl, ℕ, suc, ◌+◌, ◌*◌, ◌<◌, ◌≤◌, Bool, true, false, cond, eqb, List, [], ◌∷◌, ◌++◌, length, length-append, subst, true≢false, arith}
use Rattle.std.proofs.lemmas.Bool.{eqb-false}
use Rattle.std.proofs.lemmas.List.Elements.{All-cons, All-append}
use Rattle.std.proofs.lemmas.Option.{slice_get_within}
use Rattle.std.specs.Prelude.{slice_get, Some}
use Rattle.std.specs.List.{All, AllZip}
use Rattle.zx_model.specs.Bits.{member}
use Rattle.zx_calculus.specs.Graph.{End, Graph, phase_of, Distinct, plain}
use Rattle.zx_calculus.proofs.Ids.{by_equal, or-left, or-right}
use Rattle.zx_gates.specs.Circuit.{IsOnQubits}
use Rattle.zx_gates.specs.declared.gate.Gate.{Gate}
use Rattle.zx_gates.specs.declared.gate.Gate.TheVariants.{H, Phase, Cz, Cx}
use Rattle.circuit_laws.specs.Gates.{hadamards_from, exchange_gates, gadget_on, gadget_gates, linked_gadget_gates}
use Rattle.zx_gates.specs.Lowering.{phase_gates}
use Rattle.circuit_laws.proofs.Places.{first_is}
use Rattle.circuit_laws.specs.Peeling.{IsPhaseCleared, IsEdgePeel, IsMarkPeel, IsSpiderPeel, IsRowAddition, IsExchange, IsGadgetPeel, IsLinkedGadgetPeel, marked}

no_gates : (n : ℕ) → All (IsOnQubits n) []
no_gates n = λ k d lt. absurd (omega arith)

one_more : (n : ℕ) (gate : Gate) (gates : List Gate) → IsOnQubits n gate → All (IsOnQubits n) gates →
    All (IsOnQubits n) (gate ∷ gates)
one_more n gate gates h all = All-cons (IsOnQubits n) gate gates h all

-- outputs at different vertices are different
places_differ : (es : List End) (p q u v : ℕ) → slice_get es p ≡ Some (plain u) → slice_get es q ≡ Some (plain v) →
    u ≢ v → p ≢ q
places_differ es p q u v h i n e = n (ap (λ (d : End). d.vertex) (first_is (plain u) (plain v) (sym h ∙ ap (slice_get es) e ∙ i)))

cx_on : (es : List End) (c t u v : ℕ) → slice_get es c ≡ Some (plain u) → slice_get es t ≡ Some (plain v) → u ≢ v →
    IsOnQubits (length es) (Cx c t)
cx_on es c t u v h i n = (slice_get_within es c (plain u) h, slice_get_within es t (plain v) i, places_differ es c t u v h i n)

pub edge_on : (g : Graph) (p q : ℕ) (h : Graph) → IsEdgePeel g p q h → IsOnQubits (length g.outputs) (Cz p q)
edge_on g p q h c =
    (slice_get_within g.outputs p (plain c.first) c.output, slice_get_within g.outputs q (plain c.second) c.output_too, places_differ g.outputs p q c.first c.second c.output c.output_too c.different)

pub mark_on : (g : Graph) (q : ℕ) (h : Graph) → IsMarkPeel g q h → IsOnQubits (length g.outputs) (H q)
mark_on g q h c = slice_get_within g.outputs q (marked c.vertex) c.output

pub spider_on : (g : Graph) (q : ℕ) (h : Graph) → IsSpiderPeel g q h → IsOnQubits (length h.outputs) (H q)
spider_on g q h c = slice_get_within h.outputs q (plain c.next) c.output

pub row_on : (g : Graph) (c t : ℕ) (h : Graph) → IsRowAddition g c t h → IsOnQubits (length g.outputs) (Cx t c)
row_on g c t h r = cx_on g.outputs t c r.to r.added r.output_too r.output (λ e. r.different (sym e))

pub exchange_on : (g : Graph) (p q : ℕ) (h : Graph) → IsExchange g p q h →
    All (IsOnQubits (length g.outputs)) (exchange_gates p q)
exchange_on g p q h c =
    one_more (length g.outputs) (Cx p q) (Cx q p ∷ Cx p q ∷ []) (first, second, c.different)
    (one_more (length g.outputs) (Cx q p) (Cx p q ∷ []) (second, first, λ e. c.different (sym e))
    (one_more (length g.outputs) (Cx p q) [] (first, second, c.different) (no_gates (length g.outputs))))
  where
    first : p < length g.outputs
    first = slice_get_within g.outputs p (plain c.first) c.output

    second : q < length g.outputs
    second = slice_get_within g.outputs q (plain c.second) c.output_too

phase_gates-on : (n q k : ℕ) → q < n → All (IsOnQubits n) (phase_gates q k)
phase_gates-on n q k lt = at (eqb k 0) refl
  where
    at : (b : Bool) → eqb k 0 ≡ b → All (IsOnQubits n) (cond b [] (Phase q k ∷ []))
    at true e = no_gates n
    at false e = one_more n (Phase q k) [] (lt, eqb-false k 0 e) (no_gates n)

pub cleared_on : (g : Graph) (q : ℕ) (h : Graph) → (c : IsPhaseCleared g q h) → All (IsOnQubits (length g.outputs)) (phase_gates q (phase_of g c.vertex))
cleared_on g q h c = phase_gates-on (length g.outputs) q (phase_of g c.vertex) (slice_get_within g.outputs q (plain c.vertex) c.output)

gadget_on-on : (es : List End) (k target u : ℕ) (qs us : List ℕ) → slice_get es target ≡ Some (plain u) →
    member u us ≡ false → AllZip (λ q w. slice_get es q ≡ Some (plain w)) qs us →
    All (IsOnQubits (length es)) (gadget_on k target qs)
gadget_on-on es k target u [] [] h absent zip = phase_gates-on (length es) target k (slice_get_within es target (plain u) h)
gadget_on-on es k target u [] (w ∷ us) h absent zip = absurd zip
gadget_on-on es k target u (q ∷ qs) [] h absent zip = absurd zip
gadget_on-on es k target u (q ∷ qs) (w ∷ us) h absent zip =
    one_more (length es) (Cx q target) (gadget_on k target qs ++ Cx q target ∷ []) added
    (All-append (IsOnQubits (length es)) (gadget_on k target qs) (Cx q target ∷ []) (gadget_on-on es k target u qs us h (or-right _ _ absent) zip.1) (one_more (length es) (Cx q target) [] added (no_gates (length es))))
  where
    added : IsOnQubits (length es) (Cx q target)
    added = cx_on es q target w u zip.0 h (λ e. by_equal u w (λ t s. true≢false (sym t ∙ or-left _ _ absent)) (λ f n. n (sym e)))

pub gadget_on_outputs : (g : Graph) (v : ℕ) (qubits : List ℕ) (h : Graph) → IsGadgetPeel g v qubits h →
    All (IsOnQubits (length g.outputs)) (gadget_gates (phase_of g v) qubits)
gadget_on_outputs g v qubits h c = at qubits c.legs c.once c.at_outputs
  where
    at : (qs us : List ℕ) → Distinct us → AllZip (λ q w. slice_get g.outputs q ≡ Some (plain w)) qs us →
        All (IsOnQubits (length g.outputs)) (gadget_gates (phase_of g v) qs)
    at [] us d zip = no_gates (length g.outputs)
    at (q ∷ qs) [] d zip = absurd zip
    at (q ∷ qs) (w ∷ us) d zip = gadget_on-on g.outputs (phase_of g v) q w qs us zip.0 d.0 zip.1

pub linked_gadget_on_outputs : (g : Graph) (v q : ℕ) (qubits : List ℕ) (h : Graph) →
    IsLinkedGadgetPeel g v q qubits h →
    All (IsOnQubits (length g.outputs)) (linked_gadget_gates (phase_of g v) q qubits)
linked_gadget_on_outputs g v q qubits h c =
    one_more (length g.outputs) (H q) (gadget_on (phase_of g v) q qubits ++ H q ∷ []) within
    (All-append (IsOnQubits (length g.outputs)) (gadget_on (phase_of g v) q qubits) (H q ∷ []) (gadget_on-on g.outputs (phase_of g v) q c.link qubits c.legs c.output c.once.0 c.at_outputs)
    (one_more (length g.outputs) (H q) [] within (no_gates (length g.outputs))))
  where
    within : q < length g.outputs
    within = slice_get_within g.outputs q (plain c.link) c.output

pub hadamards_on : (q : ℕ) (es : List End) → All (IsOnQubits (q + length es)) (hadamards_from q es)
hadamards_on q [] = no_gates (q + 0)
hadamards_on q (e ∷ es) = at e.hadamard (ap_length (hadamards_on (suc q) es))
  where
    ap_length : All (IsOnQubits (suc q + length es)) (hadamards_from (suc q) es) →
        All (IsOnQubits (q + length (e ∷ es))) (hadamards_from (suc q) es)
    ap_length all = subst (λ n. All (IsOnQubits n) (hadamards_from (suc q) es)) (omega arith) all

    at : (b : Bool) → All (IsOnQubits (q + length (e ∷ es))) (hadamards_from (suc q) es) →
        All (IsOnQubits (q + length (e ∷ es))) (cond b (H q ∷ hadamards_from (suc q) es) (hadamards_from (suc q) es))
    at true all = let within : q < q + length (e ∷ es) = omega arith in one_more (q + length (e ∷ es)) (H q) (hadamards_from (suc q) es) within all
    at false all = all

-- ---- how many
phase_gates-few : (q k : ℕ) → length (phase_gates q k) ≤ 1
phase_gates-few q k = at (eqb k 0)
  where
    at : (b : Bool) → length (cond b [] (Phase q k ∷ [])) ≤ 1
    at true = omega arith
    at false = omega arith

pub gadget_on-few : (k target : ℕ) (qs : List ℕ) → length (gadget_on k target qs) ≤ 2 * length qs + 1
gadget_on-few k target [] = phase_gates-few target k
gadget_on-few k target (q ∷ qs) =
    let before : length (gadget_on k target qs) ≤ 2 * length qs + 1 = gadget_on-few k target qs in
    let both : length (gadget_on k target qs ++ Cx q target ∷ []) ≡ length (gadget_on k target qs) + 1 = length-append (gadget_on k target qs) (Cx q target ∷ []) in
    omega arith

pub gadget_few : (k : ℕ) (qs : List ℕ) → length (gadget_gates k qs) ≤ 2 * length qs
gadget_few k [] = omega arith
gadget_few k (q ∷ qs) = let few : length (gadget_on k q qs) ≤ 2 * length qs + 1 = gadget_on-few k q qs in omega arith

pub linked_gadget_few : (k q : ℕ) (qs : List ℕ) → length (linked_gadget_gates k q qs) ≤ 2 * length qs + 3
linked_gadget_few k q qs =
    let few : length (gadget_on k q qs) ≤ 2 * length qs + 1 = gadget_on-few k q qs in
    let both : length (gadget_on k q qs ++ H q ∷ []) ≡ length (gadget_on k q qs) + 1 = length-append (gadget_on k q qs) (H q ∷ []) in
    omega arith

pub hadamards_few : (q : ℕ) (es : List End) → length (hadamards_from q es) ≤ length es
hadamards_few q [] = omega arith
hadamards_few q (e ∷ es) = at e.hadamard (hadamards_few (suc q) es)
  where
    at : (b : Bool) → length (hadamards_from (suc q) es) ≤ length es →
        length (cond b (H q ∷ hadamards_from (suc q) es) (hadamards_from (suc q) es)) ≤ length (e ∷ es)
    at true few = omega arith
    at false few = omega arith
