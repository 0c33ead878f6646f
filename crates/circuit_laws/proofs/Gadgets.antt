-- Phase gadgets at the outputs: on outputs alone, and through an output that has the gadget's other neighbours.
use Rattle.std.proofs.Common.{◌≡◌, ◌≢◌, sym, ◌∙◌, ap, ap₂, refl, ℕ, Bool, true, false, cond, ◌&&◌, eqb, List, [], ◌∷◌, length, eqb-true, true≢false}
use Rattle.std.specs.Prelude.{slice_get, Some}
use Rattle.std.specs.List.{list_all, AllZip}
use Rattle.zx_model.specs.Bits.{xor, member}
use Rattle.zx_model.specs.Number.{Number, one, add, neg, mul, sign, root_power}
use Rattle.zx_model.specs.Sums.{labelled, sum_over}
use Rattle.zx_model.proofs.Ring.{expand, sorted, one-mul, two_nonzero, mul_assoc}
use Rattle.zx_model.proofs.Powers.{root_power-zero}
use Rattle.zx_model.proofs.SumLemmas.{labelled-same, labelled-other, labelled-labelled, sum_over_same, sum_over_mul}
use Rattle.zx_calculus.specs.Parity.{masked}
use Rattle.zx_calculus.specs.Internal.Pairs.{quad}
use Rattle.zx_calculus.specs.Graph.{YZ, Vertex, End, Graph, ids, kind_of, plane_of, phase_of, joined, end_vertices, is_XY, in_order, different, without, Distinct, WellFormed, Interior, plain}
use Rattle.zx_calculus.specs.Edits.{IsRemoval}
use Rattle.zx_calculus.specs.Sum.{factor, spider, vertex_product, end_product}
use Rattle.zx_model.specs.Constants.{two}
use Rattle.zx_calculus.proofs.Booleans.{parities, or-apart, xor-false}
use Rattle.zx_calculus.proofs.Ids.{by_equal, or-left, or-right, and-left, and-right, apart_of_member, masked_front}
use Rattle.zx_calculus.proofs.Parity.{masked-xor, masked_same, masked-false}
use Rattle.zx_calculus.proofs.Edges.{joined_comm, quad_same, masked-pick}
use Rattle.zx_calculus.proofs.Forms.{form, value, form_front, sum_out, Ignores, ids-without, end_product-labelled, masked-labelled}
use Rattle.zx_calculus.proofs.Vertices.{kind_of-without}
use Rattle.zx_calculus.proofs.Splitting.{distinct, distinct_without, member-without, no_loop, interior_of, all_at}
use Rattle.zx_calculus.proofs.Counting.{YZ_live}
use Rattle.zx_calculus.proofs.Gadgets.{gadget_at}
use Rattle.zx_calculus.proofs.Turning.{around as turning_around}
use Rattle.zx_calculus.proofs.Kept.{both}
use Rattle.zx_gates.specs.Maps.{act, acts}
use Rattle.zx_gates.specs.declared.gate.Gate.TheVariants.{H, Phase, Cx}
use Rattle.zx_gates.proofs.MapLemmas.{acts-append}
use Rattle.circuit_laws.specs.Followed.{followed, PeelsAt}
use Rattle.circuit_laws.specs.Gates.{gadget_on, gadget_gates, linked_gadget_gates}
use Rattle.zx_gates.specs.Lowering.{phase_gates}
use Rattle.circuit_laws.specs.Peeling.{IsGadgetPeel, IsLinkedGadgetPeel}
use Rattle.circuit_laws.proofs.Composing.{peels_exactly}
use Rattle.circuit_laws.proofs.Leaving.{leave, around, followed_is_form, leave-labelled, leave-phase, leave-cx, leave-h}
use Rattle.circuit_laws.proofs.Places.{member-places}
use Rattle.circuit_laws.proofs.Rows.{summed}
use Rattle.circuit_laws.proofs.Wires.{factor-zero, labelled_back}
use Rattle.zx_calculus.proofs.Pivots.{move_inside}

-- ---- parities
-- of the labels of listed vertices
abbrev pub parity : List ℕ → (ℕ → Bool) → Bool
parity [] label = false
parity (u ∷ us) label = xor (label u) (parity us label)

pub parity-labelled : (us : List ℕ) (u : ℕ) (label : ℕ → Bool) (b : Bool) → member u us ≡ false →
    parity us (labelled label u b) ≡ parity us label
parity-labelled [] u label b absent = refl
parity-labelled (w ∷ us) u label b absent =
    ap₂ xor (labelled-other label u b w (λ e. apart (sym e))) (parity-labelled us u label b (or-right _ _ absent))
  where
    apart : u ≢ w
    apart e = by_equal u w (λ t s. true≢false (sym t ∙ or-left _ _ absent)) (λ f n. n e)

pub masked-parity : (us vs : List ℕ) (label : ℕ → Bool) → Distinct vs → Distinct us →
    list_all (λ u. member u vs) us ≡ true → masked (λ p. member p us) vs label ≡ parity us label
masked-parity [] vs label d once there = masked-false vs label
masked-parity (u ∷ us) vs label d once there =
    masked_same (λ p. member p (u ∷ us)) (λ p. xor (eqb p u) (member p us)) vs label (λ p t. or-apart (eqb p u) (member p us) (not_both p))
    ∙ masked-xor (λ p. eqb p u) (λ p. member p us) vs label
    ∙ ap₂ xor (masked-pick u vs label d (and-left _ _ there)) (masked-parity us vs label d once.1 (and-right _ _ there))
  where
    not_both : (p : ℕ) → (eqb p u && member p us) ≡ false
    not_both p = by_equal p u (λ t e. ap (λ b. eqb p u && b) (ap (λ w. member w us) e ∙ once.0) ∙ simp parities) (λ f n. ap (λ b. b && member p us) f)

pub legs-all : (test : ℕ → Bool) (es : List End) (qs us : List ℕ) → list_all test (end_vertices es) ≡ true →
    AllZip (λ q u. slice_get es q ≡ Some (plain u)) qs us → list_all test us ≡ true
legs-all test es [] [] h zip = refl
legs-all test es [] (u ∷ us) h zip = absurd zip
legs-all test es (q ∷ qs) [] h zip = absurd zip
legs-all test es (q ∷ qs) (u ∷ us) h zip = both _ _ (all_at test (end_vertices es) u h (member-places es q (plain u) zip.0)) (legs-all test es qs us h zip.1)

-- ---- the gates of a gadget
leave-phase_gates : (es : List End) (q u k : ℕ) (f : List Bool → Number) (label : ℕ → Bool) →
    slice_get es q ≡ Some (plain u) →
    leave es (acts (phase_gates q k) f) label ≡ mul (spider k (label u)) (leave es f label)
leave-phase_gates es q u k f label h = at (eqb k 0) refl
  where
    spider-zero : (j : ℕ) (b : Bool) → j ≡ 0 → one ≡ spider j b
    spider-zero j false e = refl
    spider-zero j true e = sym (ap root_power e ∙ root_power-zero)

    at : (b : Bool) → eqb k 0 ≡ b →
        leave es (acts (cond b [] (Phase q k ∷ [])) f) label ≡ mul (spider k (label u)) (leave es f label)
    at true e = sym (one-mul (leave es f label)) ∙ ap (λ s. mul s (leave es f label)) (spider-zero k (label u) (eqb-true k 0 e))
    at false e = leave-phase es q u k f label h

pub leave-gadget_on : (es : List End) (k target u : ℕ) (qs us : List ℕ) (f : List Bool → Number) (label : ℕ → Bool) →
    in_order different (end_vertices es) ≡ true →
    slice_get es target ≡ Some (plain u) → member u us ≡ false → AllZip (λ q w. slice_get es q ≡ Some (plain w)) qs us →
    leave es (acts (gadget_on k target qs) f) label ≡ mul (spider k (xor (label u) (parity us label))) (leave es f label)
leave-gadget_on es k target u [] [] f label once h absent zip =
    leave-phase_gates es target u k f label h ∙ ap (λ b. mul (spider k b) (leave es f label)) (sym (xor-false (label u)))
leave-gadget_on es k target u [] (w ∷ us) f label once h absent zip = absurd zip
leave-gadget_on es k target u (q ∷ qs) [] f label once h absent zip = absurd zip
leave-gadget_on es k target u (q ∷ qs) (w ∷ us) f label once h absent zip =
    ap (λ (e : List Bool → Number). leave es (act (Cx q target) e) label) (acts-append (gadget_on k target qs) (Cx q target ∷ []) f)
    ∙ leave-cx es q target w u (acts (gadget_on k target qs) (act (Cx q target) f)) label once zip.0 h
    ∙ leave-gadget_on es k target u qs us (act (Cx q target) f) (labelled label u (xor (label w) (label u))) once h (or-right _ _ absent) zip.1
    ∙ ap₂ (λ b o. mul (spider k b) o)
    (ap₂ xor (labelled-same label u (xor (label w) (label u))) (parity-labelled us u label (xor (label w) (label u)) (or-right _ _ absent)) ∙ simp parities)
    (leave-cx es q target w u f (labelled label u (xor (label w) (label u))) once zip.0 h
    ∙ ap (λ b. leave es f (labelled (labelled label u (xor (label w) (label u))) u b))
    (ap₂ xor (labelled-other label u (xor (label w) (label u)) w (λ e. apart (sym e))) (labelled-same label u (xor (label w) (label u))) ∙ simp parities)
    ∙ ap (leave es f) (labelled-labelled label u (xor (label w) (label u)) (label u) ∙ labelled_back label u))
  where
    apart : u ≢ w
    apart e = by_equal u w (λ t s. true≢false (sym t ∙ or-left _ _ absent)) (λ f n. n e)

leave-gadget : (es : List End) (k : ℕ) (qs us : List ℕ) (f : List Bool → Number) (label : ℕ → Bool) →
    in_order different (end_vertices es) ≡ true → Distinct us →
    AllZip (λ q w. slice_get es q ≡ Some (plain w)) qs us → leave es (acts (gadget_gates k qs) f) label ≡ mul (spider k (parity us label)) (leave es f label)
leave-gadget es k [] [] f label once d zip = sym (one-mul (leave es f label))
leave-gadget es k [] (w ∷ us) f label once d zip = absurd zip
leave-gadget es k (q ∷ qs) [] f label once d zip = absurd zip
leave-gadget es k (q ∷ qs) (w ∷ us) f label once d zip = leave-gadget_on es k q w qs us f label once zip.0 d.0 zip.1

-- ---- a YZ vertex summed out
module _ (g : Graph) (v : ℕ) (h : Graph) (wg : WellFormed g) (wh : WellFormed h) (plane : plane_of g v ≡ YZ) (r : IsRemoval g v h) where
  abbrev ws : List Vertex
  ws = without v g.vertices

  interior : Interior g v
  interior = interior_of g v wg (ap is_XY plane)

  pub gadget_out : (f : List Bool → Number) (x : List Bool) → followed g f x
      ≡ mul two (sum_over (ids ws) (λ label. mul (spider (phase_of g v) (masked (joined g.edges v) (ids ws) label)) (value (joined g.edges) (around g.inputs g.outputs x f) ws label)))
  gadget_out f x =
      followed_is_form g f x wg
      ∙ form_front (joined g.edges) (around g.inputs g.outputs x f) v g.vertices (joined_comm g.edges) (distinct g wg) (YZ_live g.vertices v plane)
      ∙ sum_out (joined g.edges) (around g.inputs g.outputs x f) (kind_of g.vertices v) v ws unseen (member-without v g.vertices)
      ∙ sum_over_same (ids ws) _ _
      (λ label. ap (λ t. mul t (value (joined g.edges) (around g.inputs g.outputs x f) ws label)) (gadget_at (kind_of g.vertices v) (masked (joined g.edges v) (ids ws) label) plane)
      ∙ mul_assoc two (spider (phase_of g v) (masked (joined g.edges v) (ids ws) label)) (value (joined g.edges) (around g.inputs g.outputs x f) ws label))
      ∙ sum_over_mul two (ids ws) (λ label. mul (spider (phase_of g v) (masked (joined g.edges v) (ids ws) label)) (value (joined g.edges) (around g.inputs g.outputs x f) ws label))
    where
      unseen : Ignores (around g.inputs g.outputs x f) v
      unseen label b = ap₂ mul (end_product-labelled v g.inputs x label b interior.no_input) (leave-labelled g.outputs v f label b interior.no_output)

  pub without_gadget : (f : List Bool → Number) (x : List Bool) →
      followed h f x ≡ form (joined g.edges) (around g.inputs g.outputs x f) ws
  without_gadget f x =
      followed_is_form h f x wh
      ∙ rw (r.vertices, r.frame.inputs, r.frame.outputs)
      (sum_over_same (ids ws) _ _
      (λ label. ap (λ q. mul (vertex_product ws label) (mul (sign q) (around g.inputs g.outputs x f label)))
      (quad_same (joined h.edges) (joined g.edges) (ids ws) label (distinct_without g v wg)
      (λ p q s t n. r.edges p q (apart_of_member p v (ids ws) s (member-without v g.vertices)) (apart_of_member q v (ids ws) t (member-without v g.vertices))))))

  pub outputs_left : list_all (λ u. member u (ids ws)) (end_vertices g.outputs) ≡ true
  outputs_left = ap₂ (λ vs es. list_all (λ u. member u (ids vs)) (end_vertices es)) (sym r.vertices) (sym r.frame.outputs) ∙ wh.outputs.there

-- ---- on outputs alone
phase_in : (s p q i o : Number) → mul s (mul p (mul q (mul i o))) ≡ mul p (mul q (mul i (mul s o)))
phase_in s p q i o = simp sorted

pub gadget_peeled : (g : Graph) (v : ℕ) (qubits : List ℕ) (h : Graph) (f : List Bool → Number) (x : List Bool) →
    WellFormed g → WellFormed h → IsGadgetPeel g v qubits h →
    followed g f x ≡ mul two (followed h (acts (gadget_gates (phase_of g v) qubits) f) x)
gadget_peeled g v qubits h f x wg wh c =
    gadget_out g v h wg wh c.plane c.removal f x
    ∙ ap (mul two)
    (sum_over_same (ids (without v g.vertices)) _ _
    (λ label. ap (λ b. mul (spider (phase_of g v) b) (value (joined g.edges) (around g.inputs g.outputs x f) (without v g.vertices) label)) (at_legs label)
    ∙ phase_in _ _ _ _ _
    ∙ ap (λ o. mul (vertex_product (without v g.vertices) label) (mul (sign (quad (joined g.edges) (ids (without v g.vertices)) label)) (mul (end_product g.inputs x label) o)))
    (sym (leave-gadget g.outputs (phase_of g v) qubits c.legs f label wg.outputs.one_each c.once c.at_outputs)))
    ∙ sym (without_gadget g v h wg wh c.plane c.removal (acts (gadget_gates (phase_of g v) qubits) f) x))
  where
    at_legs : (label : ℕ → Bool) → masked (joined g.edges v) (ids (without v g.vertices)) label ≡ parity c.legs label
    at_legs label =
        masked_same (joined g.edges v) (λ p. member p c.legs) (ids (without v g.vertices)) label (λ p t. c.neighbours p)
        ∙ masked-parity c.legs (ids (without v g.vertices)) label (distinct_without g v wg) c.once
        (legs-all (λ u. member u (ids (without v g.vertices))) g.outputs qubits c.legs (outputs_left g v h wg wh c.plane c.removal) c.at_outputs)

pub gadget_peels : (g : Graph) (v : ℕ) (qubits : List ℕ) (h : Graph) → WellFormed g → WellFormed h →
    IsGadgetPeel g v qubits h → PeelsAt two g (gadget_gates (phase_of g v) qubits) h
gadget_peels g v qubits h wg wh c = (
  record {
    cost = two;
    nonzero = two_nonzero;
    inputs = ap length c.removal.frame.inputs;
    outputs = ap length c.removal.frame.outputs;
    equal = λ f x. gadget_peeled g v qubits h f x wg wh c;
  },
  refl,
)

-- ---- through an output
even_parts : (e a b : Number) →
    add (mul one (mul e (add a (mul one b)))) (mul (mul one one) (mul e (add a (mul (neg one) b)))) ≡ mul two (mul e a)
even_parts e a b = simp expand

odd_parts : (e a b : Number) →
    add (mul one (mul e (add a (mul one b)))) (mul (mul one (neg one)) (mul e (add a (mul (neg one) b)))) ≡ mul two (mul e b)
odd_parts e a b = simp expand (turning_around (mul e a) (mul e b))

signed_in : (e a s t i : Number) →
    mul two (mul e (mul a (add s (mul i t)))) ≡ mul two (add (mul one (mul a (mul e s))) (mul (mul one i) (mul a (mul e t))))
signed_in e a s t i = simp expand

-- the sum over the bit between two H picks what the phase gives at the parity m of the link's neighbours
picked_parity : (m : Bool) (e s t : Number) (given : Bool → Number) →
    mul two (add (mul one (mul (given m) (mul e s))) (mul (mul one (sign m)) (mul (given m) (mul e t))))
    ≡ add (mul one (mul e (add (mul (given false) (add s (mul (sign false) t))) (mul (sign false) (mul (given true) (add s (mul (sign true) t)))))))
    (mul (mul one (sign m)) (mul e (add (mul (given false) (add s (mul (sign false) t))) (mul (sign true) (mul (given true) (add s (mul (sign true) t)))))))
picked_parity false e s t given =
    sym (signed_in e (given false) s t one) ∙ sym (even_parts e (mul (given false) (add s (mul one t))) (mul (given true) (add s (mul (neg one) t))))
picked_parity true e s t given =
    sym (signed_in e (given true) s t (neg one)) ∙ sym (odd_parts e (mul (given false) (add s (mul one t))) (mul (given true) (add s (mul (neg one) t))))

module _ (g : Graph) (v q : ℕ) (qubits : List ℕ) (h : Graph) (wg : WellFormed g) (wh : WellFormed h) (c : IsLinkedGadgetPeel g v q qubits h) (f : List Bool → Number) (x : List Bool) where
  abbrev left : List Vertex
  left = without v g.vertices

  abbrev others : List Vertex
  others = without c.link left

  abbrev a : ℕ → ℕ → Bool
  a = joined g.edges

  abbrev phase : ℕ
  phase = phase_of g v

  left_distinct : Distinct (ids left)
  left_distinct = distinct_without g v wg

  link_there : member c.link (ids left) ≡ true
  link_there = all_at (λ u. member u (ids left)) (end_vertices g.outputs) c.link (outputs_left g v h wg wh c.plane c.removal) (member-places g.outputs q (plain c.link) c.output)

  one_factor : (b : Bool) → factor (kind_of left c.link) b ≡ one
  one_factor b =
      ap (λ k. factor k b) (kind_of-without c.link v g.vertices (apart_of_member c.link v (ids left) link_there (member-without v g.vertices)))
      ∙ factor-zero (kind_of g.vertices c.link) b (all_at (λ p. is_XY (kind_of g.vertices p).plane) (end_vertices g.outputs) c.link wg.outputs.at_XY (member-places g.outputs q (plain c.link) c.output)) c.phase

  module _ (label : ℕ → Bool) where
    -- the labels with that of the link
    abbrev at : Bool → ℕ → Bool
    at b = labelled label c.link b

    abbrev row : Bool
    row = masked (a c.link) (ids others) label

    -- what the phase gives where the link's bit is d
    abbrev given : Bool → Number
    given d = spider phase (xor d (parity c.legs label))

    unseen : (b : Bool) → end_product g.inputs x (at b) ≡ end_product g.inputs x label
    unseen b = end_product-labelled c.link g.inputs x label b c.no_input

    row_of_link : (b : Bool) → masked (a c.link) (ids left) (at b) ≡ row
    row_of_link b =
        masked_front (a c.link) c.link (ids left) (at b) left_distinct link_there
        ∙ ap₂ (λ l is. xor (l && at b c.link) (masked (a c.link) is (at b))) (no_loop g c.link wg) (sym (ids-without c.link left))
        ∙ masked-labelled (a c.link) c.link (ids others) label b (member-without c.link left)

    row_of_gadget : (b : Bool) → masked (a v) (ids left) (at b) ≡ xor row (parity c.legs label)
    row_of_gadget b =
        masked_same (a v) (λ p. xor (a c.link p) (member p c.legs)) (ids left) (at b) (λ p t. c.neighbours p)
        ∙ masked-xor (a c.link) (λ p. member p c.legs) (ids left) (at b)
        ∙ ap₂ xor (row_of_link b)
        (masked-parity c.legs (ids left) (at b) left_distinct c.once.1 (legs-all (λ u. member u (ids left)) g.outputs qubits c.legs (outputs_left g v h wg wh c.plane c.removal) c.at_outputs)
        ∙ parity-labelled c.legs c.link label b c.once.0)

    mixed_at : (e : List Bool → Number) (b : Bool) →
        leave g.outputs (act (H q) e) (at b) ≡ add (leave g.outputs e (at false)) (mul (sign b) (leave g.outputs e (at true)))
    mixed_at e b =
        leave-h g.outputs q c.link e (at b) wg.outputs.one_each c.output
        ∙ ap₂ (λ (l m : ℕ → Bool). add (leave g.outputs e l) (mul (sign (at b c.link)) (leave g.outputs e m))) (labelled-labelled label c.link b false) (labelled-labelled label c.link b true)
        ∙ ap (λ d. add (leave g.outputs e (at false)) (mul (sign d) (leave g.outputs e (at true)))) (labelled-same label c.link b)

    turned_at : (b : Bool) → leave g.outputs (acts (gadget_on phase q qubits) (act (H q) f)) (at b)
        ≡ mul (given b) (add (leave g.outputs f (at false)) (mul (sign b) (leave g.outputs f (at true))))
    turned_at b =
        leave-gadget_on g.outputs phase q c.link qubits c.legs (act (H q) f) (at b) wg.outputs.one_each c.output c.once.0 c.at_outputs
        ∙ ap₂ (λ d o. mul (spider phase d) o) (ap₂ xor (labelled-same label c.link b) (parity-labelled c.legs c.link label b c.once.0)) (mixed_at f b)

    after_gates : (b : Bool) → around g.inputs g.outputs x (acts (linked_gadget_gates phase q qubits) f) (at b)
        ≡ mul (end_product g.inputs x label) (add (mul (given false) (add (leave g.outputs f (at false)) (mul (sign false) (leave g.outputs f (at true)))))
        (mul (sign b) (mul (given true) (add (leave g.outputs f (at false)) (mul (sign true) (leave g.outputs f (at true)))))))
    after_gates b =
        ap₂ mul (unseen b)
        (ap (λ (e : List Bool → Number). leave g.outputs (act (H q) e) (at b)) (acts-append (gadget_on phase q qubits) (H q ∷ []) f)
        ∙ mixed_at (acts (gadget_on phase q qubits) (act (H q) f)) b
        ∙ ap₂ (λ s t. add s (mul (sign b) t)) (turned_at false) (turned_at true))

    before_gates : (b : Bool) →
        mul (spider phase (masked (a v) (ids left) (at b))) (around g.inputs g.outputs x f (at b)) ≡ mul (given row) (mul (end_product g.inputs x label) (leave g.outputs f (at b)))
    before_gates b = ap₂ (λ m i. mul (spider phase m) (mul i (leave g.outputs f (at b)))) (row_of_gadget b) (unseen b)

    linked_term : mul two (add (mul one (mul (spider phase (masked (a v) (ids left) (at false))) (around g.inputs g.outputs x f (at false))))
        (mul (mul one (sign row)) (mul (spider phase (masked (a v) (ids left) (at true))) (around g.inputs g.outputs x f (at true)))))
        ≡ add (mul one (around g.inputs g.outputs x (acts (linked_gadget_gates phase q qubits) f) (at false)))
        (mul (mul one (sign row)) (around g.inputs g.outputs x (acts (linked_gadget_gates phase q qubits) f) (at true)))
    linked_term =
        ap₂ (λ s t. mul two (add (mul one s) (mul (mul one (sign row)) t))) (before_gates false) (before_gates true)
        ∙ picked_parity row (end_product g.inputs x label) (leave g.outputs f (at false)) (leave g.outputs f (at true)) given
        ∙ ap₂ (λ s t. add (mul one s) (mul (mul one (sign row)) t)) (sym (after_gates false)) (sym (after_gates true))

  pub linked_gadget_peeled : followed g f x ≡ followed h (acts (linked_gadget_gates (phase_of g v) q qubits) f) x
  linked_gadget_peeled =
      gadget_out g v h wg wh c.plane c.removal f x
      ∙ ap (mul two)
      (sum_over_same (ids left) _ _ (λ label. move_inside _ _ _ _)
      ∙ summed a (λ label. mul (spider phase (masked (a v) (ids left) label)) (around g.inputs g.outputs x f label)) c.link left (joined_comm g.edges) left_distinct link_there one_factor)
      ∙ sym (sum_over_mul two (ids others) _)
      ∙ sum_over_same (ids others) _ _
      (λ label. move_inside _ _ _ _ ∙ ap (λ z. mul (vertex_product others label) (mul (sign (quad a (ids others) label)) z)) (linked_term label))
      ∙ sym (summed a (around g.inputs g.outputs x (acts (linked_gadget_gates phase q qubits) f)) c.link left (joined_comm g.edges) left_distinct link_there one_factor)
      ∙ sym (without_gadget g v h wg wh c.plane c.removal (acts (linked_gadget_gates phase q qubits) f) x)

pub linked_gadget_peels : (g : Graph) (v q : ℕ) (qubits : List ℕ) (h : Graph) → WellFormed g → WellFormed h →
    IsLinkedGadgetPeel g v q qubits h → PeelsAt one g (linked_gadget_gates (phase_of g v) q qubits) h
linked_gadget_peels g v q qubits h wg wh c =
    peels_exactly g (linked_gadget_gates (phase_of g v) q qubits) h (ap length c.removal.frame.inputs) (ap length c.removal.frame.outputs) (λ f x. linked_gadget_peeled g v q qubits h wg wh c f x)
