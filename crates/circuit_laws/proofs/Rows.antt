-- A row added to a row: the bit of the one vertex is replaced by its sum with that of the other.
use Rattle.std.proofs.Common.{◌≡◌, ◌≢◌, sym, ◌∙◌, ap, ap₂, ℕ, Bool, true, false, ◌&&◌, eqb, List, [], ◌∷◌, length, ne_eqb}
use Rattle.std.specs.Prelude.{slice_get, Some}
use Rattle.zx_model.specs.Bits.{xor, member}
use Rattle.zx_model.specs.Number.{Number, one, add, mul, sign}
use Rattle.zx_model.specs.Sums.{labelled, sum_over}
use Rattle.zx_model.proofs.Ring.{expand}
use Rattle.zx_model.proofs.SumLemmas.{labelled-same, labelled-other, labelled-labelled, sum_over_same}
use Rattle.zx_calculus.specs.Parity.{masked}
use Rattle.zx_calculus.specs.Internal.Pairs.{quad}
use Rattle.zx_calculus.specs.Graph.{Vertex, Graph, ids, kind_of, joined, end_vertices, is_XY, without, Distinct, WellFormed, plain}
use Rattle.zx_calculus.specs.Sum.{factor, vertex_product, end_product}
use Rattle.zx_calculus.proofs.Booleans.{parities, xor-false}
use Rattle.zx_calculus.proofs.Ids.{by_equal, apart_of_member, eqb_comm, Symmetric, member-removed_other}
use Rattle.zx_calculus.proofs.Parity.{quad-xor, masked_same, masked-false, cross_identity}
use Rattle.zx_calculus.proofs.Edges.{joined_comm, quad_same, masked-pick}
use Rattle.zx_calculus.proofs.Forms.{form, form_front, over_value, ids-without, end_product-labelled}
use Rattle.zx_calculus.proofs.Splitting.{distinct, distinct_without, member-without, no_loop, all_at}
use Rattle.zx_gates.specs.Maps.{act}
use Rattle.zx_gates.specs.declared.gate.Gate.TheVariants.{Cx}
use Rattle.circuit_laws.specs.Followed.{followed, PeelsAt}
use Rattle.gflow_laws.specs.Outputs.{row_added}
use Rattle.circuit_laws.specs.Peeling.{IsRowAddition}
use Rattle.circuit_laws.proofs.Composing.{peels_exactly}
use Rattle.circuit_laws.proofs.Leaving.{leave, around, followed_is_form, leave-cx}
use Rattle.circuit_laws.proofs.Places.{member-places, output_there}
use Rattle.circuit_laws.proofs.Wires.{factor-zero}

-- ---- in adjacency
-- the row of c in a is that of t as well, in the parity of the edges among vertices other than c
pub quad-row_added : (a : ℕ → ℕ → Bool) (c t : ℕ) (vs : List ℕ) (label : ℕ → Bool) → Distinct vs →
    member t vs ≡ true → a c t ≡ false →
    quad (row_added a c t) vs label ≡ xor (quad a vs label) (label t && masked (a c) vs label)
quad-row_added a c t vs label d there apart =
    quad-xor a (λ p q. xor (eqb t p && a c q) (a c p && eqb t q)) vs label
    ∙ ap (xor (quad a vs label))
    (sum_of (quad (λ p q. xor (eqb t p && a c q) (a c p && eqb t q)) vs label) (masked (λ p. eqb t p && a c p) vs label)
    (masked_same (λ p. eqb t p && a c p) (λ p. false) vs label (λ p s. none p) ∙ masked-false vs label)
    ∙ cross_identity (λ p. eqb t p) (a c) vs label
    ∙ ap (λ b. b && masked (a c) vs label) (masked_same (λ p. eqb t p) (λ p. eqb p t) vs label (λ p s. eqb_comm t p) ∙ masked-pick t vs label d there))
  where
    sum_of : (a b : Bool) → b ≡ false → a ≡ xor a b
    sum_of a b h = rw h (simp parities)

    none : (p : ℕ) → (eqb t p && a c p) ≡ false
    none p = by_equal t p (λ s e. ap (λ b. eqb t p && b) (ap (a c) (sym e) ∙ apart) ∙ simp parities) (λ s n. ap (λ b. b && a c p) s)

-- the row of c itself stays
pub row_added-self : (a : ℕ → ℕ → Bool) (c t p : ℕ) → a c c ≡ false → c ≢ t → row_added a c t c p ≡ a c p
row_added-self a c t p loop n =
    ap₂ (λ s l. xor (a c p) (xor (s && a c p) (l && eqb t p))) (ne_eqb t c (λ e. n (sym e))) loop ∙ simp parities

-- ---- in the sum
row_swapped : (m q : Bool) (s t : Number) →
    mul (sign q) (add (mul one s) (mul (mul one (sign m)) t)) ≡ mul (sign (xor q m)) (add (mul one t) (mul (mul one (sign m)) s))
row_swapped false false s t = simp expand
row_swapped false true s t = simp expand
row_swapped true false s t = simp expand
row_swapped true true s t = simp expand

row_identity : (l m q : Bool) (e : Bool → Number) →
    mul (sign q) (add (mul one (e false)) (mul (mul one (sign m)) (e true)))
    ≡ mul (sign (xor q (l && m))) (add (mul one (e (xor l false))) (mul (mul one (sign m)) (e (xor l true))))
row_identity false m q e = ap (λ b. mul (sign b) (add (mul one (e false)) (mul (mul one (sign m)) (e true)))) (sym (xor-false q))
row_identity true m q e = row_swapped m q (e false) (e true)

-- a form with a vertex of phase 0 summed out, for any function of the labels
pub summed : (a : ℕ → ℕ → Bool) (e : (ℕ → Bool) → Number) (u : ℕ) (vs : List Vertex) → Symmetric a →
    Distinct (ids vs) → member u (ids vs) ≡ true → ((b : Bool) → factor (kind_of vs u) b ≡ one) →
    form a e vs ≡ sum_over (ids (without u vs)) (λ label. mul (vertex_product (without u vs) label) (mul (sign (quad a (ids (without u vs)) label))
    (add (mul one (e (labelled label u false))) (mul (mul one (sign (masked (a u) (ids (without u vs)) label))) (e (labelled label u true))))))
summed a e u vs s d there one_factor =
    form_front a e u vs s d there
    ∙ sum_over_same (ids (without u vs)) _ _
    (λ label. over_value a e (kind_of vs u) u (without u vs) label (member-without u vs)
    ∙ ap₂ (λ p q. mul (vertex_product (without u vs) label) (mul (sign (quad a (ids (without u vs)) label)) (add (mul p (e (labelled label u false))) (mul (mul q (sign (masked (a u) (ids (without u vs)) label))) (e (labelled label u true))))))
    (one_factor false) (one_factor true))

module _ (g : Graph) (c t : ℕ) (h : Graph) (wg : WellFormed g) (wh : WellFormed h) (r : IsRowAddition g c t h) (f : List Bool → Number) (x : List Bool) where
  abbrev ws : List Vertex
  ws = without r.added h.vertices

  output : slice_get h.outputs c ≡ Some (plain r.added)
  output = ap (λ es. slice_get es c) (sym r.frame.outputs) ∙ r.output

  output_too : slice_get h.outputs t ≡ Some (plain r.to)
  output_too = ap (λ es. slice_get es t) (sym r.frame.outputs) ∙ r.output_too

  there : member r.added (ids h.vertices) ≡ true
  there = output_there h c (plain r.added) wh output

  to_there : member r.to (ids ws) ≡ true
  to_there =
      ap (member r.to) (ids-without r.added h.vertices) ∙ member-removed_other r.to r.added (ids h.vertices) (λ e. r.different (sym e))
      ∙ output_there h t (plain r.to) wh output_too

  one_factor : (b : Bool) → factor (kind_of h.vertices r.added) b ≡ one
  one_factor b =
      factor-zero (kind_of h.vertices r.added) b (all_at (λ p. is_XY (kind_of h.vertices p).plane) (end_vertices h.outputs) r.added wh.outputs.at_XY (member-places h.outputs c (plain r.added) output))
      (ap (λ vs. (kind_of vs r.added).phase) (sym r.vertices) ∙ r.phase)

  -- what follows, with the bit of c
  abbrev bit_of_c : (ℕ → Bool) → Bool → Number
  bit_of_c label b = around h.inputs h.outputs x f (labelled label r.added b)

  after_gate : (label : ℕ → Bool) (b : Bool) →
      around h.inputs h.outputs x (act (Cx t c) f) (labelled label r.added b) ≡ bit_of_c label (xor (label r.to) b)
  after_gate label b =
      ap₂ mul
      (unseen b ∙ sym (unseen (xor (label r.to) b)))
      (leave-cx h.outputs t c r.to r.added f (labelled label r.added b) wh.outputs.one_each output_too output
      ∙ ap₂ (λ l (m : Bool). leave h.outputs f (labelled (labelled label r.added b) r.added (xor l m))) (labelled-other label r.added b r.to (λ e. r.different (sym e))) (labelled-same label r.added b)
      ∙ ap (leave h.outputs f) (labelled-labelled label r.added b (xor (label r.to) b)))
    where
      unseen : (d : Bool) → end_product h.inputs x (labelled label r.added d) ≡ end_product h.inputs x label
      unseen d = end_product-labelled r.added h.inputs x label d (ap (λ es. member r.added (end_vertices es)) (sym r.frame.inputs) ∙ r.no_input)

  apart_from_added : (p : ℕ) → member p (ids ws) ≡ true → p ≢ r.added
  apart_from_added p s = apart_of_member p r.added (ids ws) s (member-without r.added h.vertices)

  edges_after : (label : ℕ → Bool) →
      quad (joined h.edges) (ids ws) label ≡ xor (quad (joined g.edges) (ids ws) label) (label r.to && masked (joined g.edges r.added) (ids ws) label)
  edges_after label =
      quad_same (joined h.edges) (row_added (joined g.edges) r.added r.to) (ids ws) label (distinct_without h r.added wh) (λ p q s u n. r.edges p q n)
      ∙ quad-row_added (joined g.edges) r.added r.to (ids ws) label (distinct_without h r.added wh) to_there r.not_adjacent

  row_after : (label : ℕ → Bool) →
      masked (joined h.edges r.added) (ids ws) label ≡ masked (joined g.edges r.added) (ids ws) label
  row_after label =
      masked_same (joined h.edges r.added) (joined g.edges r.added) (ids ws) label
      (λ p s. r.edges r.added p (λ e. apart_from_added p s (sym e)) ∙ row_added-self (joined g.edges) r.added r.to p (no_loop g r.added wg) r.different)

  pub row_peeled : followed g f x ≡ followed h (act (Cx t c) f) x
  row_peeled =
      followed_is_form g f x wg
      ∙ rw (r.vertices, r.frame.inputs, r.frame.outputs)
      (summed (joined g.edges) (around h.inputs h.outputs x f) r.added h.vertices (joined_comm g.edges) (distinct h wh) there one_factor
      ∙ sum_over_same (ids ws) _ _ at
      ∙ sym (summed (joined h.edges) (around h.inputs h.outputs x (act (Cx t c) f)) r.added h.vertices (joined_comm h.edges) (distinct h wh) there one_factor)
      ∙ sym (followed_is_form h (act (Cx t c) f) x wh))
    where
      at : (label : ℕ → Bool) →
          mul (vertex_product ws label) (mul (sign (quad (joined g.edges) (ids ws) label))
          (add (mul one (bit_of_c label false)) (mul (mul one (sign (masked (joined g.edges r.added) (ids ws) label))) (bit_of_c label true))))
          ≡ mul (vertex_product ws label) (mul (sign (quad (joined h.edges) (ids ws) label))
          (add (mul one (around h.inputs h.outputs x (act (Cx t c) f) (labelled label r.added false)))
          (mul (mul one (sign (masked (joined h.edges r.added) (ids ws) label))) (around h.inputs h.outputs x (act (Cx t c) f) (labelled label r.added true)))))
      at label =
          ap (mul (vertex_product ws label))
          (row_identity (label r.to) (masked (joined g.edges r.added) (ids ws) label) (quad (joined g.edges) (ids ws) label) (bit_of_c label)
          ∙ ap₂ (λ q m. mul (sign q) (add (mul one (bit_of_c label (xor (label r.to) false))) (mul (mul one (sign m)) (bit_of_c label (xor (label r.to) true))))) (sym (edges_after label)) (sym (row_after label))
          ∙ ap₂ (λ s u. mul (sign (quad (joined h.edges) (ids ws) label)) (add (mul one s) (mul (mul one (sign (masked (joined h.edges r.added) (ids ws) label))) u)))
          (sym (after_gate label false)) (sym (after_gate label true)))

pub row_peels : (g : Graph) (c t : ℕ) (h : Graph) → WellFormed g → WellFormed h → IsRowAddition g c t h →
    PeelsAt one g (Cx t c ∷ []) h
row_peels g c t h wg wh r = peels_exactly g (Cx t c ∷ []) h (ap length (sym r.frame.inputs)) (ap length (sym r.frame.outputs)) (λ f x. row_peeled g c t h wg wh r f x)
