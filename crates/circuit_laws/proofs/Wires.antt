-- What is left in the end: wires, with the Hadamards of the inputs; and outputs that are exchanged.
use Rattle.std.proofs.Common.{◌≡◌, ◌≢◌, sym, ◌∙◌, ap, ap₂, subst, refl, ℕ, zero as nought, suc, Bool, true, false, not, cond, ◌&&◌, ◌||◌, eqb, List, [], ◌∷◌, ◌++◌, length, set, ne_eqb, true≢false, arith}
use Rattle.std.specs.Prelude.{slice_get, Some}
use Rattle.std.specs.List.{list_all}
use Rattle.std.proofs.lemmas.List.{set-set, set_comm}
use Rattle.std.proofs.Math.ListN.{length-set}
use Rattle.zx_model.specs.Bits.{xor, bit, member}
use Rattle.zx_model.specs.Number.{Number, zero, one, add, mul, sign, root_power}
use Rattle.zx_model.specs.Sums.{labelled, sum_over}
use Rattle.zx_model.proofs.Ring.{expand, mul_assoc, one-mul, one_nonzero}
use Rattle.zx_model.proofs.Powers.{root_power-zero}
use Rattle.zx_model.proofs.SumLemmas.{labelled-same, labelled-other, sum_over_same, sum_over_add, sum_over_mul}
use Rattle.zx_calculus.specs.Internal.Pairs.{quad}
use Rattle.zx_calculus.specs.Graph.{Plane, XY, XZ, YZ, Kind, Vertex, End, Graph, ids, kind_of, is_XY, joined, end_vertices, in_order, different, WellFormed, plain}
use Rattle.zx_calculus.specs.Sum.{factor, factor_in, vertex_product, end_factor, end_product}
use Rattle.zx_calculus.proofs.Booleans.{parities, or-true}
use Rattle.zx_calculus.proofs.Ids.{by_test, by_equal, and-left, and-right, not-true, member-different, Distinct, removed, member-removed, member-removed_other, Distinct-removed, eqb-self, apart_of_member}
use Rattle.zx_calculus.proofs.Parity.{masked_same, masked-false}
use Rattle.zx_calculus.proofs.Labels.{sum_over_front}
use Rattle.zx_calculus.proofs.Forms.{end_product-labelled}
use Rattle.zx_calculus.proofs.Splitting.{distinct, all_at, absent_from}
use Rattle.zx_gates.specs.Maps.{act, acts}
use Rattle.zx_gates.specs.declared.gate.Gate.TheVariants.{H, Cx}
use Rattle.circuit_laws.specs.Followed.{followed, EndsAt, PeelsAt}
use Rattle.circuit_laws.specs.Gates.{hadamards_from, exchange_gates}
use Rattle.circuit_laws.specs.Peeling.{IsWires, IsExchange}
use Rattle.circuit_laws.proofs.Composing.{peels_exactly}
use Rattle.circuit_laws.proofs.Leaving.{leave, around, followed_is_form, picked, leave-labelled, leave-set, leave-cx}
use Rattle.circuit_laws.proofs.Places.{first_is, slice_get-set, slice_get-set_other, one_place}

-- ---- what stands at vertices of phase 0 without edges is 1
pub vertex_product-one : (vs : List Vertex) (label : ℕ → Bool) → Distinct (ids vs) →
    ((u : ℕ) (b : Bool) → member u (ids vs) ≡ true → factor (kind_of vs u) b ≡ one) → vertex_product vs label ≡ one
vertex_product-one [] label d h = refl
vertex_product-one (v ∷ vs) label d h =
    ap₂ mul
    (ap (λ b. factor (cond b v.kind (kind_of vs v.id)) (label v.id)) (sym (eqb-self v.id)) ∙ h v.id (label v.id) (ap (λ b. b || member v.id (ids vs)) (eqb-self v.id)))
    (vertex_product-one vs label d.1
    (λ u b t. ap (λ e. factor (cond e v.kind (kind_of vs u)) b) (sym (ne_eqb u v.id (apart_of_member u v.id (ids vs) t d.0)))
    ∙ h u b (ap (λ e. eqb u v.id || e) t ∙ or-true (eqb u v.id))))
    ∙ one-mul one

quad-none : (a : ℕ → ℕ → Bool) (vs : List ℕ) (label : ℕ → Bool) → ((p q : ℕ) → a p q ≡ false) →
    quad a vs label ≡ false
quad-none a [] label h = refl
quad-none a (v ∷ vs) label h =
    ap₂ (λ m r. xor (label v && m) r) (masked_same (a v) (λ p. false) vs label (λ p t. h v p) ∙ masked-false vs label) (quad-none a vs label h) ∙ simp parities

pub factor-zero : (kind : Kind) (b : Bool) → is_XY kind.plane ≡ true → kind.phase ≡ 0 → factor kind b ≡ one
factor-zero kind b plane phase = at kind.plane b plane
  where
    at : (p : Plane) (b : Bool) → is_XY p ≡ true → factor_in p kind.phase b ≡ one
    at XY false h = refl
    at XY true h = ap root_power phase ∙ root_power-zero
    at XZ b h = cc
    at YZ b h = cc

-- ---- through ends in a row
-- f of the bits after the ends, where each end has its bit before it
abbrev through : List End → (List Bool → Number) → List Bool → Number
through [] f x = f []
through (e ∷ es) f [] = zero
through (e ∷ es) f (b ∷ x) =
    add (mul (end_factor e.hadamard false b) (through es (λ z. f (false ∷ z)) x)) (mul (end_factor e.hadamard true b) (through es (λ z. f (true ∷ z)) x))

-- each vertex of the list has one input and one output
wires_through : (ins outs : List End) (vs : List ℕ) (f : List Bool → Number) (x : List Bool) → Distinct vs →
    end_vertices ins ≡ end_vertices outs → in_order different (end_vertices outs) ≡ true →
    ((u : ℕ) → member u vs ≡ member u (end_vertices outs)) → list_all (λ e. not e.hadamard) outs ≡ true →
    length x ≡ length ins →
    sum_over vs (λ label. mul (end_product ins x label) (leave outs f label)) ≡ through ins f x
wires_through [] [] [] f x d line once same unmarked l = one-mul (f [])
wires_through [] [] (v ∷ vs) f x d line once same unmarked l = absurd (true≢false (sym (ap (λ b. b || member v vs) (eqb-self v)) ∙ same v))
wires_through [] (o ∷ outs) vs f x d line once same unmarked l = cc
wires_through (i ∷ ins) [] vs f x d line once same unmarked l = cc
wires_through (i ∷ ins) (o ∷ outs) vs f [] d line once same unmarked l = absurd (omega arith)
wires_through (i ∷ ins) (o ∷ outs) vs f (b ∷ x) d line once same unmarked l =
    sum_over_front o.vertex vs whole d (same o.vertex ∙ ap (λ b. b || member o.vertex (end_vertices outs)) (eqb-self o.vertex))
    ∙ sum_over_same (removed o.vertex vs) _ _ (λ label. ap₂ add (at label false) (at label true))
    ∙ sum_over_add (removed o.vertex vs) (λ label. mul (end_factor i.hadamard false b) (rest false label)) (λ label. mul (end_factor i.hadamard true b) (rest true label))
    ∙ ap₂ add (sum_over_mul (end_factor i.hadamard false b) (removed o.vertex vs) (rest false)) (sum_over_mul (end_factor i.hadamard true b) (removed o.vertex vs) (rest true))
    ∙ ap₂ (λ s t. add (mul (end_factor i.hadamard false b) s) (mul (end_factor i.hadamard true b) t))
    (wires_through ins outs (removed o.vertex vs) (λ z. f (false ∷ z)) x (Distinct-removed o.vertex vs d) in_line (and-right _ _ once) others (and-right _ _ unmarked) (omega arith))
    (wires_through ins outs (removed o.vertex vs) (λ z. f (true ∷ z)) x (Distinct-removed o.vertex vs d) in_line (and-right _ _ once) others (and-right _ _ unmarked) (omega arith))
  where
    whole : (ℕ → Bool) → Number
    whole label = mul (end_product (i ∷ ins) (b ∷ x) label) (leave (o ∷ outs) f label)

    rest : Bool → (ℕ → Bool) → Number
    rest c label = mul (end_product ins x label) (leave outs (λ z. f (c ∷ z)) label)

    same_place : i.vertex ≡ o.vertex
    same_place = cc

    in_line : end_vertices ins ≡ end_vertices outs
    in_line = cc

    absent : member o.vertex (end_vertices outs) ≡ false
    absent = member-different o.vertex (end_vertices outs) (and-left _ _ once)

    others : (u : ℕ) → member u (removed o.vertex vs) ≡ member u (end_vertices outs)
    others u =
        by_equal u o.vertex (λ t e. ap (λ w. member w (removed o.vertex vs)) e ∙ member-removed o.vertex vs ∙ sym (ap (λ w. member w (end_vertices outs)) e ∙ absent))
        (λ t n. member-removed_other u o.vertex vs n ∙ same u ∙ ap (λ c. c || member u (end_vertices outs)) t)

    is_plain : o.hadamard ≡ false
    is_plain = not-true o.hadamard (and-left (not o.hadamard) (list_all (λ e. not e.hadamard) outs) unmarked)

    at : (label : ℕ → Bool) (c : Bool) →
        whole (labelled label o.vertex c) ≡ mul (end_factor i.hadamard c b) (rest c label)
    at label c =
        ap₂ (λ p q. mul (mul p q) (leave (o ∷ outs) f (labelled label o.vertex c)))
        (ap (λ l. end_factor i.hadamard l b) (ap (labelled label o.vertex c) same_place ∙ labelled-same label o.vertex c))
        (end_product-labelled o.vertex ins x label c (ap (member o.vertex) in_line ∙ absent))
        ∙ ap (mul (mul (end_factor i.hadamard c b) (end_product ins x label)))
        (ap₂ (λ m l. add (mul (end_factor m l false) (leave outs (λ z. f (false ∷ z)) (labelled label o.vertex c))) (mul (end_factor m l true) (leave outs (λ z. f (true ∷ z)) (labelled label o.vertex c)))) is_plain (labelled-same label o.vertex c)
        ∙ picked c (λ e. leave outs (λ z. f (e ∷ z)) (labelled label o.vertex c))
        ∙ leave-labelled outs o.vertex (λ z. f (c ∷ z)) label c absent)
        ∙ mul_assoc _ _ _

-- ---- the Hadamards of the inputs
set-middle : (before : List Bool) (b c : Bool) (after : List Bool) →
    set (before ++ b ∷ after) (length before) c ≡ (before ++ c ∷ []) ++ after
set-middle [] b c after = refl
set-middle (a ∷ before) b c after = ap (λ r. a ∷ r) (set-middle before b c after)

bit-middle : (before : List Bool) (b : Bool) (after : List Bool) → bit (before ++ b ∷ after) (length before) ≡ b
bit-middle [] b after = refl
bit-middle (a ∷ before) b after = bit-middle before b after

split_middle : (before : List Bool) (c : Bool) (after : List Bool) → (before ++ c ∷ []) ++ after ≡ before ++ c ∷ after
split_middle [] c after = refl
split_middle (a ∷ before) c after = ap (λ r. a ∷ r) (split_middle before c after)

one_longer : (before : List Bool) (c : Bool) → length (before ++ c ∷ []) ≡ suc (length before)
one_longer [] c = refl
one_longer (a ∷ before) c = ap (λ n. suc n) (one_longer before c)

acts-hadamards : (es : List End) (before x : List Bool) (f : List Bool → Number) → length x ≡ length es →
    acts (hadamards_from (length before) es) f (before ++ x) ≡ through es (λ z. f (before ++ z)) x
acts-hadamards [] before [] f l = refl
acts-hadamards [] before (b ∷ x) f l = absurd (omega arith)
acts-hadamards (e ∷ es) before [] f l = absurd (omega arith)
acts-hadamards (e ∷ es) before (b ∷ x) f l =
    at e.hadamard
    (λ c. ap (λ n. acts (hadamards_from n es) f ((before ++ c ∷ []) ++ x)) (sym (one_longer before c))
    ∙ acts-hadamards es (before ++ c ∷ []) x f (omega arith)
    ∙ ap (λ (g : List Bool → Number). through es g x) (λ i z. f (split_middle before c z i)))
  where
    after : List Bool → Number
    after = acts (hadamards_from (suc (length before)) es) f

    at : (m : Bool) → ((c : Bool) → after ((before ++ c ∷ []) ++ x) ≡ through es (λ z. f (before ++ c ∷ z)) x) →
        acts (cond m (H (length before) ∷ hadamards_from (suc (length before)) es) (hadamards_from (suc (length before)) es)) f (before ++ b ∷ x)
        ≡ add (mul (end_factor m false b) (through es (λ z. f (before ++ false ∷ z)) x)) (mul (end_factor m true b) (through es (λ z. f (before ++ true ∷ z)) x))
    at true again =
        ap (λ c. add (mul (sign (false && c)) (after (set (before ++ b ∷ x) (length before) false))) (mul (sign (true && c)) (after (set (before ++ b ∷ x) (length before) true)))) (bit-middle before b x)
        ∙ ap₂ (λ s t. add (mul (sign (false && b)) s) (mul (sign (true && b)) t)) (ap after (set-middle before b false x) ∙ again false) (ap after (set-middle before b true x) ∙ again true)
    at false again = ap after (sym (split_middle before b x)) ∙ again b ∙ sym (kept b)
      where
        kept : (b : Bool) →
            add (mul (end_factor false false b) (through es (λ z. f (before ++ false ∷ z)) x)) (mul (end_factor false true b) (through es (λ z. f (before ++ true ∷ z)) x)) ≡ through es (λ z. f (before ++ b ∷ z)) x
        kept false = simp expand
        kept true = simp expand

module _ (g : Graph) (w : WellFormed g) (c : IsWires g) where
  ones : (u : ℕ) (b : Bool) → member u (ids g.vertices) ≡ true → factor (kind_of g.vertices u) b ≡ one
  ones u b t = factor-zero (kind_of g.vertices u) b (all_at (λ p. is_XY (kind_of g.vertices p).plane) (end_vertices g.outputs) u w.outputs.at_XY (c.output u t)) (c.phase u t)

  members : (u : ℕ) → member u (ids g.vertices) ≡ member u (end_vertices g.outputs)
  members u =
      by_test (member u (ids g.vertices)) (λ t. t ∙ sym (c.output u t))
      (λ f. f ∙ sym (absent_from (ids g.vertices) (end_vertices g.outputs) u w.outputs.there f))

  pub wires_peeled : (f : List Bool → Number) (x : List Bool) → length x ≡ length g.inputs →
      followed g f x ≡ acts (hadamards_from 0 g.inputs) f x
  wires_peeled f x l =
      followed_is_form g f x w
      ∙ sum_over_same (ids g.vertices) _ _
      (λ label. ap₂ (λ p q. mul p (mul (sign q) (around g.inputs g.outputs x f label))) (vertex_product-one g.vertices label (distinct g w) ones) (quad-none (joined g.edges) (ids g.vertices) label c.no_edges)
      ∙ one-mul _ ∙ one-mul _)
      ∙ wires_through g.inputs g.outputs (ids g.vertices) f x (distinct g w) c.in_line w.outputs.one_each members c.plain_outputs l
      ∙ sym (acts-hadamards g.inputs [] x f l)

  pub wires_end : EndsAt one g (hadamards_from 0 g.inputs)
  wires_end = (record { cost = one; nonzero = one_nonzero; equal = λ f x l. wires_peeled f x l ∙ sym (one-mul _) }, refl)

pub hadamards_from-plain : (q : ℕ) (es : List End) → list_all (λ e. not e.hadamard) es ≡ true →
    hadamards_from q es ≡ []
hadamards_from-plain q [] h = refl
hadamards_from-plain q (e ∷ es) h =
    ap (λ b. cond b (H q ∷ hadamards_from (suc q) es) (hadamards_from (suc q) es)) (not-true e.hadamard (and-left (not e.hadamard) (list_all (λ e. not e.hadamard) es) h))
    ∙ hadamards_from-plain (suc q) es (and-right (not e.hadamard) (list_all (λ e. not e.hadamard) es) h)

-- ---- an exchange
-- after a plain output whose bit is written, it doesn't matter where the output stands
leave-free : (es : List End) (q u v : ℕ) (f : List Bool → Number) (b : Bool) (label : ℕ → Bool) →
    slice_get es q ≡ Some (plain u) →
    leave es (λ z. f (set z q b)) label ≡ leave (set es q (plain v)) (λ z. f (set z q b)) label
leave-free [] q u v f b label h = refl
leave-free (e ∷ es) nought u v f b label h =
    subst (λ d. leave (d ∷ es) (λ z. f (set z 0 b)) label ≡ leave (plain v ∷ es) (λ z. f (set z 0 b)) label) (sym (first_is e (plain u) h))
    (picked (label u) (λ c. leave es (λ z. f (b ∷ z)) label) ∙ sym (picked (label v) (λ c. leave es (λ z. f (b ∷ z)) label)))
leave-free (e ∷ es) (suc q) u v f b label h =
    ap₂ (λ s t. add (mul (end_factor e.hadamard (label e.vertex) false) s) (mul (end_factor e.hadamard (label e.vertex) true) t))
    (leave-free es q u v (λ z. f (false ∷ z)) b label h) (leave-free es q u v (λ z. f (true ∷ z)) b label h)

pub labelled_back : (label : ℕ → Bool) (u : ℕ) → labelled label u (label u) ≡ label
labelled_back label u = λ i w. by_equal u w (λ t e. ap (λ v. labelled label u (label u) v) (sym e) ∙ labelled-same label u (label u) ∙ ap label e) (λ f n. labelled-other label u (label u) w (λ e. n (sym e))) i

-- both bits are written, and the outputs may be exchanged
module _ (g : Graph) (p q : ℕ) (h : Graph) (wg : WellFormed g) (wh : WellFormed h) (c : IsExchange g p q h) where
  output_stays : slice_get (set g.outputs p (plain c.second)) q ≡ Some (plain c.second)
  output_stays = slice_get-set_other g.outputs p q (plain c.second) (λ e. c.different (sym e)) ∙ c.output_too

  first_after : slice_get h.outputs p ≡ Some (plain c.second)
  first_after =
      ap (λ es. slice_get es p) c.outputs
      ∙ slice_get-set_other (set g.outputs p (plain c.second)) q p (plain c.first) c.different
      ∙ slice_get-set g.outputs p (plain c.first) (plain c.second) c.output

  second_after : slice_get h.outputs q ≡ Some (plain c.first)
  second_after = ap (λ es. slice_get es q) c.outputs ∙ slice_get-set (set g.outputs p (plain c.second)) q (plain c.second) (plain c.first) output_stays

  apart : c.second ≢ c.first
  apart e = c.different (one_place g.outputs p q (plain c.first) (plain c.second) wg.outputs.one_each c.output c.output_too (sym e))

  module _ (f : List Bool → Number) (label : ℕ → Bool) where
    -- f with the labels written at the two end_vertices
    abbrev written : List Bool → Number
    written z = f (set (set z p (label c.first)) q (label c.second))

    other_order : (z : List Bool) → f (set (set z q (label c.second)) p (label c.first)) ≡ written z
    other_order z = ap f (set_comm z q p (label c.second) (label c.first) (λ e. c.different (sym e)))

    before : leave g.outputs f label ≡ leave h.outputs written label
    before =
        ap (leave g.outputs f) (sym (labelled_back label c.first))
        ∙ sym (leave-set g.outputs p c.first f label (label c.first) wg.outputs.one_each c.output)
        ∙ ap (leave g.outputs (λ z. f (set z p (label c.first)))) (sym (labelled_back label c.second))
        ∙ sym (leave-set g.outputs q c.second (λ z. f (set z p (label c.first))) label (label c.second) wg.outputs.one_each c.output_too)
        ∙ ap (λ (e : List Bool → Number). leave g.outputs e label) (λ i z. other_order z i)
        ∙ leave-free g.outputs p c.first c.second (λ z. f (set z q (label c.second))) (label c.first) label c.output
        ∙ ap (λ (e : List Bool → Number). leave (set g.outputs p (plain c.second)) e label) (λ i z. sym (other_order z) i)
        ∙ leave-free (set g.outputs p (plain c.second)) q c.second c.first (λ z. f (set z p (label c.first))) (label c.second) label output_stays
        ∙ ap₂ (λ es (e : List Bool → Number). leave es e label) (sym c.outputs) (λ i z. other_order z i)

    -- the labels after the first two gates
    abbrev one_gate : ℕ → Bool
    one_gate = labelled label c.first (xor (label c.second) (label c.first))

    abbrev two_gates : ℕ → Bool
    two_gates = labelled one_gate c.second (label c.first)

    second_bit : xor (one_gate c.first) (one_gate c.second) ≡ label c.first
    second_bit =
        ap₂ xor (labelled-same label c.first (xor (label c.second) (label c.first))) (labelled-other label c.first (xor (label c.second) (label c.first)) c.second apart)
        ∙ simp parities

    third_bit : xor (two_gates c.second) (two_gates c.first) ≡ label c.second
    third_bit =
        ap₂ xor (labelled-same one_gate c.second (label c.first))
        (labelled-other one_gate c.second (label c.first) c.first (λ e. apart (sym e)) ∙ labelled-same label c.first (xor (label c.second) (label c.first)))
        ∙ simp parities

    overwritten : (z : List Bool) → written (set z q (xor (label c.second) (label c.first))) ≡ written z
    overwritten z =
        ap (λ y. f (set y q (label c.second))) (set_comm z q p (xor (label c.second) (label c.first)) (label c.first) (λ e. c.different (sym e)))
        ∙ ap f (set-set (set z p (label c.first)) q (xor (label c.second) (label c.first)) (label c.second))

    after : leave h.outputs (acts (exchange_gates p q) f) label ≡ leave h.outputs written label
    after =
        leave-cx h.outputs p q c.second c.first (act (Cx q p) (act (Cx p q) f)) label wh.outputs.one_each first_after second_after
        ∙ leave-cx h.outputs q p c.first c.second (act (Cx p q) f) one_gate wh.outputs.one_each second_after first_after
        ∙ ap (λ b. leave h.outputs (act (Cx p q) f) (labelled one_gate c.second b)) second_bit
        ∙ leave-cx h.outputs p q c.second c.first f two_gates wh.outputs.one_each first_after second_after
        ∙ ap (λ b. leave h.outputs f (labelled two_gates c.first b)) third_bit
        ∙ sym (leave-set h.outputs q c.first f two_gates (label c.second) wh.outputs.one_each second_after)
        ∙ sym (leave-set h.outputs p c.second (λ z. f (set z q (label c.second))) one_gate (label c.first) wh.outputs.one_each first_after)
        ∙ sym (leave-set h.outputs q c.first written label (xor (label c.second) (label c.first)) wh.outputs.one_each second_after)
        ∙ ap (λ (e : List Bool → Number). leave h.outputs e label) (λ i z. overwritten z i)

  pub exchange_peeled : (f : List Bool → Number) (x : List Bool) →
      followed g f x ≡ followed h (acts (exchange_gates p q) f) x
  exchange_peeled f x =
      followed_is_form g f x wg
      ∙ rw (c.vertices, c.edges, c.inputs)
      (sum_over_same (ids h.vertices) _ _
      (λ label. ap (λ o. mul (vertex_product h.vertices label) (mul (sign (quad (joined h.edges) (ids h.vertices) label)) (mul (end_product h.inputs x label) o))) (before f label ∙ sym (after f label)))
      ∙ sym (followed_is_form h (acts (exchange_gates p q) f) x wh))

  pub exchange_peels : PeelsAt one g (exchange_gates p q) h
  exchange_peels =
      peels_exactly g (exchange_gates p q) h (ap length (sym c.inputs))
      (ap length c.outputs ∙ length-set (set g.outputs p (plain c.second)) q (plain c.first) ∙ length-set g.outputs p (plain c.second)) exchange_peeled
