-- A graph of which each vertex has an end, and whose sum is the identity's map up to a scalar, is bare.
use Rattle.std.proofs.Common.{◌≡◌, ◌≢◌, inl, inr, refl, sym, ◌∙◌, ap, ap₂, subst, ℕ, suc, zero as nought, ◌<◌, Bool, true, false, not, cond, ◌&&◌, ◌||◌, eqb, List, [], ◌∷◌, length, filter, true≢false, eq-eqb, ne_eqb, arith}
use Rattle.std.specs.List.{list_all, zip}
use Rattle.std.specs.Prelude.{ℤ, pos, ◌+◌, ◌≤◌}
use borrow.Author.Differences.{up}
use Rattle.std.proofs.lemmas.Bool.{or_cases}
use Rattle.zx_model.specs.Bits.{xor, member}
use Rattle.zx_model.specs.Cyclotomic.{add_cyclotomic, neg_cyclotomic, mul_cyclotomic}
use Rattle.zx_model.specs.Number.{Number, zero, one, add, neg, mul, sign, root_power}
use Rattle.zx_model.specs.Phase.{turn}
use Rattle.zx_model.specs.Proportional.{Proportional}
use Rattle.zx_model.specs.Sums.{sum_over}
use Rattle.zx_model.proofs.Domain.{mul-nonzero, mul_left_cancel}
use Rattle.zx_model.proofs.Powers.{root_power-nonzero, root_power-zero}
use Rattle.zx_model.proofs.Ring.{sorted, mul-zero, zero-mul, one-mul, mul-one, mul-neg, mul_assoc}
use Rattle.zx_model.proofs.SumLemmas.{sum_over_same, sum_over_mul}
use Rattle.zx_calculus.specs.Graph.{XY, XZ, YZ, Plane, Kind, Vertex, End, Graph, ids, kind_of, joined, neighbours, is_XY, phase_of, end_vertices, Distinct, WellFormed}
use Rattle.zx_calculus.specs.Parity.{masked}
use Rattle.zx_calculus.specs.Internal.Pairs.{quad}
use Rattle.zx_calculus.specs.Sum.{factor, factor_in, vertex_product, graph_sum}
use Rattle.zx_calculus.proofs.Booleans.{or-true, parities}
use Rattle.zx_calculus.proofs.Edges.{joined_comm}
use Rattle.zx_calculus.proofs.Forms.{sum_is_form}
use Rattle.zx_calculus.proofs.Ids.{by_test, by_equal, eqb-self, member-there, member-here, apart_of_member, removed, member-removed, member-removed_other, Distinct-removed, Distinct-different, Symmetric, masked_front, quad_front}
use Rattle.zx_calculus.proofs.Parity.{masked_labels, quad_labels}
use Rattle.zx_calculus.proofs.Splitting.{distinct, all_at, no_loop}
use Rattle.zx_calculus.proofs.Vertices.{phase-kind_of}
use Rattle.zx_gates.specs.Maps.{amp}
use Rattle.zx_same.specs.Bare.{is_bare_vertex, is_only_neighbour, is_wire_at_vertex, is_wire_along_edge, is_bare_wire, is_bare}
use Rattle.zx_same.proofs.EndTransforms.{meeting, meetings, ends_taken_off, picked, restricted, restricted_at}
use Rattle.zx_same.proofs.Meetings.{Meet, meets_input, meets_output, one_input, one_output, weight, whole_nonzero, meetings-own, meetings-apart, at_labels, meetings-zero, meetings-nonzero, meetings-same, meetings-turned, meeting-marks, meeting-alike, meeting-other, marks_nonzero, alike_nonzero}

-- ---- labels of no vertex, of one and of two
abbrev pub none : ℕ → Bool
none u = false

abbrev pub just : ℕ → ℕ → Bool
just v u = eqb u v

abbrev pub both : ℕ → ℕ → ℕ → Bool
both v w u = eqb u v || eqb u w

masked-unlabelled : (near : ℕ → Bool) (vs : List ℕ) (label : ℕ → Bool) → ((u : ℕ) → member u vs ≡ true → label u ≡ false) → masked near vs label ≡ false
masked-unlabelled near [] label h = refl
masked-unlabelled near (v ∷ vs) label h =
    ap₂ (λ a b. xor (near v && a) b) (h v (member-here v vs)) (masked-unlabelled near vs label (λ u t. h u (member-there u v vs t))) ∙ simp parities

quad-unlabelled : (a : ℕ → ℕ → Bool) (vs : List ℕ) (label : ℕ → Bool) → ((u : ℕ) → member u vs ≡ true → label u ≡ false) → quad a vs label ≡ false
quad-unlabelled a [] label h = refl
quad-unlabelled a (v ∷ vs) label h =
    ap₂ (λ b c. xor (b && masked (a v) vs label) c) (h v (member-here v vs)) (quad-unlabelled a vs label (λ u t. h u (member-there u v vs t)))

-- other vertices than the one that is labelled
elsewhere : (v : ℕ) (vs : List ℕ) → member v vs ≡ false → (u : ℕ) → member u vs ≡ true → just v u ≡ false
elsewhere v vs absent u there = ne_eqb u v (apart_of_member u v vs there absent)

quad-just : (a : ℕ → ℕ → Bool) (v : ℕ) (vs : List ℕ) → Symmetric a → Distinct vs → member v vs ≡ true → quad a vs (just v) ≡ false
quad-just a v vs s d there =
    quad_front a v vs (just v) s d there
    ∙ ap₂ (λ m q. xor (just v v && m) q)
    (masked-unlabelled (a v) (removed v vs) (just v) (elsewhere v (removed v vs) (member-removed v vs)))
    (quad-unlabelled a (removed v vs) (just v) (elsewhere v (removed v vs) (member-removed v vs)))
    ∙ simp parities

both-first : (v w u : ℕ) → u ≢ v → both v w u ≡ just w u
both-first v w u n = ap (λ b. b || eqb u w) (ne_eqb u v n)

quad-both : (a : ℕ → ℕ → Bool) (v w : ℕ) (vs : List ℕ) → Symmetric a → Distinct vs → member v vs ≡ true → member w vs ≡ true → w ≢ v → quad a vs (both v w) ≡ a v w
quad-both a v w vs s d here there apart =
    quad_front a v vs (both v w) s d here
    ∙ ap₂ (λ m q. xor (both v w v && m) q)
    (masked_labels (a v) (removed v vs) (both v w) (just w) rest
    ∙ masked_front (a v) w (removed v vs) (just w) (Distinct-removed v vs d) still
    ∙ ap (xor (a v w && just w w)) (masked-unlabelled (a v) (removed w (removed v vs)) (just w) (elsewhere w (removed w (removed v vs)) (member-removed w (removed v vs)))))
    (quad_labels a (removed v vs) (both v w) (just w) rest ∙ quad-just a w (removed v vs) s (Distinct-removed v vs d) still)
    ∙ ap₂ (λ b c. xor ((b || eqb v w) && xor (a v w && c) false) false) (eqb-self v) (eqb-self w) ∙ simp parities
  where
    still : member w (removed v vs) ≡ true
    still = member-removed_other w v vs apart ∙ there

    rest : (u : ℕ) → member u (removed v vs) ≡ true → both v w u ≡ just w u
    rest u t = both-first v w u (apart_of_member u v (removed v vs) t (member-removed v vs))

-- ---- products over vertices of the XY plane
spider_at : (kind : Kind) → is_XY kind.plane ≡ true → (factor kind false ≡ one) × (factor kind true ≡ root_power kind.phase)
spider_at kind plane = at kind.plane plane
  where
    at : (p : Plane) → is_XY p ≡ true → (factor_in p kind.phase false ≡ one) × (factor_in p kind.phase true ≡ root_power kind.phase)
    at XY h = (refl, refl)
    at XZ h = absurd (true≢false (sym h))
    at YZ h = absurd (true≢false (sym h))

-- a product of factors that are all 1
product-one : (vs : List Vertex) (label : ℕ → Bool) → Distinct (ids vs) →
    ((u : ℕ) → member u (ids vs) ≡ true → factor (kind_of vs u) (label u) ≡ one) → vertex_product vs label ≡ one
product-one [] label d h = refl
product-one (v ∷ vs) label d h =
    ap₂ mul
    (ap (λ b. factor (cond b v.kind (kind_of vs v.id)) (label v.id)) (sym (eqb-self v.id)) ∙ h v.id (member-here v.id (ids vs)))
    (product-one vs label d.1
    (λ u t. ap (λ e. factor (cond e v.kind (kind_of vs u)) (label u)) (sym (ne_eqb u v.id (apart_of_member u v.id (ids vs) t d.0)))
    ∙ h u (member-there u v.id (ids vs) t)))
    ∙ one-mul one

-- a product of factors of which one alone isn't 1
product-just : (vs : List Vertex) (label : ℕ → Bool) (v : ℕ) → Distinct (ids vs) → member v (ids vs) ≡ true →
    ((u : ℕ) → member u (ids vs) ≡ true → u ≢ v → factor (kind_of vs u) (label u) ≡ one) → vertex_product vs label ≡ factor (kind_of vs v) (label v)
product-just [] label v d there h = absurd (true≢false (sym there))
product-just (x ∷ vs) label v d there h =
    by_equal v x.id
    (λ t e. ap₂ mul
    (ap (λ (u : ℕ). factor x.kind (label u)) (sym e))
    (product-one vs label d.1 (λ u s. ap (λ c. factor (cond c x.kind (kind_of vs u)) (label u)) (sym (ne_eqb u x.id (apart_of_member u x.id (ids vs) s d.0)))
    ∙ h u (member-there u x.id (ids vs) s) (λ q. apart_of_member u x.id (ids vs) s d.0 (q ∙ e))))
    ∙ mul-one _ ∙ ap (λ b. factor (cond b x.kind (kind_of vs v)) (label v)) (sym t))
    (λ f n. ap₂ mul
    (ap (λ b. factor (cond b x.kind (kind_of vs x.id)) (label x.id)) (sym (eqb-self x.id)) ∙ h x.id (member-here x.id (ids vs)) (λ q. n (sym q)))
    (product-just vs label v d.1 (rw f at there)
    (λ u s apart. ap (λ c. factor (cond c x.kind (kind_of vs u)) (label u)) (sym (ne_eqb u x.id (apart_of_member u x.id (ids vs) s d.0)))
    ∙ h u (member-there u x.id (ids vs) s) apart))
    ∙ one-mul _ ∙ ap (λ b. factor (cond b x.kind (kind_of vs v)) (label v)) (sym f))

-- ---- powers of the root and signs
-- the first part of a power of z
abbrev first : ℕ → ℤ
first k = (root_power k).plain.c0

-- of the powers of z below a turn the first alone is 1
abbrev AllFrom : (P : ℕ → Type 0) → ℕ → ℕ → Type 0
AllFrom P start nought = Unit {0}
AllFrom P start (suc count) = P start × AllFrom P (suc start) count

from_all : (P : ℕ → Type 0) (start count : ℕ) → AllFrom P start count → (k : ℕ) → start ≤ k → k < start + count → P k
from_all P start nought all k low high = absurd (omega arith)
from_all P start (suc count) all k low high =
    by_equal k start (λ t e. subst P (sym e) all.0) (λ f n. from_all P (suc start) count all.1 k (omega (arith, n)) (omega arith))

not_one : (k : ℕ) → first k ≢ pos 1 → root_power k ≢ one
not_one k h e = h (ap (λ (n : Number). n.plain.c0) e)

roots : AllFrom (λ k. first k ≢ pos 1) 1 15
unfolding add mul root_power add_cyclotomic mul_cyclotomic
roots = (
  λ e. omega (arith, ap up e),
  (
    λ e. omega (arith, ap up e),
    (
      λ e. omega (arith, ap up e),
      (
        λ e. omega (
          arith,
          ap up e,
        ),
        (
          λ e. omega (arith, ap up e),
          (
            λ e. omega (arith, ap up e),
            (
              λ e. omega (arith, ap up e),
              (
                λ e.
                    omega (arith, ap up e),
                (
                  λ e. omega (arith, ap up e),
                  (
                    λ e. omega (arith, ap up e),
                    (
                      λ e. omega (
                        arith,
                        ap up
                            e,
                      ),
                      (
                        λ e. omega (arith, ap up e),
                        (
                          λ e. omega (arith, ap up e),
                          (
                            λ e. omega (arith, ap up e),
                            (
                              λ e. omega
                                  (arith, ap up e),
                              tt,
                            ),
                          ),
                        ),
                      ),
                    ),
                  ),
                ),
              ),
            ),
          ),
        ),
      ),
    ),
  ),
)

pub root_power-unit : (k : ℕ) → k < turn → root_power k ≡ one → k ≡ 0
root_power-unit k below unit =
    by_equal k 0 (λ t e. e)
    (λ f n. absurd (not_one k (from_all (λ k. first k ≢ pos 1) 1 15 roots k (omega (arith, n)) (omega arith)) unit))

minus_one : one ≢ neg one
unfolding neg neg_cyclotomic
minus_one e = omega (arith, ap (λ (n : Number). up n.plain.c0) e)

sign-same : (a b : Bool) → sign a ≡ sign b → a ≡ b
sign-same false false e = refl
sign-same true true e = refl
sign-same false true e = absurd (minus_one e)
sign-same true false e = absurd (minus_one (sym e))

-- ---- lists
and-false : (a : Bool) → (a && false) ≡ false
and-false false = refl
and-false true = refl

pub all_of : (test : ℕ → Bool) (xs : List ℕ) → ((x : ℕ) → member x xs ≡ true → test x ≡ true) → list_all test xs ≡ true
all_of test [] h = refl
all_of test (x ∷ xs) h = ap₂ (λ a b. a && b) (h x (member-here x xs)) (all_of test xs (λ u t. h u (member-there u x xs t)))

all_meet : (test : End × End → Bool) (ins outs : List End) → ((i o : End) → Meet i o ins outs → test (i, o) ≡ true) → list_all test (zip ins outs) ≡ true
all_meet test [] outs h = refl
all_meet test (a ∷ ins) [] h = refl
all_meet test (a ∷ ins) (b ∷ outs) h = ap₂ (λ p q. p && q) (h a b (inl (refl, refl))) (all_meet test ins outs (λ i o m. h i o (inr m)))

filter-none : (test : ℕ → Bool) (xs : List ℕ) → ((x : ℕ) → member x xs ≡ true → test x ≡ false) → length (filter test xs) ≡ 0
filter-none test [] h = refl
filter-none test (x ∷ xs) h = rw (h x (member-here x xs)) (filter-none test xs (λ u t. h u (member-there u x xs t)))

filter-one : (test : ℕ → Bool) (v : ℕ) (xs : List ℕ) → Distinct xs → member v xs ≡ true → test v ≡ true →
    ((x : ℕ) → member x xs ≡ true → x ≢ v → test x ≡ false) → length (filter test xs) ≡ 1
filter-one test v [] d there picks others = absurd (true≢false (sym there))
filter-one test v (x ∷ xs) d there picks others =
    by_equal v x
    (λ t e. rw (ap test (sym e) ∙ picks)
    (ap (λ n. suc n) (filter-none test xs (λ u s. others u (member-there u x xs s) (λ q. apart_of_member u x xs s d.0 (q ∙ e))))))
    (λ f n. rw (others x (member-here x xs) (λ q. n (sym q))) (filter-one test v xs d.1 (rw f at there) picks (λ u s. others u (member-there u x xs s))))

-- ---- the graph
module _ (g : Graph) (w : WellFormed g) (as_many : length g.inputs ≡ length g.outputs)
    (has_end : (u : ℕ) → member u (ids g.vertices) ≡ true → (member u (end_vertices g.inputs) || member u (end_vertices g.outputs)) ≡ true)
    (same : Proportional (length g.inputs) (length g.inputs) (graph_sum g) (amp [])) where
  abbrev vs : List ℕ
  vs = ids g.vertices

  abbrev near : ℕ → ℕ → Bool
  near = joined g.edges

  abbrev weighed : (ℕ → Bool) → Number
  weighed label = mul (vertex_product g.vertices label) (sign (quad near vs label))

  abbrev met : (ℕ → Bool) → (ℕ → Bool) → Number
  met = meetings g.inputs g.outputs

  input_there : (u : ℕ) → member u (end_vertices g.inputs) ≡ true → member u vs ≡ true
  input_there u t = all_at (λ p. member p vs) (end_vertices g.inputs) u w.inputs.there t

  output_there : (u : ℕ) → member u (end_vertices g.outputs) ≡ true → member u vs ≡ true
  output_there u t = all_at (λ p. member p vs) (end_vertices g.outputs) u w.outputs.there t

  inputs_differ : Distinct (end_vertices g.inputs)
  inputs_differ = Distinct-different (end_vertices g.inputs) w.inputs.one_each

  outputs_differ : Distinct (end_vertices g.outputs)
  outputs_differ = Distinct-different (end_vertices g.outputs) w.outputs.one_each

  abbrev left_over : (ℕ → Bool) → (ℕ → Bool) → (ℕ → Bool) → Number
  left_over k l label = mul (meetings g.inputs g.inputs k label) (mul (weighed label) (meetings g.outputs g.outputs l label))

  transformed : (k l : ℕ → Bool) → mul same.left (sum_over vs (left_over k l)) ≡ mul same.right (met k l)
  transformed =
      ends_taken_off vs weighed g.inputs g.outputs same.left same.right as_many
      (λ x y s t. ap (mul same.left)
      (sum_over_same vs _ _ (λ label. mul_assoc _ _ _) ∙ sym (sum_is_form g x y w))
      ∙ same.equal x y s (t ∙ sym as_many))

  -- where an input and an output stand at one vertex with labels that differ, nothing is left
  apart : (k l : ℕ → Bool) (v : ℕ) → member v (end_vertices g.inputs) ≡ true → member v (end_vertices g.outputs) ≡ true → k v ≢ l v → met k l ≡ zero
  apart k l v input output other =
      mul_left_cancel same.right (met k l) zero same.right_nonzero
      (sym (transformed k l)
      ∙ ap (mul same.left) (sum_over_same vs (left_over k l) (λ label. mul zero (left_over k l label)) (λ label. gone label) ∙ sum_over_mul zero vs (left_over k l) ∙ zero-mul _)
      ∙ mul-zero same.left ∙ sym (mul-zero same.right))
    where
      gone : (label : ℕ → Bool) → left_over k l label ≡ mul zero (left_over k l label)
      gone label =
          by_bit (label v) (k v) (λ e. ap (λ n. mul n (mul (weighed label) (meetings g.outputs g.outputs l label))) (meetings-apart g.inputs k label v input e) ∙ zero-mul _)
          (λ e. ap (λ n. mul (meetings g.inputs g.inputs k label) (mul (weighed label) n)) (meetings-apart g.outputs l label v output (λ f. other (sym e ∙ f)))
          ∙ ap (mul (meetings g.inputs g.inputs k label)) (mul-zero _) ∙ mul-zero _)
          ∙ sym (zero-mul _)
        where
          by_bit : {P : Type 0} (a b : Bool) → (a ≢ b → P) → (a ≡ b → P) → P
          by_bit false false f h = h refl
          by_bit true true f h = h refl
          by_bit false true f h = f (λ e. true≢false (sym e))
          by_bit true false f h = f true≢false

  abbrev factor_of_all : Number
  factor_of_all = mul same.left (mul (weight g.inputs) (weight g.outputs))

  factor_nonzero : factor_of_all ≢ zero
  factor_nonzero = mul-nonzero _ _ same.left_nonzero (mul-nonzero _ _ (whole_nonzero g.inputs) (whole_nonzero g.outputs))

  product_labels : (us : List Vertex) (k l : ℕ → Bool) → ((u : ℕ) → member u (ids us) ≡ true → k u ≡ l u) → vertex_product us k ≡ vertex_product us l
  product_labels [] k l h = refl
  product_labels (u ∷ us) k l h =
      ap₂ mul (ap (factor u.kind) (h u.id (member-here u.id (ids us)))) (product_labels us k l (λ v t. h v (member-there v u.id (ids us) t)))

  -- with the same labels at inputs and outputs, what is left is the product over vertices and edges
  together : (k : ℕ → Bool) → mul factor_of_all (weighed k) ≡ mul same.right (met k k)
  together k =
      ordered _ _ _ _
      ∙ ap (mul same.left)
      (ap₂ mul
      (sym (meetings-own g.inputs k r (λ v t. restricted_at k vs v (input_there v t))))
      (ap₂ mul (ap₂ (λ p q. mul p (sign q)) (product_labels g.vertices k r alike) (quad_labels near vs k r alike))
      (sym (meetings-own g.outputs k r (λ v t. restricted_at k vs v (output_there v t)))))
      ∙ sym (picked k vs (left_over k k) (distinct g w) alone))
      ∙ transformed k k
    where
      r : ℕ → Bool
      r = restricted k vs

      alike : (u : ℕ) → member u vs ≡ true → k u ≡ r u
      alike u t = sym (restricted_at k vs u t)

      ordered : (c a b n : Number) → mul (mul c (mul a b)) n ≡ mul c (mul a (mul n b))
      ordered c a b n = simp sorted

      alone : (v : ℕ) (label : ℕ → Bool) → member v vs ≡ true → label v ≢ k v → left_over k k label ≡ zero
      alone v label there other =
          elim (or_cases (member v (end_vertices g.inputs)) (member v (end_vertices g.outputs)) (has_end v there)) [
            | inl input ↦ ap (λ n. mul n (mul (weighed label) (meetings g.outputs g.outputs k label))) (meetings-apart g.inputs k label v input other) ∙ zero-mul _
            | inr output ↦ ap (λ n. mul (meetings g.inputs g.inputs k label) (mul (weighed label) n)) (meetings-apart g.outputs k label v output other)
                ∙ ap (mul (meetings g.inputs g.inputs k label)) (mul-zero _) ∙ mul-zero _
          ]

  -- ---- vertices
  in_plane : (u : ℕ) → member u vs ≡ true → is_XY (kind_of g.vertices u).plane ≡ true
  in_plane u there =
      elim (or_cases (member u (end_vertices g.inputs)) (member u (end_vertices g.outputs)) (has_end u there)) [
        | inl input ↦ all_at (λ p. is_XY (kind_of g.vertices p).plane) (end_vertices g.inputs) u w.inputs.at_XY input
        | inr output ↦ all_at (λ p. is_XY (kind_of g.vertices p).plane) (end_vertices g.outputs) u w.outputs.at_XY output
      ]

  weighed-none : weighed none ≡ one
  weighed-none =
      ap₂ (λ p q. mul p (sign q))
      (product-one g.vertices none (distinct g w) (λ u t. (spider_at (kind_of g.vertices u) (in_plane u t)).0))
      (quad-unlabelled near vs none (λ u t. refl))
      ∙ mul-one one

  weighed-just : (v : ℕ) → member v vs ≡ true → weighed (just v) ≡ root_power (phase_of g v)
  weighed-just v there =
      ap₂ (λ p q. mul p (sign q))
      (product-just g.vertices (just v) v (distinct g w) there
      (λ u t n. ap (factor (kind_of g.vertices u)) (ne_eqb u v n) ∙ (spider_at (kind_of g.vertices u) (in_plane u t)).0)
      ∙ ap (factor (kind_of g.vertices v)) (eqb-self v) ∙ (spider_at (kind_of g.vertices v) (in_plane v there)).1)
      (quad-just near v vs (joined_comm g.edges) (distinct g w) there)
      ∙ mul-one _

  -- what isn't 0 stays so
  weighed_met : (k : ℕ → Bool) → weighed k ≢ zero → met k k ≢ zero
  weighed_met k some e = mul-nonzero factor_of_all (weighed k) factor_nonzero some (together k ∙ ap (mul same.right) e ∙ mul-zero same.right)

  -- labels with which as much is met have the same weight
  same_weight : (k l : ℕ → Bool) → met k k ≡ met l l → weighed k ≡ weighed l
  same_weight k l e = mul_left_cancel factor_of_all (weighed k) (weighed l) factor_nonzero (together k ∙ ap (mul same.right) e ∙ sym (together l))

  -- ---- wires
  module _ (i o : End) (m : Meet i o g.inputs g.outputs) where
    input : member i.vertex (end_vertices g.inputs) ≡ true
    input = meets_input i o g.inputs g.outputs m

    output : member o.vertex (end_vertices g.outputs) ≡ true
    output = meets_output i o g.inputs g.outputs m

    -- ends with equal marks stand at one vertex
    pub one_vertex : xor i.hadamard o.hadamard ≡ false → i.vertex ≡ o.vertex
    one_vertex alike =
        by_equal i.vertex o.vertex (λ t e. e)
        (λ f n. absurd (weighed_met (just i.vertex) (λ z. root_power-nonzero (phase_of g i.vertex) (sym (weighed-just i.vertex (input_there i.vertex input)) ∙ z))
        (meetings-zero i o g.inputs g.outputs (just i.vertex) (just i.vertex) m
        (ap₂ (meeting i.hadamard o.hadamard) (eqb-self i.vertex) (ne_eqb o.vertex i.vertex (λ e. n (sym e)))
        ∙ meeting-other i.hadamard o.hadamard true false alike (λ e. true≢false (sym e))))))

    -- the input's vertex of a wire with different marks has no output
    pub no_output : xor i.hadamard o.hadamard ≡ true → member i.vertex (end_vertices g.outputs) ≡ false
    no_output marks =
        by_test (member i.vertex (end_vertices g.outputs))
        (λ t. absurd (meetings-nonzero g.inputs g.outputs (just i.vertex) none at (apart (just i.vertex) none i.vertex input t (λ e. true≢false (sym (eqb-self i.vertex) ∙ e)))))
        (λ f. f)
      where
        at : (j p : End) → Meet j p g.inputs g.outputs → at_labels (just i.vertex) none j p ≢ zero
        at j p n =
            by_test (xor j.hadamard p.hadamard) (λ t. marks_nonzero j.hadamard p.hadamard (just i.vertex j.vertex) false t)
            (λ f. alike_nonzero j.hadamard p.hadamard (just i.vertex j.vertex) false f
            (ne_eqb j.vertex i.vertex (λ e. let one = one_input j p i o g.inputs g.outputs inputs_differ n m e in
            true≢false (sym marks ∙ ap₂ (λ (a b : End). xor a.hadamard b.hadamard) (sym one.0) (sym one.1) ∙ f))))

    -- the output's vertex of a wire with different marks has no input
    pub no_input : xor i.hadamard o.hadamard ≡ true → member o.vertex (end_vertices g.inputs) ≡ false
    no_input marks =
        by_test (member o.vertex (end_vertices g.inputs))
        (λ t. absurd (meetings-nonzero g.inputs g.outputs none (just o.vertex) at (apart none (just o.vertex) o.vertex t output (λ e. true≢false (sym (eqb-self o.vertex) ∙ sym e)))))
        (λ f. f)
      where
        at : (j p : End) → Meet j p g.inputs g.outputs → at_labels none (just o.vertex) j p ≢ zero
        at j p n =
            by_test (xor j.hadamard p.hadamard) (λ t. marks_nonzero j.hadamard p.hadamard false (just o.vertex p.vertex) t)
            (λ f. alike_nonzero j.hadamard p.hadamard false (just o.vertex p.vertex) f
            (sym (ne_eqb p.vertex o.vertex (λ e. let one = one_output j p i o g.inputs g.outputs outputs_differ n m e in
            true≢false (sym marks ∙ ap₂ (λ (a b : End). xor a.hadamard b.hadamard) (sym one.0) (sym one.1) ∙ f)))))

    -- a wire is met as without labels, unless its marks differ and both vertices are labelled
    pub met_alike : (k : ℕ → Bool) → (xor i.hadamard o.hadamard ≡ true → (k i.vertex && k o.vertex) ≡ false) → at_labels k k i o ≡ at_labels none none i o
    met_alike k unless =
        by_test (xor i.hadamard o.hadamard)
        (λ t. meeting-marks i.hadamard o.hadamard (k i.vertex) (k o.vertex) t ∙ ap sign (unless t) ∙ sym (meeting-marks i.hadamard o.hadamard false false t))
        (λ f. ap (λ v. meeting i.hadamard o.hadamard (k i.vertex) (k v)) (sym (one_vertex f))
        ∙ meeting-alike i.hadamard o.hadamard (k i.vertex) f ∙ sym (meeting-alike i.hadamard o.hadamard false f))

    -- no vertex stands at both ends of a wire with different marks
    pub ends_apart : xor i.hadamard o.hadamard ≡ true → i.vertex ≢ o.vertex
    ends_apart marks e = true≢false (sym output ∙ ap (λ v. member v (end_vertices g.outputs)) (sym e) ∙ no_output marks)

  -- ---- phases
  pub no_phase : (v : ℕ) → member v vs ≡ true → phase_of g v ≡ 0
  no_phase v there =
      root_power-unit (phase_of g v) (below v there)
      (sym (weighed-just v there)
      ∙ same_weight (just v) none
      (meetings-same g.inputs g.outputs (just v) (just v) none none (λ i o m. met_alike i o m (just v) (λ marks. one_of i o m marks)))
      ∙ weighed-none)
    where
      below : (u : ℕ) → member u vs ≡ true → phase_of g u < turn
      below u there = phase-kind_of u g.vertices w.phases_below_a_turn

      one_of : (i o : End) → Meet i o g.inputs g.outputs → xor i.hadamard o.hadamard ≡ true → (just v i.vertex && just v o.vertex) ≡ false
      one_of i o m marks =
          by_equal i.vertex v
          (λ t e. ap (λ b. b && eqb o.vertex v) t ∙ ne_eqb o.vertex v (λ q. ends_apart i o m marks (e ∙ sym q)))
          (λ f n. ap (λ b. b && eqb o.vertex v) f)

  -- ---- edges
  weighed-both : (u v : ℕ) → member u vs ≡ true → member v vs ≡ true → v ≢ u → weighed (both u v) ≡ sign (near u v)
  weighed-both u v here there differ =
      ap₂ (λ p q. mul p (sign q))
      (product-one g.vertices (both u v) (distinct g w) (λ p t. bare_factor p t (both u v p)))
      (quad-both near u v vs (joined_comm g.edges) (distinct g w) here there differ)
      ∙ one-mul _
    where
      bare_factor : (p : ℕ) → member p vs ≡ true → (b : Bool) → factor (kind_of g.vertices p) b ≡ one
      bare_factor p t false = (spider_at (kind_of g.vertices p) (in_plane p t)).0
      bare_factor p t true = (spider_at (kind_of g.vertices p) (in_plane p t)).1 ∙ ap root_power (no_phase p t) ∙ root_power-zero

  -- two vertices that no wire with different marks joins aren't adjacent
  pub no_edge : (u v : ℕ) → member u vs ≡ true → member v vs ≡ true → v ≢ u →
      ((i o : End) → Meet i o g.inputs g.outputs → xor i.hadamard o.hadamard ≡ true → (both u v i.vertex && both u v o.vertex) ≡ false) → near u v ≡ false
  no_edge u v here there differ unless =
      sign-same (near u v) false
      (sym (weighed-both u v here there differ)
      ∙ same_weight (both u v) none (meetings-same g.inputs g.outputs (both u v) (both u v) none none (λ i o m. met_alike i o m (both u v) (unless i o m)))
      ∙ weighed-none)

  -- a wire with different marks joins adjacent vertices
  pub wire_edge : (i o : End) → Meet i o g.inputs g.outputs → xor i.hadamard o.hadamard ≡ true → near i.vertex o.vertex ≡ true
  wire_edge i o m marks =
      sign-same (near i.vertex o.vertex) true
      (sym (weighed-both i.vertex o.vertex (input_there i.vertex (input i o m)) (output_there o.vertex (output i o m)) (λ e. ends_apart i o m marks (sym e)))
      ∙ mul_left_cancel factor_of_all _ _ factor_nonzero
      (together k
      ∙ ap (mul same.right)
      (meetings-turned i o g.inputs g.outputs k k none none inputs_differ m
      (meeting-marks i.hadamard o.hadamard (k i.vertex) (k o.vertex) marks
      ∙ ap₂ (λ a b. sign ((a || eqb i.vertex o.vertex) && (eqb o.vertex i.vertex || b))) (eqb-self i.vertex) (eqb-self o.vertex)
      ∙ ap sign (or-true (eqb o.vertex i.vertex))
      ∙ ap neg (sym (meeting-marks i.hadamard o.hadamard false false marks)))
      (λ j p n other. met_alike j p n k (λ differ. unless j p n other differ)))
      ∙ mul-neg same.right (met none none)
      ∙ ap neg (sym (together none) ∙ ap (mul factor_of_all) weighed-none)
      ∙ sym (mul-neg factor_of_all one)))
    where
      k : ℕ → Bool
      k = both i.vertex o.vertex

      unless : (j p : End) → Meet j p g.inputs g.outputs → j.vertex ≢ i.vertex → xor j.hadamard p.hadamard ≡ true → (k j.vertex && k p.vertex) ≡ false
      unless j p n other differ =
          ap (λ b. b && k p.vertex)
          (ap₂ (λ a b. a || b) (ne_eqb j.vertex i.vertex other)
          (ne_eqb j.vertex o.vertex (λ e. true≢false (sym (input j p n) ∙ ap (λ v. member v (end_vertices g.inputs)) e ∙ no_input i o m marks))))

  -- ---- the whole graph
  pub at_one_vertex : (i o : End) → Meet i o g.inputs g.outputs → xor i.hadamard o.hadamard ≡ false → is_wire_at_vertex g i o ≡ true
  at_one_vertex i o m alike =
      let v = i.vertex in
      let same_vertex : v ≡ o.vertex = one_vertex i o m alike in
      ap₂ (λ a b. a && b)
      (ap₂ (λ a b. a && b) (eq-eqb v o.vertex same_vertex)
      (eq-eqb (length (neighbours g v)) 0 (filter-none (near v) vs (λ p t. alone v (input i o m) (ap (λ u. member u (end_vertices g.outputs)) same_vertex ∙ output i o m) p t))))
      (ap not alike)
    where
      alone : (v : ℕ) → member v (end_vertices g.inputs) ≡ true → member v (end_vertices g.outputs) ≡ true → (p : ℕ) → member p vs ≡ true → near v p ≡ false
      alone v ins outs p there =
          by_equal p v (λ t e. ap (near v) e ∙ no_loop g v w)
          (λ f n. no_edge v p (input_there v ins) there n (λ j q m marks. unless j q m marks))
        where
          -- neither end of a wire with different marks stands at v
          unless : (j q : End) → Meet j q g.inputs g.outputs → xor j.hadamard q.hadamard ≡ true → (both v p j.vertex && both v p q.vertex) ≡ false
          unless j q m marks =
              ap₂ (λ a b. (a || eqb j.vertex p) && (b || eqb q.vertex p))
              (ne_eqb j.vertex v (λ e. true≢false (sym outs ∙ ap (λ u. member u (end_vertices g.outputs)) (sym e) ∙ no_output j q m marks)))
              (ne_eqb q.vertex v (λ e. true≢false (sym ins ∙ ap (λ u. member u (end_vertices g.inputs)) (sym e) ∙ no_input j q m marks)))
              ∙ by_equal j.vertex p
              (λ t e. ap (λ b. b && eqb q.vertex p) t ∙ ne_eqb q.vertex p (λ r. ends_apart j q m marks (e ∙ sym r)))
              (λ f n. ap (λ b. b && eqb q.vertex p) f)

  pub along_one_edge : (i o : End) → Meet i o g.inputs g.outputs → xor i.hadamard o.hadamard ≡ true → is_wire_along_edge g i o ≡ true
  along_one_edge i o m marks =
      ap₂ (λ a b. a && b)
      (ap₂ (λ a b. a && b)
      (ap₂ (λ a b. a && b)
      (ap₂ (λ a b. a && b)
      (only i.vertex o.vertex (input_there i.vertex (input i o m)) (output_there o.vertex (output i o m)) edge from_input)
      (only o.vertex i.vertex (output_there o.vertex (output i o m)) (input_there i.vertex (input i o m)) (joined_comm g.edges o.vertex i.vertex ∙ edge) from_output))
      (ap not (no_output i o m marks)))
      (ap not (no_input i o m marks)))
      marks
    where
      edge : near i.vertex o.vertex ≡ true
      edge = wire_edge i o m marks

      only : (u v : ℕ) → member u vs ≡ true → member v vs ≡ true → near u v ≡ true → ((p : ℕ) → member p vs ≡ true → p ≢ u → p ≢ v → near u p ≡ false) → is_only_neighbour g u v ≡ true
      only u v here there joined_to others =
          ap₂ (λ a b. a && b) joined_to
          (eq-eqb (length (neighbours g u)) 1
          (filter-one (near u) v vs (distinct g w) there joined_to
          (λ p t n. by_equal p u (λ s e. ap (near u) e ∙ no_loop g u w) (λ f d. others p t d n))))

      from_input : (p : ℕ) → member p vs ≡ true → p ≢ i.vertex → p ≢ o.vertex → near i.vertex p ≡ false
      from_input p there first second =
          no_edge i.vertex p (input_there i.vertex (input i o m)) there first (λ j q n differ.
          ap (λ b. both i.vertex p j.vertex && (b || eqb q.vertex p))
          (ne_eqb q.vertex i.vertex (λ e. true≢false (sym (input i o m) ∙ ap (λ u. member u (end_vertices g.inputs)) (sym e) ∙ no_input j q n differ)))
          ∙ by_equal q.vertex p
          (λ t e. ap₂ (λ a b. (a || b) && eqb q.vertex p)
          (ne_eqb j.vertex i.vertex (λ r. second (sym e ∙ ap (λ (x : End). x.vertex) (one_input j q i o g.inputs g.outputs inputs_differ n m r).1)))
          (ne_eqb j.vertex p (λ r. ends_apart j q n differ (r ∙ sym e))))
          (λ f d. ap (λ b. both i.vertex p j.vertex && b) f ∙ and-false (both i.vertex p j.vertex)))

      from_output : (p : ℕ) → member p vs ≡ true → p ≢ o.vertex → p ≢ i.vertex → near o.vertex p ≡ false
      from_output p there first second =
          no_edge o.vertex p (output_there o.vertex (output i o m)) there first (λ j q n differ.
          ap (λ b. (b || eqb j.vertex p) && both o.vertex p q.vertex)
          (ne_eqb j.vertex o.vertex (λ e. true≢false (sym (input j q n) ∙ ap (λ u. member u (end_vertices g.inputs)) e ∙ no_input i o m marks)))
          ∙ by_equal j.vertex p
          (λ t e. ap₂ (λ a b. eqb j.vertex p && (a || b))
          (ne_eqb q.vertex o.vertex (λ r. second (sym e ∙ ap (λ (x : End). x.vertex) (one_output j q i o g.inputs g.outputs outputs_differ n m r).0)))
          (ne_eqb q.vertex p (λ r. ends_apart j q n differ (e ∙ sym r)))
          ∙ and-false (eqb j.vertex p))
          (λ f d. ap (λ b. b && both o.vertex p q.vertex) f))

  pub identity_bare : is_bare g ≡ true
  identity_bare =
      ap₂ (λ a b. a && b)
      (ap₂ (λ a b. a && b)
      (all_of (is_bare_vertex g) vs (λ u t. ap₂ (λ a b. not (not a) && b) (has_end u t) (eq-eqb (phase_of g u) 0 (no_phase u t))))
      (eq-eqb (length g.inputs) (length g.outputs) as_many))
      (all_meet (is_bare_wire g) g.inputs g.outputs
      (λ i o m. by_test (xor i.hadamard o.hadamard)
      (λ t. ap (λ b. is_wire_at_vertex g i o || b) (along_one_edge i o m t) ∙ or-true (is_wire_at_vertex g i o))
      (λ f. ap (λ b. b || is_wire_along_edge g i o) (at_one_vertex i o m f))))
