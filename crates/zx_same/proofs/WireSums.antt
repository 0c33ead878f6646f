-- Wires that go straight through sum up to the identity, up to a power of two: each is summed out, the first one first.
use Rattle.std.proofs.Common.{◌≡◌, ◌≢◌, ◌⊎◌, inl, inr, refl, sym, ◌∙◌, ap, ap₂, ℕ, suc, Bool, true, false, not, ◌&&◌, ◌||◌, eqb, List, [], ◌∷◌, length, true≢false, arith}
use Rattle.std.specs.Prelude.{if◌then◌else◌}
use Rattle.zx_model.specs.Bits.{xor, member}
use Rattle.zx_model.specs.Constants.{two}
use Rattle.zx_model.specs.Number.{Number, zero, one, add, mul, sign}
use Rattle.zx_model.specs.Sums.{labelled, over, sum_over}
use Rattle.zx_model.proofs.Domain.{mul-nonzero}
use Rattle.zx_model.proofs.Ring.{expand, sorted, mul-sign, one_nonzero, two_nonzero}
use Rattle.zx_model.proofs.SumLemmas.{labelled-same, labelled-other, sum_over_same, sum_over_mul}
use Rattle.zx_calculus.specs.Graph.{End, end_vertices, Distinct}
use Rattle.zx_calculus.specs.Parity.{masked}
use Rattle.zx_calculus.specs.Internal.Pairs.{quad}
use Rattle.zx_calculus.specs.Sum.{end_factor, end_product}
use Rattle.zx_calculus.proofs.Booleans.{parities}
use Rattle.zx_calculus.proofs.Forms.{quad-labelled, end_product-labelled}
use Rattle.zx_calculus.proofs.Ids.{by_equal, eqb-self, removed, member-removed, member-removed_other, member-absent_removed, Distinct-removed, Symmetric, masked_front, quad_front}
use Rattle.zx_calculus.proofs.Labels.{sum_over_front}
use Rattle.zx_calculus.proofs.Parity.{masked_same, masked-false}
use Rattle.zx_gates.specs.Maps.{amp}

-- both ends stand at one vertex, which is adjacent to none
pub record IsAtVertex (a : ℕ → ℕ → Bool) (i o : End) : Type 0 where
  pub same : i.vertex ≡ o.vertex
  pub alone : (p : ℕ) → a o.vertex p ≡ false
  pub marks : i.hadamard ≡ o.hadamard

-- the ends stand at two vertices, each adjacent to the other alone
pub record IsAlongEdge (a : ℕ → ℕ → Bool) (i o : End) : Type 0 where
  pub apart : i.vertex ≢ o.vertex
  pub next : (p : ℕ) → a i.vertex p ≡ eqb p o.vertex
  pub back : (p : ℕ) → a o.vertex p ≡ eqb p i.vertex
  pub marks : o.hadamard ≡ not i.hadamard

-- a wire, none of whose vertices has one of the other ends
pub record IsFirst (a : ℕ → ℕ → Bool) (i o : End) (ins outs : List End) : Type 0 where
  pub wire : IsAtVertex a i o ⊎ IsAlongEdge a i o
  pub input_in : member i.vertex (end_vertices ins) ≡ false
  pub input_out : member i.vertex (end_vertices outs) ≡ false
  pub output_in : member o.vertex (end_vertices ins) ≡ false
  pub output_out : member o.vertex (end_vertices outs) ≡ false

-- wires one after the other
abbrev pub AreWires : (ℕ → ℕ → Bool) → List End → List End → Type 0
AreWires a [] [] = Unit {0}
AreWires a (i ∷ ins) (o ∷ outs) = IsFirst a i o ins outs × AreWires a ins outs
AreWires a ins outs = ⊥

-- the vertices are those that have ends
abbrev pub HoldEnds : List ℕ → List End → List End → Type 0
HoldEnds vs ins outs = (w : ℕ) → member w vs ≡ (member w (end_vertices ins) || member w (end_vertices outs))

-- the identity's map, times a number other than 0
pub record IsIdentity (n : ℕ) (F : List Bool → List Bool → Number) : Type 0 where
  pub factor : Number
  pub nonzero : factor ≢ zero
  pub equal : (x y : List Bool) → length x ≡ n → length y ≡ n → F x y ≡ mul factor (amp [] x y)

-- the summand of one choice of labels
abbrev pub summand : (ℕ → ℕ → Bool) → List ℕ → List End → List End → List Bool → List Bool → (ℕ → Bool) → Number
summand a vs ins outs x y label = mul (sign (quad a vs label)) (mul (end_product ins x label) (end_product outs y label))

-- ---- one wire summed out, over plain variables
at_vertex : (m b c : Bool) → add (mul (end_factor m false b) (end_factor m false c)) (mul (end_factor m true b) (end_factor m true c))
    ≡ mul (if m then two else one) (if xor b c then zero else one)
at_vertex false false false = simp expand
at_vertex false false true = simp expand
at_vertex false true false = simp expand
at_vertex false true true = simp expand
at_vertex true false false = simp expand
at_vertex true false true = simp expand
at_vertex true true false = simp expand
at_vertex true true true = simp expand

abbrev edge_term : Bool → Bool → Bool → Bool → Bool → Number
edge_term m b c k l = mul (sign (k && l)) (mul (end_factor m k b) (end_factor (not m) l c))

along_edge : (m b c : Bool) →
    add (add (edge_term m b c false false) (edge_term m b c true false)) (add (edge_term m b c false true) (edge_term m b c true true))
    ≡ mul two (if xor b c then zero else one)
along_edge false false false = simp expand
along_edge false false true = simp expand
along_edge false true false = simp expand
along_edge false true true = simp expand
along_edge true false false = simp expand
along_edge true false true = simp expand
along_edge true true false = simp expand
along_edge true true true = simp expand

-- the identity's entry is that of the first bits times that of the others
amp-more : (k f : Number) (b c : Bool) (x y : List Bool) →
    mul (mul k (if xor b c then zero else one)) (mul f (amp [] x y)) ≡ mul (mul k f) (amp [] (b ∷ x) (c ∷ y))
amp-more k f false false x y = simp expand
amp-more k f false true x y = simp expand
amp-more k f true false x y = simp expand
amp-more k f true true x y = simp expand

two_terms : (s t r : Number) → add (mul s r) (mul t r) ≡ mul (add s t) r
two_terms s t r = simp expand

four_terms : (s t u v r : Number) → add (add (mul s r) (mul t r)) (add (mul u r) (mul v r)) ≡ mul (add (add s t) (add u v)) r
four_terms s t u v r = simp expand

regrouped : (e q f p g r : Number) → mul (mul e q) (mul (mul f p) (mul g r)) ≡ mul (mul e (mul f g)) (mul q (mul p r))
regrouped e q f p g r = simp sorted

mark_nonzero : (m : Bool) → (if m then two else one) ≢ zero
mark_nonzero true = two_nonzero
mark_nonzero false = one_nonzero

-- none of those listed is picked
masked_none : (n : ℕ → Bool) (vs : List ℕ) (label : ℕ → Bool) → ((p : ℕ) → member p vs ≡ true → n p ≡ false) → masked n vs label ≡ false
masked_none n vs label none = masked_same n (λ p. false) vs label none ∙ masked-false vs label

-- one of those listed is picked
masked_one : (n : ℕ → Bool) (v : ℕ) (vs : List ℕ) (label : ℕ → Bool) → Distinct vs → member v vs ≡ true → ((p : ℕ) → n p ≡ eqb p v) →
    masked n vs label ≡ label v
masked_one n v vs label d there picked =
    masked_front n v vs label d there
    ∙ ap₂ xor (ap (λ b. b && label v) (picked v ∙ eqb-self v))
    (masked_none n (removed v vs) label
    (λ p t. picked p ∙ by_equal p v (λ e same. absurd (true≢false (sym t ∙ ap (λ w. member w (removed v vs)) same ∙ member-removed v vs))) (λ e n. e)))
    ∙ simp parities

-- ---- one wire in front of others
or-true : (a : Bool) → (a || true) ≡ true
or-true false = refl
or-true true = refl

module _ (a : ℕ → ℕ → Bool) (symmetric : Symmetric a) (i o : End) (ins outs : List End) (vs : List ℕ) (d : Distinct vs)
    (fresh : IsFirst a i o ins outs) (holds : HoldEnds vs (i ∷ ins) (o ∷ outs)) where
  output_there : member o.vertex vs ≡ true
  output_there =
      holds o.vertex
      ∙ ap (λ b. member o.vertex (end_vertices (i ∷ ins)) || (b || member o.vertex (end_vertices outs))) (eqb-self o.vertex)
      ∙ or-true (member o.vertex (end_vertices (i ∷ ins)))

  input_there : member i.vertex vs ≡ true
  input_there =
      holds i.vertex ∙ ap (λ b. (b || member i.vertex (end_vertices ins)) || member i.vertex (end_vertices (o ∷ outs))) (eqb-self i.vertex)

  -- what the ends make of labels, where those of the first wire are k and l, and the others are as before
  ends_at : (b c : Bool) (x y : List Bool) (label written : ℕ → Bool) (k l : Bool) → written i.vertex ≡ k → written o.vertex ≡ l
      → end_product ins x written ≡ end_product ins x label → end_product outs y written ≡ end_product outs y label
      → mul (end_product (i ∷ ins) (b ∷ x) written) (end_product (o ∷ outs) (c ∷ y) written)
      ≡ mul (mul (end_factor i.hadamard k b) (end_product ins x label)) (mul (end_factor o.hadamard l c) (end_product outs y label))
  ends_at b c x y label written k l first second same_ins same_outs =
      ap₂ mul (ap₂ (λ e p. mul (end_factor i.hadamard e b) p) first same_ins) (ap₂ (λ e p. mul (end_factor o.hadamard e c) p) second same_outs)

  -- a wire at a vertex
  module _ (w : IsAtVertex a i o) where
    vertex_quad : (label : ℕ → Bool) (k : Bool) →
        quad a vs (labelled label o.vertex k) ≡ quad a (removed o.vertex vs) label
    vertex_quad label k =
        quad_front a o.vertex vs (labelled label o.vertex k) symmetric d output_there
        ∙ ap₂ (λ m r. xor (labelled label o.vertex k o.vertex && m) r)
        (masked_none (a o.vertex) (removed o.vertex vs) (labelled label o.vertex k) (λ p t. w.alone p))
        (quad-labelled a o.vertex (removed o.vertex vs) label k (member-removed o.vertex vs))
        ∙ simp parities

    vertex_term : (b c : Bool) (x y : List Bool) (label : ℕ → Bool) (k : Bool) →
        summand a vs (i ∷ ins) (o ∷ outs) (b ∷ x) (c ∷ y) (labelled label o.vertex k)
        ≡ mul (mul (end_factor o.hadamard k b) (end_factor o.hadamard k c)) (summand a (removed o.vertex vs) ins outs x y label)
    vertex_term b c x y label k =
        ap₂ (λ q e. mul (sign q) e) (vertex_quad label k)
        (ends_at b c x y label (labelled label o.vertex k) k k (ap (labelled label o.vertex k) w.same ∙ labelled-same label o.vertex k) (labelled-same label o.vertex k)
        (end_product-labelled o.vertex ins x label k fresh.output_in) (end_product-labelled o.vertex outs y label k fresh.output_out)
        ∙ ap (λ m. mul (mul (end_factor m k b) (end_product ins x label)) (mul (end_factor o.hadamard k c) (end_product outs y label))) w.marks)
        ∙ sides _ _ _ _ _
      where
        sides : (q f p g r : Number) → mul q (mul (mul f p) (mul g r)) ≡ mul (mul f g) (mul q (mul p r))
        sides q f p g r = simp sorted

    pub vertex_out : (b c : Bool) (x y : List Bool) →
        sum_over vs (summand a vs (i ∷ ins) (o ∷ outs) (b ∷ x) (c ∷ y))
        ≡ mul (mul (if o.hadamard then two else one) (if xor b c then zero else one))
        (sum_over (removed o.vertex vs) (summand a (removed o.vertex vs) ins outs x y))
    vertex_out b c x y =
        sum_over_front o.vertex vs (summand a vs (i ∷ ins) (o ∷ outs) (b ∷ x) (c ∷ y)) d output_there
        ∙ sum_over_same (removed o.vertex vs) _ _
        (λ label. ap₂ add (vertex_term b c x y label false) (vertex_term b c x y label true)
        ∙ two_terms _ _ _
        ∙ ap (λ t. mul t (summand a (removed o.vertex vs) ins outs x y label)) (at_vertex o.hadamard b c))
        ∙ sum_over_mul _ (removed o.vertex vs) (summand a (removed o.vertex vs) ins outs x y)

  -- a wire along an edge
  module _ (w : IsAlongEdge a i o) where
    abbrev one_out : List ℕ
    one_out = removed i.vertex vs

    abbrev both_out : List ℕ
    both_out = removed o.vertex one_out

    abbrev written : (ℕ → Bool) → Bool → Bool → ℕ → Bool
    written label k l = labelled (labelled label o.vertex l) i.vertex k

    there_still : member o.vertex one_out ≡ true
    there_still = member-removed_other o.vertex i.vertex vs (λ e. w.apart (sym e)) ∙ output_there

    input_gone : member i.vertex both_out ≡ false
    input_gone = member-absent_removed i.vertex o.vertex one_out (member-removed i.vertex vs)

    at_input : (label : ℕ → Bool) (k l : Bool) → written label k l i.vertex ≡ k
    at_input label k l = labelled-same (labelled label o.vertex l) i.vertex k

    at_output : (label : ℕ → Bool) (k l : Bool) → written label k l o.vertex ≡ l
    at_output label k l = labelled-other (labelled label o.vertex l) i.vertex k o.vertex (λ e. w.apart (sym e)) ∙ labelled-same label o.vertex l

    rest_quad : (label : ℕ → Bool) (k l : Bool) → quad a both_out (written label k l) ≡ quad a both_out label
    rest_quad label k l =
        quad-labelled a i.vertex both_out (labelled label o.vertex l) k input_gone
        ∙ quad-labelled a o.vertex both_out label l (member-removed o.vertex one_out)

    edge_quad : (label : ℕ → Bool) (k l : Bool) → quad a vs (written label k l) ≡ xor (k && l) (quad a both_out label)
    edge_quad label k l =
        quad_front a i.vertex vs (written label k l) symmetric d input_there
        ∙ ap₂ (λ h r. xor h r)
        (ap₂ (λ g h. g && h) (at_input label k l)
        (masked_one (a i.vertex) o.vertex one_out (written label k l) (Distinct-removed i.vertex vs d) there_still w.next ∙ at_output label k l))
        (quad_front a o.vertex one_out (written label k l) symmetric (Distinct-removed i.vertex vs d) there_still
        ∙ ap₂ (λ m r. xor (written label k l o.vertex && m) r)
        (masked_none (a o.vertex) both_out (written label k l)
        (λ p t. w.back p ∙ by_equal p i.vertex (λ e same. absurd (true≢false (sym t ∙ ap (λ v. member v both_out) same ∙ input_gone))) (λ e n. e)))
        (rest_quad label k l)
        ∙ simp parities)

    edge_one : (b c : Bool) (x y : List Bool) (label : ℕ → Bool) (k l : Bool) →
        summand a vs (i ∷ ins) (o ∷ outs) (b ∷ x) (c ∷ y) (written label k l)
        ≡ mul (edge_term i.hadamard b c k l) (summand a both_out ins outs x y label)
    edge_one b c x y label k l =
        ap₂ (λ q e. mul (sign q) e) (edge_quad label k l)
        (ends_at b c x y label (written label k l) k l (at_input label k l) (at_output label k l)
        (end_product-labelled i.vertex ins x (labelled label o.vertex l) k fresh.input_in ∙ end_product-labelled o.vertex ins x label l fresh.output_in)
        (end_product-labelled i.vertex outs y (labelled label o.vertex l) k fresh.input_out ∙ end_product-labelled o.vertex outs y label l fresh.output_out)
        ∙ ap (λ m. mul (mul (end_factor i.hadamard k b) (end_product ins x label)) (mul (end_factor m l c) (end_product outs y label))) w.marks)
        ∙ ap (λ s. mul s (mul (mul (end_factor i.hadamard k b) (end_product ins x label)) (mul (end_factor (not i.hadamard) l c) (end_product outs y label))))
        (sym (mul-sign (k && l) (quad a both_out label)))
        ∙ regrouped _ _ _ _ _ _

    pub edge_out : (b c : Bool) (x y : List Bool) →
        sum_over vs (summand a vs (i ∷ ins) (o ∷ outs) (b ∷ x) (c ∷ y))
        ≡ mul (mul two (if xor b c then zero else one)) (sum_over both_out (summand a both_out ins outs x y))
    edge_out b c x y =
        sum_over_front i.vertex vs (summand a vs (i ∷ ins) (o ∷ outs) (b ∷ x) (c ∷ y)) d input_there
        ∙ sum_over_front o.vertex one_out (over i.vertex (summand a vs (i ∷ ins) (o ∷ outs) (b ∷ x) (c ∷ y))) (Distinct-removed i.vertex vs d) there_still
        ∙ sum_over_same both_out _ _
        (λ label. ap₂ add (ap₂ add (edge_one b c x y label false false) (edge_one b c x y label true false))
        (ap₂ add (edge_one b c x y label false true) (edge_one b c x y label true true))
        ∙ four_terms _ _ _ _ _
        ∙ ap (λ t. mul t (summand a both_out ins outs x y label)) (along_edge i.hadamard b c))
        ∙ sum_over_mul _ both_out (summand a both_out ins outs x y)

  -- the vertices that are left are those of the other ends
  pub vertex_holds : IsAtVertex a i o → HoldEnds (removed o.vertex vs) ins outs
  vertex_holds w v =
      by_equal v o.vertex
      (λ t e. ap (λ z. member z (removed o.vertex vs)) e ∙ member-removed o.vertex vs
      ∙ sym (ap (λ z. member z (end_vertices ins) || member z (end_vertices outs)) e ∙ ap₂ (λ p q. p || q) fresh.output_in fresh.output_out))
      (λ f n. member-removed_other v o.vertex vs n ∙ holds v
      ∙ ap₂ (λ p q. (p || member v (end_vertices ins)) || (q || member v (end_vertices outs))) (ap (eqb v) w.same ∙ f) f)

  pub edge_holds : HoldEnds (removed o.vertex (removed i.vertex vs)) ins outs
  edge_holds v =
      by_equal v o.vertex
      (λ t e. ap (λ z. member z (removed o.vertex (removed i.vertex vs))) e ∙ member-removed o.vertex (removed i.vertex vs)
      ∙ sym (ap (λ z. member z (end_vertices ins) || member z (end_vertices outs)) e ∙ ap₂ (λ p q. p || q) fresh.output_in fresh.output_out))
      (λ f n. member-removed_other v o.vertex (removed i.vertex vs) n
      ∙ by_equal v i.vertex
      (λ t e. ap (λ z. member z (removed i.vertex vs)) e ∙ member-removed i.vertex vs
      ∙ sym (ap (λ z. member z (end_vertices ins) || member z (end_vertices outs)) e ∙ ap₂ (λ p q. p || q) fresh.input_in fresh.input_out))
      (λ g m. member-removed_other v i.vertex vs m ∙ holds v
      ∙ ap₂ (λ p q. (p || member v (end_vertices ins)) || (q || member v (end_vertices outs))) g f))

-- ---- all wires
-- one wire more: the factor k, and what is left
one_more : (k : Number) (n : ℕ) (F G : List Bool → List Bool → Number) → k ≢ zero →
    ((b c : Bool) (x y : List Bool) → F (b ∷ x) (c ∷ y) ≡ mul (mul k (if xor b c then zero else one)) (G x y)) → IsIdentity n G → IsIdentity (suc n) F
one_more k n F G nonzero first rest = record {
  factor = mul k rest.factor;
  nonzero = mul-nonzero k rest.factor nonzero rest.nonzero;
  equal = at;
}
  where
    at : (x y : List Bool) → length x ≡ suc n → length y ≡ suc n → F x y ≡ mul (mul k rest.factor) (amp [] x y)
    at [] y lx ly = absurd (omega arith)
    at (b ∷ x) [] lx ly = absurd (omega arith)
    at (b ∷ x) (c ∷ y) lx ly =
        first b c x y ∙ ap (mul (mul k (if xor b c then zero else one))) (rest.equal x y (omega arith) (omega arith)) ∙ amp-more k rest.factor b c x y

pub wires_sum : (a : ℕ → ℕ → Bool) (ins outs : List End) (vs : List ℕ) → Symmetric a → Distinct vs → AreWires a ins outs → HoldEnds vs ins outs →
    IsIdentity (length ins) (λ x y. sum_over vs (summand a vs ins outs x y))
wires_sum a [] [] [] symmetric d wires holds = record {
  factor = one;
  nonzero = one_nonzero;
  equal = none;
}
  where
    none : (x y : List Bool) → length x ≡ 0 → length y ≡ 0 → sum_over [] (summand a [] [] [] x y) ≡ mul one (amp [] x y)
    none [] [] lx ly = simp expand
    none [] (c ∷ y) lx ly = absurd (omega arith)
    none (b ∷ x) y lx ly = absurd (omega arith)
wires_sum a [] [] (v ∷ vs) symmetric d wires holds = absurd (true≢false (sym (ap (λ b. b || member v vs) (eqb-self v)) ∙ holds v))
wires_sum a (i ∷ ins) (o ∷ outs) vs symmetric d wires holds =
    elim wires.0.wire [
      | inl w ↦
          one_more (if o.hadamard then two else one) (length ins) _ _ (mark_nonzero o.hadamard)
          (vertex_out a symmetric i o ins outs vs d wires.0 holds w)
          (wires_sum a ins outs (removed o.vertex vs) symmetric (Distinct-removed o.vertex vs d) wires.1 (vertex_holds a symmetric i o ins outs vs d wires.0 holds w))
      | inr w ↦
          one_more two (length ins) _ _ two_nonzero
          (edge_out a symmetric i o ins outs vs d wires.0 holds w)
          (wires_sum a ins outs (removed o.vertex (removed i.vertex vs)) symmetric (Distinct-removed o.vertex (removed i.vertex vs) (Distinct-removed i.vertex vs d)) wires.1
          (edge_holds a symmetric i o ins outs vs d wires.0 holds))
    ]
wires_sum a [] (o ∷ outs) vs symmetric d wires holds = absurd wires
wires_sum a (i ∷ ins) [] vs symmetric d wires holds = absurd wires
