-- What is followed by gates composes.
use Rattle.std.proofs.Common.{◌≡◌, ◌≢◌, sym, ◌∙◌, ap, ap₂, refl, Bool, List, [], ◌++◌, map, length}
use Rattle.zx_model.specs.Number.{Number, zero, one, mul}
use Rattle.zx_model.specs.Sums.{total, all_labels}
use Rattle.zx_model.specs.Proportional.{Proportional}
use Rattle.zx_model.proofs.Ring.{mul_assoc, mul_left_comm, one-mul, one_nonzero}
use Rattle.zx_model.proofs.Domain.{mul-nonzero}
use Rattle.zx_calculus.specs.Graph.{Graph}
use Rattle.zx_calculus.specs.Sum.{graph_sum}
use Rattle.zx_gates.specs.Maps.{acts, amp}
use Rattle.zx_gates.specs.declared.gate.Gate.{Gate}
use Rattle.zx_gates.proofs.MapLemmas.{amp-acts, acts-append}
use Rattle.circuit_laws.specs.Followed.{followed, Peels, PeelsAt, Ends, EndsAt, IsMultiple}
use Rattle.circuit_laws.proofs.Totals.{total-map_mul, total_same, total-amp}

-- an entry of the graph's map, by what the identity makes of the output bits
pub followed-entry : (g : Graph) (x y : List Bool) → length y ≡ length g.outputs →
    followed g (λ z. amp [] z y) x ≡ graph_sum g x y
followed-entry g x y l =
    ap (λ n. total (map (λ z. mul (graph_sum g x z) (amp [] z y)) (all_labels n))) (sym l) ∙ total-amp (graph_sum g x) y

pub followed-mul : (g : Graph) (c : Number) (f : List Bool → Number) (x : List Bool) →
    followed g (λ z. mul c (f z)) x ≡ mul c (followed g f x)
followed-mul g c f x =
    ap (λ (h : List Bool → Number). total (map h (all_labels (length g.outputs)))) (λ i y. mul_left_comm (graph_sum g x y) c (f y) i)
    ∙ total-map_mul c (λ y. mul (graph_sum g x y) (f y)) (all_labels (length g.outputs))

-- only lists of as many bits as there are outputs matter
pub followed_same : (g : Graph) (f h : List Bool → Number) (x : List Bool) →
    ((z : List Bool) → length z ≡ length g.outputs → f z ≡ h z) → followed g f x ≡ followed g h x
followed_same g f h x e = total_same (length g.outputs) _ _ (λ z l. ap (mul (graph_sum g x z)) (e z l))

-- graphs with equal sums
pub followed_by_sums : (g h : Graph) (f : List Bool → Number) (x : List Bool) → length h.outputs ≡ length g.outputs →
    ((y : List Bool) → length y ≡ length g.outputs → graph_sum g x y ≡ graph_sum h x y) → followed g f x ≡ followed h f x
followed_by_sums g h f x outputs e =
    total_same (length g.outputs) _ _ (λ y l. ap (λ s. mul s (f y)) (e y l))
    ∙ ap (λ n. total (map (λ y. mul (graph_sum h x y) (f y)) (all_labels n))) (sym outputs)

-- with the cost 1
pub peels_exactly : (g : Graph) (gates : List Gate) (h : Graph) → length h.inputs ≡ length g.inputs →
    length h.outputs ≡ length g.outputs →
    ((f : List Bool → Number) (x : List Bool) → followed g f x ≡ followed h (acts gates f) x) → PeelsAt one g gates h
peels_exactly g gates h inputs outputs e =
    (record { cost = one; nonzero = one_nonzero; inputs = inputs; outputs = outputs; equal = λ f x. e f x ∙ sym (one-mul (followed h (acts gates f) x)) }, refl)

pub peels_nothing : (g : Graph) → PeelsAt one g [] g
peels_nothing g = peels_exactly g [] g refl refl (λ f x. refl)

pub peels_at_then : (c d : Number) (g h k : Graph) (first second : List Gate) → PeelsAt c g second h →
    PeelsAt d h first k → PeelsAt (mul c d) g (first ++ second) k
peels_at_then c d g h k first second p q = (
  record {
    cost = mul p.0.cost q.0.cost;
    nonzero = mul-nonzero p.0.cost q.0.cost p.0.nonzero q.0.nonzero;
    inputs = q.0.inputs ∙ p.0.inputs;
    outputs = q.0.outputs ∙ p.0.outputs;
    equal = λ f x. p.0.equal f x ∙ ap (mul p.0.cost) (q.0.equal (acts second f) x)
        ∙ sym (mul_assoc p.0.cost q.0.cost _)
        ∙ ap (λ (e : List Bool → Number). mul (mul p.0.cost q.0.cost) (followed k e x)) (sym (acts-append first second f));
  },
  ap₂ mul p.1 q.1,
)

pub peels_then : (g h k : Graph) (first second : List Gate) → Peels g second h → Peels h first k →
    Peels g (first ++ second) k
peels_then g h k first second p q = (peels_at_then p.cost q.cost g h k first second (p, refl) (q, refl)).0

pub peels_at_end : (c d : Number) (g h : Graph) (first second : List Gate) → PeelsAt c g second h → EndsAt d h first →
    EndsAt (mul c d) g (first ++ second)
peels_at_end c d g h first second p q = (
  record {
    cost = mul p.0.cost q.0.cost;
    nonzero = mul-nonzero p.0.cost q.0.cost p.0.nonzero q.0.nonzero;
    equal = λ f x l. p.0.equal f x ∙ ap (mul p.0.cost) (q.0.equal (acts second f) x (l ∙ sym p.0.inputs))
        ∙ sym (mul_assoc p.0.cost q.0.cost _)
        ∙ ap (λ (e : List Bool → Number). mul (mul p.0.cost q.0.cost) (e x)) (sym (acts-append first second f));
  },
  ap₂ mul p.1 q.1,
)

pub peels_end : (g h : Graph) (first second : List Gate) → Peels g second h → Ends h first → Ends g (first ++ second)
peels_end g h first second p q = (peels_at_end p.cost q.cost g h first second (p, refl) (q, refl)).0

-- other gates with the same map, up to a number
pub peels_at_other : (c d : Number) (g h : Graph) (gates others : List Gate) → d ≢ zero → PeelsAt c g gates h →
    IsMultiple d (length h.outputs) gates others → PeelsAt (mul c d) g others h
peels_at_other c d g h gates others nonzero p e = (
  record {
    cost = mul p.0.cost d;
    nonzero = mul-nonzero p.0.cost d p.0.nonzero nonzero;
    inputs = p.0.inputs;
    outputs = p.0.outputs;
    equal = λ f x. p.0.equal f x
        ∙ ap (mul p.0.cost) (followed_same h (acts gates f) (λ z. mul d (acts others f z)) x (e f) ∙ followed-mul h d (acts others f) x)
        ∙ sym (mul_assoc p.0.cost d _);
  },
  ap (λ b. mul b d) p.1,
)

pub peels_other : (g h : Graph) (gates others : List Gate) (d : Number) → d ≢ zero → Peels g gates h →
    IsMultiple d (length h.outputs) gates others → Peels g others h
peels_other g h gates others d nonzero p e = (peels_at_other p.cost d g h gates others nonzero (p, refl) e).0

-- the sum of a graph that is gates is their map
pub ends_sum : (g : Graph) (gates : List Gate) → (e : Ends g gates) → (x y : List Bool) → length x ≡ length g.inputs →
    length y ≡ length g.outputs → graph_sum g x y ≡ mul e.cost (amp gates x y)
ends_sum g gates e x y l m = sym (followed-entry g x y m) ∙ e.equal (λ z. amp [] z y) x l ∙ ap (mul e.cost) (sym (amp-acts gates x y))

pub ends_at_sum : (c : Number) (g : Graph) (gates : List Gate) → EndsAt c g gates → (x y : List Bool) →
    length x ≡ length g.inputs → length y ≡ length g.outputs → graph_sum g x y ≡ mul c (amp gates x y)
ends_at_sum c g gates e x y l m = ends_sum g gates e.0 x y l m ∙ ap (λ b. mul b (amp gates x y)) e.1

pub ends_proportional : (g : Graph) (gates : List Gate) → Ends g gates →
    Proportional (length g.inputs) (length g.outputs) (graph_sum g) (amp gates)
ends_proportional g gates e = record {
  left = one;
  right = e.cost;
  left_nonzero = one_nonzero;
  right_nonzero = e.nonzero;
  equal = λ x y l m. one-mul (graph_sum g x y) ∙ ends_sum g gates e x y l m;
}
