-- Classes of spiders: each has one smallest spider, and the sum of a diagram is one over a label for each class.
use Rattle.std.proofs.Common.{◌≡◌, ◌≢◌, ◌⊎◌, inl, inr, refl, sym, ◌∙◌, ap, ap₂, ℕ, suc, ◌+◌, ◌<◌, ◌≤◌, Bool, true, false, ◌&&◌, eqb, List, [], ◌∷◌, ◌++◌, length, map, not, ltb, ltb-true, ltb-false, true≢false, arith}
use Rattle.std.specs.Prelude.{filter, zero as nought}
use Rattle.std.specs.List.{All}
use Rattle.std.proofs.lemmas.List.Elements.{All-nil, All-cons}
use Rattle.zx_model.specs.Bits.{xor, member}
use Rattle.zx_model.specs.Number.{Number, zero, mul}
use Rattle.zx_model.specs.Sums.{total, all_labels, label_of, sum_over}
use Rattle.zx_model.proofs.Ring.{mul-zero, zero-mul}
use Rattle.zx_model.proofs.SumLemmas.{all_lists, sum_over_same, labelled-other}
use Rattle.zx_calculus.proofs.Ids.{by_test, by_equal, Distinct, member-filter, eqb-self, and-left, and-right}
use Rattle.zx_diagram.specs.declared.spider.Spider.{Spider}
use Rattle.zx_diagram.specs.declared.wire.Wire.{Wire}
use Rattle.zx_diagram.specs.Diagram.{Diagram, IsDiagram, IsEdgeOf, numbers, numbers_from}
use Rattle.zx_diagram.specs.Sum.{edge_mark, wire_product, term, diagram_sum}
use Rattle.graph_like.specs.Classes.{AreFused, NamesClasses}
use Rattle.graph_like.specs.LikeForm.{leaders}
use Rattle.graph_like.proofs.Summing.{sum_over-parted, sum_out_agreeing, agrees, guarded}

-- numbers in a row
pub length-numbers_from : (k n : ℕ) → length (numbers_from k n) ≡ n
length-numbers_from k nought = refl
length-numbers_from k (suc n) = ap (λ m. suc m) (length-numbers_from (suc k) n)

pub member-numbers_from : (p k n : ℕ) → k ≤ p → p < k + n → member p (numbers_from k n) ≡ true
member-numbers_from p k nought low high = absurd (omega arith)
member-numbers_from p k (suc n) low high =
    by_equal p k (λ t e. rw t refl)
    (λ t ne. rw t (member-numbers_from p (suc k) n (omega arith) (omega arith)))

pub absent-numbers_from : (p k n : ℕ) → p < k → member p (numbers_from k n) ≡ false
absent-numbers_from p k nought low = refl
absent-numbers_from p k (suc n) low =
    by_equal p k (λ t e. absurd (omega arith)) (λ t ne. rw t (absent-numbers_from p (suc k) n (omega arith)))

pub Distinct-numbers_from : (k n : ℕ) → Distinct (numbers_from k n)
Distinct-numbers_from k nought = tt
Distinct-numbers_from k (suc n) = (absent-numbers_from k (suc k) n (omega arith), Distinct-numbers_from (suc k) n)

pub Distinct-filter : (t : ℕ → Bool) (vs : List ℕ) → Distinct vs → Distinct (filter t vs)
Distinct-filter t [] d = tt
Distinct-filter t (v ∷ vs) d =
    by_test (t v)
    (λ e. rw e (member-filter t vs v ∙ ap (λ b. b && t v) d.0, Distinct-filter t vs d.1))
    (λ e. rw e (Distinct-filter t vs d.1))

-- what names classes
pub least-least : (d : Diagram) (least : ℕ → ℕ) → NamesClasses d least → (u : ℕ) → least (least u) ≡ least u
least-least d least c u =
    let low : least (least u) ≤ least u = c.smallest (least u) (least u) (λ test same. refl) in
    let high : least u ≤ least (least u) =
    c.smallest u (least (least u)) (λ test same. c.fused u test same ∙ c.fused (least u) test same) in
    omega arith

pub least_along : (d : Diagram) (least : ℕ → ℕ) → NamesClasses d least → (u v : ℕ) → AreFused d u v → least u ≡ least v
least_along d least c u v fused =
    let low : least u ≤ least v = c.smallest u (least v) (λ test same. fused test same ∙ c.fused v test same) in
    let high : least v ≤ least u =
    c.smallest v (least u) (λ test same. sym (fused test same) ∙ c.fused u test same) in
    omega arith

-- plain edges join spiders of one class
pub edges_within : (d : Diagram) (least : ℕ → ℕ) → NamesClasses d least →
    All (λ edge. edge_mark d.spiders edge ≡ false → least edge.a ≡ least edge.b) d.edges
edges_within d least c k other h =
    λ plain. least_along d least c _ _ (λ test same. same k other h plain)

-- a number that names no spider is a class by itself
pub alone_along : (spiders : List Spider) (n u : ℕ) (edges : List Wire) → All (IsEdgeOf n) edges → n ≤ u →
    All (λ edge. edge_mark spiders edge ≡ false → eqb edge.a u ≡ eqb edge.b u) edges
alone_along spiders n u edges there far k other h =
    λ plain. apart _ (there k other h).0 ∙ sym (apart _ (there k other h).1)
  where
    apart : (a : ℕ) → a < n → eqb a u ≡ false
    apart a low = by_equal a u (λ t e. absurd (omega arith)) (λ t ne. t)

pub least-far : (d : Diagram) (least : ℕ → ℕ) → IsDiagram d → NamesClasses d least → (u : ℕ) → length d.spiders ≤ u → least u ≡ u
least-far d least w c u far =
    by_equal (least u) u (λ t e. e)
    (λ t ne. absurd (true≢false (sym (eqb-self u)
    ∙ c.fused u (λ p. eqb p u) (alone_along d.spiders (length d.spiders) u d.edges w.edges far) ∙ t)))

-- spiders that are not the smallest of their class
abbrev pub others : Diagram → (ℕ → ℕ) → List ℕ
others d least = filter (λ v. not (eqb (least v) v)) (numbers d)

xor_equal : (a b : Bool) → xor a b ≡ false → a ≡ b
xor_equal true true e = refl
xor_equal false false e = refl
xor_equal true false e = absurd (true≢false e)
xor_equal false true e = absurd (true≢false e)

abbrev IsEqualOn : List Spider → (ℕ → Bool) → Wire → Type 0
IsEqualOn spiders label edge = edge_mark spiders edge ≡ false → label edge.a ≡ label edge.b

-- labels that are the same along each plain edge, or a product that is zero
same_or_zero : (spiders : List Spider) (edges : List Wire) (label : ℕ → Bool) →
    All (IsEqualOn spiders label) edges ⊎ (wire_product spiders edges label ≡ zero)
same_or_zero spiders [] label = inl (All-nil (IsEqualOn spiders label))
same_or_zero spiders (e ∷ es) label = step (same_or_zero spiders es label)
  where
    step : All (IsEqualOn spiders label) es ⊎ (wire_product spiders es label ≡ zero) →
        All (IsEqualOn spiders label) (e ∷ es) ⊎ (wire_product spiders (e ∷ es) label ≡ zero)
    step (inr z) = inr (rw z (mul-zero _))
    step (inl same) =
        by_test (edge_mark spiders e)
        (λ marked. inl (All-cons (IsEqualOn spiders label) e es (λ plain. absurd (true≢false (sym marked ∙ plain))) same))
        (λ plain. by_test (xor (label e.a) (label e.b))
        (λ apart. inr (rw (plain, apart) (zero-mul _)))
        (λ equal. inl (All-cons (IsEqualOn spiders label) e es (λ p. xor_equal _ _ equal) same)))

not-xor_self : (b : Bool) → not (xor b b) ≡ true
not-xor_self true = refl
not-xor_self false = refl

equal_of : (a b : Bool) → not (xor a b) ≡ true → a ≡ b
equal_of true true e = refl
equal_of false false e = refl
equal_of true false e = absurd (true≢false (sym e))
equal_of false true e = absurd (true≢false (sym e))

agree_all : (least : ℕ → ℕ) (vs : List ℕ) (label : ℕ → Bool) → ((u : ℕ) → label u ≡ label (least u)) → agrees least vs label ≡ true
agree_all least [] label e = refl
agree_all least (v ∷ vs) label e =
    ap₂ (λ b c. b && c) (ap (λ b. not (xor (label v) b)) (sym (e v)) ∙ not-xor_self (label v)) (agree_all least vs label e)

agree_at : (least : ℕ → ℕ) (vs : List ℕ) (label : ℕ → Bool) (u : ℕ) → agrees least vs label ≡ true → member u vs ≡ true → label u ≡ label (least u)
agree_at least [] label u h there = absurd (true≢false (sym there))
agree_at least (v ∷ vs) label u h there =
    by_equal u v
    (λ t e. ap label e ∙ equal_of _ _ (and-left _ _ h) ∙ ap (λ w. label (least w)) (sym e))
    (λ t ne. agree_at least vs label u (and-right _ _ h) (rw t at there))

is_other : (d : Diagram) (least : ℕ → ℕ) (v : ℕ) → member v (others d least) ≡ true → (least v ≡ v → ⊥)
is_other d least v there e =
    let turned : not (eqb (least v) v) ≡ true = and-right _ _ (sym (member-filter (λ v. not (eqb (least v) v)) (numbers d) v) ∙ there) in
    true≢false (sym turned ∙ ap not (ap (λ w. eqb w v) e ∙ eqb-self v))

least_apart : (d : Diagram) (least : ℕ → ℕ) → NamesClasses d least → (v : ℕ) → member v (others d least) ≡ true → (u : ℕ) → least u ≢ v
least_apart d least c v there u e =
    is_other d least v there (ap least (sym e) ∙ least-least d least c u ∙ e)

zero_below : (u n : ℕ) → u < n → u < 0 + n
zero_below u n h = omega arith

same_as : (d : Diagram) (least : ℕ → ℕ) (label : ℕ → Bool) → IsDiagram d → NamesClasses d least →
    agrees least (others d least) label ≡ true → (u : ℕ) → label u ≡ label (least u)
same_as d least label w c h u =
    by_equal (least u) u (λ t e. ap label (sym e))
    (λ t ne. by_test (ltb u (length d.spiders))
    (λ low. agree_at least (others d least) label u h
    (member-filter (λ v. not (eqb (least v) v)) (numbers d) u
    ∙ ap₂ (λ b c. b && c) (member-numbers_from u 0 (length d.spiders) (omega arith) (zero_below u (length d.spiders) (ltb-true _ _ low))) (ap not t)))
    (λ far. absurd (ne (least-far d least w c u (ltb-false _ _ far)))))

zero_term : (p w r : Number) → w ≡ zero → mul p (mul w r) ≡ zero
zero_term p w r z = rw z (simp (zero-mul, mul-zero))

pointwise : (d : Diagram) (least : ℕ → ℕ) (x y : List Bool) (label : ℕ → Bool) → IsDiagram d → NamesClasses d least →
    term d x y label ≡ guarded (agrees least (others d least) label) (term d x y (λ u. label (least u)))
pointwise d least x y label w c = by (same_or_zero d.spiders d.edges label)
  where
    equal : ((u : ℕ) → label u ≡ label (least u)) → term d x y label ≡ term d x y (λ u. label (least u))
    equal e = ap (term d x y) (λ i u. e u i)

    by : All (λ edge. edge_mark d.spiders edge ≡ false → label edge.a ≡ label edge.b) d.edges ⊎ (wire_product d.spiders d.edges label ≡ zero) →
        term d x y label ≡ guarded (agrees least (others d least) label) (term d x y (λ u. label (least u)))
    by (inl same) =
        equal (λ u. c.fused u label same)
        ∙ ap (λ b. guarded b (term d x y (λ u. label (least u)))) (sym (agree_all least (others d least) label (λ u. c.fused u label same)))
    by (inr z) =
        by_test (agrees least (others d least) label)
        (λ t. equal (same_as d least label w c t) ∙ ap (λ b. guarded b (term d x y (λ u. label (least u)))) (sym t))
        (λ t. zero_term _ _ _ z ∙ ap (λ b. guarded b (term d x y (λ u. label (least u)))) (sym t))

-- the sum over one label for each class
pub fused_sum : (d : Diagram) (least : ℕ → ℕ) (x y : List Bool) → IsDiagram d → NamesClasses d least →
    diagram_sum d x y ≡ sum_over (leaders d least) (λ label. term d x y (λ u. label (least u)))
fused_sum d least x y w c =
    ap (λ n. total (map (λ hs. term d x y (label_of (numbers d) hs)) (all_labels n))) (sym (length-numbers_from 0 (length d.spiders)))
    ∙ all_lists (numbers d) (term d x y)
    ∙ sum_over-parted (λ u. eqb (least u) u) (numbers d) (term d x y)
    ∙ sum_over_same (others d least ++ leaders d least) _ _ (λ label. pointwise d least x y label w c)
    ∙ sum_out_agreeing least (others d least) (leaders d least) (λ label. term d x y (λ u. label (least u)))
    (Distinct-filter (λ v. not (eqb (least v) v)) (numbers d) (Distinct-numbers_from 0 (length d.spiders)))
    (least_apart d least c)
    (λ v there label h. ap (term d x y) (λ i u. labelled-other label v h (least u) (least_apart d least c v there u) i))
