-- The listed edges as an adjacency: the product over edges is the sign of `quad`.
use Rattle.std.proofs.Common.{◌≡◌, ◌≢◌, ◌⊎◌, inl, inr, refl, sym, ◌∙◌, ap, ap₂, ℕ, ◌<◌, Bool, true, false, ◌&&◌, ◌||◌, eqb, ltb, List, [], ◌∷◌, true≢false, eqb-true, eq-eqb, ne_eqb, ltb-true, arith}
use Rattle.std.specs.List.{list_all}
use Rattle.zx_model.specs.Bits.{xor, member}
use Rattle.zx_model.specs.Number.{mul, sign}
use Rattle.zx_model.proofs.Ring.{mul-sign}
use Rattle.zx_calculus.specs.Parity.{masked}
use Rattle.zx_calculus.specs.Internal.Pairs.{quad}
use Rattle.zx_calculus.specs.Graph.{Edge, joins, joined, edge_before, OrderedEdges}
use Rattle.zx_calculus.specs.Sum.{edge_product}
use Rattle.zx_calculus.proofs.Booleans.{parities, or_comm, or-apart, and_comm}
use Rattle.zx_calculus.proofs.Parity.{quad-xor, masked_same, cross_identity, masked-false}
use Rattle.zx_calculus.proofs.Ids.{by_test, by_equal, and-left, and-right, or-left, or-right, Distinct}

pub joined_comm : (es : List Edge) (p q : ℕ) → joined es p q ≡ joined es q p
joined_comm [] p q = refl
joined_comm (e ∷ es) p q = ap₂ (λ a b. a || b) (or_comm (eqb p e.lower && eqb q e.higher) (eqb q e.lower && eqb p e.higher)) (joined_comm es p q)

-- what the tests say
or_cases : (a b : Bool) → (a || b) ≡ true → (a ≡ true) ⊎ (b ≡ true)
or_cases true b h = inl refl
or_cases false b h = inr h

pub joins-true : (e : Edge) (p q : ℕ) → joins e p q ≡ true → ((p ≡ e.lower) × (q ≡ e.higher)) ⊎ ((q ≡ e.lower) × (p ≡ e.higher))
joins-true e p q h = from (or_cases (eqb p e.lower && eqb q e.higher) (eqb q e.lower && eqb p e.higher) h)
  where
    from : ((eqb p e.lower && eqb q e.higher) ≡ true) ⊎ ((eqb q e.lower && eqb p e.higher) ≡ true) → ((p ≡ e.lower) × (q ≡ e.higher)) ⊎ ((q ≡ e.lower) × (p ≡ e.higher))
    from (inl t) = inl (eqb-true p e.lower (and-left _ _ t), eqb-true q e.higher (and-right _ _ t))
    from (inr t) = inr (eqb-true q e.lower (and-left _ _ t), eqb-true p e.higher (and-right _ _ t))

pub edge_before-true : (d e : Edge) → edge_before d e ≡ true → (d.lower < e.lower) ⊎ ((d.lower ≡ e.lower) × (d.higher < e.higher))
edge_before-true d e h = from (or_cases (ltb d.lower e.lower) (eqb d.lower e.lower && ltb d.higher e.higher) h)
  where
    from : (ltb d.lower e.lower ≡ true) ⊎ ((eqb d.lower e.lower && ltb d.higher e.higher) ≡ true) → (d.lower < e.lower) ⊎ ((d.lower ≡ e.lower) × (d.higher < e.higher))
    from (inl t) = inl (ltb-true d.lower e.lower t)
    from (inr t) = inr (eqb-true d.lower e.lower (and-left _ _ t), ltb-true d.higher e.higher (and-right _ _ t))

-- an edge isn't a later one
pub not_later : (e d : Edge) (p q : ℕ) → e.lower < e.higher → d.lower < d.higher → edge_before e d ≡ true → joins e p q ≡ true → joins d p q ≡ false
not_later e d p q e_first d_first before at_e =
    by_test (joins d p q)
    (λ t. let x : ((p ≡ d.lower) × (q ≡ d.higher)) ⊎ ((q ≡ d.lower) × (p ≡ d.higher)) = joins-true d p q t in
    let y : ((p ≡ e.lower) × (q ≡ e.higher)) ⊎ ((q ≡ e.lower) × (p ≡ e.higher)) = joins-true e p q at_e in
    let z : (e.lower < d.lower) ⊎ ((e.lower ≡ d.lower) × (e.higher < d.higher)) = edge_before-true e d before in
    absurd (omega arith))
    (λ f. f)

pub apart_later : (e : Edge) (es : List Edge) (p q : ℕ) → e.lower < e.higher → list_all (λ d. ltb d.lower d.higher) es ≡ true → list_all (edge_before e) es ≡ true → joins e p q ≡ true → joined es p q ≡ false
apart_later e [] p q first firsts before at_e = refl
apart_later e (d ∷ es) p q first firsts before at_e =
    let here : joins d p q ≡ false = not_later e d p q first (ltb-true d.lower d.higher (and-left _ _ firsts)) (and-left _ _ before) at_e in
    rw here (apart_later e es p q first (and-right _ _ firsts) (and-right _ _ before) at_e)

-- an edge and the later ones add up without overlap
pub joined-xor : (e : Edge) (es : List Edge) (p q : ℕ) → e.lower < e.higher → list_all (λ d. ltb d.lower d.higher) es ≡ true → list_all (edge_before e) es ≡ true → joined (e ∷ es) p q ≡ xor (joins e p q) (joined es p q)
joined-xor e es p q first firsts before =
    or-apart (joins e p q) (joined es p q)
    (by_test (joins e p q) (λ t. ap (λ b. joins e p q && b) (apart_later e es p q first firsts before t) ∙ and_comm (joins e p q) false) (λ f. ap (λ b. b && joined es p q) f))

-- an edge as a pair of different ids
pub joins-xor : (e : Edge) (p q : ℕ) → e.lower < e.higher → joins e p q ≡ xor (eqb p e.lower && eqb q e.higher) (eqb p e.higher && eqb q e.lower)
joins-xor e p q first =
    or-apart (eqb p e.lower && eqb q e.higher) (eqb q e.lower && eqb p e.higher)
    (by_equal p e.lower
    (λ t same. let other : eqb p e.higher ≡ false = ne_eqb p e.higher (omega arith) in rw other (simp parities))
    (λ f n. ap (λ b. (b && eqb q e.higher) && (eqb q e.lower && eqb p e.higher)) f))
    ∙ ap (xor (eqb p e.lower && eqb q e.higher)) (and_comm (eqb q e.lower) (eqb p e.higher))

pub masked-pick_absent : (u : ℕ) (vs : List ℕ) (label : ℕ → Bool) → member u vs ≡ false → masked (λ p. eqb p u) vs label ≡ false
masked-pick_absent u [] label h = refl
masked-pick_absent u (v ∷ vs) label h =
    let apart : eqb v u ≡ false = by_equal u v (λ t e. absurd (true≢false (sym t ∙ or-left _ _ h))) (λ f n. ne_eqb v u (λ e. n (sym e))) in
    rw apart (masked-pick_absent u vs label (or-right _ _ h))

-- the parity at one id is its label
pub masked-pick : (u : ℕ) (vs : List ℕ) (label : ℕ → Bool) → Distinct vs → member u vs ≡ true → masked (λ p. eqb p u) vs label ≡ label u
masked-pick u [] label d h = absurd (true≢false (sym h))
masked-pick u (v ∷ vs) label d h =
    by_equal u v
    (λ t e. let same : eqb v u ≡ true = eq-eqb v u (sym e) in rw (same, masked-pick_absent u vs label (ap (λ w. member w vs) e ∙ d.0)) (xor-false_lem v u e label))
    (λ f n. let there : member u vs ≡ true = rw f at h in
    let other : eqb v u ≡ false = ne_eqb v u (λ e. n (sym e)) in rw other (masked-pick u vs label d.1 there))
  where
    xor-false_lem : (v u : ℕ) → u ≡ v → (label : ℕ → Bool) → xor (label v) false ≡ label u
    xor-false_lem v u e label = simp parities (ap label (sym e))

pub quad_same : (a b : ℕ → ℕ → Bool) (vs : List ℕ) (label : ℕ → Bool) → Distinct vs → ((p q : ℕ) → member p vs ≡ true → member q vs ≡ true → p ≢ q → a p q ≡ b p q) → quad a vs label ≡ quad b vs label
quad_same a b [] label d h = refl
quad_same a b (v ∷ vs) label d h =
    ap₂ (λ m r. xor (label v && m) r)
    (masked_same (a v) (b v) vs label (λ q t. h v q (first v vs) (later q v vs t) (λ e. true≢false (sym t ∙ ap (λ w. member w vs) (sym e) ∙ d.0))))
    (quad_same a b vs label d.1 (λ p q s t. h p q (later p v vs s) (later q v vs t)))
  where
    first : (v : ℕ) (vs : List ℕ) → member v (v ∷ vs) ≡ true
    first v vs = rw (eq-eqb v v refl)

    later : (p v : ℕ) (vs : List ℕ) → member p vs ≡ true → member p (v ∷ vs) ≡ true
    later p v vs t = ap (λ b. eqb p v || b) t ∙ or_comm (eqb p v) true

-- one edge
quad-joins : (e : Edge) (vs : List ℕ) (label : ℕ → Bool) → Distinct vs → e.lower < e.higher → member e.lower vs ≡ true → member e.higher vs ≡ true → quad (joins e) vs label ≡ (label e.lower && label e.higher)
quad-joins e vs label d first low high =
    quad_same _ _ vs label d (λ p q s t n. joins-xor e p q first)
    ∙ xor-false_right _ _ (masked_same (λ p. eqb p e.lower && eqb p e.higher) (λ p. false) vs label (λ p t. apart p) ∙ masked-false vs label)
    ∙ cross_identity (λ p. eqb p e.lower) (λ p. eqb p e.higher) vs label
    ∙ ap₂ (λ x y. x && y) (masked-pick e.lower vs label d low) (masked-pick e.higher vs label d high)
  where
    xor-false_right : (a b : Bool) → b ≡ false → a ≡ xor a b
    xor-false_right a b h = rw h (simp parities)

    apart : (p : ℕ) → (eqb p e.lower && eqb p e.higher) ≡ false
    apart p = by_equal p e.lower (λ t same. let other : eqb p e.higher ≡ false = ne_eqb p e.higher (omega arith) in rw other (simp parities)) (λ f n. ap (λ b. b && eqb p e.higher) f)

pub edge_product_is : (vs : List ℕ) (es : List Edge) (label : ℕ → Bool) → Distinct vs → OrderedEdges vs es → edge_product es label ≡ sign (quad (joined es) vs label)
edge_product_is vs [] label d o = ap sign (sym (quad-none vs label))
  where
    quad-none : (vs : List ℕ) (label : ℕ → Bool) → quad (joined []) vs label ≡ false
    quad-none [] label = refl
    quad-none (v ∷ vs) label = ap₂ (λ m r. xor (label v && m) r) (masked-false vs label) (quad-none vs label) ∙ simp parities
edge_product_is vs (e ∷ es) label d o =
    let first : e.lower < e.higher = ltb-true e.lower e.higher (and-left _ _ o.lower_first) in
    let firsts : list_all (λ d. ltb d.lower d.higher) es ≡ true = and-right _ _ o.lower_first in
    ap₂ (λ x y. mul (sign x) y)
    (sym (quad-joins e vs label d first (and-left _ _ o.lower_there) (and-left _ _ o.higher_there)))
    (edge_product_is vs es label d
    (record { lower_first = firsts; rising = and-right _ _ o.rising; lower_there = and-right _ _ o.lower_there; higher_there = and-right _ _ o.higher_there }))
    ∙ mul-sign _ _
    ∙ ap sign (sym (quad-xor (joins e) (joined es) vs label) ∙ sym (quad_same _ _ vs label d (λ p q s t n. joined-xor e es p q first firsts (and-left _ _ o.rising))))
