-- Changes of planes and phases along a list of vertices, and of its vertices.
use Rattle.std.proofs.Common.{◌≡◌, ◌≢◌, refl, sym, ◌∙◌, ap, ap₂, ℕ, suc, ◌+◌, length, ◌<◌, Bool, true, false, cond, ◌&&◌, ◌||◌, eqb, ltb, List, [], ◌∷◌, true≢false, eq-eqb, ne_eqb, ltb-true, arith}
use Rattle.std.specs.List.{list_all}
use Rattle.zx_model.specs.Phase.{turn}
use Rattle.zx_model.specs.Bits.{member}
use Rattle.zx_model.specs.Number.{Number, one, mul}
use Rattle.zx_model.proofs.Ring.{one-mul}
use Rattle.zx_calculus.specs.Graph.{Kind, Vertex, ids, kind_of, with_kinds, without, insert_vertex}
use Rattle.zx_calculus.specs.Sum.{factor, vertex_product}
use Rattle.zx_calculus.proofs.Factors.{product_of}
use Rattle.zx_calculus.proofs.Ids.{by_test, by_equal, and-left, and-right, or-left, or-right, member-here, member-there}
use Rattle.zx_calculus.proofs.Forms.{without-absent, at_front}
use Rattle.zx_calculus.proofs.Turning.{picked_spiders, regroup}

pub ids-with_kinds : (f : ℕ → Kind → Kind) (vs : List Vertex) → ids (with_kinds f vs) ≡ ids vs
ids-with_kinds f [] = refl
ids-with_kinds f (v ∷ vs) = ap (λ r. v.id ∷ r) (ids-with_kinds f vs)

pub length-insert : (n : Vertex) (vs : List Vertex) → length (insert_vertex n vs) ≡ length vs + 1
length-insert n [] = refl
length-insert n (v ∷ vs) = at (ltb n.id v.id) (length-insert n vs)
  where
    at : (b : Bool) → length (insert_vertex n vs) ≡ length vs + 1 → length (cond b (n ∷ (v ∷ vs)) (v ∷ insert_vertex n vs)) ≡ length (v ∷ vs) + 1
    at true again = omega arith
    at false again = omega arith

pub length-with_kinds : (f : ℕ → Kind → Kind) (vs : List Vertex) → length (with_kinds f vs) ≡ length vs
length-with_kinds f [] = refl
length-with_kinds f (v ∷ vs) = ap (λ n. suc n) (length-with_kinds f vs)

pub without-with_kinds : (f : ℕ → Kind → Kind) (u : ℕ) (vs : List Vertex) → without u (with_kinds f vs) ≡ with_kinds f (without u vs)
without-with_kinds f u [] = refl
without-with_kinds f u (v ∷ vs) =
    by_equal u v.id (λ t e. rw t (without-with_kinds f u vs)) (λ t n. rw t (ap (λ r. record { id = v.id; kind = f v.id v.kind } ∷ r) (without-with_kinds f u vs)))

pub kind_of-with_kinds : (f : ℕ → Kind → Kind) (u : ℕ) (vs : List Vertex) → member u (ids vs) ≡ true → kind_of (with_kinds f vs) u ≡ f u (kind_of vs u)
kind_of-with_kinds f u [] h = absurd (true≢false (sym h))
kind_of-with_kinds f u (v ∷ vs) h =
    by_equal u v.id (λ t e. rw t (ap (λ w. f w v.kind) (sym e)))
    (λ t n. let there : member u (ids vs) ≡ true = rw t at h in rw t (kind_of-with_kinds f u vs there))

pub at_front-with_kinds : (f : ℕ → Kind → Kind) (u : ℕ) (vs : List Vertex) → member u (ids vs) ≡ true → at_front u (with_kinds f vs) ≡ record { id = u; kind = f u (kind_of vs u) } ∷ with_kinds f (without u vs)
at_front-with_kinds f u vs h = ap₂ (λ k r. record { id = u; kind = k } ∷ r) (kind_of-with_kinds f u vs h) (without-with_kinds f u vs)

pub with_kinds_same : (f g : ℕ → Kind → Kind) (vs : List Vertex) → ((p : ℕ) (k : Kind) → member p (ids vs) ≡ true → f p k ≡ g p k) → with_kinds f vs ≡ with_kinds g vs
with_kinds_same f g [] h = refl
with_kinds_same f g (v ∷ vs) h =
    ap₂ (λ k r. record { id = v.id; kind = k } ∷ r) (h v.id v.kind (member-here v.id (ids vs)))
    (with_kinds_same f g vs (λ p k t. h p k (member-there p v.id (ids vs) t)))

pub with_kinds-identity : (vs : List Vertex) → with_kinds (λ p k. k) vs ≡ vs
with_kinds-identity [] = refl
with_kinds-identity (v ∷ vs) = ap (λ r. v ∷ r) (with_kinds-identity vs)

pub with_kinds-unchanged : (f : ℕ → Kind → Kind) (vs : List Vertex) → ((p : ℕ) (k : Kind) → member p (ids vs) ≡ true → f p k ≡ k) → with_kinds f vs ≡ vs
with_kinds-unchanged f vs h = with_kinds_same f (λ p k. k) vs h ∙ with_kinds-identity vs

abbrev pub all_below_a_turn : List Vertex → Bool
all_below_a_turn vs = list_all (λ v. ltb v.kind.phase turn) vs

pub list_all-without : (p : Vertex → Bool) (u : ℕ) (vs : List Vertex) → list_all p vs ≡ true → list_all p (without u vs) ≡ true
list_all-without p u [] h = refl
list_all-without p u (v ∷ vs) h =
    by_equal u v.id (λ t e. rw t (list_all-without p u vs (and-right _ _ h)))
    (λ t n. let here : p v ≡ true = and-left _ _ h in rw (t, here) (list_all-without p u vs (and-right _ _ h)))

pub phase-kind_of : (u : ℕ) (vs : List Vertex) → all_below_a_turn vs ≡ true → (kind_of vs u).phase < turn
phase-kind_of u [] h = omega arith
phase-kind_of u (v ∷ vs) h =
    by_equal u v.id (λ t e. rw t (ltb-true v.kind.phase turn (and-left _ _ h))) (λ t n. rw t (phase-kind_of u vs (and-right _ _ h)))

pub kind_of-without : (p u : ℕ) (vs : List Vertex) → p ≢ u → kind_of (without u vs) p ≡ kind_of vs p
kind_of-without p u [] n = refl
kind_of-without p u (v ∷ vs) n =
    by_equal u v.id
    (λ t e. let other : eqb p v.id ≡ false = ne_eqb p v.id (λ q. n (q ∙ sym e)) in rw (t, other) (kind_of-without p u vs n))
    (λ t m. rw t (ap (cond (eqb p v.id) v.kind) (kind_of-without p u vs n)))

-- turns of those vertices that `near` picks
abbrev pub turn_near : (Kind → Kind) → (ℕ → Bool) → ℕ → Kind → Kind
turn_near turned near p kind = cond (near p) (turned kind) kind

pub turned_product : (cost : Kind → Number) (turned : Kind → Kind) (s : Bool → Number) (near : ℕ → Bool) (vs : List Vertex) (label : ℕ → Bool) →
    ((k : Kind) (h : Bool) → k.phase < turn → mul (cost k) (factor (turned k) h) ≡ mul (s h) (factor k h)) → s false ≡ one → all_below_a_turn vs ≡ true →
    mul (product_of near cost vs) (vertex_product (with_kinds (turn_near turned near) vs) label) ≡ mul (picked_spiders s near (ids vs) label) (vertex_product vs label)
turned_product cost turned s near [] label law none below = refl
turned_product cost turned s near (v ∷ vs) label law none below =
    regroup (cond (near v.id) (cost v.kind) one) (product_of near cost vs) (factor (turn_near turned near v.id v.kind) (label v.id)) (vertex_product (with_kinds (turn_near turned near) vs) label)
    ∙ ap₂ mul (here (near v.id)) (turned_product cost turned s near vs label law none (and-right _ _ below))
    ∙ regroup (s (near v.id && label v.id)) (factor v.kind (label v.id)) (picked_spiders s near (ids vs) label) (vertex_product vs label)
  where
    here : (b : Bool) → mul (cond b (cost v.kind) one) (factor (cond b (turned v.kind) v.kind) (label v.id)) ≡ mul (s (b && label v.id)) (factor v.kind (label v.id))
    here true = law v.kind (label v.id) (ltb-true v.kind.phase turn (and-left _ _ below))
    here false = ap (λ x. mul x (factor v.kind (label v.id))) (sym none)

pub product_of-without : (near : ℕ → Bool) (cost : Kind → Number) (u : ℕ) (vs : List Vertex) → near u ≡ false → product_of near cost (without u vs) ≡ product_of near cost vs
product_of-without near cost u [] h = refl
product_of-without near cost u (v ∷ vs) h =
    by_equal u v.id
    (λ t e. let off : near v.id ≡ false = ap near (sym e) ∙ h in rw (t, off) (product_of-without near cost u vs h ∙ sym (one-mul _)))
    (λ t n. rw t (ap (mul (cond (near v.id) (cost v.kind) one)) (product_of-without near cost u vs h)))

-- one more vertex
pub member-insert : (p : ℕ) (n : Vertex) (vs : List Vertex) → member p (ids (insert_vertex n vs)) ≡ (eqb p n.id || member p (ids vs))
member-insert p n [] = refl
member-insert p n (v ∷ vs) =
    by_test (ltb n.id v.id) (λ t. rw t) (λ f. rw f (ap (λ b. eqb p v.id || b) (member-insert p n vs) ∙ or_swap (eqb p v.id) (eqb p n.id) (member p (ids vs))))
  where
    or_swap : (a b c : Bool) → (a || (b || c)) ≡ (b || (a || c))
    or_swap true true c = refl
    or_swap true false c = refl
    or_swap false b c = refl

pub without-insert : (n : Vertex) (vs : List Vertex) → member n.id (ids vs) ≡ false → without n.id (insert_vertex n vs) ≡ vs
without-insert n [] h = rw (eq-eqb n.id n.id refl)
without-insert n (v ∷ vs) h =
    let apart : eqb n.id v.id ≡ false = or-left _ _ h in
    by_test (ltb n.id v.id)
    (λ t. rw (t, eq-eqb n.id n.id refl) (rw apart (ap (λ r. v ∷ r) (without-absent n.id vs (or-right _ _ h)))))
    (λ f. rw (f, apart) (ap (λ r. v ∷ r) (without-insert n vs (or-right _ _ h))))

pub kind_of-insert : (n : Vertex) (vs : List Vertex) → member n.id (ids vs) ≡ false → kind_of (insert_vertex n vs) n.id ≡ n.kind
kind_of-insert n [] h = rw (eq-eqb n.id n.id refl)
kind_of-insert n (v ∷ vs) h =
    let apart : eqb n.id v.id ≡ false = or-left _ _ h in
    by_test (ltb n.id v.id) (λ t. rw (t, eq-eqb n.id n.id refl)) (λ f. rw (f, apart) (kind_of-insert n vs (or-right _ _ h)))
