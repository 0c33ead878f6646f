-- A vertex that is taken out of the list and put back, and one with a single neighbour.
use Rattle.std.proofs.Common.{◌≡◌, ◌≢◌, refl, sym, ◌∙◌, ap, ap₂, ℕ, ◌<◌, Bool, true, false, ◌&&◌, ◌||◌, eqb, ltb, List, [], ◌∷◌, true≢false, ltb-true, arith}
use Rattle.std.proofs.lemmas.Bool.{le-ltb}
use Rattle.std.specs.List.{list_all}
use Rattle.zx_model.specs.Bits.{member}
use Rattle.zx_calculus.specs.Graph.{Vertex, ids, kind_of, in_order, without, insert_vertex}
use Rattle.zx_calculus.specs.Edits.{is_pair}
use Rattle.zx_calculus.proofs.Ids.{by_equal, and-left, and-right, member-below, Symmetric}
use Rattle.zx_calculus.proofs.Booleans.{or-false}
use Rattle.zx_calculus.proofs.Forms.{without-absent}
use Rattle.zx_calculus.proofs.Splitting.{all_at}

-- at the front of a list that it lies below
insert-below_all : (n : Vertex) (vs : List Vertex) → list_all (ltb n.id) (ids vs) ≡ true → insert_vertex n vs ≡ n ∷ vs
insert-below_all n [] h = refl
insert-below_all n (v ∷ vs) h = let here : ltb n.id v.id ≡ true = and-left _ _ h in rw here

pub insert-without : (u : ℕ) (vs : List Vertex) → in_order ltb (ids vs) ≡ true → member u (ids vs) ≡ true → insert_vertex (record { id = u; kind = kind_of vs u }) (without u vs) ≡ vs
insert-without u [] order there = absurd (true≢false (sym there))
insert-without u (v ∷ vs) order there =
    by_equal u v.id
    (λ t e. rw (t, without-absent u vs (ap (λ w. member w (ids vs)) e ∙ member-below v.id (ids vs) (and-left _ _ order)))
    (insert-below_all (record { id = u; kind = v.kind }) vs (ap (λ w. list_all (ltb w) (ids vs)) e ∙ and-left _ _ order)
    ∙ ap (λ w. record { id = w; kind = v.kind } ∷ vs) e))
    (λ t n. let later : member u (ids vs) ≡ true = rw t at there in
    let above : v.id < u = ltb-true v.id u (all_at (ltb v.id) (ids vs) u (and-left _ _ order) later) in
    let not_below : ltb u v.id ≡ false = le-ltb u v.id (omega arith) in
    rw (t, not_below) (ap (λ r. v ∷ r) (insert-without u vs (and-right _ _ order) later)))

-- the edges of a graph with a vertex that has one neighbour, by those of the graph without it
pub joined-leaf : (a b : ℕ → ℕ → Bool) (s v : ℕ) → Symmetric a → Symmetric b → a s s ≡ false → ((p : ℕ) → a s p ≡ eqb p v) → ((p : ℕ) → b s p ≡ false) →
    ((p r : ℕ) → p ≢ s → r ≢ s → b p r ≡ a p r) → (p r : ℕ) → a p r ≡ (b p r || is_pair v s p r)
joined-leaf a b s v sa sb loop one none others p r =
    by_equal p s
    (λ t e. ap (λ w. a w r) e ∙ one r ∙ sym (ap₂ (λ x y. x || y) (ap (λ w. b w r) e ∙ none r) (ap₂ (λ x y. (x && eqb r s) || (y && eqb r v)) (ap (λ w. eqb w v) e ∙ apart) t)))
    (λ t n. by_equal r s
    (λ t' e. ap (a p) e ∙ sa p s ∙ one p ∙ sym (ap₂ (λ x y. x || y) (ap (b p) e ∙ sb p s ∙ none p) (ap₂ (λ x y. (eqb p v && x) || (y && eqb r v)) t' t ∙ at_pair (eqb p v))))
    (λ t' n'. sym (others p r n n') ∙ sym (ap (λ x. b p r || x) (ap₂ (λ x y. (eqb p v && x) || (y && eqb r v)) t' t ∙ off_pair (eqb p v)) ∙ or-false (b p r))))
  where
    apart : eqb s v ≡ false
    apart = sym (one s) ∙ loop

    at_pair : (c : Bool) → ((c && true) || false) ≡ c
    at_pair true = refl
    at_pair false = refl

    off_pair : (c : Bool) → ((c && false) || false) ≡ false
    off_pair true = refl
    off_pair false = refl
