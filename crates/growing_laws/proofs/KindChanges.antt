-- Changes of kinds along a list of vertices, beside a new vertex and one that goes.
use Rattle.std.proofs.Common.{◌≡◌, ◌≢◌, refl, ap, ℕ, Bool, true, ltb, ne_eqb, ltb-true, lt-ltb, arith, List, [], ◌∷◌}
use Rattle.std.specs.List.{list_all}
use Rattle.zx_calculus.specs.Graph.{Vertex, ids, in_order, without, insert_vertex}
use Rattle.zx_calculus.proofs.Ids.{by_test, by_equal, and-left, and-right}
use Rattle.zx_calculus.proofs.Vertices.{list_all-without}
use Rattle.zx_calculus.proofs.Kept.{both}

-- a vertex below all others comes first
abbrev is_below : Vertex → Vertex → Bool
is_below n v = ltb n.id v.id

insert-first : (n : Vertex) (vs : List Vertex) → list_all (is_below n) vs ≡ true → insert_vertex n vs ≡ n ∷ vs
insert-first n [] h = refl
insert-first n (v ∷ vs) h = let first : ltb n.id v.id ≡ true = and-left _ _ h in rw first refl

below_rest : (n v : Vertex) (vs : List Vertex) → ltb n.id v.id ≡ true → list_all (ltb v.id) (ids vs) ≡ true → list_all (is_below n) vs ≡ true
below_rest n v [] t h = refl
below_rest n v (w ∷ vs) t h =
    let a = ltb-true n.id v.id t in
    let b = ltb-true v.id w.id (and-left _ _ h) in
    both _ _ (lt-ltb n.id w.id (omega (arith, a, b))) (below_rest n v vs t (and-right _ _ h))

pub insert-without : (u : ℕ) (n : Vertex) (vs : List Vertex) → in_order ltb (ids vs) ≡ true → u ≢ n.id →
    insert_vertex n (without u vs) ≡ without u (insert_vertex n vs)
insert-without u n [] o apart = rw (ne_eqb u n.id apart) refl
insert-without u n (v ∷ vs) o apart =
    by_test (ltb n.id v.id)
    (λ t. rw (t, ne_eqb u n.id apart) (insert-first n (without u (v ∷ vs)) (list_all-without (is_below n) u (v ∷ vs) (both _ _ t (below_rest n v vs t (and-left _ _ o))))))
    (λ f. by_equal u v.id
    (λ e same. rw (f, e) (insert-without u n vs (and-right _ _ o) apart))
    (λ e differ. rw (e, f) (rw e (ap (λ rest. v ∷ rest) (insert-without u n vs (and-right _ _ o) apart)))))
