-- Places of ends.
use Rattle.std.proofs.Common.{◌≡◌, ◌≢◌, refl, sym, ◌∙◌, ap, ap₂, subst, not, ℕ, zero, suc, ◌<◌, Bool, true, false, cond, ◌||◌, eqb, List, [], ◌∷◌, ◌++◌, length, get_or, set, remove, Option, Some, None, is_some, IfSome, slice_get, true≢false, ne_eqb, eq-eqb, arith}
use Rattle.std.proofs.lemmas.Option.{same_Some}
use Rattle.zx_model.specs.Bits.{member}
use Rattle.zx_calculus.specs.Graph.{End, end_vertices, in_order, different}
use Rattle.zx_calculus.proofs.Ids.{by_test, by_equal, and-left, and-right, or-left, or-right, member-here, member-there, member-different}
use Rattle.open_graph.specs.Internal.Slots.{next_place, place_among}

is_some-next_place : (o : Option ℕ) → is_some (next_place o) ≡ is_some o
is_some-next_place None = refl
is_some-next_place (Some i) = refl

pub is_some-place_among : (v : ℕ) (ends : List End) → is_some (place_among v ends) ≡ member v (end_vertices ends)
is_some-place_among v [] = refl
is_some-place_among v (e ∷ es) = by_equal v e.vertex (λ t s. rw t refl) (λ f n. rw f (is_some-next_place (place_among v es) ∙ is_some-place_among v es))

pub place_among-absent : (v : ℕ) (ends : List End) → member v (end_vertices ends) ≡ false → place_among v ends ≡ None
place_among-absent v [] absent = refl
place_among-absent v (e ∷ es) absent =
    let apart : eqb v e.vertex ≡ false = or-left _ _ absent in rw apart (ap next_place (place_among-absent v es (or-right _ _ absent)))

next_place-cond : (b : Bool) (x y : Option ℕ) → next_place (cond b x y) ≡ cond b (next_place x) (next_place y)
next_place-cond true x y = refl
next_place-cond false x y = refl

apart_of_absent : (d v : ℕ) (vs : List ℕ) → (eqb v d || member v vs) ≡ false → d ≢ v
apart_of_absent d v vs absent e = true≢false (sym (eq-eqb v d (sym e)) ∙ or-left _ _ absent)

pub place_among-push : (ends : List End) (e : End) → member e.vertex (end_vertices ends) ≡ false → (p : ℕ) → place_among p (ends ++ e ∷ []) ≡ cond (eqb p e.vertex) (Some (length ends)) (place_among p ends)
place_among-push [] e absent p = refl
place_among-push (d ∷ ds) e absent p =
    by_equal p d.vertex
    (λ t s. let other : eqb p e.vertex ≡ false = ne_eqb p e.vertex (λ s'. apart_of_absent d.vertex e.vertex (end_vertices ds) absent (sym s ∙ s')) in rw (t, other) refl)
    (λ f n. rw f (ap next_place (place_among-push ds e (or-right _ _ absent) p) ∙ next_place-cond (eqb p e.vertex) (Some (length ds)) (place_among p ds)))

pub member-place : (ends : List End) (i : ℕ) (d : End) → i < length ends → member (get_or ends i d).vertex (end_vertices ends) ≡ true
member-place [] i d lt = absurd (omega arith)
member-place (e ∷ es) zero d lt = member-here e.vertex (end_vertices es)
member-place (e ∷ es) (suc i) d lt = member-there (get_or es i d).vertex e.vertex (end_vertices es) (member-place es i d (omega arith))

pub place_among-set : (ends : List End) (i : ℕ) (e d : End) → i < length ends → in_order different (end_vertices ends) ≡ true → member e.vertex (end_vertices (remove ends i)) ≡ false →
    (p : ℕ) → place_among p (set ends i e) ≡ cond (eqb p e.vertex) (Some i) (cond (eqb p (get_or ends i d).vertex) None (place_among p ends))
place_among-set [] i e d lt o absent p = absurd (omega arith)
place_among-set (x ∷ xs) zero e d lt o absent p =
    by_test (eqb p e.vertex) (λ t. rw t refl)
    (λ f. rw f
    (by_equal p x.vertex
    (λ t s. rw t (ap next_place (place_among-absent p xs (ap (λ v. member v (end_vertices xs)) s ∙ member-different x.vertex (end_vertices xs) (and-left _ _ o)))))
    (λ g n. rw g refl)))
place_among-set (x ∷ xs) (suc i) e d lt o absent p =
    by_equal p x.vertex
    (λ t s.
    let not_e : eqb p e.vertex ≡ false = ne_eqb p e.vertex (λ s'. apart_of_absent x.vertex e.vertex (end_vertices (remove xs i)) absent (sym s ∙ s')) in
    let not_i : eqb p (get_or xs i d).vertex ≡ false = ne_eqb p (get_or xs i d).vertex (λ s'. other_than_first (sym s ∙ s')) in
    rw (t, not_e, not_i) refl)
    (λ f n. rw f
    (ap next_place (place_among-set xs i e d (omega arith) (and-right _ _ o) (or-right _ _ absent) p)
    ∙ next_place-cond (eqb p e.vertex) (Some i) (cond (eqb p (get_or xs i d).vertex) None (place_among p xs))
    ∙ ap (cond (eqb p e.vertex) (Some (suc i))) (next_place-cond (eqb p (get_or xs i d).vertex) None (place_among p xs))))
  where
    other_than_first : x.vertex ≢ (get_or xs i d).vertex
    other_than_first s = true≢false (sym (member-place xs i d (omega arith)) ∙ ap (λ v. member v (end_vertices xs)) (sym s) ∙ member-different x.vertex (end_vertices xs) (and-left _ _ o))

-- whether a vertex is interior, from the end_vertices of its ends
pub interior_by : (i o : Option ℕ) (ins outs : List End) (v : ℕ) → i ≡ place_among v ins → o ≡ place_among v outs → not (is_some i || is_some o) ≡ not (member v (end_vertices ins) || member v (end_vertices outs))
interior_by i o ins outs v at_i at_o = ap₂ (λ a b. not (a || b)) (ap is_some at_i ∙ is_some-place_among v ins) (ap is_some at_o ∙ is_some-place_among v outs)

-- at the place that is told stands the vertex
pub place_holds : (v : ℕ) (ends : List End) (o : Option ℕ) → o ≡ place_among v ends → IfSome o (λ i. slice_get (end_vertices ends) i ≡ Some v)
place_holds v ends o told = subst (λ (x : Option ℕ). IfSome x (λ i. slice_get (end_vertices ends) i ≡ Some v)) (sym told) (found ends)
  where
    next : (e : End) (es : List End) (x : Option ℕ) → IfSome x (λ i. slice_get (end_vertices es) i ≡ Some v) → IfSome (next_place x) (λ i. slice_get (end_vertices (e ∷ es)) i ≡ Some v)
    next e es None h = tt
    next e es (Some i) h = h

    found : (es : List End) → IfSome (place_among v es) (λ i. slice_get (end_vertices es) i ≡ Some v)
    found [] = tt
    found (e ∷ es) = by_equal v e.vertex (λ t s. rw t (ap Some (sym s))) (λ f n. rw f (next e es (place_among v es) (found es)))

-- the vertex of the end at a place
pub slice_get-places : (ends : List End) (i : ℕ) (e : End) → slice_get ends i ≡ Some e → slice_get (end_vertices ends) i ≡ Some e.vertex
slice_get-places [] i e found = cc
slice_get-places (d ∷ ds) zero e found = ap (λ (c : End). Some c.vertex) (same_Some d e found)
slice_get-places (d ∷ ds) (suc i) e found = slice_get-places ds i e found
