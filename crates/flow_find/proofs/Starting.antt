-- The rows before any vertex is passed: those of the outputs without inputs.
use Rattle.std.proofs.Common.{◌≡◌, refl, sym, ◌∙◌, ap, ap₂, ℕ, zero, suc, ◌<◌, Bool, true, false, not, ◌&&◌, ◌||◌, eqb, List, [], ◌∷◌, ◌++◌, length, get_or, take, arith}
use Rattle.std.proofs.Math.Seq.{take-suc}
use Rattle.zx_model.specs.Bits.{member}
use Rattle.zx_calculus.proofs.Booleans.{and-false, and-true, or-false}
use Rattle.zx_calculus.proofs.Ids.{by_equal, member-append, member-here, member-there}
use Rattle.zx_calculus.proofs.Splitting.{all_at}
use Rattle.zx_calculus.specs.Graph.{Graph, End, ids, end_vertices, WellFormed}
use Rattle.gflow_laws.specs.Seen.{Seen, seen}
use Rattle.flow_find.specs.declared.row.Row.{Row}
use Rattle.flow_find.specs.Frontiers.{usable, IsFrontier, IsFrontierOf, with_one}
use Rattle.flow_find.proofs.Changing.{frontier_alike}

-- whether a vertex has one of these ends, and no input
abbrev pub ended : Seen → List End → ℕ → Bool
ended s ends w = member w (end_vertices ends) && not (s.input w)

end_vertices-append : (ends : List End) (e : End) → end_vertices (ends ++ e ∷ []) ≡ end_vertices ends ++ e.vertex ∷ []
end_vertices-append [] e = refl
end_vertices-append (x ∷ xs) e = ap (λ l. x.vertex ∷ l) (end_vertices-append xs e)

-- one more end
ended_next : (s : Seen) (ends : List End) (i : ℕ) (e : End) (w : ℕ) → i < length ends → e ≡ get_or ends i e →
    ended s (take (suc i) ends) w ≡ ((member w (end_vertices (take i ends)) || (eqb w e.vertex || false)) && not (s.input w))
ended_next s ends i e w within is =
    ap (λ l. ended s l w) (take-suc ends i e within ∙ ap (λ x. take i ends ++ x ∷ []) (sym is))
    ∙ ap (λ l. member w l && not (s.input w)) (end_vertices-append (take i ends) e)
    ∙ ap (λ b. b && not (s.input w)) (member-append w (end_vertices (take i ends)) (e.vertex ∷ []))

pub ended_in : (s : Seen) (left : ℕ → Bool) (ends : List End) (i : ℕ) (e : End) (rows : List Row) → i < length ends → e ≡ get_or ends i e → s.input e.vertex ≡ false →
    IsFrontier s left left (with_one (ended s (take i ends)) e.vertex) rows → IsFrontier s left left (ended s (take (suc i) ends)) rows
ended_in s left ends i e rows within is none frontier =
    frontier_alike s left (with_one (ended s (take i ends)) e.vertex) (ended s (take (suc i) ends)) rows (λ w. same w ∙ sym (ended_next s ends i e w within is)) frontier
  where
    there : (m : Bool) → ((m && true) || true) ≡ ((m || (true || false)) && true)
    there true = refl
    there false = refl

    elsewhere : (m k : Bool) → ((m && k) || false) ≡ ((m || (false || false)) && k)
    elsewhere true true = refl
    elsewhere true false = refl
    elsewhere false k = refl

    same : (w : ℕ) → with_one (ended s (take i ends)) e.vertex w ≡ ((member w (end_vertices (take i ends)) || (eqb w e.vertex || false)) && not (s.input w))
    same w = by_equal w e.vertex
        (λ t is_e. let no_input : s.input w ≡ false = ap s.input is_e ∙ none in
        ap₂ (λ b c. (member w (end_vertices (take i ends)) && not b) || c) no_input t ∙ there (member w (end_vertices (take i ends)))
        ∙ sym (ap₂ (λ b c. (member w (end_vertices (take i ends)) || (c || false)) && not b) no_input t))
        (λ f n. ap (λ c. (member w (end_vertices (take i ends)) && not (s.input w)) || c) f ∙ elsewhere (member w (end_vertices (take i ends))) (not (s.input w))
        ∙ sym (ap (λ c. (member w (end_vertices (take i ends)) || (c || false)) && not (s.input w)) f))

pub ended_by : (s : Seen) (left : ℕ → Bool) (ends : List End) (i : ℕ) (e : End) (rows : List Row) → i < length ends → e ≡ get_or ends i e → s.input e.vertex ≡ true →
    IsFrontier s left left (ended s (take i ends)) rows → IsFrontier s left left (ended s (take (suc i) ends)) rows
ended_by s left ends i e rows within is has_it frontier =
    frontier_alike s left (ended s (take i ends)) (ended s (take (suc i) ends)) rows (λ w. same w ∙ sym (ended_next s ends i e w within is)) frontier
  where
    same : (w : ℕ) → ended s (take i ends) w ≡ ((member w (end_vertices (take i ends)) || (eqb w e.vertex || false)) && not (s.input w))
    same w = by_equal w e.vertex
        (λ t is_e. let input : s.input w ≡ true = ap s.input is_e ∙ has_it in
        ap (λ b. member w (end_vertices (take i ends)) && not b) input ∙ and-false (member w (end_vertices (take i ends)))
        ∙ sym (ap (λ b. (member w (end_vertices (take i ends)) || (eqb w e.vertex || false)) && not b) input ∙ and-false (member w (end_vertices (take i ends)) || (eqb w e.vertex || false))))
        (λ f n. sym (ap (λ c. (member w (end_vertices (take i ends)) || (c || false)) && not (s.input w)) f ∙ ap (λ b. b && not (s.input w)) (or-false (member w (end_vertices (take i ends))))))

-- all outputs without inputs are all usable vertices
pub all_ended : (g : Graph) (left : ℕ → Bool) (rows : List Row) → WellFormed g → ((w : ℕ) → left w ≡ (member w (seen g).ids && not ((seen g).output w))) →
    IsFrontier (seen g) left left (ended (seen g) g.outputs) rows → IsFrontierOf (seen g) left rows
all_ended g left rows formed marks frontier = frontier_alike (seen g) left (ended (seen g) g.outputs) (usable (seen g) left) rows same frontier
  where
    table : (o m k l : Bool) → (o ≡ true → m ≡ true) → l ≡ (m && not o) → (o && k) ≡ (m && (k && not l))
    table true m k l there e = sym (ap₂ (λ a b. a && (k && not b)) (there refl) (e ∙ and-false m) ∙ and-true k)
    table false true k l there e = sym (ap (λ b. k && not b) e ∙ and-false k)
    table false false k l there e = refl

    same : (w : ℕ) → ended (seen g) g.outputs w ≡ usable (seen g) left w
    same w = table ((seen g).output w) (member w (seen g).ids) (not ((seen g).input w)) (left w)
        (λ t. all_at (λ u. member u (ids g.vertices)) (end_vertices g.outputs) w formed.outputs.there t) (marks w)

-- an output is a vertex
pub output_lives : (g : Graph) (ends : List End) (i : ℕ) (e : End) (v : ℕ) → WellFormed g → ends ≡ g.outputs → i < length ends → e ≡ get_or ends i e → v ≡ e.vertex → member v (ids g.vertices) ≡ true
output_lives g ends i e v formed same within is at =
    all_at (λ u. member u (ids g.vertices)) (end_vertices g.outputs) v formed.outputs.there
    (ap (λ l. member v (end_vertices l)) (sym same) ∙ ap (λ u. member u (end_vertices ends)) (at ∙ ap (λ x. x.vertex) is) ∙ stands ends i e within)
  where
    stands : (es : List End) (k : ℕ) (d : End) → k < length es → member (get_or es k d).vertex (end_vertices es) ≡ true
    stands [] k d lt = absurd (omega arith)
    stands (x ∷ xs) zero d lt = member-here x.vertex (end_vertices xs)
    stands (x ∷ xs) (suc k) d lt = member-there (get_or xs k d).vertex x.vertex (end_vertices xs) (stands xs k d (omega arith))
