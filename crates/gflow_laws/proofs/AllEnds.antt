-- Where every vertex is an output, and there are as many inputs, every vertex is an input.
use Rattle.std.proofs.Common.{◌≡◌, refl, sym, ◌∙◌, ap, ap₂, ℕ, ◌<◌, ◌≤◌, true, not, ◌&&◌, ◌||◌, eqb, List, [], ◌∷◌, length, true≢false, arith}
use Rattle.zx_model.specs.Bits.{member}
use Rattle.zx_calculus.specs.Graph.{Graph, ids, end_vertices, Distinct, WellFormed}
use Rattle.zx_calculus.proofs.Ids.{by_test, by_equal, removed, member-here, member-there, Distinct-different}
use Rattle.zx_calculus.proofs.Splitting.{all_at}
use Rattle.gflow_laws.specs.Seen.{seen}
use Rattle.gflow_laws.specs.Flow.{IsFlow}
use Rattle.gflow_laws.proofs.Linear.{member-removed}
use Rattle.gflow_laws.proofs.Flows.{Flows-from}
use Rattle.zx_calculus.proofs.ReducedLemmas.{length-places}

length-removed_le : (x : ℕ) (ys : List ℕ) → length (removed x ys) ≤ length ys
length-removed_le x [] = omega arith
length-removed_le x (y ∷ ys) =
    let rest : length (removed x ys) ≤ length ys = length-removed_le x ys in by_test (eqb x y) (λ t. rw t (omega arith)) (λ f. rw f (omega arith))

length-removed : (x : ℕ) (ys : List ℕ) → member x ys ≡ true → length (removed x ys) < length ys
length-removed x [] there = absurd (true≢false (sym there))
length-removed x (y ∷ ys) there =
    by_test (eqb x y)
    (λ t. let rest : length (removed x ys) ≤ length ys = length-removed_le x ys in rw t (omega arith))
    (λ f. let rest : length (removed x ys) < length ys = length-removed x ys (rw f at there) in rw f (omega arith))

-- a list without repetition, inside one that isn't longer, has all its members
pub same_members : (xs ys : List ℕ) → Distinct xs → length ys ≤ length xs → ((w : ℕ) → member w xs ≡ true → member w ys ≡ true) → (w : ℕ) → member w xs ≡ member w ys
same_members [] [] d short inside w = refl
same_members [] (y ∷ ys) d short inside w = absurd (omega arith)
same_members (x ∷ xs) ys d short inside w =
    let there : member x ys ≡ true = inside x (member-here x xs) in
    let shorter : length (removed x ys) < length ys = length-removed x ys there in
    let rest : member w xs ≡ member w (removed x ys) = same_members xs (removed x ys) d.1 (omega arith) within w in
    by_equal w x
    (λ t same. ap (λ b. b || member w xs) t ∙ sym (ap (λ y. member y ys) same ∙ there))
    (λ f ne. ap (λ b. b || member w xs) f ∙ rest ∙ member-removed w x ys ∙ ap (λ b. not b && member w ys) f)
  where
    within : (v : ℕ) → member v xs ≡ true → member v (removed x ys) ≡ true
    within v t = member-removed v x ys ∙ ap₂ (λ a b. not a && b) (by_equal v x (λ s same. absurd (true≢false (sym t ∙ ap (λ y. member y xs) same ∙ d.0))) (λ f ne. f)) (inside v (member-there v x xs t))

pub all_ends : (g : Graph) → WellFormed g → IsFlow g [] → length g.inputs ≡ length g.outputs → (v : ℕ) → member v (ids g.vertices) ≡ true →
    (member v (end_vertices g.inputs) ≡ true) × (member v (end_vertices g.outputs) ≡ true)
all_ends g wf flow equal v there = (same_members (end_vertices g.inputs) (end_vertices g.outputs) (Distinct-different (end_vertices g.inputs) wf.inputs.one_each) short inside v ∙ output v there, output v there)
  where
    output : (w : ℕ) → member w (ids g.vertices) ≡ true → member w (end_vertices g.outputs) ≡ true
    output w within = by_test (member w (end_vertices g.outputs)) (λ t. t)
        (λ f. absurd (true≢false (sym ((Flows-from (seen g) [] flow).non_outputs w ∙ ap₂ (λ a b. a && not b) within f))))

    inside : (w : ℕ) → member w (end_vertices g.inputs) ≡ true → member w (end_vertices g.outputs) ≡ true
    inside w t = output w (all_at (λ u. member u (ids g.vertices)) (end_vertices g.inputs) w wf.inputs.there t)

    short : length (end_vertices g.outputs) ≤ length (end_vertices g.inputs)
    short = omega (arith, length-places g.inputs, length-places g.outputs, equal)
