-- A vertex stands in as many sets as are counted.
use Rattle.std.proofs.Common.{◌≡◌, refl, sym, ◌∙◌, ap, ℕ, suc, Bool, true, false, ltb, List, [], ◌∷◌, length, filter}
use Rattle.std.specs.Prelude.{count_by}
use Rattle.std.proofs.lemmas.List.Sums.{length-filter}
use Rattle.zx_model.specs.Bits.{member}
use Rattle.zx_calculus.specs.Graph.{in_order}
use Rattle.zx_calculus.proofs.Ids.{by_test, Distinct-rising, member-here, member-there}
use Rattle.open_graph.proofs.Toggling.{count-either}
use Rattle.gflow_laws.specs.Flow.{Correction, is_in}
use Rattle.open_graph.specs.VertexSets.{VertexSet}
use Rattle.zx_flow.specs.VertexSets.{set_at}
use Rattle.zx_extract.specs.Internal.Holders.{holds, holders_of, table_from, IsOrdered}
use Rattle.zx_extract.proofs.HoldersTables.{member-holders_of}

-- all are kept
length-all : (xs ys : List ℕ) → ((v : ℕ) → member v xs ≡ true → member v ys ≡ true) →
    length (filter (λ v. member v ys) xs) ≡ length xs
length-all [] ys there = refl
length-all (x ∷ xs) ys there =
    let here : member x ys ≡ true = there x (member-here x xs) in
    rw here (ap suc (length-all xs ys (λ v h. there v (member-there v x xs h))))

abbrev stands_in : ℕ → Correction → Bool
stands_in s e = is_in e.members s

length-sets : (lists : List VertexSet) (s : ℕ) (order : List ℕ) →
    length (filter (λ v. member v (set_at lists s)) order) ≡ length (filter (stands_in s) (table_from lists order))
length-sets lists s [] = refl
length-sets lists s (v ∷ vs) =
    by_test (holds lists s v)
    (λ t. let here : member s (holders_of lists v) ≡ true = member-holders_of lists v s ∙ t in
    rw (t, here) (ap suc (length-sets lists s vs)))
    (λ f. let absent : member s (holders_of lists v) ≡ false = member-holders_of lists v s ∙ f in
    rw (f, absent) (length-sets lists s vs))

pub count_held : (lists : List VertexSet) (s : ℕ) (order : List ℕ) → in_order ltb (set_at lists s) ≡ true →
    IsOrdered order lists → length (set_at lists s) ≡ count_by (stands_in s) (table_from lists order)
count_held lists s order rising ordered =
    sym (length-all (set_at lists s) order (ordered.within s))
    ∙ length-filter (λ v. member v order) (set_at lists s)
    ∙ count-either (set_at lists s) order (Distinct-rising (set_at lists s) rising) ordered.each_once
    ∙ sym (length-filter (λ v. member v (set_at lists s)) order)
    ∙ length-sets lists s order ∙ length-filter (stands_in s) (table_from lists order)
