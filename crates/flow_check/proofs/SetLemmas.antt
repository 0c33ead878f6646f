-- Sets that are filled one vertex after the other: the inputs, and the vertices with an odd number of neighbours in a set.
use Rattle.std.proofs.Common.{◌≡◌, refl, sym, ◌∙◌, ap, subst, ℕ, suc, ◌<◌, ◌≤◌, true, false, eqb, List, [], ◌∷◌, ◌++◌, length, get_or, drop, drop-cons}
use Rattle.std.proofs.lemmas.List.{drop_all}
use Rattle.zx_model.specs.Bits.{xor, member}
use Rattle.zx_calculus.specs.Graph.{Graph, Distinct, End, end_vertices, WellFormed}
use Rattle.zx_calculus.proofs.Booleans.{xor-false, and-false}
use Rattle.zx_calculus.proofs.Ids.{Distinct-different}
use Rattle.gflow_laws.specs.Seen.{Seen, in_odd_neighbourhood}
use Rattle.gflow_laws.specs.Flow.{is_in}
use Rattle.gflow_laws.specs.Correcting.{Simple}
use Rattle.gflow_laws.proofs.Linear.{masked-of-xor, masked-one, masked-none}
use Rattle.open_graph.proofs.Toggling.{toggled_next}
use Rattle.open_graph.proofs.Walks.{member-toggled}

-- the vertices that hold ends, toggled as far as the walk over these has come
pub record IsSoFar (ends : List End) (i : ℕ) (set : List ℕ) : Type 0 where
  pub differ : Distinct (end_vertices (drop i ends))
  pub toggled : (w : ℕ) → xor (member w set) (member w (end_vertices (drop i ends))) ≡ member w (end_vertices ends)

pub end_toggled : (ends : List End) (i : ℕ) (e : End) (set new : List ℕ) → i < length ends → e ≡ get_or ends i e → IsSoFar ends i set →
    ((w : ℕ) → member w new ≡ xor (member w set) (eqb w e.vertex)) → IsSoFar ends (suc i) new
end_toggled ends i e set new lt is so_far step =
    let split : drop i ends ≡ e ∷ drop (suc i) ends = drop-cons ends i e lt ∙ ap (λ y. y ∷ drop (suc i) ends) (sym is) in
    let parts : Distinct (end_vertices (e ∷ drop (suc i) ends)) = subst (λ l. Distinct (end_vertices l)) split so_far.differ in
    record {
      differ = parts.1;
      toggled = λ w. toggled_next (λ u. member u set) (λ u. member u new) e.vertex (end_vertices (drop (suc i) ends)) w
          (member w (end_vertices ends)) parts.0 (step w)
          (ap (λ l. xor (member w set) (member w (end_vertices l))) (sym split) ∙ so_far.toggled w);
    }

pub none_toggled : (g : Graph) (ends : List End) → WellFormed g → ends ≡ g.inputs → IsSoFar ends 0 []
none_toggled g ends formed is =
    record { differ = subst (λ l. Distinct (end_vertices l)) (sym is) (Distinct-different (end_vertices g.inputs) formed.inputs.one_each); toggled = λ w. refl }

pub all_toggled : (ends : List End) (i : ℕ) (set : List ℕ) → length ends ≤ i → IsSoFar ends i set → (w : ℕ) → member w set ≡ member w (end_vertices ends)
all_toggled ends i set over so_far w =
    sym (xor-false (member w set)) ∙ ap (λ l. xor (member w set) (member w (end_vertices l))) (sym (drop_all i ends over)) ∙ so_far.toggled w

-- one member more
pub odd_more : (s : Seen) (before rest after all : List ℕ) (w u : ℕ) → Simple s → Distinct all → member w s.ids ≡ true →
    before ++ rest ≡ all → rest ≡ w ∷ after → in_odd_neighbourhood s (is_in (before ++ w ∷ [])) u ≡ xor (in_odd_neighbourhood s (is_in before) u) (s.adjacent w u)
odd_more s before rest after all w u simple differ there e f =
    ap (λ A. in_odd_neighbourhood s A u) (λ i p. member-toggled before rest after all w p differ e f i)
    ∙ masked-of-xor (s.adjacent u) s.ids (is_in before) (λ p. eqb p w)
    ∙ ap (xor (in_odd_neighbourhood s (is_in before) u)) (masked-one (s.adjacent u) s.ids w simple.distinct there ∙ simple.symmetric u w)

pub odd_in_none : (s : Seen) (u : ℕ) → in_odd_neighbourhood s (is_in []) u ≡ false
odd_in_none s u = masked-none (s.adjacent u) s.ids (is_in []) (λ w there. and-false (s.adjacent u w))
