-- The ends of the graph-like form of a diagram, and when it has a flow.
use Rattle.std.proofs.Common.{◌≡◌, ◌≢◌, refl, ◌∙◌, ap, ℕ, suc, Bool, true, false, if◌then◌else◌, not, List, [], ◌∷◌, length, ◌+◌}
use Rattle.std.proofs.lemmas.List.{length-map}
use Rattle.zx_model.specs.Bits.{member}
use Rattle.zx_calculus.specs.Graph.{Graph, End}
use Rattle.zx_diagram.specs.Diagram.{Diagram}
use Rattle.graph_like.specs.LikeForm.{inputs_at, outputs_at, leaders, home_in, surplus, placed_in, IsLikeForm}
use Rattle.flow_find.specs.Stuck.{HasFlow, IsLargestStuck}
use Rattle.flow_find.proofs.Leaving.{a_flow_leaves_none}

-- whichever of two lists is taken, it has one end more than n
either_longer : (b : Bool) (x y : End) (xs ys : List End) (n : ℕ) → length xs ≡ n → length ys ≡ n → length (if b then x ∷ xs else y ∷ ys) ≡ suc n
either_longer true x y xs ys n p q = ap suc p
either_longer false x y xs ys n p q = ap suc q

-- each end stays or moves
length-placed : (seen : List ℕ) (next : ℕ) (ends : List End) → length (placed_in seen next ends) ≡ length ends
length-placed seen next [] = refl
length-placed seen next (e ∷ es) = either_longer (member e.vertex seen) (record { vertex = next; hadamard = not e.hadamard }) e
    (placed_in seen (suc next) es) (placed_in (e.vertex ∷ seen) next es) (length es)
    (length-placed seen (suc next) es) (length-placed (e.vertex ∷ seen) next es)

pub form_inputs : (d : Diagram) (g : Graph) → IsLikeForm d g → length g.inputs ≡ length d.inputs
form_inputs d g is =
    ap (λ (h : Graph). length h.inputs) is.graph
    ∙ length-placed [] (length (leaders d is.least)) (inputs_at d (home_in d is.least))
    ∙ length-map d.inputs _

pub form_outputs : (d : Diagram) (g : Graph) → IsLikeForm d g → length g.outputs ≡ length d.outputs
form_outputs d g is =
    ap (λ (h : Graph). length h.outputs) is.graph
    ∙ length-placed [] (length (leaders d is.least) + length (surplus (inputs_at d (home_in d is.least)))) (outputs_at d (home_in d is.least))
    ∙ length-map d.outputs _

-- where vertices are stuck there is no flow
pub stuck_without_flow : (g : Graph) (left : List ℕ) → IsLargestStuck g left → left ≢ [] → HasFlow g → ⊥
stuck_without_flow g left largest some has = some (a_flow_leaves_none g has.table left has.flow largest.stuck)
