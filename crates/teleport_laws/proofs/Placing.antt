-- The laws of runs, for gates that stand at vertices.
use Rattle.std.proofs.Common.{◌≡◌, refl, sym, ap, ap₂, subst, ℕ, ◌<◌, true, false, cond, List, [], ◌∷◌, length, arith}
use Rattle.zx_model.specs.Phase.{turn, sum_of_phases}
use Rattle.zx_model.specs.Bits.{member}
use Rattle.zx_model.proofs.ProportionalLemmas.{proportional_sym, proportional_trans}
use Rattle.zx_calculus.specs.Graph.{Graph, ids, IsVertex, WellFormed, OrderedEdges}
use Rattle.zx_calculus.specs.Sum.{graph_sum}
use Rattle.zx_calculus.specs.Steps.{Step, IsRun}
use Rattle.zx_calculus.proofs.Ids.{member-here, member-there, apart_of_member}
use Rattle.zx_calculus.proofs.Kept.{kept_kinds}
use Rattle.zx_calculus.proofs.Steps.{run_proportional, run_kept}
use Rattle.std.proofs.Common.{ne_eqb}
use Rattle.teleport_laws.specs.Shifts.{add_kind, shifted, IsShift}
use Rattle.teleport_laws.specs.Spots.{At, spot_at}
use Rattle.teleport_laws.specs.Groups.{placed, AreGatesOf, LeadsToTheSame, KeepsTheSum, HasFewOdd}
use Rattle.teleport_laws.proofs.Carrying.{held-below}
use Rattle.teleport_laws.proofs.Shifting.{ids-shifted}
use Rattle.teleport_laws.proofs.Runs.{run_carries}
use Rattle.teleport_laws.proofs.Parities.{odd_at_most}

pub shifted_formed : (g : Graph) (more : ℕ → ℕ) → WellFormed g → WellFormed (shifted more g)
shifted_formed g more w =
    kept_kinds g (add_kind more) (shifted more g) w (λ p k low. low_sum k.phase (more p)) (λ p there k e. e) (λ p there k e. e) refl
    (record { ordered = subst (λ vs. OrderedEdges vs g.edges) (sym (ids-shifted more g)) w.edges; inputs = refl; outputs = refl })
  where
    low_sum : (j k : ℕ) → sum_of_phases j k < turn
    low_sum j k = omega arith

-- no phase where there is no vertex
pub placed-absent : (g : Graph) (phase vertex_of : ℕ → ℕ) (gates : List ℕ) (v : ℕ) → ((i : ℕ) → member i gates ≡ true → IsVertex g (vertex_of i)) → member v (ids g.vertices) ≡ false → placed phase vertex_of gates v ≡ 0
placed-absent g phase vertex_of [] v there absent = refl
placed-absent g phase vertex_of (i ∷ is) v there absent =
    ap₂ sum_of_phases
    (ap (λ b. cond b (phase i) 0) (ne_eqb (vertex_of i) v (apart_of_member (vertex_of i) v (ids g.vertices) (there i (member-here i is)) absent)))
    (placed-absent g phase vertex_of is v (λ j m. there j (member-there j i is m)) absent)

pub placed_shift : (g : Graph) (phase vertex_of : ℕ → ℕ) (gates : List ℕ) → AreGatesOf g phase vertex_of gates → IsShift g (placed phase vertex_of gates)
placed_shift g phase vertex_of gates of = record {
  below = λ v. held-below phase (λ i. spot_at (vertex_of i)) gates (At v);
  absent = λ v. placed-absent g phase vertex_of gates v of.there;
}

pub leads_to_the_same : (g : Graph) (steps : List Step) (h : Graph) (run : IsRun g steps h) → WellFormed g → LeadsToTheSame g steps h run
leads_to_the_same g steps h run w phase vertex_of gates of balanced =
    run_carries g steps h run phase (λ i. spot_at (vertex_of i)) gates w of.below (λ i m lt. refl) (placed_shift g phase vertex_of gates of) balanced

pub keeps_the_sum : (g : Graph) (steps : List Step) (h : Graph) (run : IsRun g steps h) → WellFormed g → KeepsTheSum g steps h run
keeps_the_sum g steps h run w phase vertex_of gates of balanced =
    proportional_trans (length g.inputs) (length g.outputs) (graph_sum (shifted (placed phase vertex_of gates) g)) (graph_sum h) (graph_sum g)
    (run_proportional (shifted (placed phase vertex_of gates) g) steps h (shifted_formed g (placed phase vertex_of gates) w) (leads_to_the_same g steps h run w phase vertex_of gates of balanced))
    (proportional_sym (length g.inputs) (length g.outputs) (graph_sum g) (graph_sum h) (run_proportional g steps h w run))

pub has_few_odd : (g : Graph) (steps : List Step) (h : Graph) (run : IsRun g steps h) → WellFormed g → HasFewOdd g steps h run
has_few_odd g steps h run w phase vertex_of gates of d even =
    odd_at_most g steps h run phase vertex_of gates w (run_kept g steps h w run) of.below d even
