-- What holds once a spider was added.
use Rattle.std.proofs.Common.{◌≡◌, ◌≢◌, refl, sym, ◌∙◌, ap, ap₂, ℕ, zero, suc, ◌<◌, true, false, ◌||◌, eqb, List, [], ◌∷◌, remove, arith}
use Rattle.zx_model.specs.Bits.{member}
use Rattle.zx_bits.specs.Sets.{IsBelow}
use Rattle.zx_calculus.specs.Graph.{XY, Kind, End, Graph, ids, kind_of, plane_of, end_vertices, insert_vertex, IsVertex, OrderedEnds, WellFormed}
use Rattle.zx_calculus.specs.Splits.{spider_of_phase_zero}
use Rattle.zx_calculus.specs.Edits.{IsToggle}
use Rattle.zx_calculus.specs.Turns.{in_plane}
use Rattle.zx_calculus.proofs.Booleans.{or-true}
use Rattle.zx_calculus.proofs.Ids.{by_equal, eqb-self, or-left, or-right, apart_of_member}
use Rattle.zx_calculus.proofs.Vertices.{member-insert, kind_of-insert}
use Rattle.zx_calculus.proofs.NewSpiders.{vertices_are, old_live, edges_are, new_live as spider_live}
use Rattle.zx_calculus.proofs.Splitting.{all_at, absent_from}
use Rattle.graph_rewrites.specs.Internal.Spiders.{IsSpiderAdded}

-- the vertex of an end is live
pub end_live : (g : Graph) (ends : List End) (b : ℕ) → OrderedEnds g.vertices ends → member b (end_vertices ends) ≡ true → IsVertex g b
end_live g ends b o there = all_at (λ u. member u (ids g.vertices)) (end_vertices ends) b o.there there

-- below a bound of all vertices and a new one
pub new_below : (new : ℕ) (old : List ℕ) (reach : ℕ) → IsBelow reach (new ∷ old) → new < reach
new_below new old reach below = below new (ap (λ c. c || member new old) (eqb-self new))

pub old_below : (new : ℕ) (old : List ℕ) (reach : ℕ) → IsBelow reach (new ∷ old) → (b : ℕ) → member b old ≡ true → b < reach
old_below new old reach below b there = below b (ap (λ c. eqb b new || c) there ∙ or-true (eqb b new))

pub all_below : (new : ℕ) (old : List ℕ) (reach : ℕ) → new < reach → IsBelow reach old → IsBelow reach (new ∷ old)
all_below new old reach first rest v there = by_equal v new (λ t e. omega (arith, e, first)) (λ f n. rest v (ap (λ b. b || member v old) (sym f) ∙ there))

-- ---- g is the graph with the new vertex, before its edge
module _ (old : Graph) (b new phase : ℕ) (g : Graph) (b_live : IsVertex old b) (fresh : member new (ids old.vertices) ≡ false) (zero_phase : phase ≡ 0)
    (added : g ≡ record { vertices = insert_vertex (record { id = new; kind = in_plane XY phase }) old.vertices; edges = old.edges; inputs = old.inputs; outputs = old.outputs }) where
  pub b_still_live : IsVertex g b
  b_still_live = old_live old new phase g fresh zero_phase added b b_live

  pub new_there : IsVertex g new
  new_there = spider_live old new phase g fresh zero_phase added

  pub b_apart : b ≢ new
  b_apart = apart_of_member b new (ids old.vertices) b_live fresh

  pub spider_added : WellFormed old → (h : Graph) → IsToggle g b new h → IsSpiderAdded old b new h
  spider_added w h toggle = record {
    fresh = fresh;
    vertices = toggle.vertices ∙ vertices_are old new phase g fresh zero_phase added;
    edges = edges_are old new phase g fresh zero_phase added w b h toggle;
    frame = record {
      ordered = toggle.frame.ordered;
      inputs = toggle.frame.inputs ∙ ap (λ (k : Graph). k.inputs) added;
      outputs = toggle.frame.outputs ∙ ap (λ (k : Graph). k.outputs) added;
    };
  }

-- ---- with the spider
module _ (old : Graph) (b new : ℕ) (h : Graph) (s : IsSpiderAdded old b new h) where
  pub new_live : IsVertex h new
  new_live = ap (λ vs. member new (ids vs)) s.vertices ∙ member-insert new (spider_of_phase_zero new) old.vertices ∙ ap (λ c. c || member new (ids old.vertices)) (eqb-self new)

  pub new_plane : plane_of h new ≡ XY
  new_plane = ap (λ vs. (kind_of vs new).plane) s.vertices ∙ ap (λ (k : Kind). k.plane) (kind_of-insert (spider_of_phase_zero new) old.vertices s.fresh)

absent-remove : (v : ℕ) (es : List End) (i : ℕ) → member v (end_vertices es) ≡ false → member v (end_vertices (remove es i)) ≡ false
absent-remove v [] zero absent = refl
absent-remove v [] (suc i) absent = refl
absent-remove v (e ∷ es) zero absent = or-right (eqb v e.vertex) _ absent
absent-remove v (e ∷ es) (suc i) absent =
    ap₂ (λ a c. a || c) (or-left (eqb v e.vertex) _ absent) (absent-remove v es i (or-right (eqb v e.vertex) _ absent))

-- an end may move to the new vertex
pub new_free : (old : Graph) (new : ℕ) (ends : List End) (i : ℕ) → OrderedEnds old.vertices ends → member new (ids old.vertices) ≡ false →
    member new (end_vertices (remove ends i)) ≡ false
new_free old new ends i o fresh = absent-remove new ends i (absent_from (ids old.vertices) (end_vertices ends) new o.there fresh)
