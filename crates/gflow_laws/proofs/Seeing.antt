-- What a flow depends on, and what it says of a vertex.
use Rattle.std.proofs.Common.{◌≡◌, sym, ◌∙◌, ap, subst, ⊎_elim, ℕ, Bool, true, false, ◌&&◌, List, [], ◌∷◌}
use Rattle.std.proofs.lemmas.Bool.{true≢false, and_parts}
use Rattle.zx_model.specs.Bits.{member}
use Rattle.zx_calculus.specs.Graph.{XY, Graph, ids, plane_of, joined, end_vertices, WellFormed}
use Rattle.zx_calculus.specs.Parity.{masked}
use Rattle.gflow_laws.specs.Seen.{seen}
use Rattle.gflow_laws.specs.Flow.{Correction, order_of, set_of, is_in, is_later, IsFlowOf, IsFlow, SameSets, Corrects, odd_in}
use Rattle.gflow_laws.specs.Correcting.{Alike, FlowAsFunctions}
use Rattle.gflow_laws.proofs.Linear.{member-here, member-there}
use Rattle.gflow_laws.proofs.Corrects.{xor_true}
use Rattle.gflow_laws.proofs.Flows.{Flows-from, IsFlowOf-from, Flows-alike, listed}
use Rattle.gflow_laws.proofs.Tables.{Corrects-same}
use Rattle.gflow_laws.proofs.Views.{Simple-seen}

-- an odd parity has a summand
pub masked-true : (n : ℕ → Bool) (vs : List ℕ) (A : ℕ → Bool) → masked n vs A ≡ true → (w : ℕ) × (member w vs ≡ true) × ((n w && A w) ≡ true)
masked-true n [] A e = absurd (true≢false (sym e))
masked-true n (v ∷ vs) A e = ⊎_elim
    (λ h. (v, member-here v vs, h))
    (λ h. let (w, within, f) = masked-true n vs A h in (w, member-there w v vs within, f))
    (xor_true (n v && A v) (masked n vs A) e)

-- an XY vertex without an output has a neighbour, where there is a flow
pub has_neighbour : (g : Graph) (table : List Correction) (v : ℕ) → IsFlow g table → member v (ids g.vertices) ≡ true → member v (end_vertices g.outputs) ≡ false → plane_of g v ≡ XY →
    (w : ℕ) × (member w (ids g.vertices) ≡ true) × (joined g.edges v w ≡ true)
has_neighbour g table v flow there no_output plane =
    let f : FlowAsFunctions (seen g) table = Flows-from (seen g) table flow in
    let c : Corrects (seen g) (is_later (order_of table)) v (is_in (set_of table v)) = f.corrects v (listed (seen g) table f v there no_output) in
    let (w, within, e) = masked-true (joined g.edges v) (ids g.vertices) (is_in (set_of table v)) (c.odd_there ∙ ap odd_in plane) in
    (w, within, (and_parts (joined g.edges v w) (is_in (set_of table v) w) e).0)

pub alone_without_flow : (g : Graph) (table : List Correction) (v : ℕ) → member v (ids g.vertices) ≡ true → member v (end_vertices g.outputs) ≡ false → plane_of g v ≡ XY →
    ((w : ℕ) → joined g.edges v w ≡ false) → IsFlow g table → ⊥
alone_without_flow g table v there no_output plane alone flow =
    let (w, within, e) = has_neighbour g table v flow there no_output plane in true≢false (sym e ∙ alone w)

-- graphs that look alike but for phases have the same flows
pub flow-alike : (g h : Graph) (table : List Correction) → WellFormed g → WellFormed h → Alike (seen g) (seen h) → IsFlow g table → IsFlow h table
flow-alike g h table wg wh alike flow =
    IsFlowOf-from (seen h) table (Flows-alike (seen g) (seen h) table (Simple-seen g wg).distinct (Simple-seen h wh).distinct alike (Flows-from (seen g) table flow))

pub phases_unseen : (g h : Graph) (table : List Correction) → ids g.vertices ≡ ids h.vertices → ((v : ℕ) → plane_of g v ≡ plane_of h v) → g.edges ≡ h.edges →
    end_vertices g.inputs ≡ end_vertices h.inputs → end_vertices g.outputs ≡ end_vertices h.outputs → IsFlow g table → IsFlow h table
phases_unseen g h table same_ids planes edges inputs outputs flow = subst (λ s. IsFlowOf s table) same flow
  where
    same : seen g ≡ seen h
    same = λ i. record {
      ids = same_ids i;
      adjacent = joined (edges i);
      plane = λ v. planes v i;
      input = λ v. member v (inputs i);
      output = λ v. member v (outputs i);
    }

-- the order in which a set lists its members doesn't matter
pub flow-same_sets : (g : Graph) (table table' : List Correction) → SameSets table table' → IsFlow g table → IsFlow g table'
flow-same_sets g table table' same flow =
    let f : FlowAsFunctions (seen g) table = Flows-from (seen g) table flow in
    IsFlowOf-from (seen g) table' record {
      each_once = rw (← same.order) f.each_once;
      non_outputs = λ v. ap (member v) (sym same.order) ∙ f.non_outputs v;
      corrects = λ v there. subst (λ l. Corrects (seen g) (is_later l) v (is_in (set_of table' v))) same.order
          (Corrects-same (seen g) (is_later (order_of table)) v (is_in (set_of table v)) (is_in (set_of table' v)) (same.members v) (f.corrects v (ap (member v) same.order ∙ there)));
    }
