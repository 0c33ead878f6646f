-- No step loses room.
use Rattle.std.proofs.Common.{◌≡◌, sym, ◌∙◌, ap, ℕ, suc, ◌+◌, ◌≤◌, List, [], ◌∷◌, length, length-append, arith}
use Rattle.zx_model.specs.Bits.{one_if, member}
use Rattle.zx_calculus.specs.Graph.{Graph, Distinct, WellFormed}
use Rattle.zx_calculus.specs.Splits.{new_vertex}
use Rattle.zx_calculus.specs.Steps.{Step, LocalComplement, Delete, Pivot, SplitInput, SplitOutput, DropLone, FuseInto, FuseTwin}
use Rattle.zx_calculus.proofs.Ids.{by_equal, removed, removed-absent, Distinct-different}
use Rattle.gflow_laws.specs.Seen.{Seen, seen, complemented}
use Rattle.gflow_laws.specs.Flow.{Correction, order_of, IsFlow}
use Rattle.gflow_laws.specs.Tables.{without_set}
use Rattle.gflow_laws.specs.Complements.{complement_table}
use Rattle.gflow_laws.specs.Removals.{removal_table}
use Rattle.gflow_laws.specs.Rewritten.{IsRewritten}
use Rattle.gflow_laws.specs.Steps.{table_after}
use Rattle.gflow_laws.proofs.Tables.{order_of-with_sets, order_of-without_set, order_of-append}
use Rattle.move_laws.specs.Demand.{taken_out}
use Rattle.move_laws.specs.Orders.{is_split}
use Rattle.open_graph.specs.OpenGraph.{OpenGraph}
use Rattle.open_graph.specs.Rooms.{Room, IsLeft, IsAtLeast}
use Rattle.zx_flow.specs.Flows.{Flow}
use Rattle.graph_rewrites.specs.declared.step.Step.{Step as Named}
use Rattle.zx_moves.specs.declared.made.Made.{Made}
use Rattle.zx_moves.specs.Traces.{Trace, KeepSteps}
use Rattle.zx_moves.specs.Internal.Scaling.{IsMade}
use Rattle.flow_rewrites.specs.Rooms.{UsesPlaces, in_all, KeepPlaces, KeepRoom}
use Rattle.flow_rewrites.proofs.RoomLemmas.{size_after}

-- ---- the order of a flow after a step
one_less : (u : ℕ) (vs : List ℕ) → Distinct vs → length vs ≤ length (removed u vs) + 1
one_less u [] d = omega arith
one_less u (v ∷ vs) d =
    by_equal u v
    (λ t e. rw t (let same = ap length (removed-absent u vs (ap (λ w. member w vs) e ∙ d.0)) in omega (arith, same)))
    (λ f n. rw f (let less = one_less u vs d.1 in omega (arith, less)))

removal_size : (u : ℕ) (table : List Correction) → Distinct (order_of table) →
    length (order_of table) + 0 ≤ length (order_of (removal_table u table)) + 1
removal_size u table d =
    let less = one_less u (order_of table) d in
    let is : length (order_of (removal_table u table)) ≡ length (removed u (order_of table)) =
    ap length (order_of-with_sets _ (without_set u table) ∙ order_of-without_set u table) in
    omega (arith, less, is)

same_order : (s : Seen) (u : ℕ) (table : List Correction) → order_of (complement_table s u table) ≡ order_of table
same_order s u table = order_of-with_sets _ table

of_same : (a b : ℕ) → b ≡ a → a + 0 ≤ b + 0
of_same a b e = omega (arith, e)

one_first : (a : ℕ) → a + 1 ≤ suc a + 0
one_first a = omega arith

one_last : (a b : ℕ) → b ≡ a + 1 → a + 1 ≤ b + 0
one_last a b e = omega (arith, e)

order_size : (g : Graph) (s : Step) (table : List Correction) → Distinct (order_of table) →
    length (order_of table) + one_if (is_split s) ≤ length (order_of (table_after g s table)) + taken_out s
order_size g (LocalComplement u) table d = of_same _ _ (ap length (same_order (seen g) u table))
order_size g (Delete u) table d = removal_size u table d
order_size g (Pivot u v) table d =
    of_same _ _ (ap length
    (same_order (complemented (complemented (seen g) u) v) u (complement_table (complemented (seen g) u) v (complement_table (seen g) u table))
    ∙ same_order (complemented (seen g) u) v (complement_table (seen g) u table) ∙ same_order (seen g) u table))
order_size g (SplitInput b) table d = one_first (length (order_of table))
order_size g (SplitOutput b) table d =
    one_last (length (order_of table)) _
    (ap length (order_of-append table (record { vertex = b; members = new_vertex g ∷ [] })) ∙ length-append (order_of table) (b ∷ []))
order_size g (DropLone u) table d = removal_size u table d
order_size g (FuseInto u) table d = removal_size u table d
order_size g (FuseTwin u v) table d = removal_size v table d

-- ---- graph and flow
at_least : {a b c : Room} → IsAtLeast a b → IsAtLeast b c → IsAtLeast a c
at_least p q = record { spare = omega (arith, p.spare, q.spare); reach = omega (arith, p.reach, q.reach) }

pub places_same : (g : OpenGraph) (f : Flow) → KeepPlaces g f g f
places_same g f = record {
  graph = record { spare = omega arith; reach = omega arith };
  flow = record { spare = omega arith; reach = omega arith };
}

pub places_then : {g h k : OpenGraph} {f e d : Flow} → KeepPlaces g f h e → KeepPlaces h e k d → KeepPlaces g f k d
places_then first second = record { graph = at_least first.graph second.graph; flow = at_least first.flow second.flow }

-- so many are used as come, and as many given back as go
as_come : (s : Step) {old new : Room} (n m : ℕ) → UsesPlaces s old new → n + one_if (is_split s) ≤ m + taken_out s → IsAtLeast (in_all n old) (in_all m new)
as_come s n m uses sizes = record { spare = omega (arith, uses.spare, sizes); reach = omega (arith, uses.reach) }

pub step_keeps_places : {g h : OpenGraph} {f k : Flow} (s : Step) → WellFormed g.graph → IsFlow g.graph f.flow →
    IsRewritten g.graph f.flow s h.graph k.flow → UsesPlaces s g.room h.room × UsesPlaces s f.room k.room → KeepPlaces g f h k
step_keeps_places {g} {h} {f} {k} s valid flow done uses =
    let size = size_after g.graph s h.graph valid done.step in
    let order = order_size g.graph s f.flow (Distinct-different (order_of f.flow) flow.is_table.each_once) in
    let after = ap length done.table.order in
    record {
      graph = as_come s (length g.graph.vertices) (length h.graph.vertices) uses.0 (omega (arith, size));
      flow = as_come s (length (order_of f.flow)) (length (order_of k.flow)) uses.1 (omega (arith, order, after));
    }

-- where memory ran out
pub err_keeps : {g h : OpenGraph} {f k : Flow} → (h.graph ≡ g.graph) × (k.flow ≡ f.flow) → (h.room ≡ g.room) × IsLeft f.room k.room → KeepPlaces g f h k
err_keeps same rooms =
    let vertices = ap (λ (x : Graph). length x.vertices) same.0 in
    let order = ap (λ (t : List Correction). length (order_of t)) same.1 in
    let spare = ap (λ (r : Room). r.spare) rooms.0 in
    let reach = ap (λ (r : Room). r.reach) rooms.0 in
    record {
      graph = record { spare = omega (arith, vertices, spare); reach = omega (arith, reach) };
      flow = record { spare = omega (arith, order, rooms.1.spare); reach = omega (arith, rooms.1.reach) };
    }

-- ---- with the trace
pub room_same : (g : OpenGraph) (f : Flow) (t : Trace) → KeepRoom g f t g f t
room_same g f t = record { places = places_same g f; steps = omega arith }

pub room_then : {g h k : OpenGraph} {f e d : Flow} {t u v : Trace} → KeepRoom g f t h e u → KeepRoom h e u k d v → KeepRoom g f t k d v
room_then first second = record {
  places = places_then first.places second.places;
  steps = omega (arith, first.steps, second.steps);
}

-- ---- copies
module _ {g h k : OpenGraph} {f e d : Flow} {t u v : Trace} where
  -- those of graph and flow have the same room
  pub copies_room : h.graph ≡ g.graph → h.room ≡ g.room → e.flow ≡ f.flow → IsLeft f.room e.room → KeepSteps t u → KeepRoom h e u k d v → KeepRoom g f t k d v
  copies_room graph room flow flow_room steps after = room_then (record { places = err_keeps (graph, flow) (room, flow_room); steps = steps }) after

pub copies_made : {g h k m : Graph} {before old after new : List Named} {made : Made} {table found : List Correction} →
    h ≡ g → before ≡ old → m ≡ k → found ≡ table → new ≡ after → IsMade h before made k table after → IsMade g old made m found new
copies_made same_start same_before same_end same_table same_after all = rw (sym same_start, sym same_before, same_end, same_table, same_after) all
