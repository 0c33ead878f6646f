-- What a step makes of a flow, and of the memory of graph and flow.
use Rattle.std.proofs.Common.{◌≡◌, ap, subst, ℕ, true, false, ◌⊎◌, inl, inr, List, arith}
use Rattle.std.specs.Prelude.{Result, Ok, Err, OnOk, IfOk}
use Rattle.zx_model.specs.Bits.{member}
use Rattle.zx_model.specs.declared.scalar.Scalar.{Scalar}
use Rattle.zx_calculus.specs.Graph.{Graph, End, ids, end_vertices, plane_of, IsVertex, OrderedEnds, WellFormed}
use Rattle.zx_calculus.specs.Deletions.{IsDelete}
use Rattle.zx_calculus.specs.Splits.{new_vertex}
use Rattle.zx_calculus.specs.Steps.{Step, IsStep, allowed, after, LocalComplement, Delete, Pivot, SplitInput, SplitOutput}
use Rattle.zx_calculus.specs.Steps.{DropLone, FuseInto, FuseTwin}
use Rattle.zx_calculus.specs.StepScalars.{step_scalar}
use Rattle.zx_calculus.proofs.Allowed.{complement_live, complement_interior, pivot_live, pivot_live_too, pivot_interior, pivot_interior_too}
use Rattle.zx_calculus.proofs.Allowed.{drop_lone_live, drop_lone_YZ, fuse_into_live, fuse_into_YZ, fuse_twin_live, fuse_twin_YZ}
use Rattle.zx_calculus.proofs.Counting.{YZ_apart}
use Rattle.zx_calculus.proofs.Splitting.{all_at}
use Rattle.zx_calculus.proofs.Steps.{after_step}
use Rattle.gflow_laws.specs.Seen.{seen}
use Rattle.gflow_laws.specs.Flow.{Correction, order_of, IsFlow, SameSets}
use Rattle.gflow_laws.specs.Steps.{table_after}
use Rattle.gflow_laws.proofs.Flows.{Flows-from}
use Rattle.gflow_laws.proofs.Rewriting.{rewritten, interior_listed, measured_listed}
use Rattle.gflow_laws.proofs.Tables.{absent, unlisted}
use Rattle.move_laws.specs.Orders.{is_split}
use Rattle.open_graph.specs.OpenGraph.{OpenGraph}
use Rattle.open_graph.specs.Rooms.{Room, IsLeft}
use Rattle.zx_flow.specs.Flows.{Flow, HaveReach}
use Rattle.graph_rewrites.specs.declared.step.Step.{Step as Named}
use Rattle.graph_rewrites.specs.declared.step.Step.TheVariants as named
use Rattle.graph_rewrites.specs.Rooms.{room_after}
use Rattle.graph_rewrites.specs.Steps.{step_named}
use Rattle.flow_rewrites.specs.Rooms.{HaveRoomFor, UsesPlaces}
use Rattle.flow_rewrites.specs.Safely.{IsDone}

-- ---- which vertices stand in the order of a flow
module _ (g : Graph) (table : List Correction) (w : WellFormed g) (flow : IsFlow g table) where
  pub complement_listed : (u : ℕ) → allowed g (LocalComplement u) ≡ true → member u (order_of table) ≡ true
  complement_listed u may = interior_listed g table u flow (complement_live g u may) (complement_interior g u may)

  pub first_listed : (u v : ℕ) → allowed g (Pivot u v) ≡ true → member u (order_of table) ≡ true
  first_listed u v may = interior_listed g table u flow (pivot_live g u v may) (pivot_interior g u v may)

  pub second_listed : (u v : ℕ) → allowed g (Pivot u v) ≡ true → member v (order_of table) ≡ true
  second_listed u v may = interior_listed g table v flow (pivot_live_too g u v may) (pivot_interior_too g u v may)

  -- one that goes
  pub gone_listed : (s : Named) (u : ℕ) → (s ≡ named.Delete u) ⊎ ((s ≡ named.DropLone u) ⊎ (s ≡ named.FuseInto u)) →
      allowed g (step_named s) ≡ true → member u (order_of table) ≡ true
  gone_listed s u (inl e) may =
      let step : IsDelete g u (after (Delete u) g) = after_step g (Delete u) w (subst (λ t. allowed g (step_named t) ≡ true) e may) in
      measured_listed g table u w flow step.deletable.there step.deletable.plane
  gone_listed s u (inr (inl e)) may =
      let lone = subst (λ t. allowed g (step_named t) ≡ true) e may in
      measured_listed g table u w flow (drop_lone_live g u lone) (YZ_apart (plane_of g u) (drop_lone_YZ g u lone))
  gone_listed s u (inr (inr e)) may =
      let fused = subst (λ t. allowed g (step_named t) ≡ true) e may in
      measured_listed g table u w flow (fuse_into_live g u fused) (YZ_apart (plane_of g u) (fuse_into_YZ g u fused))

  pub twin_listed : (u v : ℕ) → allowed g (FuseTwin u v) ≡ true → member v (order_of table) ≡ true
  twin_listed u v may = measured_listed g table v w flow (fuse_twin_live g u v may) (YZ_apart (plane_of g v) (fuse_twin_YZ g u v may))

  -- neither the new vertex nor one at an output does
  pub new_unlisted : (b : ℕ) → allowed g (SplitInput b) ≡ true → member (new_vertex g) (order_of table) ≡ false
  new_unlisted b may =
      let step : IsStep g (SplitInput b) (after (SplitInput b) g) = after_step g (SplitInput b) w may in
      absent (seen g) table (Flows-from (seen g) table flow) (new_vertex g) step.fresh

  pub output_unlisted : (b : ℕ) → allowed g (SplitOutput b) ≡ true → member b (order_of table) ≡ false
  output_unlisted b may =
      let step : IsStep g (SplitOutput b) (after (SplitOutput b) g) = after_step g (SplitOutput b) w may in
      unlisted (seen g) table (Flows-from (seen g) table flow) b step.has_output

-- the vertex of an end is one
pub end_live : (g : Graph) (ends : List End) (b : ℕ) → OrderedEnds g.vertices ends → member b (end_vertices ends) ≡ true → IsVertex g b
end_live g ends b o there = all_at (λ u. member u (ids g.vertices)) (end_vertices ends) b o.there there

-- ---- memory
-- all ids are below the reach of graph and flow where they have the memory for any step
pub have_reach : (s : Step) (g : OpenGraph) (f : Flow) → HaveRoomFor s g f → HaveReach g f
have_reach (LocalComplement u) g f room = room
have_reach (Delete u) g f room = room
have_reach (Pivot u v) g f room = room
have_reach (SplitInput b) g f room = room.reach
have_reach (SplitOutput b) g f room = room.reach
have_reach (DropLone u) g f room = room
have_reach (FuseInto u) g f room = room
have_reach (FuseTwin u v) g f room = room

pub left_same : {old new : Room} → new ≡ old → IsLeft old new
left_same e = let spare = ap (λ (r : Room). r.spare) e in record { spare = omega (arith, spare); reach = ap (λ (r : Room). r.reach) e }

-- how many places a step uses
pub uses_places : (s : Step) {old new : Room} → IsLeft (room_after s old) new → UsesPlaces s old new
uses_places (LocalComplement u) left = record { spare = omega (arith, left.spare); reach = left.reach }
uses_places (Delete u) left = record { spare = omega (arith, left.spare); reach = left.reach }
uses_places (Pivot u v) left = record { spare = omega (arith, left.spare); reach = left.reach }
uses_places (SplitInput b) left = record { spare = omega (arith, left.spare); reach = left.reach }
uses_places (SplitOutput b) left = record { spare = omega (arith, left.spare); reach = left.reach }
uses_places (DropLone u) left = record { spare = omega (arith, left.spare); reach = left.reach }
uses_places (FuseInto u) left = record { spare = omega (arith, left.spare); reach = left.reach }
uses_places (FuseTwin u v) left = record { spare = omega (arith, left.spare); reach = left.reach }

pub done_uses : {s : Step} {g h : OpenGraph} {f k : Flow} {answer : Scalar} → IsDone s g f answer h k →
    UsesPlaces s g.room h.room × UsesPlaces s f.room k.room
done_uses {s} done = (uses_places s (left_same done.room), uses_places s done.flow_room)

-- ---- the step of graph and flow, from that of each
pub done_both : {E : Type 0} (s : Step) (g h : OpenGraph) (f k : Flow) (r : Result Scalar E) → WellFormed g.graph → IsFlow g.graph f.flow →
    SameSets k.flow (table_after g.graph s f.flow) → (is_split s ≡ true → k.flow ≡ table_after g.graph s f.flow) →
    IsLeft (room_after s f.room) k.room → (is_split s ≡ false → k.room ≡ room_after s f.room) →
    OnOk r (IsStep g.graph s h.graph) → IfOk r (λ answer. answer ≡ step_scalar g.graph s) → OnOk r (h.room ≡ room_after s g.room) →
    IfOk r (λ answer. IsDone s g f answer h k)
done_both s g h f k (Ok x) w flow sets table left same step scalar room = record {
  rewritten = rewritten w flow step sets;
  scalar = scalar;
  table = table;
  room = room;
  flow_room = left;
  same_room = same;
}
done_both s g h f k (Err e) w flow sets table left same step scalar room = tt
