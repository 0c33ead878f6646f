-- Room for steps, and what is left of it after them.
use Rattle.std.proofs.Common.{◌≡◌, refl, sym, ◌∙◌, ap, subst, ℕ, suc, ◌+◌, ◌*◌, ◌<◌, ◌≤◌, true, List, [], ◌∷◌, length, arith}
use Rattle.zx_model.specs.Bits.{one_if}
use Rattle.zx_bits.specs.Sets.{IsBelow}
use Rattle.zx_calculus.specs.Graph.{XY, Graph, Vertex, ids, with_kinds, without, insert_vertex, plane_of, IsVertex, WellFormed}
use Rattle.zx_calculus.specs.Splits.{new_vertex, spider_of_phase_zero}
use Rattle.zx_calculus.specs.Steps.{Step, IsStep, LocalComplement, Delete, Pivot, SplitInput, SplitOutput, DropLone, FuseInto, FuseTwin}
use Rattle.zx_calculus.proofs.CountLemmas.{Test, count, count_front, count-with_kinds, count-insert}
use Rattle.zx_calculus.proofs.Counting.{Change}
use Rattle.zx_calculus.proofs.ReducedLemmas.{counts_within}
use Rattle.zx_calculus.proofs.Splitting.{distinct}
use Rattle.move_laws.specs.Demand.{demand, taken_out}
use Rattle.move_laws.specs.Orders.{is_split}
use Rattle.move_laws.proofs.DemandLemmas.{new_within, kept_below}
use Rattle.open_graph.specs.OpenGraph.{OpenGraph}
use Rattle.open_graph.specs.Rooms.{Room, IsAtLeast}
use Rattle.zx_flow.specs.Flows.{Flow, HavePlace}
use Rattle.zx_moves.specs.Moving.{most_moves}
use Rattle.zx_moves.specs.Traces.{Trace}
use Rattle.flow_rewrites.specs.Rooms.{HaveRoomFor, UsesPlaces, in_all, room_for, AreReserved, room_needed, HasRoom}
use Rattle.flow_rewrites.specs.Internal.Rooms.{HavePlaces}
use Rattle.flow_rewrites.proofs.DemandMoves.{demand_at_most}
use Rattle.zx_moves.proofs.MoveCounts.{not_XY-none}

-- ---- how many vertices a step leaves
abbrev every : Test
every p k = true

count-every : (vs : List Vertex) → length vs ≡ count every vs
count-every [] = refl
count-every (v ∷ vs) = ap (λ n. suc n) (count-every vs)

by_counts : (a b x y t p : ℕ) → a ≡ x → b ≡ y → x + t ≡ y + p → a + t ≡ b + p
by_counts a b x y t p e f g = omega arith

same_size : (g h : Graph) (f : Change) → h.vertices ≡ with_kinds f g.vertices → length h.vertices + 0 ≡ length g.vertices + 0
same_size g h f is =
    by_counts _ _ _ _ 0 0
    (count-every h.vertices ∙ ap (count every) is ∙ count-with_kinds every f g.vertices) (count-every g.vertices) refl

one_gone : (g h : Graph) (u : ℕ) → WellFormed g → IsVertex g u → length h.vertices ≡ count every (without u g.vertices) →
    length h.vertices + 1 ≡ length g.vertices + 0
one_gone g h u w there left =
    let all = count-every g.vertices ∙ count_front every u g.vertices (distinct g w) there in
    omega (arith, all, left)

changed_gone : (g h : Graph) (u : ℕ) (f : Change) → WellFormed g → IsVertex g u → h.vertices ≡ with_kinds f (without u g.vertices) →
    length h.vertices + 1 ≡ length g.vertices + 0
changed_gone g h u f w there is =
    one_gone g h u w there
    (count-every h.vertices ∙ ap (count every) is ∙ count-with_kinds every f (without u g.vertices))

one_new : (g h : Graph) (new : ℕ) → h.vertices ≡ insert_vertex (spider_of_phase_zero new) g.vertices →
    length h.vertices + 0 ≡ length g.vertices + 1
one_new g h new is =
    let all = count-every h.vertices ∙ ap (count every) is ∙ count-insert every (spider_of_phase_zero new) g.vertices in
    let before = count-every g.vertices in
    omega (arith, all, before)

pub size_after : (g : Graph) (s : Step) (h : Graph) → WellFormed g → IsStep g s h →
    length h.vertices + taken_out s ≡ length g.vertices + one_if (is_split s)
size_after g (LocalComplement u) h w c = same_size g h _ c.vertices
size_after g (Delete u) h w c = changed_gone g h u _ w c.deletable.there c.vertices
size_after g (Pivot u v) h w c = same_size g h _ c.vertices
size_after g (SplitInput b) h w c = one_new g h (new_vertex g) c.vertices
size_after g (SplitOutput b) h w c = one_new g h (new_vertex g) c.vertices
size_after g (DropLone u) h w c = one_gone g h u w c.there (count-every h.vertices ∙ ap (count every) c.vertices)
size_after g (FuseInto u) h w c = changed_gone g h u _ w c.there c.vertices
size_after g (FuseTwin u v) h w c = changed_gone g h v _ w c.there_too c.vertices

-- ---- places for n vertices
some_left : (n spare size : ℕ) → n ≤ spare + size → size < n → 0 < spare
some_left n spare size e f = omega arith

as_many : (n a b l m t p : ℕ) → n ≤ a + l → a + t ≤ b + p → m + t ≡ l + p → n ≤ b + m
as_many n a b l m t p e f g = omega arith

module _ (n : ℕ) (g : OpenGraph) (f : Flow) (w : WellFormed g.graph) (places : HavePlaces n g f) (few : length g.graph.vertices < n) where
  have_place : HavePlace g f
  have_place =
      let new = new_within g.graph w in
      record {
        place = some_left n g.room.spare (length g.graph.vertices) places.graph.spare few;
        flow_place = some_left n f.room.spare (length g.graph.vertices) places.flow.spare few;
        below = omega (arith, new, few, places.graph.reach);
        flow_below = omega (arith, new, few, places.flow.reach);
        reach = places.reach;
      }

  -- a step finds what it needs
  pub room_of_step : (s : Step) → HaveRoomFor s g f
  room_of_step (LocalComplement u) = places.reach
  room_of_step (Delete u) = places.reach
  room_of_step (Pivot u v) = places.reach
  room_of_step (SplitInput b) = have_place
  room_of_step (SplitOutput b) = have_place
  room_of_step (DropLone u) = places.reach
  room_of_step (FuseInto u) = places.reach
  room_of_step (FuseTwin u v) = places.reach

  -- and leaves as many places
  pub places_after : (s : Step) (h : OpenGraph) (k : Flow) → IsStep g.graph s h.graph →
      UsesPlaces s g.room h.room × UsesPlaces s f.room k.room → HavePlaces n h k
  places_after s h k step uses = record {
    graph = left uses.0 places.graph;
    flow = left uses.1 places.flow;
    reach = (below uses.0 places.graph.reach places.reach.0, below uses.1 places.flow.reach places.reach.1);
  }
    where
      left : {old new : Room} → UsesPlaces s old new → IsAtLeast (room_for n) (in_all (length g.graph.vertices) old) →
          IsAtLeast (room_for n) (in_all (length h.graph.vertices) new)
      left {old} {new} used there = record {
        spare = as_many n old.spare new.spare (length g.graph.vertices) (length h.graph.vertices) (taken_out s) (one_if (is_split s))
            there.spare used.spare (size_after g.graph s h.graph w step);
        reach = subst (λ r. n ≤ r) (sym used.reach) there.reach;
      }

      below : {old new : Room} → UsesPlaces s old new → n ≤ old.reach → IsBelow old.reach (ids g.graph.vertices) → IsBelow new.reach (ids h.graph.vertices)
      below {old} used enough all =
          subst (λ r. IsBelow r (ids h.graph.vertices)) (sym used.reach)
          (kept_below g.graph s h.graph old.reach w step (omega (arith, few, enough)) all)

-- ---- the room that simplification begins with
module _ (g : OpenGraph) (f : Flow) (trace : Trace) (w : WellFormed g.graph) (room : HasRoom g f trace) where
  pub begins_with_places : HavePlaces (length g.graph.vertices + length g.graph.inputs + 2) g f
  begins_with_places = record {
    graph = record { spare = omega (arith, room.graph.spare); reach = room.graph.reach };
    flow = record { spare = omega (arith, room.flow.spare); reach = room.flow.reach };
    reach = room.reach;
  }

  pub demand_within : demand g.graph + 2 ≤ length g.graph.vertices + length g.graph.inputs + 2
  demand_within = let most = demand_at_most g.graph w in omega (arith, most)

  pub steps_within : 6 * most_moves g.graph ≤ trace.spare
  steps_within = all _ _ _ _ _ (counts_within g.graph w) room.steps
    where
      all : (e p o n t : ℕ) → e + o ≤ n → 12 * n + 6 * p ≤ t → 6 * (2 * e + p + 2 * o) ≤ t
      all e p o n t a b = omega arith

-- what was taken for the graph of a circuit is as much
pub room_reserved : (g : OpenGraph) (f : Flow) (trace : Trace) → WellFormed g.graph → ((v : ℕ) → IsVertex g.graph v → plane_of g.graph v ≡ XY) →
    ((v : ℕ) → IsVertex g.graph v → v < length g.graph.vertices) → AreReserved (length g.graph.vertices + 2 * length g.graph.inputs + 2) g f →
    12 * length g.graph.vertices ≤ trace.spare → HasRoom g f trace
room_reserved g f trace w planes numbered taken steps =
    let none = not_XY-none g.graph w planes in
    record {
      graph = enough taken.graph;
      flow = enough taken.flow;
      reach = (
        λ v there. let lower = numbered v there in omega (arith, lower, taken.graph.reach),
        λ v there. let lower = numbered v there in omega (arith, lower, taken.flow.reach),
      );
      steps = omega (arith, none, steps);
    }
  where
    enough : {room : Room} → IsAtLeast (room_for (length g.graph.vertices + 2 * length g.graph.inputs + 2)) room → IsAtLeast (room_needed g.graph) room
    enough r = record { spare = omega (arith, r.spare); reach = omega (arith, r.reach) }
