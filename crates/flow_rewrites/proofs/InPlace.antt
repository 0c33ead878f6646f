-- Steps and moves of a graph with its flow as they are.
use Rattle.std.proofs.Common.{◌≡◌, sym, ◌∙◌, ap, subst, ℕ, suc, ◌+◌, ◌*◌, ◌<◌, ◌≤◌, List, [], ◌∷◌, ◌++◌, length, map, take, drop, get_or, arith}
use Rattle.std.proofs.Math.Seq.{take-suc, drop-append_seam}
use Rattle.std.proofs.lemmas.List.{map-append, take-append-drop}
use Rattle.zx_calculus.specs.Graph.{Graph, WellFormed}
use Rattle.zx_calculus.specs.Steps as calculus
use Rattle.zx_calculus.specs.Steps.{IsStep, IsRun}
use Rattle.move_laws.specs.Demand.{demand, with_both}
use Rattle.open_graph.specs.OpenGraph.{OpenGraph}
use Rattle.zx_flow.specs.Flows.{Flow}
use Rattle.zx_moves.specs.declared.moves.Move.{Move}
use Rattle.graph_rewrites.specs.declared.step.Step.{Step}
use Rattle.graph_rewrites.specs.Steps.{step_named}
use Rattle.zx_moves.specs.Search.{AppliesAt, IsOfFirstKind}
use Rattle.zx_moves.specs.Moving.{steps_of, most_moves, AddsSteps}
use Rattle.zx_moves.specs.Traces.{Trace}
use Rattle.flow_rewrites.specs.Rooms.{HasRoom}
use Rattle.flow_rewrites.specs.Internal.Rooms.{HavePlaces, StaysWithin}
use Rattle.flow_rewrites.proofs.DemandMoves.{within_now, within_after, after_move}
use Rattle.flow_rewrites.proofs.RoomLemmas.{begins_with_places, demand_within, steps_within}
use Rattle.zx_moves.proofs.MoveCounts.{most_moves-move}
use Rattle.zx_moves.proofs.MoveSteps.{move_made}
use Rattle.zx_moves.proofs.MovesMade.{IsUnderWay, next_done}

-- ---- steps
-- of these steps so many are done, from g to k, and the others can be done
abbrev pub AreUnderWay : Graph → List Step → ℕ → Graph → Type 0
AreUnderWay g steps done k = IsUnderWay g steps done k [] (take done steps)

pub one_done : {g k h : Graph} {steps : List Step} {i : ℕ} (step : Step) → AreUnderWay g steps i k → i < length steps →
    step ≡ get_or steps i step → IsStep k (step_named step) h → AreUnderWay g steps (suc i) h
one_done {steps = steps} {i = i} step way within is done =
    next_done step way within is done
    (take-suc steps i step within ∙ ap (λ (s : Step). take i steps ++ s ∷ []) (sym is))

-- inside a move the vertices stay fewer than the places
pub still_few : {g k : Graph} {steps : List Step} {i : ℕ} (n d : ℕ) → AreUnderWay g steps i k → d + 2 ≤ n →
    StaysWithin d g (map step_named steps) → length k.vertices < n
still_few {g} {k} {steps} {i} n d way fits stays =
    let parts : map step_named (take i steps) ++ map step_named (drop i steps) ≡ map step_named steps =
    sym (map-append step_named (take i steps) (drop i steps)) ∙ ap (map step_named) (take-append-drop i steps) in
    let most : length k.vertices + with_both k ≤ d + 1 =
    within_now d k (map step_named (drop i steps))
    (within_after d g (map step_named (take i steps)) (map step_named (drop i steps)) k
    (subst (StaysWithin d g) (sym parts) stays) way.run) in
    omega (arith, most, fits)

-- ---- a move
module _ {before after planned : List Step} {steps : List calculus.Step} (start : ℕ) (adds : AddsSteps before after steps) (starts : start ≡ length before)
    (is : planned ≡ drop start after) where
  are_added : planned ≡ adds.added
  are_added = is ∙ ap (λ n. drop n after) starts ∙ ap (drop (length before)) adds.trace ∙ drop-append_seam before adds.added

  -- what comes behind the old trace are the steps of the move
  pub planned_steps : map step_named planned ≡ steps
  planned_steps = ap (map step_named) are_added ∙ adds.named

  pub trace_with : after ≡ before ++ planned
  trace_with = adds.trace ∙ ap (λ (s : List Step). before ++ s) (sym are_added)

-- ---- moves
-- what is left of the room that simplification of g began with
pub record IsRoomLeft (g h : OpenGraph) (k : Flow) (trace : Trace) : Type 0 where
  pub places : HavePlaces (length g.graph.vertices + length g.graph.inputs + 2) h k
  pub ids : demand h.graph + 2 ≤ length g.graph.vertices + length g.graph.inputs + 2
  pub steps : 6 * most_moves h.graph ≤ trace.spare

pub room_begins : (g : OpenGraph) (f : Flow) (trace : Trace) → WellFormed g.graph → HasRoom g f trace → IsRoomLeft g g f trace
room_begins g f trace w room = record {
  places = begins_with_places g f trace w room;
  ids = demand_within g f trace w room;
  steps = steps_within g f trace w room;
}

module _ (g h : OpenGraph) (k : Flow) (trace : Trace) (m : Move) (w : WellFormed h.graph) (applies : AppliesAt h.graph m) (left : IsRoomLeft g h k trace) where
  -- a move finds room for its steps
  pub six_left : IsOfFirstKind h.graph m → 6 ≤ trace.spare
  six_left first =
      let made = move_made h.graph m w applies first in
      let fewer = most_moves-move h.graph made.0 m w applies made.1.run in
      omega (arith, fewer, left.steps)

  pub room_stays : (next : OpenGraph) (flow : Flow) (longer : Trace) → IsRun h.graph (steps_of h.graph m) next.graph →
      HavePlaces (length g.graph.vertices + length g.graph.inputs + 2) next flow → trace.spare ≤ longer.spare + 6 →
      IsRoomLeft g next flow longer
  room_stays next flow longer run places spare =
      let fewer = most_moves-move h.graph next.graph m w applies run in
      let same = after_move h.graph m next.graph w run in
      record {
        places = places;
        ids = omega (arith, same, left.ids);
        steps = omega (arith, fewer, left.steps, spare);
      }
