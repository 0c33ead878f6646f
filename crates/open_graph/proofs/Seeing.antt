-- What is seen of a graph in memory after a change of its slots and ends.
use Rattle.std.proofs.Common.{ltb, ◌≡◌, ◌≢◌, refl, sym, ◌∙◌, ap, subst, ℕ, ◌<◌, true, false, List, [], ◌∷◌, ◌++◌, length, get_or, set, remove, Option, Some, None, IsSome, slice_index_or, OnOk, OnErr, IfOk, Result, Ok, Err}
use Rattle.zx_model.specs.Phase.{turn}
use Rattle.zx_model.specs.Bits.{member}
use Rattle.zx_bits.specs.Sets.{IsBelow}
use Rattle.zx_calculus.specs.Graph.{XY, Kind, End, Graph, ids, neighbours, in_order, insert_vertex, with_kinds, IsVertex, WellFormed, Interior, is_interior}
use Rattle.zx_calculus.specs.Splits.{least_free}
use Rattle.zx_calculus.specs.Edits.{IsToggle, IsRemoval, at_vertex}
use Rattle.zx_calculus.specs.Toggles.{IsToggled, across, among}
use Rattle.zx_calculus.proofs.EditPrograms.{toggled, toggled_is_toggle, removal_is_removal}
use Rattle.zx_calculus.proofs.LeastFree.{least_free-unique}
use Rattle.open_graph.specs.declared.slot.Slot.{Slot}
use Rattle.open_graph.specs.declared.scratch.Scratch.{Scratch}
use Rattle.open_graph.specs.declared.side.Side.{Side}
use Rattle.open_graph.specs.declared.side.Side.TheVariants.{Input, Output}
use Rattle.open_graph.specs.OpenGraph.{OpenGraph}
use Rattle.open_graph.specs.VertexSets.{VertexSet}
use Rattle.open_graph.specs.Internal.Slots.{nothing, told_by, told_at, vertices_of, graph_of, IsSound}
use Rattle.open_graph.specs.Sides.{ends_of, with_ends}
use Rattle.open_graph.specs.Internal.Sides.{with_side_place, Moves}
use Rattle.open_graph.specs.Internal.Changes.{Puts, SameTold, Stores, RemovedFrom, RowsToggled, two_among, KindsChanged, powers_in}
use Rattle.open_graph.specs.Internal.Room.{vacant_in, KeepsRoom, HasRoom, CanHold, IsStored}
use Rattle.open_graph.proofs.SlotLemmas.{contains_live, rising_vertices, member-vertices, member_of_some}
use Rattle.open_graph.proofs.Keeping.{MayHold, Becomes, becomes_same, becomes_toggled, becomes_added, becomes_weight, becomes_end_added, becomes_end_moved}
use Rattle.open_graph.specs.declared.turn.Turn.{Turn}
use Rattle.open_graph.specs.Turns.{turned_in, powers_of}
use Rattle.open_graph.proofs.Removing.{becomes_removed}
use Rattle.open_graph.proofs.Turning.{becomes_turned, powers_turned}
use Rattle.open_graph.proofs.RowToggles.{becomes_across, becomes_among}
use Rattle.open_graph.proofs.NearLemmas.{toggled_near, toggled_around, row_below, closed_below}
use Rattle.open_graph.proofs.ReachLemmas.{room_kept}

-- what is seen of these fields
abbrev pub seen : List (Option Slot) → List End → List End → ℕ → OpenGraph
seen slots inputs outputs reach =
    record { graph = graph_of slots inputs outputs; room = record { spare = vacant_in slots; reach = reach } }

-- slots and ends are sound; where the call went well its clause holds of their graph, else the graph is as before
pub record Settled {T E : Type 0} (r : Result T E) (slots : List (Option Slot)) (inputs outputs : List End) (before : Graph)
    (After : Graph → Type 0) : Type 0 where
  pub sound : IsSound slots inputs outputs
  pub ok : OnOk r (After (graph_of slots inputs outputs))
  pub err : OnErr r (graph_of slots inputs outputs ≡ before)

-- a vertex is added under the least free id, or the graph is as before
pub record SettledVertex {E : Type 0} (r : Result ℕ E) (slots : List (Option Slot)) (inputs outputs : List End) (before : Graph)
    (kind : Kind) : Type 0 where
  pub sound : IsSound slots inputs outputs
  pub fresh : IfOk r (λ v. member v (ids before.vertices) ≡ false)
  pub least : IfOk r (λ v. v ≡ least_free (ids before.vertices))
  pub ok : IfOk r (λ v. graph_of slots inputs outputs ≡ record before { vertices = insert_vertex (record { id = v; kind = kind }) before.vertices })
  pub err : OnErr r (graph_of slots inputs outputs ≡ before)

module _ {slots new : List (Option Slot)} {inputs outputs ins outs : List End} {kept : List VertexSet} {scratch sets : Scratch} {reach : ℕ}
    (is : IsStored slots inputs outputs kept scratch reach) (sound : IsSound new ins outs) where
  -- other sound slots and ends, where rows keep their room
  pub kept_on : KeepsRoom reach slots new → CanHold reach sets → IsStored new ins outs kept sets reach
  kept_on room holds = record { sound = sound; room = room_kept reach slots new kept is.room room; scratch = holds }

  -- the same where slots between them do, whose room is kept in other rows
  pub kept_after : (mid : List (Option Slot)) (rows : List VertexSet) → KeepsRoom reach slots mid →
      ((reach : ℕ) → HasRoom reach mid kept → HasRoom reach new rows) → CanHold reach sets → IsStored new ins outs rows sets reach
  kept_after mid rows room more holds = record { sound = sound; room = more reach (room_kept reach slots mid kept is.room room); scratch = holds }

module _ {slots : List (Option Slot)} {inputs outputs : List End} {kept : List VertexSet} {scratch : Scratch} {reach : ℕ} {g : OpenGraph}
    (is : IsStored slots inputs outputs kept scratch reach) (view : seen slots inputs outputs reach ≡ g) where
  pub live_there : (v : ℕ) → IsVertex g.graph v → IsSome (slice_index_or slots v None)
  live_there v live = contains_live slots v (ap (λ g. member v (ids g.graph.vertices)) view ∙ live)

  pub powers_seen : (t : Turn) (u : ℕ) → in_order ltb (told_at slots u).row ≡ true →
      powers_in t slots (told_at slots u).row ≡ powers_of t g.graph (neighbours g.graph u)
  powers_seen t u rising =
      subst (λ (g : OpenGraph). powers_in t slots (told_at slots u).row ≡ powers_of t g.graph (neighbours g.graph u)) view
      (powers_turned slots inputs outputs is.sound t u rising)

  -- neighbours below the reach stand in the row, which is below it so
  pub near_below : (u : ℕ) → IsBelow g.room.reach (neighbours g.graph u) → IsBelow reach (told_at slots u).row
  near_below u below =
      row_below slots inputs outputs is.sound u reach (subst (λ (g : OpenGraph). IsBelow g.room.reach (neighbours g.graph u)) (sym view) below)

  pub around_below : (u : ℕ) → IsBelow g.room.reach (u ∷ neighbours g.graph u) → IsBelow reach (u ∷ (told_at slots u).row)
  around_below u below =
      closed_below slots inputs outputs is.sound u reach (subst (λ (g : OpenGraph). IsBelow g.room.reach (u ∷ neighbours g.graph u)) (sym view) below)

module _ {slots : List (Option Slot)} {inputs outputs : List End} {kept : List VertexSet} {scratch : Scratch} {reach : ℕ} {g : OpenGraph}
    (is : IsStored slots inputs outputs kept scratch reach) (view : seen slots inputs outputs reach ≡ g) (new : List (Option Slot)) where
  abbrev before : Graph
  before = graph_of slots inputs outputs

  pub same_seen : SameTold slots new → Becomes new inputs outputs g.graph
  same_seen same = subst (λ (g : OpenGraph). Becomes new inputs outputs g.graph) view (becomes_same slots new inputs outputs is.sound same)

  pub weight_seen : (v : ℕ) (kind : Kind) → kind.phase < turn → (is_interior g.graph v ≡ false → kind.plane ≡ XY) →
      Puts slots new v (record (told_at slots v) { kind = kind }) →
      Becomes new inputs outputs (record g.graph { vertices = with_kinds (at_vertex v (λ _. kind)) g.graph.vertices })
  weight_seen v kind below at_boundary puts =
      subst
      (λ (g : OpenGraph). (is_interior g.graph v ≡ false → kind.plane ≡ XY) →
      Becomes new inputs outputs (record g.graph { vertices = with_kinds (at_vertex v (λ _. kind)) g.graph.vertices })) view
      (λ boundary. becomes_weight slots inputs outputs is.sound new v kind below boundary puts) at_boundary

  pub removed_seen : (v : ℕ) → Interior g.graph v → RemovedFrom slots new v (told_at slots v).row →
      IsSound new inputs outputs × IsRemoval g.graph v (graph_of new inputs outputs)
  removed_seen v interior removed =
      subst (λ (g : OpenGraph). Interior g.graph v → IsSound new inputs outputs × IsRemoval g.graph v (graph_of new inputs outputs)) view
      (λ inside.
      let made = becomes_removed slots new inputs outputs is.sound v inside removed in
      (made.sound, subst (IsRemoval before v) (sym made.graph) (removal_is_removal before v is.sound.well_formed))) interior

  pub turned_seen : (t : Turn) (u : ℕ) → in_order ltb (told_at slots u).row ≡ true →
      KindsChanged (turned_in t (told_at slots u).row) slots new →
      Becomes new inputs outputs (record g.graph { vertices = with_kinds (turned_in t (neighbours g.graph u)) g.graph.vertices })
  turned_seen t u rising changed =
      subst
      (λ (g : OpenGraph).
      Becomes new inputs outputs (record g.graph { vertices = with_kinds (turned_in t (neighbours g.graph u)) g.graph.vertices })) view
      (becomes_turned slots inputs outputs is.sound t u rising new changed)

  -- edges toggled in both rows of each pair
  pub across_seen : (xs ys : List ℕ) → RowsToggled slots new (across xs ys) →
      IsSound new inputs outputs × IsToggled g.graph (across xs ys) (graph_of new inputs outputs)
  across_seen xs ys rows =
      let made = becomes_across slots new inputs outputs is.sound xs ys rows in
      (made.sound, subst (λ (g : OpenGraph). IsToggled g.graph (across xs ys) (graph_of new inputs outputs)) view made.toggled)

  pub among_seen : (near : List ℕ) → RowsToggled slots new (two_among near) →
      IsSound new inputs outputs × IsToggled g.graph (among near) (graph_of new inputs outputs)
  among_seen near rows =
      let made = becomes_among slots new inputs outputs is.sound near rows in
      (made.sound, subst (λ (g : OpenGraph). IsToggled g.graph (among near) (graph_of new inputs outputs)) view made.toggled)

  pub near_seen : (u : ℕ) → RowsToggled slots new (two_among (told_at slots u).row) →
      IsSound new inputs outputs × IsToggled g.graph (among (neighbours g.graph u)) (graph_of new inputs outputs)
  near_seen u rows = (
    (among_seen (told_at slots u).row rows).0,
    subst (λ (g : OpenGraph). IsToggled g.graph (among (neighbours g.graph u)) (graph_of new inputs outputs)) view
        (toggled_near slots inputs outputs is.sound new u rows),
  )

  pub around_seen : (u v : ℕ) → RowsToggled slots new (across (u ∷ (told_at slots u).row) (v ∷ (told_at slots v).row)) →
      IsSound new inputs outputs × IsToggled g.graph (across (u ∷ neighbours g.graph u) (v ∷ neighbours g.graph v)) (graph_of new inputs outputs)
  around_seen u v rows = (
    (across_seen (u ∷ (told_at slots u).row) (v ∷ (told_at slots v).row) rows).0,
    subst (λ (g : OpenGraph). IsToggled g.graph (across (u ∷ neighbours g.graph u) (v ∷ neighbours g.graph v)) (graph_of new inputs outputs)) view
        (toggled_around slots inputs outputs is.sound new u v rows),
  )

  pub toggle_seen : {T E : Type 0} (r : Result T E) (u v : ℕ) → IsVertex g.graph u → IsVertex g.graph v → u ≢ v →
      OnOk r ((h : Graph) → WellFormed h → IsVertex h u → IsVertex h v → Stores slots h → Stores new (toggled h u v)) → OnErr r (SameTold slots new) →
      Settled r new inputs outputs g.graph (IsToggle g.graph u v)
  toggle_seen {T} {E} r u v u_live v_live apart ok err =
      subst (λ (g : OpenGraph). IsVertex g.graph u → IsVertex g.graph v → Settled r new inputs outputs g.graph (IsToggle g.graph u v)) view
      (λ u_there v_there. at r u_there v_there ok err) u_live v_live
    where
      at : (r : Result T E) → IsVertex before u → IsVertex before v →
          OnOk r ((h : Graph) → WellFormed h → IsVertex h u → IsVertex h v → Stores slots h → Stores new (toggled h u v)) → OnErr r (SameTold slots new) →
          Settled r new inputs outputs before (IsToggle before u v)
      at (Ok x) u_there v_there keeps err =
          let made = becomes_toggled slots new inputs outputs is.sound u v u_there v_there apart keeps in
          record {
            sound = made.sound;
            ok = subst (IsToggle before u v) (sym made.graph) (toggled_is_toggle before u v is.sound.well_formed u_there v_there apart);
            err = tt;
          }
      at (Err e) u_there v_there ok same =
          let made = becomes_same slots new inputs outputs is.sound same in record { sound = made.sound; ok = tt; err = made.graph }

  pub add_seen : {E : Type 0} (r : Result ℕ E) (kind : Kind) → kind.phase < turn → IfOk r (λ v. slice_index_or slots v None ≡ None) →
      IfOk r (λ v. (lower : ℕ) → lower < v → IsSome (slice_index_or slots lower None)) →
      IfOk r (λ v. Puts slots new v (record nothing { live = true; kind = kind })) → OnErr r (SameTold slots new) →
      SettledVertex r new inputs outputs g.graph kind
  add_seen {E} r kind below vacant least puts err =
      subst (λ (g : OpenGraph). SettledVertex r new inputs outputs g.graph kind) view (at r vacant least puts err)
    where
      at : (r : Result ℕ E) → IfOk r (λ v. slice_index_or slots v None ≡ None) →
          IfOk r (λ v. (lower : ℕ) → lower < v → IsSome (slice_index_or slots lower None)) →
          IfOk r (λ v. Puts slots new v (record nothing { live = true; kind = kind })) → OnErr r (SameTold slots new) →
          SettledVertex r new inputs outputs before kind
      at (Ok v) vacant least puts err =
          let made = becomes_added slots new inputs outputs is.sound v kind vacant below puts in
          let fresh = member-vertices slots v ∙ ap (λ o. (told_by o).live) vacant in
          record {
            sound = made.sound;
            fresh = fresh;
            least = least_free-unique (ids (vertices_of slots)) v (rising_vertices 0 slots) fresh (λ q lt. member_of_some slots q (least q lt));
            ok = made.graph;
            err = tt;
          }
      at (Err e) vacant least puts same =
          let made = becomes_same slots new inputs outputs is.sound same in
          record { sound = made.sound; fresh = tt; least = tt; ok = tt; err = made.graph }

  -- an end of a side
  module _ (side : Side) (items : List End) (e : End) where
    abbrev ends : List End
    ends = ends_of side before

    abbrev ins : List End
    ins = (with_ends side items before).inputs

    abbrev outs : List End
    outs = (with_ends side items before).outputs

    unchanged : items ≡ ends → new ≡ slots → Becomes new ins outs before
    unchanged same alike = rw (same, alike) (at side)
      where
        at : (s : Side) → Becomes slots (with_ends s (ends_of s before) before).inputs (with_ends s (ends_of s before) before).outputs before
        at Input = record { sound = is.sound; graph = refl }
        at Output = record { sound = is.sound; graph = refl }

    pub end_seen : {T E : Type 0} (r : Result T E) → MayHold g.graph (ends_of side g.graph) e → OnOk r (items ≡ ends ++ e ∷ []) →
        OnOk r (Puts slots new e.vertex (with_side_place side (Some (length ends)) (told_at slots e.vertex))) → OnErr r ((items ≡ ends) × (new ≡ slots)) →
        Settled r new ins outs g.graph (λ h. h ≡ with_ends side (ends_of side g.graph ++ e ∷ []) g.graph)
    end_seen {T} {E} r may added puts err =
        subst
        (λ (g : OpenGraph). MayHold g.graph (ends_of side g.graph) e →
        Settled r new ins outs g.graph (λ h. h ≡ with_ends side (ends_of side g.graph ++ e ∷ []) g.graph)) view (λ may. at r may added puts err) may
      where
        at : (r : Result T E) → MayHold before ends e → OnOk r (items ≡ ends ++ e ∷ []) →
            OnOk r (Puts slots new e.vertex (with_side_place side (Some (length ends)) (told_at slots e.vertex))) → OnErr r ((items ≡ ends) × (new ≡ slots)) →
            Settled r new ins outs before (λ h. h ≡ with_ends side (ends ++ e ∷ []) before)
        at (Ok x) may added puts err =
            let made = becomes_end_added slots inputs outputs is.sound side new items e added may puts in
            record { sound = made.sound; ok = made.graph; err = tt }
        at (Err x) may added puts err =
            let made = unchanged err.0 err.1 in record { sound = made.sound; ok = tt; err = made.graph }

    pub end_moved_seen : (i : ℕ) → i < length (ends_of side g.graph) → MayHold g.graph (remove (ends_of side g.graph) i) e → items ≡ set ends i e →
        Moves side i (get_or ends i e).vertex e.vertex slots new →
        Becomes new ins outs (with_ends side (set (ends_of side g.graph) i e) g.graph)
    end_moved_seen i lt may moved moves =
        subst
        (λ (g : OpenGraph). i < length (ends_of side g.graph) → MayHold g.graph (remove (ends_of side g.graph) i) e →
        Becomes new ins outs (with_ends side (set (ends_of side g.graph) i e) g.graph)) view
        (λ lt may. becomes_end_moved slots inputs outputs is.sound side new items i e moved lt may moves) lt may
