-- Slots that tell the lists of a graph: of a graph that is changed, they tell the changed one.
use Rattle.std.proofs.Common.{◌≡◌, ◌≢◌, refl, sym, ◌∙◌, ap, ap₂, subst, ℕ, ◌<◌, true, false, ◌||◌, cond, eqb, List, [], ◌∷◌, ◌++◌, length, get_or, set, remove, Option, Some, None, IsSome, slice_index_or, true≢false, ne_eqb}
use Rattle.zx_model.specs.Phase.{turn}
use Rattle.zx_model.specs.Bits.{xor, member}
use Rattle.zx_calculus.specs.Graph.{XY, Kind, Vertex, End, Graph, ids, kind_of, plane_of, is_XY, end_vertices, insert_vertex, with_kinds, IsVertex, OrderedEnds, WellFormed, is_interior}
use Rattle.zx_calculus.specs.Edits.{is_pair, at_vertex}
use Rattle.zx_calculus.proofs.Booleans.{or-false, xor-false}
use Rattle.zx_calculus.proofs.Ids.{by_equal, eqb-self, removed, Symmetric}
use Rattle.zx_calculus.proofs.Edges.{joined_comm}
use Rattle.zx_calculus.proofs.Splitting.{all_at, no_loop}
use Rattle.zx_calculus.proofs.Vertices.{ids-with_kinds, kind_of-with_kinds, member-insert, kind_of-insert}
use Rattle.zx_calculus.proofs.Kept.{kind_of-insert_other}
use Rattle.zx_calculus.proofs.Edits.{toggle_kept, insert_kept, kind_kept, inputs_kept, outputs_kept, ends_pushed, ends_set}
use Rattle.zx_calculus.proofs.EdgeLists.{edges_ext, OrderedEdges-edges_of}
use Rattle.zx_calculus.proofs.EditPrograms.{toggled, toggled_is_toggle}
use Rattle.zx_calculus.proofs.Extensionality.{vertices_ext}
use Rattle.open_graph.specs.declared.slot.Slot.{Slot}
use Rattle.open_graph.specs.Internal.Rows.{inserted}
use Rattle.open_graph.specs.Internal.Slots.{Told, nothing, told_by, told_at, vertices_of, adjacent, graph_of, place_among, IsSound}
use Rattle.open_graph.specs.declared.side.Side.{Side}
use Rattle.open_graph.specs.declared.side.Side.TheVariants.{Input, Output}
use Rattle.open_graph.specs.Sides.{ends_of, with_ends}
use Rattle.open_graph.specs.Internal.Sides.{with_side_place, Moves}
use Rattle.open_graph.specs.Internal.Changes.{Puts, SameTold, Stores}
use Rattle.open_graph.proofs.PlaceLemmas.{place_among-push, place_among-set, member-place}
use Rattle.open_graph.proofs.RowLemmas.{removed-inserted}
use Rattle.open_graph.proofs.SlotLemmas.{member-vertices, kind_of-vertices, rising_vertices, joined-edges, some_of_live, contains_live}

pub sound_keeps : (slots : List (Option Slot)) (inputs outputs : List End) → IsSound slots inputs outputs → Stores slots (graph_of slots inputs outputs)
sound_keeps slots inputs outputs sound =
    record {
      live = λ p. sym (member-vertices slots p);
      kind = λ p t. sym (kind_of-vertices slots p);
      adjacent = λ p q. sym (joined-edges slots sound.symmetric sound.no_loop p q);
      input = sound.input_places;
      output = sound.output_places;
    }

module _ (slots : List (Option Slot)) (h : Graph) (w : WellFormed h) (k : Stores slots h) where
  symmetric : Symmetric (adjacent slots)
  symmetric p q = k.adjacent p q ∙ joined_comm h.edges p q ∙ sym (k.adjacent q p)

  loopless : (p : ℕ) → adjacent slots p p ≡ false
  loopless p = k.adjacent p p ∙ no_loop h p w

  vertices_kept : vertices_of slots ≡ h.vertices
  vertices_kept =
      vertices_ext (vertices_of slots) h.vertices (rising_vertices 0 slots) w.vertices_rising (λ p. member-vertices slots p ∙ k.live p)
      (λ p t. kind_of-vertices slots p ∙ k.kind p (sym (member-vertices slots p) ∙ t))

  -- the graph of these slots is the one whose lists they tell
  pub keeps_graph : graph_of slots h.inputs h.outputs ≡ h
  keeps_graph =
      let built = OrderedEdges-edges_of (adjacent slots) (ids (vertices_of slots)) (rising_vertices 0 slots) in
      let edges = edges_ext _ h.edges built.lower_first w.edges.lower_first built.rising w.edges.rising (λ p q n. joined-edges slots symmetric loopless p q ∙ k.adjacent p q) in
      λ j. record { vertices = vertices_kept j; edges = edges j; inputs = h.inputs; outputs = h.outputs }

  pub keeps_sound : IsSound slots h.inputs h.outputs
  keeps_sound =
      record { symmetric = symmetric; no_loop = loopless; input_places = k.input; output_places = k.output; well_formed = subst WellFormed (sym keeps_graph) w }

-- what slots tell of the changed id, and of others
pub puts_at : (old new : List (Option Slot)) (u : ℕ) (t : Told) → Puts old new u t → told_at new u ≡ t
puts_at old new u t puts = puts u ∙ ap (λ b. cond b t (told_at old u)) (eqb-self u)

pub puts_other : (old new : List (Option Slot)) (u : ℕ) (t : Told) (p : ℕ) → Puts old new u t → p ≢ u → told_at new p ≡ told_at old p
puts_other old new u t p puts n = puts p ∙ ap (λ b. cond b t (told_at old p)) (ne_eqb p u n)

-- where there is no vertex nothing is told
told_of_dead : (slot : Option Slot) → (told_by slot).live ≡ false → told_by slot ≡ nothing
told_of_dead None dead = refl
told_of_dead (Some s) dead = absurd (true≢false dead)

-- slots that tell the same
pub keeps_same : (old new : List (Option Slot)) (h : Graph) → SameTold old new → Stores old h → Stores new h
keeps_same old new h same k =
    record {
      live = λ p. ap (λ t. t.live) (same p) ∙ k.live p;
      kind = λ p t. ap (λ t. t.kind) (same p) ∙ k.kind p (sym (ap (λ t. t.live) (same p)) ∙ t);
      adjacent = λ p q. ap (λ t. member q t.row) (same p) ∙ k.adjacent p q;
      input = λ p. ap (λ t. t.input) (same p) ∙ k.input p;
      output = λ p. ap (λ t. t.output) (same p) ∙ k.output p;
    }

-- a new vertex
pub keeps_added : (old new : List (Option Slot)) (h : Graph) (u : ℕ) (kind : Kind) → (told_at old u).live ≡ false → Puts old new u (record nothing { live = true; kind = kind }) → Stores old h →
    Stores new (record h { vertices = insert_vertex (record { id = u; kind = kind }) h.vertices })
keeps_added old new h u kind dead puts k =
    record {
      live = λ p. by_equal p u
          (λ t e. ap (λ x. x.live) (at p e) ∙ sym (member-insert p n h.vertices ∙ ap (λ b. b || member p (ids h.vertices)) t))
          (λ f m. ap (λ x. x.live) (off p m) ∙ k.live p ∙ sym (member-insert p n h.vertices ∙ ap (λ b. b || member p (ids h.vertices)) f));
      kind = λ p t. by_equal p u
          (λ s e. ap (λ x. x.kind) (at p e) ∙ sym (ap (kind_of (insert_vertex n h.vertices)) e ∙ kind_of-insert n h.vertices (sym (k.live u) ∙ dead)))
          (λ f m. ap (λ x. x.kind) (off p m) ∙ k.kind p (sym (ap (λ x. x.live) (off p m)) ∙ t) ∙ sym (kind_of-insert_other p n h.vertices m));
      adjacent = λ p q. ap (member q) (by_equal p u (λ t e. ap (λ x. x.row) (at p e) ∙ sym (ap (λ x. x.row) (gone p e))) (λ f m. ap (λ x. x.row) (off p m))) ∙ k.adjacent p q;
      input = λ p. by_equal p u (λ t e. ap (λ x. x.input) (at p e) ∙ sym (ap (λ x. x.input) (gone p e))) (λ f m. ap (λ x. x.input) (off p m)) ∙ k.input p;
      output = λ p. by_equal p u (λ t e. ap (λ x. x.output) (at p e) ∙ sym (ap (λ x. x.output) (gone p e))) (λ f m. ap (λ x. x.output) (off p m)) ∙ k.output p;
    }
  where
    n : Vertex
    n = record { id = u; kind = kind }

    at : (p : ℕ) → p ≡ u → told_at new p ≡ record nothing { live = true; kind = kind }
    at p e = ap (told_at new) e ∙ puts_at old new u _ puts

    off : (p : ℕ) → p ≢ u → told_at new p ≡ told_at old p
    off p m = puts_other old new u _ p puts m

    gone : (p : ℕ) → p ≡ u → told_at old p ≡ nothing
    gone p e = ap (told_at old) e ∙ told_of_dead _ dead

-- only a row changes
put_row : (old new : List (Option Slot)) (u : ℕ) (row : List ℕ) → Puts old new u (record (told_at old u) { row = row }) → (p : ℕ) → told_at new p ≡ record (told_at old p) { row = (told_at new p).row }
put_row old new u row puts p =
    by_equal p u
    (λ t e. at e ∙ ap₂ {A = Told} {C = Told} (λ x r. record x { row = r }) (ap (told_at old) (sym e)) (sym (ap (λ x. x.row) (at e))))
    (λ f n. let off = puts_other old new u _ p puts n in off ∙ ap {B = Told} (λ r. record (told_at old p) { row = r }) (sym (ap (λ x. x.row) off)))
  where
    at : p ≡ u → told_at new p ≡ record (told_at old u) { row = row }
    at e = ap (told_at new) e ∙ puts_at old new u _ puts

-- an edge toggled in both rows
pub keeps_toggled : (old mid new : List (Option Slot)) (u v : ℕ) (row_u row_v : List ℕ) → u ≢ v →
    Puts old mid u (record (told_at old u) { row = row_u }) → Puts mid new v (record (told_at mid v) { row = row_v }) →
    ((q : ℕ) → member q row_u ≡ xor (member q (told_at old u).row) (eqb q v)) → ((q : ℕ) → member q row_v ≡ xor (member q (told_at mid v).row) (eqb q u)) →
    (h : Graph) → WellFormed h → IsVertex h u → IsVertex h v → Stores old h → Stores new (toggled h u v)
keeps_toggled old mid new u v row_u row_v apart first second at_u at_v h w u_there v_there k =
    record {
      live = λ p. ap (λ x. x.live) (same p) ∙ k.live p;
      kind = λ p t. ap (λ x. x.kind) (same p) ∙ k.kind p (sym (ap (λ x. x.live) (same p)) ∙ t);
      adjacent = λ p q. pair p q ∙ ap (λ b. xor b (is_pair u v p q)) (k.adjacent p q) ∙ sym ((toggled_is_toggle h u v w u_there v_there apart).edges p q);
      input = λ p. ap (λ x. x.input) (same p) ∙ k.input p;
      output = λ p. ap (λ x. x.output) (same p) ∙ k.output p;
    }
  where
    same : (p : ℕ) → told_at new p ≡ record (told_at old p) { row = (told_at new p).row }
    same p = put_row mid new v row_v second p ∙ ap {A = Told} {B = Told} (λ x. record x { row = (told_at new p).row }) (put_row old mid u row_u first p)

    v_before : told_at mid v ≡ told_at old v
    v_before = puts_other old mid u _ v first (λ e. apart (sym e))

    pair : (p q : ℕ) → adjacent new p q ≡ xor (adjacent old p q) (is_pair u v p q)
    pair p q =
        by_equal p u
        (λ t e.
        let other : eqb p v ≡ false = ne_eqb p v (λ e'. apart (sym e ∙ e')) in
        rw (t, other)
        (ap (λ x. member q x.row) (puts_other mid new v _ p second (λ e'. apart (sym e ∙ e')) ∙ ap (told_at mid) e ∙ puts_at old mid u _ first)
        ∙ at_u q ∙ ap₂ (λ x b. xor (member q x.row) b) (ap (told_at old) (sym e)) (sym (or-false (eqb q v)))))
        (λ f n. by_equal p v
        (λ t e.
        rw (f, t)
        (ap (λ x. member q x.row) (ap (told_at new) e ∙ puts_at mid new v _ second)
        ∙ at_v q ∙ ap (λ x. xor (member q x.row) (eqb q u)) (v_before ∙ ap (told_at old) (sym e))))
        (λ g m.
        rw (f, g)
        (ap (λ x. member q x.row) (puts_other mid new v _ p second m ∙ puts_other old mid u _ p first n) ∙ sym (xor-false (adjacent old p q)))))

-- a row that is changed and changed back
pub same_back : (old mid fail new : List (Option Slot)) (u v : ℕ) → adjacent old u v ≡ false →
    Puts old mid u (record (told_at old u) { row = inserted v (told_at old u).row }) → SameTold mid fail → Puts fail new u (record (told_at fail u) { row = removed v (told_at fail u).row }) → SameTold old new
same_back old mid fail new u v absent first same last p =
    by_equal p u
    (λ t e. ap (told_at new) e ∙ puts_at fail new u _ last
    ∙ ap {A = Told} {B = Told} (λ x. record x { row = removed v x.row }) (same u ∙ puts_at old mid u _ first)
    ∙ ap {B = Told} (λ r. record (told_at old u) { row = r }) (removed-inserted v (told_at old u).row absent)
    ∙ ap (told_at old) (sym e))
    (λ f n. puts_other fail new u _ p last n ∙ same p ∙ puts_other old mid u _ p first n)

-- another kind at one vertex
pub keeps_kind : (old new : List (Option Slot)) (h : Graph) (v : ℕ) (kind : Kind) → Puts old new v (record (told_at old v) { kind = kind }) → Stores old h → Stores new (record h { vertices = with_kinds (at_vertex v (λ _. kind)) h.vertices })
keeps_kind old new h v kind puts k =
    record {
      live = λ p. ap (λ x. x.live) (same p) ∙ k.live p ∙ ap (member p) (sym (ids-with_kinds (at_vertex v (λ _. kind)) h.vertices));
      kind = λ p t. let live : (told_at old p).live ≡ true = sym (ap (λ x. x.live) (same p)) ∙ t in
          kinds p live ∙ sym (kind_of-with_kinds (at_vertex v (λ _. kind)) p h.vertices (sym (k.live p) ∙ live));
      adjacent = λ p q. ap (λ x. member q x.row) (same p) ∙ k.adjacent p q;
      input = λ p. ap (λ x. x.input) (same p) ∙ k.input p;
      output = λ p. ap (λ x. x.output) (same p) ∙ k.output p;
    }
  where
    at : (p : ℕ) → p ≡ v → told_at new p ≡ record (told_at old v) { kind = kind }
    at p e = ap (told_at new) e ∙ puts_at old new v _ puts

    same : (p : ℕ) → told_at new p ≡ record (told_at old p) { kind = (told_at new p).kind }
    same p =
        by_equal p v (λ t e. at p e ∙ ap₂ {A = Told} {C = Told} (λ x c. record x { kind = c }) (ap (told_at old) (sym e)) (sym (ap (λ x. x.kind) (at p e))))
        (λ f n. let off = puts_other old new v _ p puts n in off ∙ ap {B = Told} (λ c. record (told_at old p) { kind = c }) (sym (ap (λ x. x.kind) off)))

    kinds : (p : ℕ) → (told_at old p).live ≡ true → (told_at new p).kind ≡ at_vertex v (λ _. kind) p (kind_of h.vertices p)
    kinds p live = by_equal p v (λ t e. rw t (ap (λ x. x.kind) (at p e))) (λ f n. rw f (ap (λ x. x.kind) (puts_other old new v _ p puts n) ∙ k.kind p live))

-- the place that is told of the end of a side
abbrev place_at : Side → Told → Option ℕ
place_at Input t = t.input
place_at Output t = t.output

-- other end_vertices of the ends of a side
keeps_ends : (side : Side) (old new : List (Option Slot)) (h : Graph) (ends : List End) → ((p : ℕ) → told_at new p ≡ with_side_place side (place_among p ends) (told_at old p)) → Stores old h → Stores new (with_ends side ends h)
keeps_ends Input old new h ends same k =
    record {
      live = λ p. ap (λ x. x.live) (same p) ∙ k.live p;
      kind = λ p t. ap (λ x. x.kind) (same p) ∙ k.kind p (sym (ap (λ x. x.live) (same p)) ∙ t);
      adjacent = λ p q. ap (λ x. member q x.row) (same p) ∙ k.adjacent p q;
      input = λ p. ap (λ x. x.input) (same p);
      output = λ p. ap (λ x. x.output) (same p) ∙ k.output p;
    }
keeps_ends Output old new h ends same k =
    record {
      live = λ p. ap (λ x. x.live) (same p) ∙ k.live p;
      kind = λ p t. ap (λ x. x.kind) (same p) ∙ k.kind p (sym (ap (λ x. x.live) (same p)) ∙ t);
      adjacent = λ p q. ap (λ x. member q x.row) (same p) ∙ k.adjacent p q;
      input = λ p. ap (λ x. x.input) (same p) ∙ k.input p;
      output = λ p. ap (λ x. x.output) (same p);
    }

-- a change of the place of a side at one id, and at two ids one after the other
module _ (side : Side) (old : List (Option Slot)) (place : ℕ → Option ℕ) (places_before : (p : ℕ) → place_at side (told_at old p) ≡ place p) where
  itself : (s : Side) (t : Told) → t ≡ with_side_place s (place_at s t) t
  itself Input t = refl
  itself Output t = refl

  twice : (s : Side) (i j : Option ℕ) (t : Told) → with_side_place s i (with_side_place s j t) ≡ with_side_place s i t
  twice Input i j t = refl
  twice Output i j t = refl

  place_put : (new : List (Option Slot)) (v : ℕ) (i : Option ℕ) (after : ℕ → Option ℕ) → Puts old new v (with_side_place side i (told_at old v)) → ((p : ℕ) → after p ≡ cond (eqb p v) i (place p)) → (p : ℕ) → told_at new p ≡ with_side_place side (after p) (told_at old p)
  place_put new v i after puts law p =
      by_equal p v
      (λ t e. ap (told_at new) e ∙ puts_at old new v _ puts ∙ ap₂ (with_side_place side) (sym (law p ∙ ap (λ b. cond b i (place p)) t)) (ap (told_at old) (sym e)))
      (λ f n. puts_other old new v _ p puts n ∙ itself side (told_at old p) ∙ ap (λ x. with_side_place side x (told_at old p)) (places_before p ∙ sym (law p ∙ ap (λ b. cond b i (place p)) f)))

  place_moved : (mid new : List (Option Slot)) (a v : ℕ) (i j : Option ℕ) (after : ℕ → Option ℕ) → Puts old mid a (with_side_place side i (told_at old a)) → Puts mid new v (with_side_place side j (told_at mid v)) →
      ((p : ℕ) → after p ≡ cond (eqb p v) j (cond (eqb p a) i (place p))) → (p : ℕ) → told_at new p ≡ with_side_place side (after p) (told_at old p)
  place_moved mid new a v i j after first second law p =
      by_equal p v
      (λ t e. ap (told_at new) e ∙ puts_at mid new v _ second ∙ ap (λ q. with_side_place side j (told_at mid q)) (sym e) ∙ ap (with_side_place side j) (between p) ∙ twice side j _ (told_at old p)
      ∙ ap (λ x. with_side_place side x (told_at old p)) (sym (law p ∙ ap (λ b. cond b j (cond (eqb p a) i (place p))) t)))
      (λ f n. puts_other mid new v _ p second n ∙ between p ∙ ap (λ x. with_side_place side x (told_at old p)) (sym (law p ∙ ap (λ b. cond b j (cond (eqb p a) i (place p))) f)))
    where
      between : (p : ℕ) → told_at mid p ≡ with_side_place side (cond (eqb p a) i (place p)) (told_at old p)
      between p = place_put mid a i (λ p. cond (eqb p a) i (place p)) first (λ p. refl) p

-- slots and ends are sound, and are those of this graph
pub record Becomes (slots : List (Option Slot)) (inputs outputs : List End) (h : Graph) : Type 0 where
  pub sound : IsSound slots inputs outputs
  pub graph : graph_of slots inputs outputs ≡ h

pub becomes : (slots : List (Option Slot)) (h : Graph) → WellFormed h → Stores slots h → Becomes slots h.inputs h.outputs h
becomes slots h w k = record { sound = keeps_sound slots h w k; graph = keeps_graph slots h w k }

module _ (old new : List (Option Slot)) (inputs outputs : List End) (sound : IsSound old inputs outputs) where
  pub becomes_same : SameTold old new → Becomes new inputs outputs (graph_of old inputs outputs)
  becomes_same same = becomes new (graph_of old inputs outputs) sound.well_formed (keeps_same old new _ same (sound_keeps old inputs outputs sound))

  pub becomes_copied : (ins outs : List End) → SameTold old new → ins ≡ inputs → outs ≡ outputs → Becomes new ins outs (graph_of old inputs outputs)
  becomes_copied ins outs same i o =
      subst (λ (xs : List End). Becomes new xs outs (graph_of old inputs outputs)) (sym i)
      (subst (λ (xs : List End). Becomes new inputs xs (graph_of old inputs outputs)) (sym o) (becomes_same same))

  pub becomes_toggled : (u v : ℕ) → IsVertex (graph_of old inputs outputs) u → IsVertex (graph_of old inputs outputs) v → u ≢ v →
      ((h : Graph) → WellFormed h → IsVertex h u → IsVertex h v → Stores old h → Stores new (toggled h u v)) → Becomes new inputs outputs (toggled (graph_of old inputs outputs) u v)
  becomes_toggled u v u_there v_there apart keeps =
      becomes new (toggled (graph_of old inputs outputs) u v)
      (toggle_kept (graph_of old inputs outputs) u v _ sound.well_formed (toggled_is_toggle (graph_of old inputs outputs) u v sound.well_formed u_there v_there apart))
      (keeps (graph_of old inputs outputs) sound.well_formed u_there v_there (sound_keeps old inputs outputs sound))

  pub becomes_added : (u : ℕ) (kind : Kind) → slice_index_or old u None ≡ None → kind.phase < turn → Puts old new u (record nothing { live = true; kind = kind }) →
      Becomes new inputs outputs (record (graph_of old inputs outputs) { vertices = insert_vertex (record { id = u; kind = kind }) (vertices_of old) })
  becomes_added u kind vacant below puts =
      becomes new _ (insert_kept (graph_of old inputs outputs) (record { id = u; kind = kind }) sound.well_formed (member-vertices old u ∙ dead) below)
      (keeps_added old new (graph_of old inputs outputs) u kind dead puts (sound_keeps old inputs outputs sound))
    where
      dead : (told_at old u).live ≡ false
      dead = ap (λ o. (told_by o).live) vacant

-- of a vertex that stays, where another's place changed
pub contained_put : (old mid : List (Option Slot)) (a v : ℕ) (side : Side) (i : Option ℕ) → Puts old mid a (with_side_place side i (told_at old a)) → IsSome (slice_index_or old v None) → IsSome (slice_index_or mid v None)
contained_put old mid a v side i puts there = some_of_live (slice_index_or mid v None) (same ∙ live (slice_index_or old v None) there)
  where
    live : (o : Option Slot) → IsSome o → (told_by o).live ≡ true
    live None h = absurd (true≢false (sym h))
    live (Some s) h = refl

    unchanged : (s : Side) (t : Told) → (with_side_place s i t).live ≡ t.live
    unchanged Input t = refl
    unchanged Output t = refl

    same : (told_at mid v).live ≡ (told_at old v).live
    same =
        by_equal v a (λ t e. ap (λ x. x.live) (ap (told_at mid) e ∙ puts_at old mid a _ puts) ∙ unchanged side (told_at old a) ∙ ap (λ q. (told_at old q).live) (sym e))
        (λ f n. ap (λ x. x.live) (puts_other old mid a _ v puts n))

-- ends that the vertices of a graph may hold
abbrev pub MayHold : Graph → List End → End → Type 0
MayHold g others e = (member e.vertex (ids g.vertices) ≡ true) × (plane_of g e.vertex ≡ XY) × (member e.vertex (end_vertices others) ≡ false)

module _ (old : List (Option Slot)) (inputs outputs : List End) (sound : IsSound old inputs outputs) where
  abbrev g : Graph
  g = graph_of old inputs outputs

  k : Stores old g
  k = sound_keeps old inputs outputs sound

  pub becomes_weight : (new : List (Option Slot)) (v : ℕ) (kind : Kind) → kind.phase < turn → (is_interior g v ≡ false → kind.plane ≡ XY) → Puts old new v (record (told_at old v) { kind = kind }) →
      Becomes new inputs outputs (record g { vertices = with_kinds (at_vertex v (λ _. kind)) (vertices_of old) })
  becomes_weight new v kind below at_boundary puts = becomes new _ (kind_kept g v kind sound.well_formed below at_boundary) (keeps_kind old new g v kind puts k)

  -- ends of either side
  module _ (side : Side) where
    abbrev ends : List End
    ends = ends_of side g

    ordered : (s : Side) → OrderedEnds g.vertices (ends_of s g)
    ordered Input = sound.well_formed.inputs
    ordered Output = sound.well_formed.outputs

    kept : (s : Side) (xs : List End) → OrderedEnds g.vertices xs → WellFormed (with_ends s xs g)
    kept Input xs o = inputs_kept g xs sound.well_formed o
    kept Output xs o = outputs_kept g xs sound.well_formed o

    places_told : (s : Side) (p : ℕ) → place_at s (told_at old p) ≡ place_among p (ends_of s g)
    places_told Input p = sound.input_places p
    places_told Output p = sound.output_places p

    -- slots that tell the graph with these ends on the side
    abbrev pub BecomesWith : List (Option Slot) → List End → Type 0
    BecomesWith new xs = Becomes new (with_ends side xs g).inputs (with_ends side xs g).outputs (with_ends side xs g)

    end_added : (new : List (Option Slot)) (e : End) → MayHold g ends e → Puts old new e.vertex (with_side_place side (Some (length ends)) (told_at old e.vertex)) → BecomesWith new (ends ++ e ∷ [])
    end_added new e may puts =
        becomes new (with_ends side (ends ++ e ∷ []) g) (kept side (ends ++ e ∷ []) (ends_pushed (vertices_of old) ends e (ordered side) may.0 (ap is_XY may.1) may.2))
        (keeps_ends side old new g (ends ++ e ∷ [])
        (place_put side old (λ p. place_among p ends) (places_told side) new e.vertex (Some (length ends)) (λ p. place_among p (ends ++ e ∷ [])) puts (place_among-push ends e may.2)) k)

    end_moved : (mid new : List (Option Slot)) (i : ℕ) (e d : End) → i < length ends → MayHold g (remove ends i) e →
        Puts old mid (get_or ends i d).vertex (with_side_place side None (told_at old (get_or ends i d).vertex)) → Puts mid new e.vertex (with_side_place side (Some i) (told_at mid e.vertex)) →
        BecomesWith new (set ends i e)
    end_moved mid new i e d lt may first second =
        becomes new (with_ends side (set ends i e) g) (kept side (set ends i e) (ends_set (vertices_of old) ends i e (ordered side) may.0 (ap is_XY may.1) may.2))
        (keeps_ends side old new g (set ends i e)
        (place_moved side old (λ p. place_among p ends) (places_told side) mid new (get_or ends i d).vertex e.vertex None (Some i) (λ p. place_among p (set ends i e)) first second
        (place_among-set ends i e d lt (ordered side).one_each may.2)) k)

    -- where the code's list of ends is this one
    pub becomes_end_added : (new : List (Option Slot)) (items : List End) (e : End) → items ≡ ends ++ e ∷ [] → MayHold g ends e →
        Puts old new e.vertex (with_side_place side (Some (length ends)) (told_at old e.vertex)) →
        Becomes new (with_ends side items g).inputs (with_ends side items g).outputs (with_ends side (ends ++ e ∷ []) g)
    becomes_end_added new items e is may puts =
        subst (λ (xs : List End). Becomes new (with_ends side xs g).inputs (with_ends side xs g).outputs (with_ends side (ends ++ e ∷ []) g)) (sym is) (end_added new e may puts)

    pub becomes_end_moved : (new : List (Option Slot)) (items : List End) (i : ℕ) (e : End) → items ≡ set ends i e → i < length ends → MayHold g (remove ends i) e →
        Moves side i (get_or ends i e).vertex e.vertex old new →
        Becomes new (with_ends side items g).inputs (with_ends side items g).outputs (with_ends side (set ends i e) g)
    becomes_end_moved new items i e is lt may moves =
        subst (λ (xs : List End). Becomes new (with_ends side xs g).inputs (with_ends side xs g).outputs (with_ends side (set ends i e) g)) (sym is)
        (end_moved moves.0 new i e e lt may moves.1 moves.2)

    -- the vertex of an end is there
    pub end_contained : (i : ℕ) (d : End) → i < length ends → IsSome (slice_index_or old (get_or ends i d).vertex None)
    end_contained i d lt =
        contains_live old (get_or ends i d).vertex (all_at (λ u. member u (ids (vertices_of old))) (end_vertices ends) (get_or ends i d).vertex (ordered side).there (member-place ends i d lt))
