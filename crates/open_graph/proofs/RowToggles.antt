-- Rows toggled one after the other, until the graph is symmetric again.
use Rattle.std.proofs.Common.{◌≡◌, refl, sym, ◌∙◌, ap, ap₂, subst, ℕ, Bool, true, false, ◌&&◌, ◌||◌, eqb, ltb, List, ◌∷◌, Option, Some, None, IsSome, slice_index_or, true≢false, ne_eqb}
use Rattle.zx_model.specs.Bits.{xor, member}
use Rattle.std.specs.List.{list_all}
use Rattle.zx_model.specs.Phase.{turn}
use Rattle.zx_calculus.specs.Graph.{End, ids, joined, OrderedEdges, OrderedEnds}
use Rattle.zx_calculus.specs.Toggles.{IsToggled, across, among}
use Rattle.zx_calculus.proofs.Booleans.{parities, xor_comm, xor-false, xor-same}
use Rattle.zx_calculus.proofs.Ids.{by_equal, eqb-self, Symmetric}
use Rattle.zx_calculus.proofs.EdgeLists.{OrderedEdges-edges_of}
use Rattle.zx_calculus.proofs.Extensionality.{vertices_ext}
use Rattle.open_graph.specs.declared.slot.Slot.{Slot}
use Rattle.open_graph.specs.Internal.Slots.{Told, told_by, told_at, vertices_of, adjacent, graph_of, IsSound}
use Rattle.open_graph.specs.Internal.Changes.{RowsToggled, two_among}
use Rattle.open_graph.proofs.SlotLemmas.{member-vertices, kind_of-vertices, rising_vertices, joined-edges, some_of_live}

regrouped : (a b c d : Bool) → xor b c ≡ d → xor (xor a b) c ≡ xor a d
regrouped a b c d e = let assoc : xor (xor a b) c ≡ xor a (xor b c) = simp parities in assoc ∙ ap (xor a) e

-- one change after another
pub rows_then : (a b c : List (Option Slot)) (picked more all : ℕ → ℕ → Bool) → RowsToggled a b picked → RowsToggled b c more →
    ((p q : ℕ) → xor (picked p q) (more p q) ≡ all p q) → RowsToggled a c all
rows_then a b c picked more all first second sum = record {
  others = λ p. second.others p ∙ ap {A = Told} {B = Told} (λ t. record t { row = (told_at c p).row }) (first.others p);
  rows = λ p q. second.rows p q ∙ ap (λ x. xor x (more p q)) (first.rows p q)
      ∙ regrouped (adjacent a p q) (picked p q) (more p q) (all p q) (sum p q);
}

-- the same pairs, told otherwise
pub rows_alike : (old new : List (Option Slot)) (picked same : ℕ → ℕ → Bool) → RowsToggled old new picked →
    ((p q : ℕ) → picked p q ≡ same p q) → RowsToggled old new same
rows_alike old new picked same toggled alike = record {
  others = toggled.others;
  rows = λ p q. toggled.rows p q ∙ ap (xor (adjacent old p q)) (alike p q);
}

-- a vertex and its neighbours have slots
pub closed_live : (slots : List (Option Slot)) (u q : ℕ) → IsSome (slice_index_or slots u None) →
    ((p q : ℕ) → adjacent slots p q ≡ true → IsSome (slice_index_or slots q None)) →
    member q (u ∷ (told_at slots u).row) ≡ true → IsSome (slice_index_or slots q None)
closed_live slots u q live near there =
    by_equal q u (λ t e. subst (λ p. IsSome (slice_index_or slots p None)) (sym e) live)
    (λ f n. near u q (ap (λ b. b || member q (told_at slots u).row) (sym f) ∙ there))

live_of_some : (slot : Option Slot) → IsSome slot → (told_by slot).live ≡ true
live_of_some None there = absurd (true≢false (sym there))
live_of_some (Some s) there = refl

-- what has a slot still has one
pub still_there : (old new : List (Option Slot)) (picked : ℕ → ℕ → Bool) (p : ℕ) → RowsToggled old new picked →
    IsSome (slice_index_or old p None) → IsSome (slice_index_or new p None)
still_there old new picked p toggled there =
    some_of_live (slice_index_or new p None) (ap (λ t. t.live) (toggled.others p) ∙ live_of_some (slice_index_or old p None) there)

wider : (a e x : Bool) → xor (a && x) (e && x) ≡ (xor a e && x)
wider a e x = simp parities

-- one vertex more whose row is toggled, so that its test toggles
pub rows_next : (old now new : List (Option Slot)) (done more : ℕ → Bool) (others : ℕ → ℕ → Bool) (u : ℕ) →
    ((p : ℕ) → more p ≡ xor (done p) (eqb p u)) → RowsToggled old now (λ p q. done p && others p q) →
    RowsToggled now new (λ p q. eqb p u && others p q) → RowsToggled old new (λ p q. more p && others p q)
rows_next old now new done more others u grown before step =
    rows_then old now new _ _ _ before step
    (λ p q. wider (done p) (eqb p u) (others p q) ∙ ap (λ x. x && others p q) (sym (grown p)))

-- the row of a vertex toggled first by a set and then by itself
pub row_and_itself : (now mid new : List (Option Slot)) (near : List ℕ) (u : ℕ) → RowsToggled now mid (λ p q. eqb p u && member q near) →
    RowsToggled mid new (λ p q. eqb p u && eqb q u) → RowsToggled now new (λ p q. eqb p u && xor (member q near) (eqb q p))
row_and_itself now mid new near u step itself = rows_then now mid new _ _ _ step itself same
  where
    same : (p q : ℕ) → xor (eqb p u && member q near) (eqb p u && eqb q u) ≡ (eqb p u && xor (member q near) (eqb q p))
    same p q = by_equal p u (λ t e. rw t (ap (xor (member q near)) (ap (eqb q) (sym e)))) (λ f n. rw f refl)

-- the rows are symmetric again
module _ (old new : List (Option Slot)) (inputs outputs : List End) (sound : IsSound old inputs outputs) (picked : ℕ → ℕ → Bool)
    (either_way : (p q : ℕ) → picked p q ≡ picked q p) (never_itself : (p : ℕ) → picked p p ≡ false) (toggled : RowsToggled old new picked) where
  symmetric : Symmetric (adjacent new)
  symmetric p q = toggled.rows p q ∙ ap₂ xor (sound.symmetric p q) (either_way p q) ∙ sym (toggled.rows q p)

  loopless : (p : ℕ) → adjacent new p p ≡ false
  loopless p = toggled.rows p p ∙ ap₂ xor (sound.no_loop p) (never_itself p)

  same_vertices : vertices_of new ≡ vertices_of old
  same_vertices =
      vertices_ext (vertices_of new) (vertices_of old) (rising_vertices 0 new) (rising_vertices 0 old)
      (λ p. member-vertices new p ∙ ap (λ t. t.live) (toggled.others p) ∙ sym (member-vertices old p))
      (λ p t. kind_of-vertices new p ∙ ap (λ t. t.kind) (toggled.others p) ∙ sym (kind_of-vertices old p))

  ordered : OrderedEdges (ids (vertices_of new)) (graph_of new inputs outputs).edges
  ordered = OrderedEdges-edges_of (adjacent new) (ids (vertices_of new)) (rising_vertices 0 new)

  pub rows_sound : IsSound new inputs outputs
  rows_sound = record {
    symmetric = symmetric;
    no_loop = loopless;
    input_places = λ p. ap (λ t. t.input) (toggled.others p) ∙ sound.input_places p;
    output_places = λ p. ap (λ t. t.output) (toggled.others p) ∙ sound.output_places p;
    well_formed = record {
      vertices_rising = rising_vertices 0 new;
      phases_below_a_turn = ap (list_all (λ v. ltb v.kind.phase turn)) same_vertices ∙ sound.well_formed.phases_below_a_turn;
      edges = ordered;
      inputs = subst (λ vs. OrderedEnds vs inputs) (sym same_vertices) sound.well_formed.inputs;
      outputs = subst (λ vs. OrderedEnds vs outputs) (sym same_vertices) sound.well_formed.outputs;
    };
  }

  pub rows_toggled : IsToggled (graph_of old inputs outputs) picked (graph_of new inputs outputs)
  rows_toggled = record {
    vertices = same_vertices;
    edges = λ p q n. joined-edges new symmetric loopless p q ∙ toggled.rows p q
        ∙ ap (λ x. xor x (picked p q)) (sym (joined-edges old sound.symmetric sound.no_loop p q));
    frame = record { ordered = ordered; inputs = refl; outputs = refl };
  }

-- slots and ends are sound, and are those of a graph in which these edges are toggled
pub record BecomesToggled (old new : List (Option Slot)) (inputs outputs : List End) (picked : ℕ → ℕ → Bool) : Type 0 where
  pub sound : IsSound new inputs outputs
  pub toggled : IsToggled (graph_of old inputs outputs) picked (graph_of new inputs outputs)

module _ (old new : List (Option Slot)) (inputs outputs : List End) (sound : IsSound old inputs outputs) where
  pub becomes_across : (xs ys : List ℕ) → RowsToggled old new (across xs ys) → BecomesToggled old new inputs outputs (across xs ys)
  becomes_across xs ys toggled = record {
    sound = rows_sound old new inputs outputs sound (across xs ys) either_way never_itself toggled;
    toggled = rows_toggled old new inputs outputs sound (across xs ys) either_way never_itself toggled;
  }
    where
      either_way : (p q : ℕ) → across xs ys p q ≡ across xs ys q p
      either_way p q = xor_comm (member p xs && member q ys) (member q xs && member p ys)

      never_itself : (p : ℕ) → across xs ys p p ≡ false
      never_itself p = xor-same (member p xs && member p ys)

  pub becomes_among : (near : List ℕ) → RowsToggled old new (two_among near) → BecomesToggled old new inputs outputs (among near)
  becomes_among near toggled = record {
    sound = rows_sound old new inputs outputs sound (two_among near) either_way never_itself toggled;
    toggled = record {
      vertices = all.vertices;
      edges = λ p q n. all.edges p q n
          ∙ ap (λ b. xor (joined (graph_of old inputs outputs).edges p q) (member p near && b)) (ap (xor (member q near)) (ne_eqb q p (λ e. n (sym e))) ∙ xor-false (member q near));
      frame = all.frame;
    };
  }
    where
      either_way : (p q : ℕ) → two_among near p q ≡ two_among near q p
      either_way p q =
          by_equal p q (λ t e. ap₂ (two_among near) e (sym e))
          (λ f n. rw (f, ne_eqb q p (λ e. n (sym e))) (simp parities))

      opposite : (b : Bool) → (b && xor b true) ≡ false
      opposite true = refl
      opposite false = refl

      never_itself : (p : ℕ) → two_among near p p ≡ false
      never_itself p = ap (λ b. member p near && xor (member p near) b) (eqb-self p) ∙ opposite (member p near)

      all : IsToggled (graph_of old inputs outputs) (two_among near) (graph_of new inputs outputs)
      all = rows_toggled old new inputs outputs sound (two_among near) either_way never_itself toggled
