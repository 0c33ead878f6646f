-- The row of a vertex against its neighbours in the graph.
use Rattle.std.proofs.Common.{◌≡◌, sym, ◌∙◌, ap, ap₂, ℕ, Bool, true, ◌&&◌, ◌||◌, eqb, List, ◌∷◌, Option, None, IsSome, slice_index_or, true≢false}
use Rattle.zx_model.specs.Bits.{xor, member}
use Rattle.zx_bits.specs.Sets.{IsBelow}
use Rattle.zx_calculus.specs.Graph.{End, Graph, joined, neighbours}
use Rattle.zx_calculus.specs.Toggles.{IsToggled, across, among}
use Rattle.zx_calculus.proofs.Ids.{by_test, Symmetric}
use Rattle.zx_calculus.proofs.Toggling.{member-neighbours}
use Rattle.open_graph.specs.declared.slot.Slot.{Slot}
use Rattle.open_graph.specs.Internal.Slots.{told_at, adjacent, graph_of, IsSound}
use Rattle.open_graph.specs.Internal.Changes.{RowsToggled, two_among}
use Rattle.open_graph.proofs.SlotLemmas.{joined-edges, row_of_dead, some_of_live}
use Rattle.open_graph.proofs.RowToggles.{becomes_across, becomes_among}

-- neighbours have slots
pub near_there : (slots : List (Option Slot)) → Symmetric (adjacent slots) → (p q : ℕ) → adjacent slots p q ≡ true →
    IsSome (slice_index_or slots q None)
near_there slots symmetric p q near =
    some_of_live (slice_index_or slots q None)
    (by_test (told_at slots q).live (λ t. t)
    (λ f. absurd (true≢false (sym near ∙ symmetric p q ∙ ap (member p) (row_of_dead _ f)))))

-- the same pairs, told otherwise
toggled_alike : (g h : Graph) (picked same : ℕ → ℕ → Bool) → IsToggled g picked h → ((p q : ℕ) → picked p q ≡ same p q) →
    IsToggled g same h
toggled_alike g h picked same toggled alike = record {
  vertices = toggled.vertices;
  edges = λ p q n. toggled.edges p q n ∙ ap (xor (joined g.edges p q)) (alike p q);
  frame = toggled.frame;
}

module _ (slots : List (Option Slot)) (inputs outputs : List End) (sound : IsSound slots inputs outputs) where
  abbrev g : Graph
  g = graph_of slots inputs outputs

  pub row_members : (u p : ℕ) → member p (told_at slots u).row ≡ member p (neighbours g u)
  row_members u p = sym (joined-edges slots sound.symmetric sound.no_loop u p) ∙ sym (member-neighbours g u p sound.well_formed)

  pub row_below : (u reach : ℕ) → IsBelow reach (neighbours g u) → IsBelow reach (told_at slots u).row
  row_below u reach below p there = below p (sym (row_members u p) ∙ there)

  closed_members : (u p : ℕ) → member p (u ∷ (told_at slots u).row) ≡ member p (u ∷ neighbours g u)
  closed_members u p = ap (λ b. eqb p u || b) (row_members u p)

  pub closed_below : (u reach : ℕ) → IsBelow reach (u ∷ neighbours g u) → IsBelow reach (u ∷ (told_at slots u).row)
  closed_below u reach below p there = below p (sym (closed_members u p) ∙ there)

  pub toggled_near : (new : List (Option Slot)) (u : ℕ) → RowsToggled slots new (two_among (told_at slots u).row) →
      IsToggled g (among (neighbours g u)) (graph_of new inputs outputs)
  toggled_near new u toggled =
      toggled_alike g (graph_of new inputs outputs) (among (told_at slots u).row) (among (neighbours g u))
      (becomes_among slots new inputs outputs sound (told_at slots u).row toggled).toggled
      (λ p q. ap₂ (λ a b. a && b) (row_members u p) (row_members u q))

  pub toggled_around : (new : List (Option Slot)) (u v : ℕ) →
      RowsToggled slots new (across (u ∷ (told_at slots u).row) (v ∷ (told_at slots v).row)) →
      IsToggled g (across (u ∷ neighbours g u) (v ∷ neighbours g v)) (graph_of new inputs outputs)
  toggled_around new u v toggled =
      toggled_alike g (graph_of new inputs outputs) (across (u ∷ (told_at slots u).row) (v ∷ (told_at slots v).row))
      (across (u ∷ neighbours g u) (v ∷ neighbours g v))
      (becomes_across slots new inputs outputs sound (u ∷ (told_at slots u).row) (v ∷ (told_at slots v).row) toggled).toggled
      (λ p q. ap₂ xor (ap₂ (λ a b. a && b) (closed_members u p) (closed_members v q))
      (ap₂ (λ a b. a && b) (closed_members u q) (closed_members v p)))
