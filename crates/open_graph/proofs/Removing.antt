-- A vertex removed from slots, and from the rows of its neighbours one after the other.
use Rattle.std.proofs.Common.{◌≡◌, ◌≢◌, refl, sym, ◌∙◌, ap, ℕ, Bool, true, false, cond, ◌||◌, eqb, List, Option, None, IsSome, slice_index_or, true≢false, ne_eqb}
use Rattle.zx_model.specs.Bits.{member}
use Rattle.zx_calculus.specs.Graph.{End, Graph, ids, joined, without, WellFormed, Interior}
use Rattle.zx_calculus.specs.Edits.{IsRemoval}
use Rattle.zx_calculus.proofs.Ids.{by_test, by_equal, removed, removed-absent, member-removed, member-removed_other, Symmetric}
use Rattle.zx_calculus.proofs.Edges.{joined_comm}
use Rattle.zx_calculus.proofs.Forms.{ids-without}
use Rattle.zx_calculus.proofs.Vertices.{kind_of-without}
use Rattle.zx_calculus.proofs.Splitting.{joined-absent, member-without}
use Rattle.zx_calculus.proofs.Edits.{removal_kept}
use Rattle.zx_calculus.proofs.EditPrograms.{removal, removal_is_removal}
use Rattle.open_graph.specs.declared.slot.Slot.{Slot}
use Rattle.open_graph.specs.Internal.Slots.{Told, nothing, told_at, adjacent, graph_of, place_among, IsSound}
use Rattle.open_graph.specs.Internal.Changes.{Puts, Stores, without_neighbour, RemovedFrom}
use Rattle.open_graph.proofs.PlaceLemmas.{place_among-absent}
use Rattle.open_graph.proofs.SlotLemmas.{row_of_dead, some_of_live}
use Rattle.open_graph.proofs.Keeping.{puts_at, puts_other, sound_keeps, becomes, Becomes}

-- only the row differs
only_row : (v : ℕ) (b : Bool) (t : Told) → cond b (without_neighbour v t) t ≡ record t { row = cond b (removed v t.row) t.row }
only_row v true t = refl
only_row v false t = refl

without_twice : (v : ℕ) (t : Told) → without_neighbour v (without_neighbour v t) ≡ without_neighbour v t
without_twice v t = ap {B = Told} (λ r. record t { row = r }) (removed-absent v (removed v t.row) (member-removed v t.row))

-- its mention is taken out of one more row
pub removed_next : (old now new : List (Option Slot)) (v w : ℕ) (rows more : List ℕ) → w ≢ v → ((p : ℕ) → member p more ≡ (eqb p w || member p rows)) →
    RemovedFrom old now v rows → Puts now new w (without_neighbour v (told_at now w)) → RemovedFrom old new v more
removed_next old now new v w rows more apart grows before puts p =
    by_equal p v
    (λ t e. rw t (puts_other now new w _ p puts (λ e'. apart (sym e' ∙ e)) ∙ before p ∙ ap (λ b. cond b nothing (cond (member p rows) (without_neighbour v (told_at old p)) (told_at old p))) t))
    (λ f n. rw (f, grows p)
    (by_equal p w
    (λ t e. rw t (ap (told_at new) e ∙ puts_at now new w _ puts ∙ ap (without_neighbour v) (ap (told_at now) (sym e) ∙ before p ∙ ap (λ b. cond b nothing (cond (member p rows) (without_neighbour v (told_at old p)) (told_at old p))) f) ∙ again (member p rows) (told_at old p)))
    (λ g m. rw g (puts_other now new w _ p puts m ∙ before p ∙ ap (λ b. cond b nothing (cond (member p rows) (without_neighbour v (told_at old p)) (told_at old p))) f))))
  where
    again : (b : Bool) (t : Told) → without_neighbour v (cond b (without_neighbour v t) t) ≡ without_neighbour v t
    again true t = without_twice v t
    again false t = refl

module _ (old : List (Option Slot)) (v : ℕ) (symmetric : (p q : ℕ) → adjacent old p q ≡ adjacent old q p) (no_loop : (p : ℕ) → adjacent old p p ≡ false) where
  pub neighbour_apart : (w : ℕ) → adjacent old v w ≡ true → w ≢ v
  neighbour_apart w near e = true≢false (sym near ∙ ap (adjacent old v) e ∙ no_loop v)

  -- a neighbour still has its slot
  pub neighbour_contained : (now : List (Option Slot)) (w : ℕ) (rows : List ℕ) → RemovedFrom old now v rows → adjacent old v w ≡ true → IsSome (slice_index_or now w None)
  neighbour_contained now w rows before near =
      some_of_live (slice_index_or now w None)
      (ap (λ t. t.live) (before w ∙ ap (λ b. cond b nothing (cond (member w rows) (without_neighbour v (told_at old w)) (told_at old w))) (ne_eqb w v (neighbour_apart w near)))
      ∙ ap (λ t. t.live) (only_row v (member w rows) (told_at old w))
      ∙ by_test (told_at old w).live (λ t. t) (λ f. absurd (true≢false (sym near ∙ symmetric v w ∙ ap (member v) (row_of_dead _ f)))))

-- with its mention gone from the rows of all neighbours, slots tell the graph without the vertex
keeps_removed : (old new : List (Option Slot)) (h : Graph) (v : ℕ) → WellFormed h → Interior h v → Stores old h → RemovedFrom old new v (told_at old v).row → Stores new (removal h v)
keeps_removed old new h v w interior k gone =
    record {
      live = λ p. by_equal p v
          (λ t e. ap (λ x. x.live) (at p t) ∙ sym (ap (λ q. member q (ids (without v h.vertices))) e ∙ member-without v h.vertices))
          (λ f n. ap (λ x. x.live) (off p f) ∙ k.live p ∙ sym (ap (member p) (ids-without v h.vertices) ∙ member-removed_other p v (ids h.vertices) n));
      kind = λ p t. by_equal p v (λ s e. absurd (true≢false (sym t ∙ ap (λ x. x.live) (at p s))))
          (λ f n. ap (λ x. x.kind) (off p f) ∙ k.kind p (sym (ap (λ x. x.live) (off p f)) ∙ t) ∙ sym (kind_of-without p v h.vertices n));
      adjacent = rows;
      input = λ p. by_equal p v
          (λ t e. ap (λ x. x.input) (at p t) ∙ sym (ap (λ q. place_among q h.inputs) e ∙ place_among-absent v h.inputs interior.no_input))
          (λ f n. ap (λ x. x.input) (off p f) ∙ k.input p);
      output = λ p. by_equal p v
          (λ t e. ap (λ x. x.output) (at p t) ∙ sym (ap (λ q. place_among q h.outputs) e ∙ place_among-absent v h.outputs interior.no_output))
          (λ f n. ap (λ x. x.output) (off p f) ∙ k.output p);
    }
  where
    at : (p : ℕ) → eqb p v ≡ true → told_at new p ≡ nothing
    at p t = gone p ∙ ap (λ b. cond b nothing (cond (member p (told_at old v).row) (without_neighbour v (told_at old p)) (told_at old p))) t

    off : (p : ℕ) → eqb p v ≡ false →
        told_at new p ≡ record (told_at old p) { row = cond (member p (told_at old v).row) (removed v (told_at old p).row) (told_at old p).row }
    off p f =
        gone p ∙ ap (λ b. cond b nothing (cond (member p (told_at old v).row) (without_neighbour v (told_at old p)) (told_at old p))) f
        ∙ only_row v (member p (told_at old v).row) (told_at old p)

    after : IsRemoval h v (removal h v)
    after = removal_is_removal h v w

    not_there : (q : ℕ) → joined (removal h v).edges v q ≡ false
    not_there q = joined-absent (ids (without v h.vertices)) (removal h v).edges v q after.frame.ordered.lower_there after.frame.ordered.higher_there (member-without v h.vertices)

    symmetric : Symmetric (adjacent old)
    symmetric p q = k.adjacent p q ∙ joined_comm h.edges p q ∙ sym (k.adjacent q p)

    -- v stands in no row that is left
    mention : (b : Bool) (row : List ℕ) → member v row ≡ b → member v (cond b (removed v row) row) ≡ false
    mention true row m = member-removed v row
    mention false row m = m

    others : (b : Bool) (row : List ℕ) (q : ℕ) → q ≢ v → member q (cond b (removed v row) row) ≡ member q row
    others true row q n = member-removed_other q v row n
    others false row q n = refl

    rows : (p q : ℕ) → adjacent new p q ≡ joined (removal h v).edges p q
    rows p q =
        by_equal p v
        (λ t e. ap (λ x. member q x.row) (at p t) ∙ sym (ap (λ r. joined (removal h v).edges r q) e ∙ not_there q))
        (λ f n. by_equal q v
        (λ s e. ap (λ x. member q x.row) (off p f)
        ∙ ap (λ r. member r (cond (member p (told_at old v).row) (removed v (told_at old p).row) (told_at old p).row)) e
        ∙ mention (member p (told_at old v).row) (told_at old p).row (symmetric p v)
        ∙ sym (ap (joined (removal h v).edges p) e ∙ joined_comm (removal h v).edges p v ∙ not_there p))
        (λ s m. ap (λ x. member q x.row) (off p f) ∙ others (member p (told_at old v).row) (told_at old p).row q m ∙ k.adjacent p q ∙ sym (after.edges p q n m)))

pub becomes_removed : (old new : List (Option Slot)) (inputs outputs : List End) → IsSound old inputs outputs → (v : ℕ) → Interior (graph_of old inputs outputs) v → RemovedFrom old new v (told_at old v).row → Becomes new inputs outputs (removal (graph_of old inputs outputs) v)
becomes_removed old new inputs outputs sound v interior gone =
    let g : Graph = graph_of old inputs outputs in
    becomes new (removal g v) (removal_kept g v (removal g v) sound.well_formed interior (removal_is_removal g v sound.well_formed)) (keeps_removed old new g v sound.well_formed interior (sound_keeps old inputs outputs sound) gone)
