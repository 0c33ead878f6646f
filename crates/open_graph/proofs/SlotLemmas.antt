-- A graph kept as slots: its lists tell what the slots tell.
use Rattle.std.proofs.Common.{◌≡◌, refl, sym, ◌∙◌, ap, inl, inr, ℕ, zero, suc, ◌+◌, ◌<◌, ◌≤◌, Bool, true, false, ltb, List, [], ◌∷◌, ◌++◌, length, Option, Some, None, is_some, IsSome, IsTrue, ◌↔◌, slice_index_or, true≢false, eq-eqb, ne_eqb, lt-ltb, zero-add, add-zero, arith}
use Rattle.std.specs.List.{list_all}
use Rattle.std.proofs.lemmas.Bool.{cases_lt}
use Rattle.std.proofs.lemmas.List.{get_or_append_left, get_or_push, get_or_past}
use Rattle.zx_model.specs.Bits.{member}
use Rattle.zx_calculus.specs.Graph.{XY, End, ids, kind_of, joined, in_order}
use Rattle.zx_calculus.specs.Turns.{in_plane}
use Rattle.zx_calculus.specs.Adjacency.{edges_of}
use Rattle.zx_calculus.proofs.Ids.{by_test, by_equal, Symmetric}
use Rattle.zx_calculus.proofs.Kept.{both}
use Rattle.zx_calculus.proofs.Splitting.{joined-self}
use Rattle.zx_calculus.proofs.EdgeLists.{OrderedEdges-edges_of}
use Rattle.zx_calculus.proofs.Programs.{edges_full}
use Rattle.zx_bits.specs.Rows.{IsFirstFrom}
use Rattle.open_graph.specs.declared.slot.Slot.{Slot}
use Rattle.open_graph.specs.Internal.Slots.{told_by, told_at, vertices_from, vertices_of, adjacent, graph_of, IsSound, Tells}
use Rattle.open_graph.proofs.RowLemmas.{first_alike}

-- ids below that of the first slot
member-below_first : (first : ℕ) (slots : List (Option Slot)) (p : ℕ) → p < first → member p (ids (vertices_from first slots)) ≡ false
member-below_first first [] p lt = refl
member-below_first first (None ∷ rest) p lt = member-below_first (suc first) rest p (omega arith)
member-below_first first (Some s ∷ rest) p lt = rw (ne_eqb p first (omega arith)) (member-below_first (suc first) rest p (omega arith))

kind_of-below_first : (first : ℕ) (slots : List (Option Slot)) (p : ℕ) → p < first → kind_of (vertices_from first slots) p ≡ in_plane XY 0
kind_of-below_first first [] p lt = refl
kind_of-below_first first (None ∷ rest) p lt = kind_of-below_first (suc first) rest p (omega arith)
kind_of-below_first first (Some s ∷ rest) p lt = rw (ne_eqb p first (omega arith)) (kind_of-below_first (suc first) rest p (omega arith))

all_above : (n first : ℕ) (slots : List (Option Slot)) → n < first → list_all (ltb n) (ids (vertices_from first slots)) ≡ true
all_above n first [] lt = refl
all_above n first (None ∷ rest) lt = all_above n (suc first) rest (omega arith)
all_above n first (Some s ∷ rest) lt = both _ _ (lt-ltb n first lt) (all_above n (suc first) rest (omega arith))

pub rising_vertices : (first : ℕ) (slots : List (Option Slot)) → in_order ltb (ids (vertices_from first slots)) ≡ true
rising_vertices first [] = refl
rising_vertices first (None ∷ rest) = rising_vertices (suc first) rest
rising_vertices first (Some s ∷ rest) = both _ _ (all_above first (suc first) rest (omega arith)) (rising_vertices (suc first) rest)

shifted : (first j : ℕ) → first + suc j ≡ suc first + j
shifted first j = omega arith

member-vertices_from : (first : ℕ) (slots : List (Option Slot)) (j : ℕ) → member (first + j) (ids (vertices_from first slots)) ≡ (told_at slots j).live
member-vertices_from first [] j = refl
member-vertices_from first (None ∷ rest) zero = member-below_first (suc first) rest (first + 0) (omega arith)
member-vertices_from first (None ∷ rest) (suc j) = ap (λ p. member p (ids (vertices_from (suc first) rest))) (shifted first j) ∙ member-vertices_from (suc first) rest j
member-vertices_from first (Some s ∷ rest) zero = rw (eq-eqb (first + 0) first (add-zero first)) refl
member-vertices_from first (Some s ∷ rest) (suc j) =
    rw (ne_eqb (first + suc j) first (omega arith)) (ap (λ p. member p (ids (vertices_from (suc first) rest))) (shifted first j) ∙ member-vertices_from (suc first) rest j)

kind_of-vertices_from : (first : ℕ) (slots : List (Option Slot)) (j : ℕ) → kind_of (vertices_from first slots) (first + j) ≡ (told_at slots j).kind
kind_of-vertices_from first [] j = refl
kind_of-vertices_from first (None ∷ rest) zero = kind_of-below_first (suc first) rest (first + 0) (omega arith)
kind_of-vertices_from first (None ∷ rest) (suc j) = ap (kind_of (vertices_from (suc first) rest)) (shifted first j) ∙ kind_of-vertices_from (suc first) rest j
kind_of-vertices_from first (Some s ∷ rest) zero = rw (eq-eqb (first + 0) first (add-zero first)) refl
kind_of-vertices_from first (Some s ∷ rest) (suc j) =
    rw (ne_eqb (first + suc j) first (omega arith)) (ap (kind_of (vertices_from (suc first) rest)) (shifted first j) ∙ kind_of-vertices_from (suc first) rest j)

module _ (slots : List (Option Slot)) where
  pub member-vertices : (p : ℕ) → member p (ids (vertices_of slots)) ≡ (told_at slots p).live
  member-vertices p = ap (λ n. member n (ids (vertices_of slots))) (sym (zero-add p)) ∙ member-vertices_from 0 slots p

  pub kind_of-vertices : (p : ℕ) → kind_of (vertices_of slots) p ≡ (told_at slots p).kind
  kind_of-vertices p = ap (kind_of (vertices_of slots)) (sym (zero-add p)) ∙ kind_of-vertices_from 0 slots p

-- where there is no vertex, there is no neighbour
pub row_of_dead : (slot : Option Slot) → (told_by slot).live ≡ false → (told_by slot).row ≡ []
row_of_dead None dead = refl
row_of_dead (Some s) dead = absurd (true≢false dead)

pub some_of_live : (slot : Option Slot) → (told_by slot).live ≡ true → IsSome slot
some_of_live None live = absurd (true≢false (sym live))
some_of_live (Some s) live = refl

module _ (slots : List (Option Slot)) (symmetric : Symmetric (adjacent slots)) (no_loop : (p : ℕ) → adjacent slots p p ≡ false) where
  pub adjacent-absent : (p q : ℕ) → member p (ids (vertices_of slots)) ≡ false → adjacent slots p q ≡ false
  adjacent-absent p q absent = ap (member q) (row_of_dead _ (sym (member-vertices slots p) ∙ absent))

  pub joined-edges : (p q : ℕ) → joined (edges_of (adjacent slots) (ids (vertices_of slots))) p q ≡ adjacent slots p q
  joined-edges p q =
      by_equal p q
      (λ t e. ap (joined (edges_of (adjacent slots) (ids (vertices_of slots))) p) (sym e) ∙ joined-self (edges_of (adjacent slots) (ids (vertices_of slots))) p (OrderedEdges-edges_of (adjacent slots) _ (rising_vertices 0 slots)).lower_first ∙ sym (no_loop p) ∙ ap (adjacent slots p) e)
      (λ f n. edges_full (adjacent slots) (ids (vertices_of slots)) p q symmetric n (adjacent-absent p q) (λ absent. symmetric p q ∙ adjacent-absent q p absent))

-- what the slot of a vertex tells of the graph
pub slot_tells : (slots : List (Option Slot)) (inputs outputs : List End) (v : ℕ) (s : Slot) → IsSound slots inputs outputs → slice_index_or slots v None ≡ Some s → Tells (graph_of slots inputs outputs) v s
slot_tells slots inputs outputs v s sound found =
    record {
      kind = ap (λ o. (told_by o).kind) (sym found) ∙ sym (kind_of-vertices slots v);
      joined = λ p. ap (λ o. member p (told_by o).row) (sym found) ∙ sym (joined-edges slots sound.symmetric sound.no_loop v p);
      input = ap (λ o. (told_by o).input) (sym found) ∙ sound.input_places v;
      output = ap (λ o. (told_by o).output) (sym found) ∙ sound.output_places v;
      well_formed = sound.well_formed;
    }

pub live_by : (slots : List (Option Slot)) (p : ℕ) (b : Bool) → (IsTrue b ↔ IsSome (slice_index_or slots p None)) → b ≡ member p (ids (vertices_of slots))
live_by slots p b h = by_option (slice_index_or slots p None) h ∙ sym (member-vertices slots p)
  where
    by_option : (o : Option Slot) → (IsTrue b ↔ IsSome o) → b ≡ (told_by o).live
    by_option None h = by_test b (λ t. absurd (true≢false (sym (h.0 t)))) (λ f. f)
    by_option (Some s) h = h.1 refl

pub live_if_some : (slot : Option Slot) → is_some slot ≡ (told_by slot).live
live_if_some None = refl
live_if_some (Some s) = refl

pub member_of_some : (slots : List (Option Slot)) (v : ℕ) → IsSome (slice_index_or slots v None) → member v (ids (vertices_of slots)) ≡ true
member_of_some slots v there = member-vertices slots v ∙ sym (live_if_some (slice_index_or slots v None)) ∙ there

-- the first slot from a place on is that of the first vertex
pub first_vertex : (slots : List (Option Slot)) (start : ℕ) (r : Option ℕ) → IsFirstFrom (λ v. is_some (slice_index_or slots v None)) start r →
    IsFirstFrom (λ v. member v (ids (vertices_of slots))) start r
first_vertex slots start r =
    first_alike (λ v. is_some (slice_index_or slots v None)) (λ v. member v (ids (vertices_of slots))) start r
    (λ v. live_if_some (slice_index_or slots v None) ∙ sym (member-vertices slots v))

pub contains_live : (slots : List (Option Slot)) (v : ℕ) → member v (ids (vertices_of slots)) ≡ true → IsSome (slice_index_or slots v None)
contains_live slots v there = some_of_live (slice_index_or slots v None) (sym (member-vertices slots v) ∙ there)

-- one copy more tells the same
pub told_pushed : (xs copies : List (Option Slot)) (n : ℕ) (x y : Option Slot) → length copies ≡ n → slice_index_or xs n None ≡ x → told_by y ≡ told_by x →
    ((p : ℕ) → p < n → told_at copies p ≡ told_at xs p) → (p : ℕ) → p < n + 1 → told_at (copies ++ y ∷ []) p ≡ told_at xs p
told_pushed xs copies n x y size here same before p lt =
    elim (cases_lt p n) [
      | inl l ↦ ap told_by (get_or_append_left copies (y ∷ []) None p (omega arith)) ∙ before p l
      | inr g ↦
          let last : p ≡ n = omega arith in
          ap told_by (get_or_push copies y None p (omega arith)) ∙ same ∙ ap told_by (sym here) ∙ ap (told_at xs) (sym last)
    ]

-- all that are told are those of the list
pub told_all : (xs copies : List (Option Slot)) (n : ℕ) → length copies ≡ n → length xs ≤ n → ((p : ℕ) → p < n → told_at copies p ≡ told_at xs p) → (p : ℕ) → told_at copies p ≡ told_at xs p
told_all xs copies n size all before p =
    elim (cases_lt p n) [
      | inl l ↦ before p l
      | inr g ↦ ap told_by (get_or_past copies p None (omega arith)) ∙ ap told_by (sym (get_or_past xs p None (omega arith)))
    ]
