-- Rows with room below the reach, through each change of the places.
use Rattle.std.proofs.Common.{◌≡◌, ◌≢◌, refl, sym, ◌∙◌, ap, subst, inl, inr, ℕ, ◌<◌, ◌≤◌, false, cond, eq-eqb, List, [], length, set, Option, Some, None, is_some, IsSome, slice_index_or, arith}
use Rattle.std.proofs.lemmas.Bool.{cases_eq, cases_lt, false≢true}
use Rattle.std.proofs.lemmas.List.{get_or-set_same, get_or-set_other, get_or_past}
use Rattle.open_graph.specs.declared.slot.Slot.{Slot}
use Rattle.open_graph.specs.declared.scratch.Scratch.{Scratch}
use Rattle.open_graph.specs.VertexSets.{VertexSet}
use Rattle.zx_model.specs.Bits.{member}
use Rattle.zx_calculus.specs.Graph.{End, Graph}
use Rattle.open_graph.specs.Internal.Slots.{Told, nothing, told_at, told_by}
use Rattle.open_graph.specs.Internal.Changes.{SameTold, without_neighbour, RemovedFrom}
use Rattle.open_graph.specs.Internal.Room.{room_by, HasRows, KeepsRoom, row_kept, room_with, room_at, AreEmpty, HasRoom, IsStored}
use Rattle.open_graph.proofs.RoomLemmas.{vacant-put}
use Rattle.open_graph.proofs.Keeping.{becomes_same, becomes, Becomes}

some_or_none : (o : Option Slot) (s : Slot) → o ≡ None → o ≡ Some s → ⊥
some_or_none o s none some = false≢true (ap is_some (sym none) ∙ ap is_some some)

pub place_within : (xs : List (Option Slot)) (u : ℕ) (t : Slot) → slice_index_or xs u None ≡ Some t → u < length xs
place_within xs u t here =
    elim (cases_lt u (length xs)) [
      | inl l ↦ l
      | inr g ↦ absurd (some_or_none (slice_index_or xs u None) t (get_or_past xs u None g) here)
    ]

pub rows_at : (reach : ℕ) (xs : List (Option Slot)) (u : ℕ) (t : Slot) → HasRows reach xs → slice_index_or xs u None ≡ Some t → u < reach → reach ≤ t.row.room
rows_at reach xs u t rows here lt =
    let le = rows u lt (ap is_some here) in
    let is = ap room_by here in
    omega (arith, le, is)

pub keeps_same : (reach : ℕ) (xs : List (Option Slot)) → KeepsRoom reach xs xs
keeps_same reach xs = record { spare = refl; vacant = λ p none. none; rows = λ rows. rows }

pub keeps_then : (reach : ℕ) (xs ys zs : List (Option Slot)) → KeepsRoom reach xs ys → KeepsRoom reach ys zs → KeepsRoom reach xs zs
keeps_then reach xs ys zs first second =
    record {
      spare = second.spare ∙ first.spare;
      vacant = λ p none. first.vacant p (second.vacant p none);
      rows = λ rows. second.rows (first.rows rows);
    }

-- another slot in the place of one, whose row keeps its room
pub keeps_put : (reach : ℕ) (xs : List (Option Slot)) (u : ℕ) (s t : Slot) → slice_index_or xs u None ≡ Some t →
    (u < reach → reach ≤ t.row.room → reach ≤ s.row.room) → KeepsRoom reach xs (set xs u (Some s))
keeps_put reach xs u s t here row =
    record {
      spare = vacant-put xs u s t here;
      vacant = λ p none.
          elim (cases_eq p u) [
            | inl e ↦ absurd (some_or_none _ s none (at p e))
            | inr apart ↦ sym (get_or-set_other xs u p (Some s) None apart) ∙ none
          ];
      rows = λ rows p lt there.
          elim (cases_eq p u) [
            | inl e ↦
                let is = ap room_by (at p e) in
                let le = row (omega (arith, e)) (rows_at reach xs u t rows here (omega (arith, e))) in
                omega (arith, is, le)
            | inr apart ↦
                let other = get_or-set_other xs u p (Some s) None apart in
                let is = ap room_by other in
                let le = rows p lt (sym (ap is_some other) ∙ there) in
                omega (arith, is, le)
          ];
    }
  where
    at : (p : ℕ) → p ≡ u → slice_index_or (set xs u (Some s)) p None ≡ Some s
    at p e = ap (λ q. slice_index_or (set xs u (Some s)) q None) e ∙ get_or-set_same xs u (Some s) None (place_within xs u t here)

-- the same where the row keeps room up to a bound, which is the reach for a vertex below it
module _ (reach bound : ℕ) (xs : List (Option Slot)) (u at : ℕ) (t : Slot) (is : at ≡ u) (here : slice_index_or xs at None ≡ Some t)
    (below : u < reach → bound ≡ reach) where
  pub keeps_bounded : (s : Slot) → (bound ≤ t.row.room → bound ≤ s.row.room) → KeepsRoom reach xs (set xs at (Some s))
  keeps_bounded s row =
      keeps_put reach xs at s t here
      (λ lt le.
      let bounded = below (omega (arith, lt, is)) in
      let kept = row (omega (arith, bounded, le)) in
      omega (arith, bounded, kept))

  pub rows_bounded : HasRows reach xs → u < reach → bound ≤ t.row.room
  rows_bounded rows lt =
      let bounded = below lt in
      let le = rows_at reach xs at t rows here (omega (arith, lt, is)) in
      omega (arith, bounded, le)

-- another row of the same vertices
pub same_put : (xs : List (Option Slot)) (u : ℕ) (row : VertexSet) (t : Slot) → slice_index_or xs u None ≡ Some t →
    row.ids ≡ t.row.ids → SameTold xs (set xs u (Some (record t { row = row })))
same_put xs u row t here same p =
    elim (cases_eq p u) [
      | inl e ↦
          ap (λ q. told_at (set xs u (Some (record t { row = row }))) q) e
          ∙ ap told_by (get_or-set_same xs u (Some (record t { row = row })) None (place_within xs u t here))
          ∙ ap {B = Told} (λ ids. record (told_by (Some t)) { row = ids }) same
          ∙ sym (ap told_by here) ∙ sym (ap (told_at xs) e)
      | inr apart ↦ ap told_by (get_or-set_other xs u p (Some (record t { row = row })) None apart)
    ]

pub live_within : (xs : List (Option Slot)) (q end : ℕ) → end ≡ length xs → IsSome (slice_index_or xs q None) → q < end
live_within xs q end size there =
    elim (cases_lt q (length xs)) [
      | inl l ↦ omega arith
      | inr g ↦ absurd (false≢true (sym (ap is_some (get_or_past xs q None g)) ∙ there))
    ]

-- ---- with the rows that are kept for ids without a vertex

room_of_some : (o : Option Slot) (row : VertexSet) → IsSome o → room_with o row ≡ room_by o
room_of_some None row there = absurd (false≢true there)
room_of_some (Some s) row there = refl

pub rows_of : (reach : ℕ) (xs : List (Option Slot)) (kept : List VertexSet) → HasRoom reach xs kept → HasRows reach xs
rows_of reach xs kept room p lt there =
    let le = room.room p lt in
    let is = room_of_some (slice_index_or xs p None) (row_kept kept p) there in
    omega (arith, le, is)

-- by cases on whether there is a vertex
pub by_place : (o : Option Slot) (A : Type 0) → (o ≡ None → A) → (IsSome o → A) → A
by_place None A none some = none refl
by_place (Some s) A none some = some refl

pub room_kept : (reach : ℕ) (xs ys : List (Option Slot)) (kept : List VertexSet) → HasRoom reach xs kept → KeepsRoom reach xs ys → HasRoom reach ys kept
room_kept reach xs ys kept room keeps =
    record {
      room = λ p lt. by_place (slice_index_or ys p None) (reach ≤ room_at ys kept p)
          (λ none.
          let le = room.room p lt in
          let was = ap (λ o. room_with o (row_kept kept p)) (keeps.vacant p none) in
          let is = ap (λ o. room_with o (row_kept kept p)) none in
          omega (arith, le, was, is))
          (λ there.
          let le = keeps.rows (rows_of reach xs kept room) p lt there in
          let is = room_of_some (slice_index_or ys p None) (row_kept kept p) there in
          omega (arith, le, is));
      covers = room.covers;
      empty = room.empty;
    }

-- a vertex that takes the row kept for its id
pub room_added : (reach : ℕ) (xs ys : List (Option Slot)) (kept new : List VertexSet) (v : ℕ) →
    slice_index_or xs v None ≡ None → IsSome (slice_index_or ys v None) →
    ((p : ℕ) → p ≢ v → slice_index_or ys p None ≡ slice_index_or xs p None) →
    (v < length kept → room_by (slice_index_or ys v None) ≡ (row_kept kept v).room) →
    ((p : ℕ) → p ≢ v → row_kept new p ≡ row_kept kept p) → length new ≡ length kept → AreEmpty new →
    HasRoom reach xs kept → HasRoom reach ys new
room_added reach xs ys kept new v vacant there others given others_kept size empty room =
    record {
      room = λ p lt.
          elim (cases_eq p v) [
            | inl e ↦ subst (λ q. reach ≤ room_at ys new q) (sym e) (at_v (omega (arith, e, lt)))
            | inr apart ↦
                let le = room.room p lt in
                let slot = ap (λ o. room_with o (row_kept new p)) (others p apart) in
                let row = ap (room_with (slice_index_or xs p None)) (others_kept p apart) in
                omega (arith, le, slot, row)
          ];
      covers = let le = room.covers in omega (arith, le, size);
      empty = empty;
    }
  where
    at_v : v < reach → reach ≤ room_at ys new v
    at_v lt =
        let le = room.room v lt in
        let was = ap (λ o. room_with o (row_kept kept v)) vacant in
        let is = room_of_some (slice_index_or ys v None) (row_kept new v) there in
        let covers = room.covers in
        let takes = given (omega (arith, lt, covers)) in
        omega (arith, le, was, is, takes)

-- a vertex that goes, whose row is kept
pub room_removed : (reach : ℕ) (xs ys : List (Option Slot)) (kept new : List VertexSet) (v : ℕ) →
    IsSome (slice_index_or xs v None) →
    (HasRows reach xs → (p : ℕ) → p ≢ v → p < reach → IsSome (slice_index_or ys p None) → reach ≤ room_by (slice_index_or ys p None)) →
    ((p : ℕ) → p ≢ v → slice_index_or ys p None ≡ None → slice_index_or xs p None ≡ None) →
    slice_index_or ys v None ≡ None →
    (v < length kept → room_by (slice_index_or xs v None) ≤ (row_kept new v).room) →
    ((p : ℕ) → p ≢ v → row_kept new p ≡ row_kept kept p) → length new ≡ length kept → (AreEmpty kept → AreEmpty new) →
    HasRoom reach xs kept → HasRoom reach ys new
room_removed reach xs ys kept new v there rows vacant gone given others_kept size empty room =
    record {
      room = λ p lt.
          elim (cases_eq p v) [
            | inl e ↦ subst (λ q. reach ≤ room_at ys new q) (sym e) (at_v (omega (arith, e, lt)))
            | inr apart ↦ by_place (slice_index_or ys p None) (reach ≤ room_at ys new p)
                (λ none.
                let le = room.room p lt in
                let was = ap (λ o. room_with o (row_kept kept p)) (vacant p apart none) in
                let is = ap (λ o. room_with o (row_kept new p)) none in
                let row = ap (λ r. r.room) (others_kept p apart) in
                omega (arith, le, was, is, row))
                (λ some.
                let le = rows (rows_of reach xs kept room) p apart lt some in
                let is = room_of_some (slice_index_or ys p None) (row_kept new p) some in
                omega (arith, le, is))
          ];
      covers = let le = room.covers in omega (arith, le, size);
      empty = empty room.empty;
    }
  where
    at_v : v < reach → reach ≤ room_at ys new v
    at_v lt =
        let le = rows_of reach xs kept room v lt there in
        let is = ap (λ o. room_with o (row_kept new v)) gone in
        let covers = room.covers in
        let takes = given (omega (arith, lt, covers)) in
        omega (arith, le, is, takes)

-- rows with no less room than before
pub room_grown : (reach : ℕ) (xs ys : List (Option Slot)) (kept new : List VertexSet) →
    ((p : ℕ) → p < length kept → room_at xs kept p ≤ room_at ys new p) → length kept ≤ length new → AreEmpty new →
    HasRoom reach xs kept → HasRoom reach ys new
room_grown reach xs ys kept new grown longer empty room =
    let covers = room.covers in
    record {
      room = λ p lt.
          let le = room.room p lt in
          let more = grown p (omega (arith, lt, covers)) in
          omega (arith, le, more);
      covers = omega (arith, covers, longer);
      empty = empty;
    }

pub none_of_dead : (o : Option Slot) → (told_by o).live ≡ false → o ≡ None
none_of_dead None dead = refl
none_of_dead (Some s) dead = absurd (false≢true (sym dead))

pub gone : (old new : List (Option Slot)) (v : ℕ) (rows : List ℕ) → RemovedFrom old new v rows → slice_index_or new v None ≡ None
gone old new v rows removed =
    none_of_dead (slice_index_or new v None)
    (ap (λ t. t.live) (removed v) ∙ ap (λ b. (cond b nothing (cond (member v rows) (without_neighbour v (told_at old v)) (told_at old v))).live) (eq-eqb v v refl))

-- the row of what stands in a place
pub row_at : (xs : List (Option Slot)) (u at : ℕ) (t : Slot) → at ≡ u → slice_index_or xs at None ≡ Some t → (told_at xs u).row ≡ t.row.ids
row_at xs u at t same here = ap (λ o. (told_by o).row) (ap (λ q. slice_index_or xs q None) (sym same) ∙ here)

-- where no row is kept
pub no_room : (xs : List (Option Slot)) (kept : List VertexSet) → kept ≡ [] → HasRoom 0 xs kept
no_room xs kept none =
    record {
      room = λ p lt. absurd (omega (arith, lt));
      covers = omega arith;
      empty = λ p. ap (λ (l : List VertexSet). (row_kept l p).ids) none;
    }

-- the same vertices in as many places or more
pub kept_same : (xs ys : List (Option Slot)) (inputs outputs : List End) (kept : List VertexSet) (scratch : Scratch) (reach : ℕ) → IsStored xs inputs outputs kept scratch reach →
    ((p : ℕ) → slice_index_or ys p None ≡ slice_index_or xs p None) → IsStored ys inputs outputs kept scratch reach
kept_same xs ys inputs outputs kept scratch reach is same =
    record {
      sound = (becomes_same xs ys inputs outputs is.sound (λ p. ap told_by (same p))).sound;
      room = room_grown reach xs ys kept kept (λ p lt. let eq = ap (λ o. room_with o (row_kept kept p)) (same p) in omega (arith, eq)) (omega arith) is.room.empty is.room;
      scratch = is.scratch;
    }

abbrev empty_graph : Graph
empty_graph = record { vertices = []; edges = []; inputs = []; outputs = [] }

-- where there is no vertex and no end
pub becomes_empty : (xs : List (Option Slot)) (inputs outputs : List End) → ((p : ℕ) → slice_index_or xs p None ≡ None) → inputs ≡ [] → outputs ≡ [] → Becomes xs inputs outputs (record { vertices = []; edges = []; inputs = []; outputs = [] })
becomes_empty xs inputs outputs none i o =
    subst (λ (es : List End). Becomes xs es outputs empty_graph) (sym i) (subst (λ (es : List End). Becomes xs [] es empty_graph) (sym o)
    (becomes xs empty_graph
    (record {
      vertices_rising = refl;
      phases_below_a_turn = refl;
      edges = record { lower_first = refl; rising = refl; lower_there = refl; higher_there = refl };
      inputs = record { one_each = refl; there = refl; at_XY = refl };
      outputs = record { one_each = refl; there = refl; at_XY = refl };
    })
    (record {
      live = λ p. ap (λ o. (told_by o).live) (none p);
      kind = λ p live. absurd (false≢true (sym (ap (λ o. (told_by o).live) (none p)) ∙ live));
      adjacent = λ p q. ap (λ o. member q (told_by o).row) (none p);
      input = λ p. ap (λ o. (told_by o).input) (none p);
      output = λ p. ap (λ o. (told_by o).output) (none p);
    })))
