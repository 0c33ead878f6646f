-- The row of a leg added to those of the others, which are no legs then.
use Rattle.std.proofs.Common.{◌≡◌, refl, sym, ◌∙◌, ap, ap₂, subst, ℕ, ◌+◌, ◌<◌, ◌≤◌, true, false, ◌&&◌, eqb, ne_eqb, filter, length, true≢false, arith}
use Rattle.std.specs.Prelude.{slice_get}
use Rattle.std.proofs.lemmas.Option.{slice_get_within}
use Rattle.zx_model.specs.Bits.{xor, member}
use Rattle.zx_model.proofs.BitLemmas.{xor-false}
use Rattle.zx_calculus.specs.Graph.{joined, end_vertices, plain}
use Rattle.zx_calculus.proofs.Ids.{by_test, by_equal, and-left, and-right, eqb-self}
use Rattle.zx_calculus.proofs.Edges.{joined_comm}
use Rattle.circuit_laws.specs.Peeling.{HasPlainOutput}
use Rattle.circuit_laws.proofs.Places.{member-places}
use Rattle.zx_extract.specs.Internal.Lists.{last_set, legs_of}
use Rattle.zx_extract.specs.Internal.Leading.{Remainder, IsReady, IsFrontier}
use Rattle.zx_extract.specs.Internal.Steps.{IsRowAdded, HasLast, IsSpareLeg, HasNoSpareLeg, AreLegsFree, TakesLegs, IsLegShared, HasOneLegOrInputs}
use Rattle.zx_extract.proofs.Places.{one_vertex}
use Rattle.zx_extract.proofs.Lasts.{keeps_last}
use Rattle.zx_extract.proofs.LastVertex.{last_no_output}
use Rattle.zx_extract.proofs.Legs.{member-legs, filter-less}
use Rattle.zx_extract.proofs.Rows.{edges_are, row_last, adds_nothing, adds_row}

at_leg : (s : Remainder) (v q u : ℕ) → HasPlainOutput s.graph q u → joined s.graph.edges v u ≡ true →
    member u (legs_of s.graph v) ≡ true
at_leg s v q u o near = member-legs s.graph v u
    ∙ ap₂ (λ a b. a && b) (member-places s.graph.outputs q (plain u) o) near

-- ---- one row
module _ (t : Remainder) (v z l : ℕ) (h : Remainder) (r : IsReady t) (f : IsFrontier t.graph) (last : HasLast t.table v)
    (free : AreLegsFree t v) (spare : IsSpareLeg t.graph v z) (a : IsRowAdded t z l h)
    (near : joined t.graph.edges v a.row.to ≡ true) where
  to_leg : member a.row.to (legs_of t.graph v) ≡ true
  to_leg = at_leg t v l a.row.to a.row.output_too near

  added_is : a.row.added ≡ spare.leg
  added_is = one_vertex t.graph z a.row.added spare.leg a.row.output spare.output

  -- v loses this leg
  changed : (u : ℕ) → joined h.graph.edges v u ≡ xor (joined t.graph.edges v u) (eqb a.row.to u)
  changed u =
      edges_are t z l h r f a v u
      ∙ ap₂ (λ x y. xor (joined t.graph.edges v u) (xor (x && joined t.graph.edges a.row.added u) (y && eqb a.row.to u)))
      (ne_eqb a.row.to v (λ e. true≢false (sym (member-places t.graph.outputs l (plain a.row.to) a.row.output_too)
      ∙ ap (λ x. member x (end_vertices t.graph.outputs)) e ∙ last_no_output r f last)))
      (joined_comm t.graph.edges a.row.added v ∙ ap (joined t.graph.edges v) added_is ∙ spare.near)

  pub lost : joined h.graph.edges v a.row.to ≡ false
  lost = changed a.row.to ∙ ap₂ xor near (eqb-self a.row.to)

  pub was_leg : (u : ℕ) → joined h.graph.edges v u ≡ true → joined t.graph.edges v u ≡ true
  was_leg u now = by_equal a.row.to u (λ _ e. ap (joined t.graph.edges v) (sym e) ∙ near)
      (λ n _. sym (xor-false (joined t.graph.edges v u)) ∙ sym (ap (xor (joined t.graph.edges v u)) n) ∙ sym (changed u) ∙ now)

  pub one_less : length (legs_of h.graph v) + 1 ≤ length (legs_of t.graph v)
  one_less =
      omega (
        arith,
        filter-less (joined t.graph.edges v) (joined h.graph.edges v) (end_vertices t.graph.outputs) a.row.to was_leg
            (member-places t.graph.outputs l (plain a.row.to) a.row.output_too) near lost,
        ap (λ es. length (filter (joined h.graph.edges v) (end_vertices es))) a.row.frame.outputs,
      )

  pub set_stays : (w : ℕ) → last_set h.table w ≡ last_set t.table w
  set_stays w = row_last t z l h r f a v last w
      ∙ ap (λ b. xor (last_set t.table w) (b && eqb w a.row.added)) (free a.row.to to_leg)
      ∙ xor-false (last_set t.table w)

  pub still_free : AreLegsFree h v
  still_free u there = set_stays u ∙ free u (member-legs t.graph v u ∙ both)
    where
      parts : (member u (end_vertices h.graph.outputs) && joined h.graph.edges v u) ≡ true
      parts = sym (member-legs h.graph v u) ∙ there

      both : (member u (end_vertices t.graph.outputs) && joined t.graph.edges v u) ≡ true
      both = ap₂ (λ a b. a && b)
          (ap (λ es. member u (end_vertices es)) a.row.frame.outputs ∙ and-left (member u (end_vertices h.graph.outputs)) (joined h.graph.edges v u) parts)
          (was_leg u (and-right (member u (end_vertices h.graph.outputs)) (joined h.graph.edges v u) parts))

  pub still_spare : IsSpareLeg h.graph v z
  still_spare = record {
    leg = spare.leg;
    output = ap (λ es. slice_get es z) (sym a.row.frame.outputs) ∙ spare.output;
    near = changed spare.leg
        ∙ ap₂ xor spare.near (ne_eqb a.row.to spare.leg (λ e. a.row.different (added_is ∙ sym e)));
    no_input = ap (λ es. member spare.leg (end_vertices es)) (sym a.row.frame.inputs) ∙ spare.no_input;
  }

-- ---- all rows
pub takes_nothing : (s : Remainder) (v : ℕ) → IsReady s → IsFrontier s.graph → AreLegsFree s v → TakesLegs s v s
takes_nothing s v r f free = record {
  count = 0;
  rows = adds_nothing s _ r f;
  fewer = omega arith;
  stays = λ u. refl;
  free = free;
}

pub shared_nothing : (s : Remainder) (v z : ℕ) → IsReady s → IsFrontier s.graph → AreLegsFree s v →
    IsSpareLeg s.graph v z → IsLegShared s v z 0 s
shared_nothing s v z r f free spare = record {
  taken = takes_nothing s v r f free;
  spare = spare;
  gone = λ p u within. absurd (omega arith);
}

module _ (s : Remainder) (v z i : ℕ) (t : Remainder) (c : IsLegShared s v z i t) (last : HasLast s.table v) where
  pub shared_last : HasLast t.table v
  shared_last = keeps_last s.table t.table v c.taken.rows.order last

  pub shared_row : (w : ℕ) (h : Remainder) → HasPlainOutput t.graph i w → joined t.graph.edges v w ≡ true →
      IsRowAdded t z i h → IsLegShared s v z (i + 1) h
  shared_row w h o near a = record {
    taken = record {
      count = c.taken.count + 1;
      rows = adds_row s c.taken.count (c.taken.count + 1) t z i h (omega arith) c.taken.rows a;
      fewer = omega (
        arith,
        c.taken.fewer,
        one_less t v z i h c.taken.rows.ready c.taken.rows.frontier shared_last
            c.taken.free c.spare a at_to,
      );
      stays = λ u. set_stays t v z i h c.taken.rows.ready c.taken.rows.frontier shared_last c.taken.free c.spare a at_to u
          ∙ c.taken.stays u;
      free = still_free t v z i h c.taken.rows.ready c.taken.rows.frontier shared_last c.taken.free c.spare a at_to;
    };
    spare = still_spare t v z i h c.taken.rows.ready c.taken.rows.frontier shared_last c.taken.free c.spare a at_to;
    gone = λ p u within n at_p. by_test (joined h.graph.edges v u)
        (λ now. let here : HasPlainOutput t.graph p u = ap (λ es. slice_get es p) a.row.frame.outputs ∙ at_p in
        by_equal p i
        (λ _ e. let same : u ≡ a.row.to =
        one_vertex t.graph i u a.row.to (subst (λ k. HasPlainOutput t.graph k u) e here) a.row.output_too in
        ap (joined h.graph.edges v) same
        ∙ lost t v z i h c.taken.rows.ready c.taken.rows.frontier shared_last c.taken.free c.spare a at_to)
        (λ _ m. absurd (true≢false (sym (was_leg t v z i h c.taken.rows.ready c.taken.rows.frontier shared_last c.taken.free
        c.spare a at_to u now) ∙ c.gone p u (omega arith) n here))))
        (λ off. off);
  }
    where
      at_to : joined t.graph.edges v a.row.to ≡ true
      at_to = ap (joined t.graph.edges v) (one_vertex t.graph i a.row.to w a.row.output_too o) ∙ near

-- each leg has an input
pub shared_skip : {s t : Remainder} {v z i : ℕ} → IsLegShared s v z i t → (w : ℕ) → HasPlainOutput t.graph i w →
    joined t.graph.edges v w ≡ false → IsLegShared s v z (i + 1) t
shared_skip {s} {t} {v} {z} {i} shared w o off = record {
  taken = shared.taken;
  spare = shared.spare;
  gone = λ p u below n at_u. by_equal p i
      (λ _ e. ap (joined t.graph.edges v) (one_vertex t.graph i u w (subst (λ k. HasPlainOutput t.graph k u) e at_u) o) ∙ off)
      (λ _ m. shared.gone p u (omega arith) n at_u);
}

pub shared_itself : {s t : Remainder} {v z i : ℕ} → IsLegShared s v z i t → i ≡ z → IsLegShared s v z (i + 1) t
shared_itself {s} {t} {v} {z} {i} shared is = record {
  taken = shared.taken;
  spare = shared.spare;
  gone = λ p u below n at_u. by_equal p i (λ _ e. absurd (n (e ∙ is))) (λ _ m. shared.gone p u (omega arith) n at_u);
}

pub none_one : (s : Remainder) (v : ℕ) → HasNoSpareLeg s.graph v → HasOneLegOrInputs s.graph v
none_one s v none z p u spare o near =
    absurd (true≢false (sym (none z spare.leg spare.output spare.near) ∙ spare.no_input))

-- one leg is left
pub shared_all : (s : Remainder) (v z : ℕ) (t : Remainder) → IsLegShared s v z (length s.graph.outputs) t →
    HasOneLegOrInputs t.graph v
shared_all s v z t c x p u spare o near = only p u o near ∙ sym (only x spare.leg spare.output spare.near)
  where
    only : (p u : ℕ) → HasPlainOutput t.graph p u → joined t.graph.edges v u ≡ true → p ≡ z
    only p u o near = by_equal p z (λ _ e. e)
        (λ _ n. absurd (true≢false (sym near ∙ c.gone p u (subst (λ es. p < length es) c.taken.rows.ends
        (slice_get_within t.graph.outputs p (plain u) o)) n o)))
