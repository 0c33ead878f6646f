-- The last vertex of a flow, whose set has outputs beside itself: how many of them are left in it decides what it is.
use Rattle.std.proofs.Common.{◌≡◌, ◌≢◌, refl, sym, ◌∙◌, ap, ap₂, subst, ℕ, Bool, true, false, not, ◌&&◌, ◌||◌, eqb, eqb-true, eq-eqb, ne_eqb, [], ◌∷◌, ◌++◌, true≢false}
use Rattle.zx_model.specs.Bits.{member}
use Rattle.zx_calculus.specs.Graph.{XY, XZ, YZ, Plane, ids, plane_of, joined, end_vertices, IsVertex}
use Rattle.zx_calculus.proofs.Booleans.{and-false}
use Rattle.zx_calculus.proofs.Ids.{by_test, by_equal, eqb-self}
use Rattle.zx_calculus.proofs.Edges.{joined_comm}
use Rattle.zx_calculus.proofs.Splitting.{no_loop, joined-absent}
use Rattle.gflow_laws.specs.Seen.{seen, in_odd_neighbourhood}
use Rattle.gflow_laws.specs.Flow.{order_of, is_in, is_later, IsFlow, Corrects, inside_in}
use Rattle.gflow_laws.specs.Correcting.{FlowAsFunctions}
use Rattle.gflow_laws.specs.Outputs.{IsLast, others}
use Rattle.gflow_laws.proofs.Linear.{masked-none}
use Rattle.gflow_laws.proofs.Flows.{live, Flows-from}
use Rattle.gflow_laws.proofs.OutputLaws.{no_output}
use Rattle.gflow_laws.proofs.LastLaws.{last_listed, last_corrects, last_of_graph, last-members, last-XY, gathered-XY, gathered-YZ, alone-YZ}
use Rattle.circuit_laws.specs.Peeling.{HasPlainOutput}
use Rattle.circuit_laws.proofs.Places.{member-places}
use Rattle.zx_extract.specs.Internal.Lists.{last_set}
use Rattle.zx_extract.specs.Internal.FrontGraphs.{AreOutputsApart}
use Rattle.zx_extract.specs.Internal.Leading.{Remainder, IsReady, IsFrontier}
use Rattle.zx_extract.specs.Internal.Steps.{HasLast, HasNoOutput, HasOneOutput}
use Rattle.zx_extract.proofs.Places.{place_of_output, one_vertex}
use Rattle.zx_extract.proofs.Lasts.{last_set-entry}

pub frontier_apart : {s : Remainder} → IsReady s → IsFrontier s.graph → AreOutputsApart s.graph
frontier_apart {s} r f u w at_u at_w =
    let p = place_of_output s.graph.outputs u r.plain at_u in
    let q = place_of_output s.graph.outputs w r.plain at_w in
    f.apart p.0 q.0 refl refl u w p.1 q.1

module _ {s : Remainder} {v : ℕ} (r : IsReady s) (f : IsFrontier s.graph) (last : HasLast s.table v) where
  flow : IsFlow s.graph (last.before ++ last.entry ∷ [])
  flow = subst (IsFlow s.graph) last.split r.given.flow

  functions : FlowAsFunctions (seen s.graph) (last.before ++ last.entry ∷ [])
  functions = Flows-from (seen s.graph) (last.before ++ last.entry ∷ []) flow

  -- each output of the graph is plain, at some place
  at_place : (u : ℕ) → member u (end_vertices s.graph.outputs) ≡ true → (p : ℕ) × HasPlainOutput s.graph p u
  at_place u there = place_of_output s.graph.outputs u r.plain there

  pub outputs_apart : (u w : ℕ) → member u (end_vertices s.graph.outputs) ≡ true → member w (end_vertices s.graph.outputs) ≡ true →
      joined s.graph.edges u w ≡ false
  outputs_apart u w at_u at_w = f.apart (at_place u at_u).0 (at_place w at_w).0 refl refl u w (at_place u at_u).1
      (at_place w at_w).1

  is_last : IsLast (seen s.graph) last.before last.entry
  is_last = last_of_graph s.graph last.before last.entry r.given.well_formed flow outputs_apart

  listed : member last.entry.vertex (order_of (last.before ++ last.entry ∷ [])) ≡ true
  listed = last_listed last.before last.entry

  pub last_live : IsVertex s.graph v
  last_live = ap (λ x. member x (ids s.graph.vertices)) (sym last.vertex)
      ∙ live (seen s.graph) (last.before ++ last.entry ∷ []) functions last.entry.vertex listed

  pub last_no_output : member v (end_vertices s.graph.outputs) ≡ false
  last_no_output = ap (λ x. member x (end_vertices s.graph.outputs)) (sym last.vertex)
      ∙ no_output (seen s.graph) (last.before ++ last.entry ∷ []) functions last.entry.vertex listed

  corrects : Corrects (seen s.graph) (is_later (order_of (last.before ++ last.entry ∷ []))) last.entry.vertex
      (is_in last.entry.members)
  corrects = last_corrects (seen s.graph) last.before last.entry functions

  at_entry : (plane : Plane) → plane_of s.graph v ≡ plane → plane_of s.graph last.entry.vertex ≡ plane
  at_entry plane e = ap (plane_of s.graph) last.vertex ∙ e

  -- whether v is in its own set
  inside : is_in last.entry.members v ≡ inside_in (plane_of s.graph v)
  inside = ap (is_in last.entry.members) (sym last.vertex) ∙ corrects.inside
      ∙ ap (λ x. inside_in (plane_of s.graph x)) last.vertex

  in_set : (w : ℕ) → is_in last.entry.members w ≡ last_set s.table w
  in_set w = sym (last_set-entry s.table v last w)

  -- members other than v are outputs without inputs
  members_are : (w : ℕ) → is_in last.entry.members w ≡ true → w ≢ v →
      (member w (end_vertices s.graph.outputs) ≡ true) × (member w (end_vertices s.graph.inputs) ≡ false)
  members_are w there n = last-members (seen s.graph) last.before last.entry is_last w there (λ e. n (e ∙ last.vertex))

  pub picked_no_input : (u : ℕ) → member u (end_vertices s.graph.outputs) ≡ true → last_set s.table u ≡ true →
      member u (end_vertices s.graph.inputs) ≡ false
  picked_no_input u at_u there = (members_are u (in_set u ∙ there)
      (λ e. true≢false (sym at_u ∙ ap (λ x. member x (end_vertices s.graph.outputs)) e ∙ last_no_output))).1

  -- a vertex is adjacent to none that isn't there
  absent : (u w : ℕ) → member w (ids s.graph.vertices) ≡ false → joined s.graph.edges u w ≡ false
  absent u w out = joined_comm s.graph.edges u w ∙ joined-absent
      (ids s.graph.vertices) s.graph.edges w u r.given.well_formed.edges.lower_there
      r.given.well_formed.edges.higher_there out

  -- ---- with one output in the set
  module _ (q : ℕ) {u : ℕ} (one : HasOneOutput s q) (o : HasPlainOutput s.graph q u) where
    at_u : member u (end_vertices s.graph.outputs) ≡ true
    at_u = member-places s.graph.outputs q (record { vertex = u; hadamard = false }) o

    pub u_apart : u ≢ v
    u_apart e = true≢false (sym at_u ∙ ap (λ x. member x (end_vertices s.graph.outputs)) e ∙ last_no_output)

    u_in_set : last_set s.table u ≡ true
    u_in_set = one q u o ∙ eqb-self q

    pub link_no_input : member u (end_vertices s.graph.inputs) ≡ false
    link_no_input = picked_no_input u at_u u_in_set

    -- beside v the set has u alone
    pub set_is : (w : ℕ) → w ≢ v → is_in last.entry.members w ≡ eqb w u
    set_is w n = by_test (is_in last.entry.members w)
        (λ t. let place : (p : ℕ) × HasPlainOutput s.graph p w = at_place w (members_are w t n).0 in
        let same : place.0 ≡ q = eqb-true place.0 q (sym (one place.0 w place.1) ∙ sym (in_set w) ∙ t) in
        t ∙ sym (eq-eqb w u (one_vertex s.graph q w u (subst (λ k. HasPlainOutput s.graph k w) same place.1) o)))
        (λ out. out ∙ sym (ne_eqb w u (λ e. true≢false (sym u_in_set ∙ ap (last_set s.table) (sym e) ∙ sym (in_set w)
        ∙ out))))

    pub set_is_XY : plane_of s.graph v ≡ XY → (w : ℕ) → is_in last.entry.members w ≡ eqb w u
    set_is_XY plane w = by_equal w v
        (λ _ e. ap (is_in last.entry.members) e ∙ inside ∙ ap inside_in plane
        ∙ sym (ne_eqb w u (λ same. u_apart (sym same ∙ e))))
        (λ _ n. set_is w n)

    pub only_neighbour : plane_of s.graph v ≡ XY → (w : ℕ) → joined s.graph.edges u w ≡ eqb w v
    only_neighbour plane w = by_test (member w (ids s.graph.vertices))
        (λ within. gathered-XY (seen s.graph) last.before last.entry is_last (at_entry XY plane) u
        (set_is_XY plane) w within ∙ ap (eqb w) last.vertex)
        (λ out. absent u w out ∙ sym (ne_eqb w v (λ e. true≢false (sym last_live
        ∙ ap (λ x. member x (ids s.graph.vertices)) (sym e) ∙ out))))

    others_are : (w : ℕ) → others last.entry w ≡ eqb w u
    others_are w = by_equal w v
        (λ t e. ap (λ b. is_in last.entry.members w && not b) (eq-eqb w last.entry.vertex (e ∙ sym last.vertex))
        ∙ and-false (is_in last.entry.members w) ∙ sym (ne_eqb w u (λ same. u_apart (sym same ∙ e))))
        (λ t n. ap₂ (λ a b. a && not b) (set_is w n) (ne_eqb w last.entry.vertex (λ e. n (e ∙ last.vertex)))
        ∙ with_true (eqb w u))
      where
        with_true : (b : Bool) → (b && true) ≡ b
        with_true true = refl
        with_true false = refl

    pub set_is_YZ : plane_of s.graph v ≡ YZ → (w : ℕ) →
        is_in last.entry.members w ≡ (eqb w last.entry.vertex || eqb w u)
    set_is_YZ plane w = by_equal w v
        (λ t e. ap (is_in last.entry.members) e ∙ inside ∙ ap inside_in plane
        ∙ sym (ap (λ b. b || eqb w u) (eq-eqb w last.entry.vertex (e ∙ sym last.vertex))))
        (λ t n. set_is w n ∙ sym (ap (λ b. b || eqb w u) (ne_eqb w last.entry.vertex (λ e. n (e ∙ last.vertex)))))

    -- u has those neighbours of v that aren't outputs
    pub linked : plane_of s.graph v ≡ YZ → (w : ℕ) → joined s.graph.edges u w ≡
        (joined s.graph.edges v w && not (member w (end_vertices s.graph.outputs)))
    linked plane w = by_test (member w (ids s.graph.vertices))
        (λ within. gathered-YZ (seen s.graph) last.before last.entry is_last (at_entry YZ plane) u others_are w within
        ∙ ap (λ x. joined s.graph.edges x w && not (member w (end_vertices s.graph.outputs))) last.vertex)
        (λ out. absent u w out ∙ sym (ap (λ b. b && not (member w (end_vertices s.graph.outputs))) (absent v w out)))

    pub link_not_adjacent : plane_of s.graph v ≡ YZ → joined s.graph.edges v u ≡ false
    link_not_adjacent plane = joined_comm s.graph.edges v u ∙ linked plane v
        ∙ ap (λ b. b && not (member v (end_vertices s.graph.outputs))) (no_loop s.graph v r.given.well_formed)

  -- ---- with no output in the set
  module _ (none : HasNoOutput s) where
    empty : (w : ℕ) → w ≢ v → is_in last.entry.members w ≡ false
    empty w n = by_test (is_in last.entry.members w)
        (λ t. let place : (p : ℕ) × HasPlainOutput s.graph p w = at_place w (members_are w t n).0 in in_set w
        ∙ none place.0 w place.1)
        (λ out. out)

    -- at an XY vertex this can't be
    pub no_XY : plane_of s.graph v ≢ XY
    no_XY plane = true≢false (sym odd_here ∙ masked-none (joined s.graph.edges last.entry.vertex)
        (ids s.graph.vertices) (is_in last.entry.members)
        (λ x _. ap (λ b. joined s.graph.edges last.entry.vertex x && b) (nothing x)
        ∙ and-false (joined s.graph.edges last.entry.vertex x)))
      where
        nothing : (x : ℕ) → is_in last.entry.members x ≡ false
        nothing x = by_equal x v (λ _ e. ap (is_in last.entry.members) e ∙ inside ∙ ap inside_in plane)
            (λ _ n. empty x n)

        odd_here : in_odd_neighbourhood (seen s.graph) (is_in last.entry.members) last.entry.vertex ≡ true
        odd_here = last-XY (seen s.graph) last.before last.entry is_last (at_entry XY plane) last.entry.vertex
            (live (seen s.graph) (last.before ++ last.entry ∷ []) functions last.entry.vertex listed)
            ∙ eqb-self last.entry.vertex

    pub only_YZ : plane_of s.graph v ≡ YZ
    only_YZ = at (plane_of s.graph v) no_XY (r.given.planes v last_live)
      where
        at : (plane : Plane) → plane ≢ XY → plane ≢ XZ → plane ≡ YZ
        at XY n m = absurd (n refl)
        at XZ n m = absurd (m refl)
        at YZ n m = refl

    pub set_is_itself : (w : ℕ) → is_in last.entry.members w ≡ eqb w last.entry.vertex
    set_is_itself w = by_equal w v
        (λ _ e. ap (is_in last.entry.members) e ∙ inside ∙ ap inside_in only_YZ
        ∙ sym (eq-eqb w last.entry.vertex (e ∙ sym last.vertex)))
        (λ _ n. empty w n ∙ sym (ne_eqb w last.entry.vertex (λ e. n (e ∙ last.vertex))))

    pub neighbours_are_outputs : (w : ℕ) → joined s.graph.edges v w ≡ true → member w (end_vertices s.graph.outputs) ≡ true
    neighbours_are_outputs w near = by_test (member w (ids s.graph.vertices))
        (λ within. alone-YZ (seen s.graph) last.before last.entry is_last (at_entry YZ only_YZ)
        (λ y. ap (λ b. b && not (eqb y last.entry.vertex)) (set_is_itself y)
        ∙ itself_out (eqb y last.entry.vertex)) w within
        (ap (λ x. joined s.graph.edges x w) last.vertex ∙ near))
        (λ out. absurd (true≢false (sym near ∙ absent v w out)))
      where
        itself_out : (b : Bool) → (b && not b) ≡ false
        itself_out true = refl
        itself_out false = refl
