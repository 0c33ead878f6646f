-- Vertices that are taken off one after the other, and the gates that each costs.
use Rattle.std.proofs.Common.{◌≡◌, ◌≢◌, refl, sym, ◌∙◌, ap, ap₂, subst, le_of_eq, ℕ, ◌+◌, ◌-◌, ◌*◌, ◌≤◌, ◌<◌, true, cond, not, ◌&&◌, ne_eqb, true≢false, List, lt-ltb, length, mul-add, arith}
use Rattle.std.specs.Prelude.{slice_get}
use Rattle.zx_model.specs.Bits.{member}
use Rattle.zx_calculus.specs.Graph.{IsVertex, joined, kind_of, plane_of, end_vertices, plain}
use Rattle.zx_calculus.specs.Graph as graph
use Rattle.zx_calculus.specs.Graph.{is_XY}
use Rattle.zx_calculus.specs.Counts.{not_XY}
use Rattle.std.proofs.lemmas.List.Filters.{length-filter_both}
use Rattle.zx_calculus.specs.Turns.{in_plane}
use Rattle.zx_calculus.proofs.Ids.{and-left, and-right}
use Rattle.open_graph.specs.Planes.{plane_named}
use Rattle.open_graph.specs.declared.plane.Plane.{Plane}
use Rattle.open_graph.specs.declared.plane.Plane.TheVariants.{XY, XZ, YZ}
use Rattle.circuit_laws.specs.Peeling.{HasPlainOutput}
use Rattle.circuit_laws.proofs.Places.{member-places}
use Rattle.zx_extract.specs.Internal.Lists.{others_below, legs_of}
use Rattle.zx_extract.specs.Internal.Leading.{Remainder, Leads, IsReady, IsFrontier, AreTakenOff, cost_of}
use Rattle.zx_extract.specs.Internal.Steps.{IsGathered, HasLast, HasNoOutput, HasOneOutput, AreLegs, AreLegsFree, TakesLegs, IsGadgetTaken, IsLinkedGadgetTaken, IsAdvanced, IsSettling}
use Rattle.zx_extract.proofs.Lasts.{keeps_last, as_long}
use Rattle.zx_extract.proofs.SettledOutputs.{settled_whole}
use Rattle.zx_extract.proofs.Places.{place_of_output}
use Rattle.zx_extract.proofs.Legs.{member-legs, legs_few, legs_fewer}
use Rattle.zx_extract.proofs.Rows.{gathered_all}
use Rattle.zx_extract.proofs.LastVertex.{link_not_adjacent}
use Rattle.zx_extract.proofs.Advancing.{advanced_ready, advanced_leads, advanced_settled, advanced_shorter}
use Rattle.zx_extract.proofs.Removing.{removed_ready, removed_frontier, removed_shorter, removed_leads, gadget_gone, gadget_leads, linked_gone, linked_leads}
use Rattle.zx_extract.proofs.Leads.{leads_nothing, leads_then, leads_within}

pub taken_nothing : (s : Remainder) → IsReady s → IsFrontier s.graph → AreTakenOff 0 s s
unfolding leads_within leads_nothing
taken_nothing s r f = record {
  spiders = 0;
  gadgets = 0;
  leads = leads_within s 0 0 0 _ s (omega arith) (leads_nothing s);
  doubled = refl;
  ready = r;
  frontier = f;
}

cost-add : (n p q p' q' : ℕ) → (2 * n * p + 3 * n * q) + (2 * n * p' + 3 * n * q') ≤ 2 * n * (p + p') + 3 * n * (q + q')
cost-add n p q p' q' = omega (arith, mul-add (2 * n) p p', mul-add (3 * n) q q')

pub taken_then : {d e : ℕ} (s t u : Remainder) → AreTakenOff d s t → AreTakenOff e t u → AreTakenOff (d + e) s u
unfolding leads_within leads_then
taken_then s t u a b = record {
  spiders = a.spiders + b.spiders;
  gadgets = a.gadgets + b.gadgets;
  leads = leads_within s _ _ _ _ u (cost-add (length s.graph.outputs) a.spiders a.gadgets b.spiders b.gadgets)
      (leads_then s _ _ _ t _ _ _ u a.leads
      (leads_within t _ _ _ _ u (le_of_eq (ap (λ n. 2 * n * b.spiders + 3 * n * b.gadgets) a.leads.outputs)) b.leads));
  doubled = ap₂ (λ m n. m + n) a.doubled b.doubled;
  ready = b.ready;
  frontier = b.frontier;
}

others_of : (q n : ℕ) → q < n → others_below q n ≡ n - 1
others_of q n within = ap (λ b. cond b (n - 1) n) (lt-ltb q n within)

-- rows of legs are added, and a gadget on outputs goes
pub taken_gadget : (s : Remainder) (v : ℕ) (t u : Remainder) → TakesLegs s v t → (leads : Leads t (2 * length (legs_of t.graph v)) 0 1 u) → leads.doublings ≡ 1 →
    IsReady u → IsFrontier u.graph → AreTakenOff 1 s u
unfolding leads_within leads_then
taken_gadget s v t u legs leads one r f = record {
  spiders = 0;
  gadgets = 1;
  leads = leads_within s _ 0 1 _ u (cost _ _ _ _ legs.fewer (legs_few s.graph v))
      (leads_then s _ 0 0 t _ 0 1 u legs.rows.leads leads);
  doubled = omega (arith, legs.rows.leads.few_doublings, one);
  ready = r;
  frontier = f;
}
  where
    cost : (n rows left legs : ℕ) → rows + left ≤ legs → legs ≤ n → rows + 2 * left ≤ 2 * n * 0 + 3 * n * 1
    cost n rows left legs e f = omega arith

-- rows are gathered at an output, rows of legs are added, and a gadget goes through the output
pub taken_linked : (s : Remainder) (q v : ℕ) (t u w : Remainder) → q < length s.graph.outputs →
    IsGathered s q (length s.graph.outputs) t → length (legs_of t.graph v) + 1 ≤ length t.graph.outputs →
    TakesLegs t v u → (leads : Leads u (2 * length (legs_of u.graph v) + 3) 0 1 w) → leads.doublings ≡ 0 → IsReady w →
    IsFrontier w.graph → AreTakenOff 0 s w
unfolding leads_within leads_then
taken_linked s q v t u w within g fewer legs leads none r f = record {
  spiders = 0;
  gadgets = 1;
  leads = leads_within s _ 0 1 _ w
      (cost (length s.graph.outputs) _ _ _ _ within (others_of q _ within) legs.fewer
      (subst (λ n. length (legs_of t.graph v) + 1 ≤ n) g.rows.leads.outputs fewer))
      (leads_then s _ 0 0 t _ 0 1 w g.rows.leads (leads_then t _ 0 0 u _ 0 1 w legs.rows.leads leads));
  doubled = omega (arith, g.rows.leads.few_doublings, legs.rows.leads.few_doublings, none);
  ready = r;
  frontier = f;
}
  where
    cost : (n others rows left legs : ℕ) → q < n → others ≡ n - 1 → rows + left ≤ legs → legs + 1 ≤ n →
        others + (rows + (2 * left + 3)) ≤ 2 * n * 0 + 3 * n * 1
    cost n others rows left legs within e f g = omega arith

-- rows are gathered at an output, an XY vertex takes its place, and is settled there
pub taken_spider : (s : Remainder) (q : ℕ) (t u w : Remainder) → q < length s.graph.outputs →
    IsGathered s q (length s.graph.outputs) t →
    Leads t 1 1 0 u → Leads u (1 + others_below q (length u.graph.outputs)) 0 0 w → IsReady w → IsFrontier w.graph →
    AreTakenOff 0 s w
taken_spider s q t u w within g advanced settled r f =
    let whole : Leads s (cost_of (length s.graph.outputs) 1 0) 1 0 w =
    leads_within s _ 1 0 _ w (cost (length s.graph.outputs) _ within (others_of q _ within))
    (leads_then s _ 0 0 t _ 1 0 w g.rows.leads (leads_then t 1 1 0 u _ 0 0 w advanced
    (subst (λ n. Leads u (1 + others_below q n) 0 0 w) (advanced.outputs ∙ g.rows.leads.outputs) settled))) in
    record {
      spiders = 1;
      gadgets = 0;
      leads = whole;
      doubled = omega (arith, whole.few_doublings);
      ready = r;
      frontier = f;
    }
  where
    cost : (n others : ℕ) → q < n → others ≡ n - 1 → others + (1 + (1 + others)) ≤ 2 * n * 1 + 3 * n * 0
    cost n others within e = omega arith

-- ---- the steps
-- the last vertex after rows of legs were added
module _ {s t : Remainder} {v : ℕ} (last : HasLast s.table v) (legs : TakesLegs s v t) where
  pub legs_last : HasLast t.table v
  legs_last = keeps_last s.table t.table v legs.rows.order last

  pub legs_none : HasNoOutput s → HasNoOutput t
  legs_none none p u o = legs.stays u ∙ none p u (ap (λ es. slice_get es p) (sym legs.rows.ends) ∙ o)

  pub legs_one : (q : ℕ) → HasOneOutput s q → HasOneOutput t q
  legs_one q one p u o = legs.stays u ∙ one p u (ap (λ es. slice_get es p) (sym legs.rows.ends) ∙ o)

  pub legs_plane : (plane : graph.Plane) → plane_of s.graph v ≡ plane → plane_of t.graph v ≡ plane
  legs_plane plane e = ap (λ vs. (kind_of vs v).plane) legs.rows.same ∙ e

pub none_free : {s : Remainder} (v : ℕ) → IsReady s → HasNoOutput s → AreLegsFree s v
none_free {s} v r none u there =
    let place : (p : ℕ) × HasPlainOutput s.graph p u =
    place_of_output s.graph.outputs u r.plain (and-left _ _ (sym (member-legs s.graph v u) ∙ there)) in
    none place.0 u place.1

pub gadget_taken : {s t u : Remainder} {v : ℕ} → TakesLegs s v t →
    ((qubits : List ℕ) × AreLegs t.graph v qubits × IsGadgetTaken t v qubits u) →
    AreTakenOff 1 s u × (length u.table + 1 ≡ length s.table)
unfolding gadget_leads removed_leads
gadget_taken {s} {t} {u} {v} legs a =
    let gone = gadget_gone legs.rows.ready legs.rows.frontier a.2 in (
      taken_gadget s v t u legs (gadget_leads legs.rows.ready legs.rows.frontier a.2 a.1) refl
          (removed_ready gone) (removed_frontier gone),
      removed_shorter gone ∙ as_long s.table t.table legs.rows.order,
    )

pub named_YZ : (g : graph.Graph) (v : ℕ) {k : ℕ} {named : Plane} → in_plane (plane_named named) k ≡ kind_of g.vertices v →
    named ≡ YZ → plane_of g v ≡ graph.YZ
named_YZ g v weight e = sym (ap (λ (kind : graph.Kind). kind.plane) weight) ∙ ap plane_named e

-- no vertex is in the XZ plane
pub named_XY : {s : Remainder} {k : ℕ} {named : Plane} (v : ℕ) → IsReady s → IsVertex s.graph v →
    in_plane (plane_named named) k ≡ kind_of s.graph.vertices v → named ≢ YZ → plane_of s.graph v ≡ graph.XY
named_XY {s} {named = named} v r live weight not_YZ =
    at named (plane_of s.graph v) (ap (λ (kind : graph.Kind). kind.plane) weight) not_YZ (r.given.planes v live)
  where
    at : (named : Plane) (plane : graph.Plane) → plane_named named ≡ plane → named ≢ YZ → plane ≢ graph.XZ →
        plane ≡ graph.XY
    at XY plane e n m = sym e
    at XZ plane e n m = absurd (m (sym e))
    at YZ plane e n m = absurd (n refl)

module _ {s t : Remainder} {v q : ℕ} (last : HasLast s.table v) (g : IsGathered s q (length s.graph.outputs) t) where
  pub still_last : HasLast t.table v
  still_last = keeps_last s.table t.table v g.rows.order last

  pub one_left : HasOneOutput t q
  one_left = gathered_all s q t g

  module _ (was : plane_of s.graph v ≡ graph.YZ) where
    pub still_YZ : plane_of t.graph v ≡ graph.YZ
    still_YZ = ap (λ vs. (kind_of vs v).plane) g.rows.same ∙ was

    -- the output that stays is no leg
    pub one_free : AreLegsFree t v
    one_free u there =
        let parts : (member u (end_vertices t.graph.outputs) && joined t.graph.edges v u) ≡ true =
        sym (member-legs t.graph v u) ∙ there in
        let place : (p : ℕ) × HasPlainOutput t.graph p u =
        place_of_output t.graph.outputs u g.rows.ready.plain (and-left _ _ parts) in
        one_left place.0 u place.1 ∙ ne_eqb place.0 q (λ e. true≢false (sym (and-right _ _ parts)
        ∙ link_not_adjacent g.rows.ready g.rows.frontier still_last q one_left
        (subst (λ k. HasPlainOutput t.graph k u) e place.1) still_YZ))

    pub linked_taken : {u w : Remainder} → q < length s.graph.outputs → TakesLegs t v u →
        ((qubits : List ℕ) × AreLegs u.graph v qubits × IsLinkedGadgetTaken u v q qubits w) →
        AreTakenOff 0 s w × (length w.table + 1 ≡ length s.table)
    unfolding linked_leads removed_leads
    linked_taken {u} {w} within legs a =
        let gone = linked_gone legs.rows.ready legs.rows.frontier a.2 in (
          taken_linked s q v t u w within g fewer legs
              (linked_leads legs.rows.ready legs.rows.frontier a.2 a.1) refl (removed_ready gone) (removed_frontier gone),
          removed_shorter gone ∙ as_long t.table u.table legs.rows.order ∙ as_long s.table t.table g.rows.order,
        )
      where
        at_link : HasPlainOutput t.graph q a.2.peel.link
        at_link = ap (λ es. slice_get es q) (sym legs.rows.ends) ∙ a.2.peel.output

        fewer : length (legs_of t.graph v) + 1 ≤ length t.graph.outputs
        fewer = legs_fewer t.graph v a.2.peel.link (member-places t.graph.outputs q (plain a.2.peel.link) at_link)
            (link_not_adjacent g.rows.ready g.rows.frontier still_last q one_left at_link still_YZ)

  module _ (plane : plane_of s.graph v ≡ graph.XY) where
    pub still_XY : plane_of t.graph v ≡ graph.XY
    still_XY = ap (λ vs. (kind_of vs v).plane) g.rows.same ∙ plane

    module _ {u : Remainder} (a : IsAdvanced t v q u) where
      pub spider_ready : IsReady u
      spider_ready = advanced_ready g.rows.ready g.rows.frontier still_XY one_left a

      pub spider_taken : {w : Remainder} → q < length s.graph.outputs → IsSettling u q (length u.graph.outputs) w →
          AreTakenOff 0 s w × (length w.table + 1 ≡ length s.table)
      spider_taken {w} within c = (
        taken_spider s q t u w within g (advanced_leads g.rows.ready g.rows.frontier still_XY one_left a)
            c.settles.leads c.settles.ready
            (settled_whole u q w (advanced_settled g.rows.ready g.rows.frontier still_XY one_left a) c),
        ap (λ table. length table + 1) c.settles.table
            ∙ advanced_shorter g.rows.ready g.rows.frontier still_XY one_left a ∙ as_long s.table t.table g.rows.order,
      )

-- the sum is doubled no more often than there are vertices that aren't XY
pub doubled_few : {d : ℕ} {s t : Remainder} → AreTakenOff d s t → d ≤ not_XY s.graph
doubled_few {d} {s} {t} a = few d _ _ _ _ a.doubled a.leads.few_doublings a.leads.others
  where
    few : (d doublings gadgets left all : ℕ) → doublings ≡ d → doublings ≤ gadgets → left + gadgets ≡ all → d ≤ all
    few d doublings gadgets left all e f g = omega (arith, e, f, g)

pub few_not_XY : (g : graph.Graph) → not_XY g ≤ length g.vertices
few_not_XY g =
    let both = length-filter_both (λ (x : graph.Vertex). not (is_XY x.kind.plane)) (λ x. not (not (is_XY x.kind.plane))) (λ x. refl) g.vertices in
    omega (arith, both)
