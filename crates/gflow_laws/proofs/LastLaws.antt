-- The last correction of a flow: all that comes after its vertex are outputs. What is known of its set, and the flow
-- after its vertex became an output, or went.
use Rattle.std.proofs.Common.{◌≡◌, ◌≢◌, inl, inr, refl, sym, ◌∙◌, ap, ap₂, subst, ℕ, Bool, true, false, cond, not, ◌&&◌, ◌||◌, eqb, List, [], ◌∷◌, ◌++◌, filter, eq-eqb, ne_eqb, true≢false, eqb-true}
use Rattle.zx_model.specs.Bits.{xor, member}
use Rattle.zx_calculus.specs.Graph.{XY, YZ, Graph, ids, joined, end_vertices, plane_of, WellFormed, different}
use Rattle.zx_calculus.proofs.Booleans.{parities, xor-false, and-false, and-true, or-true, or-false}
use Rattle.zx_calculus.proofs.Ids.{by_test, by_equal, and-left, and-right, or-left, or-right, eqb-self, eqb_comm, member-here, member-filter, Distinct-removed, removed, apart_of_member}
use Rattle.zx_calculus.proofs.Splitting.{interior_of, off_XY}
use Rattle.zx_calculus.proofs.Kept.{both}
use Rattle.gflow_laws.specs.Seen.{Seen, seen, in_odd_neighbourhood}
use Rattle.gflow_laws.specs.Flow.{Correction, order_of, set_of, is_in, is_later, IsFlow, Corrects, inside_in, odd_in}
use Rattle.gflow_laws.specs.Tables.{with_sets, without_set, symmetric_difference}
use Rattle.gflow_laws.specs.Removals.{removal_table}
use Rattle.gflow_laws.specs.Correcting.{Alike, Distinct, FlowAsFunctions, Simple}
use Rattle.gflow_laws.specs.Outputs.{with_row_added, MayAddRow, row_added_set, row_added_table, IsLast, IsLeafOutput, others, without_vertex, advanced, advanced_table, last_removed_table}
use Rattle.gflow_laws.proofs.Linear.{masked-same, masked-none, masked-of-xor, masked-one}
use Rattle.gflow_laws.proofs.Removals.{removed_from, odd-removed, Flows-removal}
use Rattle.gflow_laws.proofs.Lists.{is_in-one, is_later-outside, member-append}
use Rattle.gflow_laws.proofs.Flows.{live, Flows-from}
use Rattle.gflow_laws.proofs.Tables.{order_of-append, with_sets-append, set_of-append, set_of-last, Corrects-same, Flows-with_sets}
use Rattle.gflow_laws.proofs.OutputLaws.{Corrects-changed, no_output, not_output, flow_seen, Simple-row_added, Flows-row_added}
use Rattle.gflow_laws.proofs.Views.{Simple-seen}

-- ---- a list with one more at its end

pub Distinct-front : (xs : List ℕ) (v : ℕ) → Distinct (xs ++ v ∷ []) → Distinct xs × (member v xs ≡ false)
Distinct-front [] v d = (tt, refl)
Distinct-front (x ∷ xs) v d =
    let rest : Distinct xs × (member v xs ≡ false) = Distinct-front xs v d.1 in
    let absent : (member x xs || member x (v ∷ [])) ≡ false = sym (member-append x xs (v ∷ [])) ∙ d.0 in (
      (or-left _ _ absent, rest.0),
      ap₂ (λ a b. a || b) (eqb_comm v x ∙ sym (is_in-one v x) ∙ or-right _ _ absent) rest.1,
    )

-- what comes after the last isn't in the list
is_later-last : (xs : List ℕ) (v w : ℕ) → member v xs ≡ false → is_later (xs ++ v ∷ []) v w ≡ true → member w (xs ++ v ∷ []) ≡ false
is_later-last [] v w out e = ap (λ b. b || false) (by_test (eqb w v) (λ t. absurd (true≢false (sym e ∙ ap (λ b. not b && (eqb v v || false)) t))) (λ f. f))
is_later-last (x ∷ xs) v w out e =
    let other : eqb v x ≡ false = or-left _ _ out in
    let here : eqb w x ≡ false = by_test (eqb w x) (λ t. absurd (true≢false (sym e ∙ ap (λ b. not b && (eqb v x || is_later (xs ++ v ∷ []) v w)) t))) (λ f. f) in
    let rest : is_later (xs ++ v ∷ []) v w ≡ true = sym (ap₂ (λ a b. not a && (b || is_later (xs ++ v ∷ []) v w)) here other) ∙ e in
    ap₂ (λ a b. a || b) here (is_later-last xs v w (or-right _ _ out) rest)

-- the order of a front part decides for its members
is_later-front : (xs ys : List ℕ) (v w : ℕ) → member v xs ≡ true → is_later (xs ++ ys) v w ≡ true → is_later xs v w ≡ true
is_later-front [] ys v w there e = absurd (true≢false (sym there))
is_later-front (x ∷ xs) ys v w there e = carried_on (eqb w x) (eqb v x) (member v xs) _ _ there (is_later-front xs ys v w) e
  where
    carried_on : (b c m p q : Bool) → (c || m) ≡ true → (m ≡ true → p ≡ true → q ≡ true) → (not b && (c || p)) ≡ true → (not b && (c || q)) ≡ true
    carried_on true c m p q t step h = h
    carried_on false true m p q t step h = refl
    carried_on false false m p q t step h = step t h

-- ---- the last correction

-- its vertex is listed, once
pub last_listed : (pre : List Correction) (e : Correction) → member e.vertex (order_of (pre ++ e ∷ [])) ≡ true
last_listed pre e = ap (member e.vertex) (order_of-append pre e) ∙ member-append e.vertex (order_of pre) (e.vertex ∷ [])
    ∙ ap (λ b. member e.vertex (order_of pre) || b) (member-here e.vertex []) ∙ or-true (member e.vertex (order_of pre))

front : (s : Seen) (pre : List Correction) (e : Correction) → FlowAsFunctions s (pre ++ e ∷ []) → Distinct (order_of pre) × (member e.vertex (order_of pre) ≡ false)
front s pre e f = Distinct-front (order_of pre) e.vertex (subst Distinct (order_of-append pre e) f.each_once)

pub last_corrects : (s : Seen) (pre : List Correction) (e : Correction) → FlowAsFunctions s (pre ++ e ∷ []) → Corrects s (is_later (order_of (pre ++ e ∷ []))) e.vertex (is_in e.members)
last_corrects s pre e f =
    subst (λ l. Corrects s (is_later (order_of (pre ++ e ∷ []))) e.vertex (is_in l)) (set_of-last pre e (front s pre e f).1) (f.corrects e.vertex (last_listed pre e))

-- what comes after the last vertex is an output
later_output : (s : Seen) (pre : List Correction) (e : Correction) → FlowAsFunctions s (pre ++ e ∷ []) → (w : ℕ) → member w s.ids ≡ true →
    is_later (order_of (pre ++ e ∷ [])) e.vertex w ≡ true → s.output w ≡ true
later_output s pre e f w within later =
    let out : member w (order_of pre ++ e.vertex ∷ []) ≡ false =
    is_later-last (order_of pre) e.vertex w (front s pre e f).1 (ap (λ l. is_later l e.vertex w) (sym (order_of-append pre e)) ∙ later) in
    by_test (s.output w) (λ t. t)
    (λ none. absurd (true≢false (sym (f.non_outputs w ∙ ap₂ (λ a b. a && not b) within none) ∙ ap (member w) (order_of-append pre e) ∙ out)))

pub last-members : (s : Seen) (pre : List Correction) (e : Correction) → IsLast s pre e → (w : ℕ) → is_in e.members w ≡ true → w ≢ e.vertex →
    (s.output w ≡ true) × (s.input w ≡ false)
last-members s pre e last w there ne =
    let a : Corrects s (is_later (order_of (pre ++ e ∷ []))) e.vertex (is_in e.members) = last_corrects s pre e last.flow in
    (later_output s pre e last.flow w (a.members w there) (a.order w there ne), a.input w there)

-- no output has an odd number of neighbours in a set of outputs
no_odd_output : (s : Seen) (A : ℕ → Bool) (w : ℕ) → ((p q : ℕ) → s.output p ≡ true → s.output q ≡ true → s.adjacent p q ≡ false) →
    ((x : ℕ) → A x ≡ true → s.output x ≡ true) → s.output w ≡ true → in_odd_neighbourhood s A w ≡ false
no_odd_output s A w apart outputs at_w = masked-none (s.adjacent w) s.ids A (λ x _. by_test (A x)
    (λ t. ap (λ b. b && A x) (apart w x at_w (outputs x t)))
    (λ f. ap (λ b. s.adjacent w x && b) f ∙ and-false (s.adjacent w x)))

-- outside the outputs the last set has no odd neighbour but its vertex
no_odd_inner : (s : Seen) (pre : List Correction) (e : Correction) → IsLast s pre e → (w : ℕ) → member w s.ids ≡ true → s.output w ≡ false → w ≢ e.vertex → in_odd_neighbourhood s (is_in e.members) w ≡ false
no_odd_inner s pre e last w within none ne = by_test (in_odd_neighbourhood s (is_in e.members) w)
    (λ t. absurd (true≢false (sym (later_output s pre e last.flow w within ((last_corrects s pre e last.flow).odd_order w within t ne)) ∙ none)))
    (λ f. f)

-- an XY vertex is alone in the odd neighbourhood of its set
pub last-XY : (s : Seen) (pre : List Correction) (e : Correction) → IsLast s pre e → s.plane e.vertex ≡ XY → (w : ℕ) → member w s.ids ≡ true →
    in_odd_neighbourhood s (is_in e.members) w ≡ eqb w e.vertex
last-XY s pre e last plane w within = by_equal w e.vertex
    (λ t same. ap (in_odd_neighbourhood s (is_in e.members)) same ∙ a.odd_there ∙ ap odd_in plane ∙ sym t)
    (λ f ne. by_test (s.output w) (no_odd_output s (is_in e.members) w last.apart outputs) (λ none. no_odd_inner s pre e last w within none ne) ∙ sym f)
  where
    a : Corrects s (is_later (order_of (pre ++ e ∷ []))) e.vertex (is_in e.members)
    a = last_corrects s pre e last.flow

    outputs : (x : ℕ) → is_in e.members x ≡ true → s.output x ≡ true
    outputs x t = (last-members s pre e last x t (λ same. true≢false (sym t ∙ ap (is_in e.members) same ∙ a.inside ∙ ap inside_in plane))).0

others_are_outputs : (s : Seen) (pre : List Correction) (e : Correction) → IsLast s pre e → (x : ℕ) → others e x ≡ true → s.output x ≡ true
others_are_outputs s pre e last x t =
    (last-members s pre e last x (and-left _ _ t) (λ same. true≢false (sym (and-right (is_in e.members x) (not (eqb x e.vertex)) t) ∙ ap not (eq-eqb x e.vertex same)))).0

with_itself : (A : ℕ → Bool) (v w : ℕ) → A v ≡ true → A w ≡ xor (A w && not (eqb w v)) (eqb w v)
with_itself A v w there = by_equal w v
    (λ t same. ap A same ∙ there ∙ sym (ap (λ b. xor (A w && not b) b) t ∙ ap (λ b. xor b true) (and-false (A w))))
    (λ f ne. sym (ap (λ b. xor (A w && not b) b) f ∙ xor-false (A w && true) ∙ and-true (A w)))

cleared : (o a x : Bool) → o ≡ xor a x → a ≡ xor o x
cleared o a x e = sym (ap (λ b. xor b x) e ∙ simp parities)

-- the rows of the other members of the set of a YZ vertex add up to those of its neighbours that aren't outputs
pub last-YZ : (s : Seen) (pre : List Correction) (e : Correction) → IsLast s pre e → s.plane e.vertex ≡ YZ → (w : ℕ) → member w s.ids ≡ true →
    in_odd_neighbourhood s (others e) w ≡ (s.adjacent e.vertex w && not (s.output w))
last-YZ s pre e last plane w within = by_test (s.output w)
    (λ out. no_odd_output s (others e) w last.apart (others_are_outputs s pre e last) out ∙ sym (ap (λ b. s.adjacent e.vertex w && not b) out ∙ and-false (s.adjacent e.vertex w)))
    (λ none. split ∙ ap₂ xor (own none) (last.simple.symmetric w e.vertex) ∙ sym (ap (λ b. s.adjacent e.vertex w && not b) none ∙ and-true (s.adjacent e.vertex w)))
  where
    a : Corrects s (is_later (order_of (pre ++ e ∷ []))) e.vertex (is_in e.members)
    a = last_corrects s pre e last.flow

    there : member e.vertex s.ids ≡ true
    there = live s (pre ++ e ∷ []) last.flow e.vertex (last_listed pre e)

    own : s.output w ≡ false → in_odd_neighbourhood s (is_in e.members) w ≡ false
    own none = by_equal w e.vertex (λ t same. ap (in_odd_neighbourhood s (is_in e.members)) same ∙ a.odd_there ∙ ap odd_in plane) (λ f ne. no_odd_inner s pre e last w within none ne)

    split : in_odd_neighbourhood s (others e) w ≡ xor (in_odd_neighbourhood s (is_in e.members) w) (s.adjacent w e.vertex)
    split = cleared (in_odd_neighbourhood s (is_in e.members) w) (in_odd_neighbourhood s (others e) w) (s.adjacent w e.vertex)
        (masked-same (s.adjacent w) (s.adjacent w) s.ids (is_in e.members) (λ x. xor (others e x) (eqb x e.vertex))
        (λ x _. ap (λ b. s.adjacent w x && b) (with_itself (is_in e.members) e.vertex x (a.inside ∙ ap inside_in plane)))
        ∙ masked-of-xor (s.adjacent w) s.ids (others e) (λ x. eqb x e.vertex)
        ∙ ap (xor (in_odd_neighbourhood s (others e) w)) (masked-one (s.adjacent w) s.ids e.vertex last.simple.distinct there))

pub last-not_odd : (s : Seen) (pre : List Correction) (e : Correction) → IsLast s pre e → s.plane e.vertex ≡ YZ → in_odd_neighbourhood s (others e) e.vertex ≡ false
last-not_odd s pre e last plane =
    last-YZ s pre e last plane e.vertex (live s (pre ++ e ∷ []) last.flow e.vertex (last_listed pre e)) ∙ ap (λ b. b && not (s.output e.vertex)) (last.simple.no_loop e.vertex)

-- ---- rows added, one after the other, until one member is left

pub last_of_graph : (g : Graph) (pre : List Correction) (e : Correction) → WellFormed g → IsFlow g (pre ++ e ∷ []) →
    ((p q : ℕ) → member p (end_vertices g.outputs) ≡ true → member q (end_vertices g.outputs) ≡ true → joined g.edges p q ≡ false) → IsLast (seen g) pre e
last_of_graph g pre e wf flow apart = record { simple = Simple-seen g wf; flow = Flows-from (seen g) (pre ++ e ∷ []) flow; apart = apart }

pub last-row_added : (s : Seen) (c t : ℕ) (pre : List Correction) (e : Correction) → MayAddRow s c t → IsLast s pre e →
    IsLast (with_row_added s c t) (row_added_table c t pre) record { vertex = e.vertex; members = row_added_set c t e.members }
last-row_added s c t pre e may last = record {
  simple = Simple-row_added s c t last.simple;
  flow = subst (FlowAsFunctions (with_row_added s c t)) (with_sets-append (λ v members. row_added_set c t members) pre e) (Flows-row_added s c t (pre ++ e ∷ []) last.simple may last.flow);
  apart = λ p q at_p at_q. ap₂ xor (last.apart p q at_p at_q)
      (ap₂ (λ a b. xor (eqb t p && a) (b && eqb t q)) (last.apart c q may.output at_q) (last.apart c p may.output at_p) ∙ xor-false (eqb t p && false) ∙ and-false (eqb t p));
}

row_of_one : (s : Seen) (A : ℕ → Bool) (x w : ℕ) → Simple s → member x s.ids ≡ true → ((y : ℕ) → A y ≡ eqb y x) → in_odd_neighbourhood s A w ≡ s.adjacent x w
row_of_one s A x w simple there one =
    ap (λ B. in_odd_neighbourhood s B w) (λ i y. one y i) ∙ masked-one (s.adjacent w) s.ids x simple.distinct there ∙ simple.symmetric w x

member_there : (s : Seen) (pre : List Correction) (e : Correction) → IsLast s pre e → (x : ℕ) → is_in e.members x ≡ true → member x s.ids ≡ true
member_there s pre e last = (last_corrects s pre e last.flow).members

pub gathered-XY : (s : Seen) (pre : List Correction) (e : Correction) → IsLast s pre e → s.plane e.vertex ≡ XY → (x : ℕ) → ((y : ℕ) → is_in e.members y ≡ eqb y x) →
    (w : ℕ) → member w s.ids ≡ true → s.adjacent x w ≡ eqb w e.vertex
gathered-XY s pre e last plane x one w within =
    sym (row_of_one s (is_in e.members) x w last.simple (member_there s pre e last x (one x ∙ eqb-self x)) one) ∙ last-XY s pre e last plane w within

pub gathered-YZ : (s : Seen) (pre : List Correction) (e : Correction) → IsLast s pre e → s.plane e.vertex ≡ YZ → (x : ℕ) → ((y : ℕ) → others e y ≡ eqb y x) →
    (w : ℕ) → member w s.ids ≡ true → s.adjacent x w ≡ (s.adjacent e.vertex w && not (s.output w))
gathered-YZ s pre e last plane x one w within =
    sym (row_of_one s (others e) x w last.simple (member_there s pre e last x (and-left _ _ (one x ∙ eqb-self x))) one) ∙ last-YZ s pre e last plane w within

pub alone-YZ : (s : Seen) (pre : List Correction) (e : Correction) → IsLast s pre e → s.plane e.vertex ≡ YZ → ((y : ℕ) → others e y ≡ false) →
    (w : ℕ) → member w s.ids ≡ true → s.adjacent e.vertex w ≡ true → s.output w ≡ true
alone-YZ s pre e last plane none w within near = by_test (s.output w) (λ t. t)
    (λ inner. absurd (true≢false (sym (ap₂ (λ a b. a && not b) near inner) ∙ sym (last-YZ s pre e last plane w within)
    ∙ masked-none (s.adjacent w) s.ids (others e) (λ y _. ap (λ b. s.adjacent w y && b) (none y) ∙ and-false (s.adjacent w y)))))

-- ---- the last vertex becomes an output, or goes

pub filter-removed : (u : ℕ) (vs : List ℕ) → filter (different u) vs ≡ removed u vs
filter-removed u [] = refl
filter-removed u (v ∷ vs) = by_test (eqb u v) (λ t. rw t (filter-removed u vs)) (λ f. rw f (ap (λ r. v ∷ r) (filter-removed u vs)))

same_rest : (s : Seen) (u : ℕ) → without_vertex s u ≡ removed_from s u
same_rest s u = λ i. record { ids = filter-removed u s.ids i; adjacent = s.adjacent; plane = s.plane; input = s.input; output = s.output }

Distinct-rest : (s : Seen) (u : ℕ) → Distinct s.ids → Distinct (without_vertex s u).ids
Distinct-rest s u d = subst Distinct (sym (filter-removed u s.ids)) (Distinct-removed u s.ids d)

pub Flows-without_vertex : (s : Seen) (u : ℕ) (table : List Correction) → member u s.ids ≡ true → s.plane u ≢ XY → s.output u ≡ false →
    FlowAsFunctions s table → FlowAsFunctions (without_vertex s u) (removal_table u table)
Flows-without_vertex s u table there plane none f = subst (λ t. FlowAsFunctions t (removal_table u table)) (sym (same_rest s u)) (Flows-removal s u table there plane none f)

pub without_vertex_flow : (g : Graph) (u : ℕ) (h : Graph) (table : List Correction) → WellFormed g → WellFormed h → member u (ids g.vertices) ≡ true → plane_of g u ≢ XY →
    Alike (without_vertex (seen g) u) (seen h) → IsFlow g table → IsFlow h (removal_table u table)
without_vertex_flow g u h table wg wh there plane alike flow =
    flow_seen (without_vertex (seen g) u) h (removal_table u table) (Distinct-rest (seen g) u (Simple-seen g wg).distinct) wh alike
    (Flows-without_vertex (seen g) u table there plane (interior_of g u wg (off_XY (plane_of g u) plane)).no_output (Flows-from (seen g) table flow))

without_set-last : (pre : List Correction) (e : Correction) → member e.vertex (order_of pre) ≡ false → without_set e.vertex (pre ++ e ∷ []) ≡ pre
without_set-last [] e out = ap (λ b. cond b [] (e ∷ [])) (eqb-self e.vertex)
without_set-last (x ∷ xs) e out =
    ap₂ (λ b r. cond b r (x ∷ r)) (or-left _ _ out) (without_set-last xs e (or-right _ _ out))

pub removal-last : (pre : List Correction) (e : Correction) → Distinct (order_of (pre ++ e ∷ [])) → removal_table e.vertex (pre ++ e ∷ []) ≡ last_removed_table e pre
removal-last pre e distinct =
    let out : member e.vertex (order_of pre) ≡ false = (Distinct-front (order_of pre) e.vertex (subst Distinct (order_of-append pre e) distinct)).1 in
    ap₂ (λ own rest. with_sets (λ v members. cond (is_in members e.vertex) (symmetric_difference members own) members) rest) (set_of-last pre e out) (without_set-last pre e out)

-- without x a set has the same odd neighbours, but for those of x
odd-advanced : (s : Seen) (x v : ℕ) (A : ℕ → Bool) (w : ℕ) → Simple s → s.adjacent x w ≡ false → in_odd_neighbourhood (advanced s x v) (λ y. A y && different x y) w ≡ in_odd_neighbourhood s A w
odd-advanced s x v A w simple off =
    ap (λ t. in_odd_neighbourhood t B w) (same_rest s x) ∙ odd-removed s x B w (ap (λ b. A x && not b) (eqb-self x) ∙ and-false (A x))
    ∙ masked-same (s.adjacent w) (s.adjacent w) s.ids B A (λ y _. by_equal x y
    (λ t same. let apart : s.adjacent w y ≡ false = ap (s.adjacent w) (sym same) ∙ simple.symmetric w x ∙ off in ap (λ b. b && B y) apart ∙ sym (ap (λ b. b && A y) apart))
    (λ f ne. ap (λ b. s.adjacent w y && (A y && not b)) f ∙ ap (λ b. s.adjacent w y && b) (and-true (A y))))
  where
    B : ℕ → Bool
    B y = A y && different x y

ended : (l e m o k : Bool) → (l || e) ≡ (m && not o) → (e ≡ true → l ≡ false) → (k ≡ true → o ≡ true) → l ≡ ((m && not k) && not (e || (o && not k)))
ended l true m o k h out at_k = out refl ∙ sym (and-false (m && not k))
ended l false m o true h out at_k = sym (or-false l) ∙ h ∙ ap (λ b. m && not b) (at_k refl) ∙ and-false m ∙ sym (ap (λ b. b && not (o && false)) (and-false m))
ended l false m o false h out at_k = sym (or-false l) ∙ h ∙ sym (ap₂ (λ a b. a && not b) (and-true m) (and-true o))

pub Flows-advanced : (s : Seen) (pre : List Correction) (e : Correction) (x : ℕ) → Simple s → IsLeafOutput s x e.vertex → FlowAsFunctions s (pre ++ e ∷ []) →
    FlowAsFunctions (advanced s x e.vertex) (advanced_table x pre)
Flows-advanced s pre e x simple leaf f =
    Flows-with_sets (advanced s x e.vertex) (λ u members. filter (different x) members) pre (front s pre e f).0 non_outputs
    (λ u there. Corrects-same (advanced s x e.vertex) (is_later (order_of pre)) u (λ w. is_in (set_of pre u) w && different x w) (is_in (filter (different x) (set_of pre u)))
    (λ w. sym (member-filter (different x) (set_of pre u) w)) (corrected u there (is_in (set_of pre u))
    (subst (λ l. Corrects s (is_later (order_of (pre ++ e ∷ []))) u (is_in l)) (set_of-append pre e u there) (f.corrects u (listed_all u there)))))
  where
    v : ℕ
    v = e.vertex

    v_out : member v (order_of pre) ≡ false
    v_out = (front s pre e f).1

    in_order : (w : ℕ) → member w (order_of (pre ++ e ∷ [])) ≡ (member w (order_of pre) || eqb w v)
    in_order w = ap (member w) (order_of-append pre e) ∙ member-append w (order_of pre) (v ∷ []) ∙ ap (λ b. member w (order_of pre) || b) (is_in-one v w)

    listed_all : (u : ℕ) → member u (order_of pre) ≡ true → member u (order_of (pre ++ e ∷ [])) ≡ true
    listed_all u there = in_order u ∙ ap (λ b. b || eqb u v) there

    non_outputs : (w : ℕ) → member w (order_of pre) ≡ (member w (advanced s x v).ids && not ((advanced s x v).output w))
    non_outputs w =
        ended (member w (order_of pre)) (eqb w v) (member w s.ids) (s.output w) (eqb x w) (sym (in_order w) ∙ f.non_outputs w)
        (λ t. ap (λ y. member y (order_of pre)) (eqb-true w v t) ∙ v_out) (λ t. ap s.output (sym (eqb-true x w t)) ∙ leaf.output)
        ∙ ap (λ b. b && not ((advanced s x v).output w)) (sym (member-filter (different x) s.ids w))

    corrected : (u : ℕ) → member u (order_of pre) ≡ true → (A : ℕ → Bool) → Corrects s (is_later (order_of (pre ++ e ∷ []))) u A →
        Corrects (advanced s x v) (is_later (order_of pre)) u (λ w. A w && different x w)
    corrected u there A a =
        let not_x : eqb x u ≡ false = ne_eqb x u (λ same. not_output s u x (no_output s (pre ++ e ∷ []) f u (listed_all u there)) leaf.output (sym same)) in
        Corrects-changed s (advanced s x v) (is_later (order_of (pre ++ e ∷ []))) (is_later (order_of pre)) u A (λ w. A w && different x w) refl
        (ap (λ b. A u && not b) not_x ∙ and-true (A u))
        (odd-advanced s x v A u simple (leaf.only u (live s (pre ++ e ∷ []) f u (listed_all u there)) ∙ ne_eqb u v (apart_of_member u v (order_of pre) there v_out)))
        (λ w h. is_later-front (order_of pre) (v ∷ []) u w there (ap (λ l. is_later l u w) (sym (order_of-append pre e)) ∙ h))
        (λ w h. member-filter (different x) s.ids w ∙ both (member w s.ids) (different x w) (a.members w (and-left (A w) (different x w) h)) (and-right (A w) (different x w) h))
        (λ w h. a.input w (and-left (A w) (different x w) h))
        (λ w h. inl (and-left (A w) (different x w) h))
        (λ w h ne. by_equal w v
        (λ t same. inr (is_later-outside (order_of pre) u w there (ap (λ y. member y (order_of pre)) same ∙ v_out)))
        (λ t other. let within : member w s.ids ≡ true = and-left (member w s.ids) (different x w) (sym (member-filter (different x) s.ids w) ∙ h) in inl (within, odd-advanced s x v A w simple (leaf.only w within ∙ t)))) a

pub advanced_flow : (g : Graph) (pre : List Correction) (e : Correction) (x : ℕ) (h : Graph) → WellFormed g → WellFormed h → Alike (advanced (seen g) x e.vertex) (seen h) →
    IsLeafOutput (seen g) x e.vertex → IsFlow g (pre ++ e ∷ []) → IsFlow h (advanced_table x pre)
advanced_flow g pre e x h wg wh alike leaf flow =
    flow_seen (advanced (seen g) x e.vertex) h (advanced_table x pre) (Distinct-rest (seen g) x (Simple-seen g wg).distinct) wh alike
    (Flows-advanced (seen g) pre e x (Simple-seen g wg) leaf (Flows-from (seen g) (pre ++ e ∷ []) flow))
