-- A new vertex of plane XY, adjacent to one vertex alone: the old sets serve, and a set of one corrects the new non-output.
use Rattle.std.proofs.Common.{◌≡◌, ◌≢◌, refl, sym, ◌∙◌, ap, subst, ⊎_elim, ℕ, Bool, true, false, not, ◌&&◌, ◌||◌, eqb, eq-eqb, ne_eqb, ap₂, cond, List, [], ◌∷◌, ◌++◌}
use Rattle.std.proofs.lemmas.Bool.{cases_eq, true≢false, eqb-true, false_from_ne_true, or_right, or_left, or_cases}
use Rattle.zx_model.specs.Bits.{member, xor}
use Rattle.zx_calculus.specs.Parity.{masked}
use Rattle.zx_calculus.specs.Graph.{XY, kind_of, Graph, insert_vertex, WellFormed, joined, ids, plane_of, OrderedEnds, is_XY, end_vertices, End, Vertex}
use Rattle.zx_calculus.specs.Splits.{spider_of_phase_zero, IsSplitOutput, IsSplitInput}
use Rattle.zx_calculus.specs.Edits.{is_pair}
use Rattle.zx_calculus.proofs.Ids.{masked_front, Distinct-rising, apart_of_member}
use Rattle.zx_calculus.proofs.Booleans.{and-false, and_comm, or-false, or-true}
use Rattle.zx_calculus.proofs.Edges.{joined_comm}
use Rattle.zx_calculus.proofs.Kept.{kind_of-insert_other, in_order-insert}
use Rattle.zx_calculus.proofs.Vertices.{member-insert, kind_of-insert}
use Rattle.zx_calculus.proofs.Splitting.{joined-absent, all_at, plane_XY, absent_from}
use Rattle.zx_calculus.proofs.Splits.{member-move_end}
use Rattle.gflow_laws.specs.Seen.{Seen, in_odd_neighbourhood, seen}
use Rattle.gflow_laws.specs.Correcting.{Distinct, FlowAsFunctions}
use Rattle.gflow_laws.specs.Splits.{split_output_table, split_input_table}
use Rattle.gflow_laws.specs.Flow.{is_later, Correction, is_in, set_of, order_of, SameSets, IsFlow, Corrects, odd_in, inside_in}
use Rattle.gflow_laws.specs.Outputs.{IsNewOutput}
use Rattle.gflow_laws.proofs.Linear.{masked-members, Distinct-removed, masked-same, member-removed, removed, masked-one, rest_of}
use Rattle.gflow_laws.proofs.Lists.{is_later-outside, is_in-one, Distinct-append, is_later-append, member-append}
use Rattle.gflow_laws.proofs.Tables.{unlisted, set_of-last, Corrects-same, order_of-append, set_of-append, absent}
use Rattle.gflow_laws.proofs.Flows.{live, Flows-from, IsFlowOf-from}

-- t is s with one more vertex, adjacent to b alone
pub record Grown (s : Seen) (new b : ℕ) (t : Seen) : Type 0 where
  pub distinct : Distinct s.ids
  pub distinct_after : Distinct t.ids
  pub fresh : member new s.ids ≡ false
  pub there : member b s.ids ≡ true
  pub ids : (v : ℕ) → member v t.ids ≡ (eqb v new || member v s.ids)
  pub adjacent : (p q : ℕ) → member p s.ids ≡ true → member q s.ids ≡ true → t.adjacent p q ≡ s.adjacent p q
  pub of_new : (p : ℕ) → t.adjacent new p ≡ eqb p b
  pub to_new : (p : ℕ) → t.adjacent p new ≡ eqb p b
  pub plane : (v : ℕ) → member v s.ids ≡ true → t.plane v ≡ s.plane v

pub old_there : (s t : Seen) (new b w : ℕ) → Grown s new b t → member w s.ids ≡ true → member w t.ids ≡ true
old_there s t new b w grown there = grown.ids w ∙ or_right (eqb w new) (member w s.ids) there

new_there : (s t : Seen) (new b : ℕ) → Grown s new b t → member new t.ids ≡ true
new_there s t new b grown = grown.ids new ∙ ap (λ c. c || member new s.ids) (eq-eqb new new refl)

outside : (s t : Seen) (new b : ℕ) (A : ℕ → Bool) → Grown s new b t → ((w : ℕ) → A w ≡ true → member w s.ids ≡ true) → A new ≡ false
outside s t new b A grown within = false_from_ne_true (A new) (λ e. true≢false (sym (within new e) ∙ grown.fresh))

-- whoever had an odd number of neighbours in an old set still has
pub odd-grown : (s t : Seen) (new b : ℕ) (A : ℕ → Bool) (v : ℕ) → Grown s new b t → ((w : ℕ) → A w ≡ true → member w s.ids ≡ true) →
    member v s.ids ≡ true → in_odd_neighbourhood t A v ≡ in_odd_neighbourhood s A v
odd-grown s t new b A v grown within there =
    masked_front (t.adjacent v) new t.ids A grown.distinct_after (new_there s t new b grown)
    ∙ ap (λ c. xor c (masked (t.adjacent v) (removed new t.ids) A))
    (ap (λ c. t.adjacent v new && c) (outside s t new b A grown within) ∙ and-false (t.adjacent v new))
    ∙ masked-members (t.adjacent v) (removed new t.ids) s.ids A (Distinct-removed new t.ids grown.distinct_after) grown.distinct
    (λ w. member-removed w new t.ids ∙ ap (λ c. not (eqb w new) && c) (grown.ids w)
    ∙ rest_of (eqb w new) (member w s.ids) (λ e. ap (λ x. member x s.ids) (eqb-true w new e) ∙ grown.fresh))
    ∙ masked-same (t.adjacent v) (s.adjacent v) s.ids A A (λ w h. ap (λ c. c && A w) (grown.adjacent v w there h))

-- the new vertex has an odd number of neighbours in the sets that have b
pub odd-of_new : (s t : Seen) (new b : ℕ) (A : ℕ → Bool) → Grown s new b t → in_odd_neighbourhood t A new ≡ A b
odd-of_new s t new b A grown =
    masked-same (t.adjacent new) A t.ids A (λ w. eqb w b) (λ w _. ap (λ c. c && A w) (grown.of_new w) ∙ and_comm (eqb w b) (A w))
    ∙ masked-one A t.ids b grown.distinct_after (old_there s t new b b grown grown.there)

-- an old set serves in the grown graph
pub Corrects-grown : (s t : Seen) (before before' : ℕ → ℕ → Bool) (new b v : ℕ) (A : ℕ → Bool) → Grown s new b t → member v s.ids ≡ true →
    ((w : ℕ) → member w s.ids ≡ true → s.input w ≡ false → t.input w ≡ false) →
    ((w : ℕ) → member w s.ids ≡ true → before v w ≡ true → before' v w ≡ true) →
    (A b ≡ true → before' v new ≡ true) →
    Corrects s before v A → Corrects t before' v A
Corrects-grown s t before before' new b v A grown there inputs keeps last a = record {
  members = λ w e. old_there s t new b w grown (a.members w e);
  input = λ w e. inputs w (a.members w e) (a.input w e);
  order = λ w e ne. keeps w (a.members w e) (a.order w e ne);
  odd_order = λ w within e ne. ⊎_elim
      (λ f. subst (λ x. before' v x ≡ true) (sym f) (last (sym (odd-of_new s t new b A grown) ∙ ap (in_odd_neighbourhood t A) (sym f) ∙ e)))
      (λ n.
      let old : member w s.ids ≡ true = sym (grown.ids w ∙ ap (λ c. c || member w s.ids) (ne_eqb w new n)) ∙ within in
      keeps w old (a.odd_order w old (sym (odd-grown s t new b A w grown a.members old) ∙ e) ne))
      (cases_eq w new);
  inside = a.inside ∙ ap inside_in (sym (grown.plane v there));
  odd_there = odd-grown s t new b A v grown a.members there ∙ a.odd_there ∙ ap odd_in (sym (grown.plane v there));
}

-- a set of one vertex corrects an XY neighbour before which nothing adjacent to it comes
pub Corrects-one : (t : Seen) (before : ℕ → ℕ → Bool) (v x : ℕ) → Distinct t.ids → member x t.ids ≡ true → v ≢ x → t.plane v ≡ XY →
    t.adjacent v x ≡ true → t.input x ≡ false → before v x ≡ true →
    ((w : ℕ) → member w t.ids ≡ true → t.adjacent w x ≡ true → w ≢ v → before v w ≡ true) →
    Corrects t before v (λ w. eqb w x)
Corrects-one t before v x distinct there ne plane adjacent input later others = record {
  members = λ w e. subst (λ y. member y t.ids ≡ true) (sym (eqb-true w x e)) there;
  input = λ w e. ap t.input (eqb-true w x e) ∙ input;
  order = λ w e _. subst (λ y. before v y ≡ true) (sym (eqb-true w x e)) later;
  odd_order = λ w within e n. others w within (sym (masked-one (t.adjacent w) t.ids x distinct there) ∙ e) n;
  inside = ne_eqb v x ne ∙ sym (ap inside_in plane);
  odd_there = masked-one (t.adjacent v) t.ids x distinct there ∙ adjacent ∙ sym (ap odd_in plane);
}

-- a new vertex, adjacent to b alone
pub Grown-split : (g : Graph) (b new : ℕ) (h : Graph) → WellFormed g → member new (ids g.vertices) ≡ false → member b (ids g.vertices) ≡ true →
    h.vertices ≡ insert_vertex (spider_of_phase_zero new) g.vertices → ((p q : ℕ) → joined h.edges p q ≡ (joined g.edges p q || is_pair b new p q)) →
    Grown (seen g) new b (seen h)
Grown-split g b new h wf fresh there vertices edges = record {
  distinct = distinct;
  distinct_after = subst (λ vs. Distinct (ids vs)) (sym vertices) (Distinct-rising (ids (insert_vertex (spider_of_phase_zero new) g.vertices)) (in_order-insert (spider_of_phase_zero new) g.vertices fresh wf.vertices_rising));
  fresh = fresh;
  there = there;
  ids = λ v. ap (λ vs. member v (ids vs)) vertices ∙ member-insert v (spider_of_phase_zero new) g.vertices;
  adjacent = λ p q in_p in_q. edges p q ∙ ap (λ x. joined g.edges p q || x)
      (ap₂ (λ x y. (eqb p b && x) || (y && eqb q b)) (ne_eqb q new (old q in_q)) (ne_eqb p new (old p in_p)) ∙ ap (λ x. x || false) (and-false (eqb p b)))
      ∙ or-false (joined g.edges p q);
  of_new = of_new;
  to_new = λ p. joined_comm h.edges p new ∙ of_new p;
  plane = λ v in_v. ap (λ vs. (kind_of vs v).plane) vertices
      ∙ ap (λ k. k.plane) (kind_of-insert_other v (spider_of_phase_zero new) g.vertices (old v in_v));
}
  where
    distinct : Distinct (ids g.vertices)
    distinct = Distinct-rising (ids g.vertices) wf.vertices_rising

    old : (v : ℕ) → member v (ids g.vertices) ≡ true → v ≢ new
    old v in_v e = true≢false (sym in_v ∙ ap (λ x. member x (ids g.vertices)) e ∙ fresh)

    of_new : (p : ℕ) → joined h.edges new p ≡ eqb p b
    of_new p =
        edges new p
        ∙ ap₂ (λ x y. x || ((y && eqb p new) || (eqb new new && eqb p b)))
        (joined-absent (ids g.vertices) g.edges new p wf.edges.lower_there wf.edges.higher_there fresh) (ne_eqb new b (λ e. old b there (sym e)))
        ∙ ap (λ x. x && eqb p b) (eq-eqb new new refl)

-- the new vertex is XY
pub plane-new : (g : Graph) (new : ℕ) (h : Graph) → member new (ids g.vertices) ≡ false → h.vertices ≡ insert_vertex (spider_of_phase_zero new) g.vertices → plane_of h new ≡ XY
plane-new g new h fresh vertices =
    ap (λ vs. (kind_of vs new).plane) vertices
    ∙ ap (λ k. k.plane) (kind_of-insert (spider_of_phase_zero new) g.vertices fresh)

-- a vertex with an end is XY
pub plane_at_end : (vertices : List Vertex) (ends : List End) (u : ℕ) → OrderedEnds vertices ends → member u (end_vertices ends) ≡ true → (kind_of vertices u).plane ≡ XY
plane_at_end vertices ends u ordered there = plane_XY (kind_of vertices u).plane (all_at (λ v. is_XY (kind_of vertices v).plane) (end_vertices ends) u ordered.at_XY there)

last_one : (eb l en m o : Bool) → l ≡ (m && not o) → (eb ≡ true → (en ≡ false) × (m ≡ true)) → (en ≡ true → m ≡ false) →
    (l || eb) ≡ ((en || m) && not (cond eb false (cond en true o)))
last_one true l en m o h b n = ap (λ x. l || x) refl ∙ or-true l ∙ sym (ap₂ (λ x y. (x || y) && true) (b refl).0 (b refl).1)
last_one false l true m o h b n = ap (λ x. x || false) (h ∙ ap (λ x. x && not o) (n refl))
last_one false true false m o h b n = h
last_one false false false m o h b n = h

-- the output at b moves to a new vertex
pub Flows-split_output : (s t : Seen) (new b : ℕ) (table : List Correction) → Grown s new b t → s.output b ≡ true → s.plane b ≡ XY →
    ((v : ℕ) → t.input v ≡ s.input v) → s.input new ≡ false → ((v : ℕ) → t.output v ≡ cond (eqb v b) false (cond (eqb v new) true (s.output v))) →
    FlowAsFunctions s table → FlowAsFunctions t (split_output_table b new table)
Flows-split_output s t new b table grown at_output plane inputs new_input outputs f = record {
  each_once = subst Distinct (sym same_order) (Distinct-append (order_of table) b f.each_once b_unlisted);
  non_outputs = λ v. ap (member v) same_order ∙ member-append v (order_of table) (b ∷ []) ∙ ap (λ x. member v (order_of table) || x) (is_in-one b v)
      ∙ last_one (eqb v b) (member v (order_of table)) (eqb v new) (member v s.ids) (s.output v) (f.non_outputs v)
      (λ e. (ne_eqb v new (λ g. b_not_new (sym (eqb-true v b e) ∙ g)), ap (λ x. member x s.ids) (eqb-true v b e) ∙ grown.there))
      (λ e. ap (λ x. member x s.ids) (eqb-true v new e) ∙ grown.fresh)
      ∙ ap₂ (λ x y. x && not y) (sym (grown.ids v)) (sym (outputs v));
  corrects = λ v h. subst (λ l. Corrects t (is_later l) v (is_in (set_of (split_output_table b new table) v))) (sym same_order)
      (⊎_elim (old v) (λ e. last v (eqb-true v b (sym (is_in-one b v) ∙ e)))
      (or_cases (member v (order_of table)) (member v (b ∷ [])) (sym (ap (member v) same_order ∙ member-append v (order_of table) (b ∷ [])) ∙ h)));
}
  where
    entry : Correction
    entry = record { vertex = b; members = new ∷ [] }

    same_order : order_of (split_output_table b new table) ≡ order_of table ++ b ∷ []
    same_order = order_of-append table entry

    b_unlisted : member b (order_of table) ≡ false
    b_unlisted = unlisted s table f b at_output

    b_not_new : b ≢ new
    b_not_new = apart_of_member b new s.ids grown.there grown.fresh

    new_outside : member new (order_of table ++ b ∷ []) ≡ false
    new_outside = member-append new (order_of table) (b ∷ []) ∙ ap₂ (λ x y. x || y) (absent s table f new grown.fresh) (is_in-one b new ∙ ne_eqb new b (λ e. b_not_new (sym e)))

    old : (v : ℕ) → member v (order_of table) ≡ true → Corrects t (is_later (order_of table ++ b ∷ [])) v (is_in (set_of (split_output_table b new table) v))
    old v there =
        Corrects-same t (is_later (order_of table ++ b ∷ [])) v (is_in (set_of table v)) (is_in (set_of (split_output_table b new table) v))
        (λ w. ap (λ l. is_in l w) (sym (set_of-append table entry v there)))
        (Corrects-grown s t (is_later (order_of table)) (is_later (order_of table ++ b ∷ [])) new b v (is_in (set_of table v)) grown (live s table f v there)
        (λ w _ e. inputs w ∙ e)
        (λ w _ e. is_later-append (order_of table) (b ∷ []) v w e)
        (λ _. is_later-outside (order_of table ++ b ∷ []) v new (member-append v (order_of table) (b ∷ []) ∙ or_left (member v (order_of table)) (member v (b ∷ [])) there) new_outside)
        (f.corrects v there))

    last_b : Corrects t (is_later (order_of table ++ b ∷ [])) b (λ w. eqb w new)
    last_b = Corrects-one t (is_later (order_of table ++ b ∷ [])) b new grown.distinct_after (grown.ids new ∙ or_left (eqb new new) (member new s.ids) (eq-eqb new new refl)) b_not_new
        (grown.plane b grown.there ∙ plane) (grown.to_new b ∙ eq-eqb b b refl) (inputs new ∙ new_input)
        (is_later-outside (order_of table ++ b ∷ []) b new
        (member-append b (order_of table) (b ∷ []) ∙ or_right (member b (order_of table)) (member b (b ∷ [])) (is_in-one b b ∙ eq-eqb b b refl)) new_outside)
        (λ w _ e ne. absurd (ne (eqb-true w b (sym (grown.to_new w) ∙ e))))

    last : (v : ℕ) → v ≡ b → Corrects t (is_later (order_of table ++ b ∷ [])) v (is_in (set_of (split_output_table b new table) v))
    last v e = subst (λ x. Corrects t (is_later (order_of table ++ b ∷ [])) x (is_in (set_of (split_output_table b new table) x))) (sym e)
        (Corrects-same t (is_later (order_of table ++ b ∷ [])) b (λ w. eqb w new) (is_in (set_of (split_output_table b new table) b))
        (λ w. sym (ap (λ l. is_in l w) (set_of-last table entry b_unlisted) ∙ is_in-one new w)) last_b)

first_one : (en l m o : Bool) → l ≡ (m && not o) → (en ≡ true → o ≡ false) → (en || l) ≡ ((en || m) && not o)
first_one true l m o h n = sym (ap not (n refl))
first_one false l m o h n = h

-- the input at b moves to a new vertex
pub Flows-split_input : (s t : Seen) (new b : ℕ) (table : List Correction) → Grown s new b t → s.input b ≡ true → t.plane new ≡ XY →
    ((v : ℕ) → t.output v ≡ s.output v) → s.output new ≡ false → ((v : ℕ) → t.input v ≡ cond (eqb v b) false (cond (eqb v new) true (s.input v))) →
    FlowAsFunctions s table → FlowAsFunctions t (split_input_table b new table)
Flows-split_input s t new b table grown at_input plane outputs new_output inputs f = record {
  each_once = (absent s table f new grown.fresh, f.each_once);
  non_outputs = λ v. first_one (eqb v new) (member v (order_of table)) (member v s.ids) (s.output v) (f.non_outputs v)
      (λ e. ap s.output (eqb-true v new e) ∙ new_output)
      ∙ ap₂ (λ x y. x && not y) (sym (grown.ids v)) (sym (outputs v));
  corrects = λ v h. ⊎_elim (λ e. first v (eqb-true v new e)) (old v) (or_cases (eqb v new) (member v (order_of table)) h);
}
  where
    b_not_new : b ≢ new
    b_not_new = apart_of_member b new s.ids grown.there grown.fresh

    later_new : (w : ℕ) → w ≢ new → is_later (new ∷ order_of table) new w ≡ true
    later_new w ne = ap₂ (λ x y. not x && (y || is_later (order_of table) new w)) (ne_eqb w new ne) (eq-eqb new new refl)

    old_set : (v : ℕ) → v ≢ new → set_of (split_input_table b new table) v ≡ set_of table v
    old_set v ne = ap (λ x. cond x (b ∷ []) (set_of table v)) (ne_eqb v new ne)

    old : (v : ℕ) → member v (order_of table) ≡ true → Corrects t (is_later (new ∷ order_of table)) v (is_in (set_of (split_input_table b new table) v))
    old v there =
        Corrects-same t (is_later (new ∷ order_of table)) v (is_in (set_of table v)) (is_in (set_of (split_input_table b new table) v))
        (λ w. ap (λ l. is_in l w) (sym (old_set v (apart_of_member v new s.ids (live s table f v there) grown.fresh))))
        (Corrects-grown s t (is_later (order_of table)) (is_later (new ∷ order_of table)) new b v (is_in (set_of table v)) grown (live s table f v there)
        (λ w within e. inputs w ∙ ap₂ (λ x y. cond x false (cond y true (s.input w))) (ne_eqb w b (λ g. true≢false (sym at_input ∙ ap s.input (sym g) ∙ e))) (ne_eqb w new (apart_of_member w new s.ids within grown.fresh)) ∙ e)
        (λ w within e. ap₂ (λ x y. not x && (y || is_later (order_of table) v w)) (ne_eqb w new (apart_of_member w new s.ids within grown.fresh)) (ne_eqb v new (apart_of_member v new s.ids (live s table f v there) grown.fresh)) ∙ e)
        (λ e. absurd (true≢false (sym at_input ∙ (f.corrects v there).input b e)))
        (f.corrects v there))

    first_new : Corrects t (is_later (new ∷ order_of table)) new (λ w. eqb w b)
    first_new = Corrects-one t (is_later (new ∷ order_of table)) new b grown.distinct_after (grown.ids b ∙ or_right (eqb b new) (member b s.ids) grown.there) (λ e. b_not_new (sym e))
        plane (grown.of_new b ∙ eq-eqb b b refl) (inputs b ∙ ap (λ x. cond x false (cond (eqb b new) true (s.input b))) (eq-eqb b b refl))
        (later_new b b_not_new)
        (λ w _ _ ne. later_new w ne)

    first : (v : ℕ) → v ≡ new → Corrects t (is_later (new ∷ order_of table)) v (is_in (set_of (split_input_table b new table) v))
    first v e = subst (λ x. Corrects t (is_later (new ∷ order_of table)) x (is_in (set_of (split_input_table b new table) x))) (sym e)
        (Corrects-same t (is_later (new ∷ order_of table)) new (λ w. eqb w b) (is_in (set_of (split_input_table b new table) new))
        (λ w. sym (ap (λ x. is_in (cond x (b ∷ []) (set_of table new)) w) (eq-eqb new new refl) ∙ is_in-one b w)) first_new)

pub same-split_input_table : (b new : ℕ) (table other : List Correction) → SameSets table other → SameSets (split_input_table b new table) (split_input_table b new other)
same-split_input_table b new table other same = record {
  order = ap (λ l. new ∷ l) same.order;
  members = λ v w. at (eqb v new) v w;
}
  where
    at : (c : Bool) (v w : ℕ) → is_in (cond c (b ∷ []) (set_of table v)) w ≡ is_in (cond c (b ∷ []) (set_of other v)) w
    at true v w = refl
    at false v w = same.members v w

set_of-append-cases : (table : List Correction) (e : Correction) (v : ℕ) →
    set_of (table ++ e ∷ []) v ≡ cond (member v (order_of table)) (set_of table v) (cond (eqb v e.vertex) e.members [])
set_of-append-cases [] e v = refl
set_of-append-cases (x ∷ xs) e v = at (eqb v x.vertex) (set_of-append-cases xs e v)
  where
    at : (c : Bool) → set_of (xs ++ e ∷ []) v ≡ cond (member v (order_of xs)) (set_of xs v) (cond (eqb v e.vertex) e.members []) →
        cond c x.members (set_of (xs ++ e ∷ []) v) ≡ cond (c || member v (order_of xs)) (cond c x.members (set_of xs v)) (cond (eqb v e.vertex) e.members [])
    at true h = refl
    at false h = h

pub same-split_output_table : (b new : ℕ) (table other : List Correction) → SameSets table other → SameSets (split_output_table b new table) (split_output_table b new other)
same-split_output_table b new table other same = record {
  order = order_of-append table entry ∙ ap (λ l. l ++ b ∷ []) same.order ∙ sym (order_of-append other entry);
  members = λ v w. ap (λ l. is_in l w) (set_of-append-cases table entry v)
      ∙ ap (λ l. is_in (cond (member v l) (set_of table v) (cond (eqb v b) (new ∷ []) [])) w) same.order
      ∙ at (member v (order_of other)) v w
      ∙ sym (ap (λ l. is_in l w) (set_of-append-cases other entry v));
}
  where
    entry : Correction
    entry = record { vertex = b; members = new ∷ [] }

    at : (c : Bool) (v w : ℕ) → is_in (cond c (set_of table v) (cond (eqb v b) (new ∷ []) [])) w ≡ is_in (cond c (set_of other v) (cond (eqb v b) (new ∷ []) [])) w
    at true v w = same.members v w
    at false v w = refl

-- a new vertex behind an output, which moves there
pub new_output_flow : (g : Graph) (b : ℕ) (h : Graph) (table : List Correction) → WellFormed g → (step : IsNewOutput g b h) → IsFlow g table →
    IsFlow h (split_output_table b step.new table)
new_output_flow g b h table wf step flow =
    IsFlowOf-from (seen h) (split_output_table b step.new table)
    (Flows-split_output (seen g) (seen h) step.new b table grown step.has_output (plane_at_end g.vertices g.outputs b wf.outputs step.has_output)
    (λ v. ap (member v) step.inputs)
    (absent_from (ids g.vertices) (end_vertices g.inputs) step.new wf.inputs.there step.fresh)
    (λ v. ap (member v) step.outputs ∙ member-move_end b step.new g.outputs v (apart_of_member b step.new (ids g.vertices) there step.fresh) step.has_output)
    (Flows-from (seen g) table flow))
  where
    there : member b (ids g.vertices) ≡ true
    there = all_at (λ w. member w (ids g.vertices)) (end_vertices g.outputs) b wf.outputs.there step.has_output

    grown : Grown (seen g) step.new b (seen h)
    grown = Grown-split g b step.new h wf step.fresh there step.vertices step.edges

pub split_output_flow : (g : Graph) (b new : ℕ) (h : Graph) (table : List Correction) → WellFormed g → IsSplitOutput g b new h → IsFlow g table →
    IsFlow h (split_output_table b new table)
split_output_flow g b new h table wf step flow =
    new_output_flow g b h table wf record {
      new = new;
      fresh = step.fresh;
      has_output = step.has_output;
      vertices = step.vertices;
      edges = step.edges;
      inputs = ap end_vertices step.inputs;
      outputs = ap end_vertices step.outputs;
    } flow

pub split_input_flow : (g : Graph) (b new : ℕ) (h : Graph) (table : List Correction) → WellFormed g → IsSplitInput g b new h → IsFlow g table →
    IsFlow h (split_input_table b new table)
split_input_flow g b new h table wf step flow =
    IsFlowOf-from (seen h) (split_input_table b new table)
    (Flows-split_input (seen g) (seen h) new b table grown step.has_input (plane-new g new h step.fresh step.vertices)
    (λ v. ap (λ l. member v (end_vertices l)) step.outputs)
    (absent_from (ids g.vertices) (end_vertices g.outputs) new wf.outputs.there step.fresh)
    (λ v. ap (λ l. member v (end_vertices l)) step.inputs ∙ member-move_end b new g.inputs v (apart_of_member b new (ids g.vertices) there step.fresh) step.has_input)
    (Flows-from (seen g) table flow))
  where
    there : member b (ids g.vertices) ≡ true
    there = all_at (λ w. member w (ids g.vertices)) (end_vertices g.inputs) b wf.inputs.there step.has_input

    grown : Grown (seen g) new b (seen h)
    grown = Grown-split g b new h wf step.fresh there step.vertices step.edges
