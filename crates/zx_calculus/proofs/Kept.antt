-- What keeps the form of a graph.
use Rattle.std.proofs.Common.{◌≡◌, ◌≢◌, refl, sym, ◌∙◌, ap, ℕ, ◌<◌, ◌≤◌, Bool, true, false, cond, ◌&&◌, ◌||◌, eqb, ltb, List, [], ◌∷◌, true≢false, ne_eqb, ltb-true, ltb-false, lt-ltb, arith}
use Rattle.std.specs.List.{list_all}
use Rattle.zx_model.specs.Bits.{member}
use Rattle.zx_model.specs.Phase.{turn, sum_of_phases, opposite_phase, quarter_turn, half_turn}
use Rattle.zx_calculus.specs.Graph.{ids, in_order, Vertex, insert_vertex, Kind, with_kinds, YZ, Plane, XY, XZ, is_XY, kind_of, OrderedEnds, end_vertices, End, without, WellFormed, Graph, Interior, different}
use Rattle.zx_calculus.specs.Edits.{KeepsEnds}
use Rattle.zx_calculus.specs.Turns.{quarter_turned_in, half_turned_in}
use Rattle.zx_calculus.proofs.Ids.{member-there, member-here, by_equal, removed, and-right, and-left, by_test, or-right, or-left, apart_of_member, member-removed_other}
use Rattle.zx_calculus.proofs.Vertices.{all_below_a_turn, kind_of-with_kinds, ids-with_kinds, kind_of-without, list_all-without, member-insert}
use Rattle.zx_calculus.proofs.Splitting.{all_at}
use Rattle.zx_calculus.proofs.Forms.{ids-without}
use Rattle.zx_calculus.proofs.Booleans.{or-true}

pub both : (a b : Bool) → a ≡ true → b ≡ true → (a && b) ≡ true
both true b s t = t
both false b s t = s

pub all_by : (q : ℕ → Bool) (xs : List ℕ) → ((x : ℕ) → member x xs ≡ true → q x ≡ true) → list_all q xs ≡ true
all_by q [] h = refl
all_by q (x ∷ xs) h =
    both _ _ (h x (member-here x xs)) (all_by q xs (λ y t. h y (member-there y x xs t)))

-- rising ids
list_all-removed : (q : ℕ → Bool) (u : ℕ) (xs : List ℕ) → list_all q xs ≡ true → list_all q (removed u xs) ≡ true
list_all-removed q u [] h = refl
list_all-removed q u (x ∷ xs) h =
    by_equal u x (λ t e. rw t (list_all-removed q u xs (and-right _ _ h)))
    (λ t n. let here : q x ≡ true = and-left _ _ h in rw (t, here) (list_all-removed q u xs (and-right _ _ h)))

pub in_order-removed : (u : ℕ) (xs : List ℕ) → in_order ltb xs ≡ true → in_order ltb (removed u xs) ≡ true
in_order-removed u [] h = refl
in_order-removed u (x ∷ xs) h =
    by_equal u x (λ t e. rw t (in_order-removed u xs (and-right _ _ h)))
    (λ t n. rw t (both _ _ (list_all-removed (ltb x) u xs (and-left _ _ h)) (in_order-removed u xs (and-right _ _ h))))

pub below_all : (p q : ℕ) (xs : List ℕ) → p < q → list_all (ltb q) xs ≡ true → list_all (ltb p) xs ≡ true
below_all p q [] lt h = refl
below_all p q (x ∷ xs) lt h =
    let there : q < x = ltb-true q x (and-left _ _ h) in both _ _ (lt-ltb p x (omega arith)) (below_all p q xs lt (and-right _ _ h))

list_all-insert : (q : ℕ → Bool) (n : Vertex) (vs : List Vertex) → q n.id ≡ true → list_all q (ids vs) ≡ true → list_all q (ids (insert_vertex n vs)) ≡ true
list_all-insert q n [] here h = both _ _ here refl
list_all-insert q n (v ∷ vs) here h =
    by_test (ltb n.id v.id) (λ t. rw t (both _ _ here h)) (λ f. rw f (both _ _ (and-left _ _ h) (list_all-insert q n vs here (and-right _ _ h))))

pub in_order-insert : (n : Vertex) (vs : List Vertex) → member n.id (ids vs) ≡ false → in_order ltb (ids vs) ≡ true → in_order ltb (ids (insert_vertex n vs)) ≡ true
in_order-insert n [] fresh h = refl
in_order-insert n (v ∷ vs) fresh h =
    by_test (ltb n.id v.id)
    (λ t. rw t (both _ _ (both _ _ t (below_all n.id v.id (ids vs) (ltb-true n.id v.id t) (and-left _ _ h))) h))
    (λ f. rw f
    (let apart : n.id ≢ v.id = λ e. by_equal n.id v.id (λ t s. true≢false (sym t ∙ or-left _ _ fresh)) (λ t m. m e) in
    let high : v.id < n.id = above (ltb-false n.id v.id f) apart in
    both _ _ (list_all-insert (ltb v.id) n vs (lt-ltb v.id n.id high) (and-left _ _ h)) (in_order-insert n vs (or-right _ _ fresh) (and-right _ _ h))))
  where
    above : v.id ≤ n.id → n.id ≢ v.id → v.id < n.id
    above le ne = omega arith

-- phases stay below a turn
abbrev pub Below : (ℕ → Kind → Kind) → Type 0
Below f = (p : ℕ) (k : Kind) → k.phase < turn → (f p k).phase < turn

pub with_kinds-below : (f : ℕ → Kind → Kind) (vs : List Vertex) → Below f → all_below_a_turn vs ≡ true → all_below_a_turn (with_kinds f vs) ≡ true
with_kinds-below f [] keeps h = refl
with_kinds-below f (v ∷ vs) keeps h = both _ _ (lt-ltb _ turn (keeps v.id v.kind (ltb-true v.kind.phase turn (and-left _ _ h)))) (with_kinds-below f vs keeps (and-right _ _ h))

pub insert-below : (n : Vertex) (vs : List Vertex) → n.kind.phase < turn → all_below_a_turn vs ≡ true → all_below_a_turn (insert_vertex n vs) ≡ true
insert-below n [] lt h = both _ _ (lt-ltb _ turn lt) refl
insert-below n (v ∷ vs) lt h =
    by_test (ltb n.id v.id) (λ t. rw t (both _ _ (lt-ltb _ turn lt) h)) (λ f. rw f (both _ _ (and-left _ _ h) (insert-below n vs lt (and-right _ _ h))))

pub sum_below : (j k : ℕ) → sum_of_phases j k < turn
sum_below j k = omega arith

pub opposite_below : (k : ℕ) → opposite_phase k < turn
opposite_below k = omega arith

pub quarter_below : (plane : Plane) (k : ℕ) → k < turn → (quarter_turned_in plane k).phase < turn
quarter_below XY k h = sum_below k quarter_turn
quarter_below XZ k h = opposite_below k
quarter_below YZ k h = h

pub half_below : (plane : Plane) (k : ℕ) → k < turn → (half_turned_in plane k).phase < turn
half_below XY k h = sum_below k half_turn
half_below XZ k h = opposite_below k
half_below YZ k h = opposite_below k

pub cond_below : (b : Bool) (k l : Kind) → k.phase < turn → l.phase < turn → (cond b k l).phase < turn
cond_below true k l s t = s
cond_below false k l s t = t

-- an XY vertex stays one
abbrev pub KeepsXY : (ℕ → Kind → Kind) → ℕ → Type 0
KeepsXY f p = (k : Kind) → is_XY k.plane ≡ true → is_XY (f p k).plane ≡ true

pub quarter_XY : (plane : Plane) (k : ℕ) → is_XY plane ≡ true → is_XY (quarter_turned_in plane k).plane ≡ true
quarter_XY XY k h = refl
quarter_XY XZ k h = h
quarter_XY YZ k h = h

pub half_XY : (plane : Plane) (k : ℕ) → is_XY plane ≡ true → is_XY (half_turned_in plane k).plane ≡ true
half_XY XY k h = refl
half_XY XZ k h = h
half_XY YZ k h = h

pub cond_XY : (b : Bool) (k l : Kind) → is_XY k.plane ≡ true → is_XY l.plane ≡ true → is_XY (cond b k l).plane ≡ true
cond_XY true k l s t = s
cond_XY false k l s t = t

-- the ends still stand at XY vertices
pub ends_kept : (vs ws : List Vertex) (ends : List End) → OrderedEnds vs ends →
    ((p : ℕ) → member p (end_vertices ends) ≡ true → member p (ids vs) ≡ true → is_XY (kind_of vs p).plane ≡ true → (member p (ids ws) ≡ true) × (is_XY (kind_of ws p).plane ≡ true)) → OrderedEnds ws ends
ends_kept vs ws ends o keeps =
    record {
      one_each = o.one_each;
      there = all_by _ (end_vertices ends) (λ p t. (both_of p t).0);
      at_XY = all_by _ (end_vertices ends) (λ p t. (both_of p t).1);
    }
  where
    both_of : (p : ℕ) → member p (end_vertices ends) ≡ true → (member p (ids ws) ≡ true) × (is_XY (kind_of ws p).plane ≡ true)
    both_of p t = keeps p t (all_at (λ u. member u (ids vs)) (end_vertices ends) p o.there t) (all_at (λ u. is_XY (kind_of vs u).plane) (end_vertices ends) p o.at_XY t)

pub ends_with_kinds : (f : ℕ → Kind → Kind) (vs : List Vertex) (ends : List End) → OrderedEnds vs ends → ((p : ℕ) → member p (end_vertices ends) ≡ true → KeepsXY f p) → OrderedEnds (with_kinds f vs) ends
ends_with_kinds f vs ends o keeps =
    ends_kept vs (with_kinds f vs) ends o
    (λ p t there plane. (ap (member p) (ids-with_kinds f vs) ∙ there, ap (λ k. is_XY k.plane) (kind_of-with_kinds f p vs there) ∙ keeps p t (kind_of vs p) plane))

pub ends_without : (u : ℕ) (vs : List Vertex) (ends : List End) → OrderedEnds vs ends → member u (end_vertices ends) ≡ false → OrderedEnds (without u vs) ends
ends_without u vs ends o absent =
    ends_kept vs (without u vs) ends o
    (λ p t there plane. let apart : p ≢ u = apart_of_member p u (end_vertices ends) t absent in
    (ap (member p) (ids-without u vs) ∙ member-removed_other p u (ids vs) apart ∙ there, ap (λ k. is_XY k.plane) (kind_of-without p u vs apart) ∙ plane))

-- two steps that keep the ends, one after the other
pub KeepsEnds-then : (g h k : Graph) → KeepsEnds g h → KeepsEnds h k → KeepsEnds g k
KeepsEnds-then g h k c d = record { ordered = d.ordered; inputs = d.inputs ∙ c.inputs; outputs = d.outputs ∙ c.outputs }

-- a graph with the same ends, its vertices changed
pub kept_kinds : (g : Graph) (f : ℕ → Kind → Kind) (h : Graph) → WellFormed g → Below f → ((p : ℕ) → member p (end_vertices g.inputs) ≡ true → KeepsXY f p) → ((p : ℕ) → member p (end_vertices g.outputs) ≡ true → KeepsXY f p) →
    h.vertices ≡ with_kinds f g.vertices → KeepsEnds g h → WellFormed h
kept_kinds g f h w below ins outs vertices frame =
    record {
      vertices_rising = ap (λ vs. in_order ltb (ids vs)) vertices ∙ ap (in_order ltb) (ids-with_kinds f g.vertices) ∙ w.vertices_rising;
      phases_below_a_turn = ap all_below_a_turn vertices ∙ with_kinds-below f g.vertices below w.phases_below_a_turn;
      edges = frame.ordered;
      inputs = rw (vertices, frame.inputs) (ends_with_kinds f g.vertices g.inputs w.inputs ins);
      outputs = rw (vertices, frame.outputs) (ends_with_kinds f g.vertices g.outputs w.outputs outs);
    }

-- a graph with the same ends, a vertex without ends gone and the others changed
pub kept_removal : (g : Graph) (u : ℕ) (f : ℕ → Kind → Kind) (h : Graph) → WellFormed g → Interior g u → Below f → ((p : ℕ) → KeepsXY f p) →
    h.vertices ≡ with_kinds f (without u g.vertices) → KeepsEnds g h → WellFormed h
kept_removal g u f h w interior below keeps vertices frame =
    record {
      vertices_rising = ap (λ vs. in_order ltb (ids vs)) vertices ∙ ap (in_order ltb) (ids-with_kinds f (without u g.vertices) ∙ ids-without u g.vertices) ∙ in_order-removed u (ids g.vertices) w.vertices_rising;
      phases_below_a_turn = ap all_below_a_turn vertices ∙ with_kinds-below f (without u g.vertices) below (list_all-without _ u g.vertices w.phases_below_a_turn);
      edges = frame.ordered;
      inputs = rw (vertices, frame.inputs) (ends_with_kinds f (without u g.vertices) g.inputs (ends_without u g.vertices g.inputs w.inputs interior.no_input) (λ p t. keeps p));
      outputs = rw (vertices, frame.outputs) (ends_with_kinds f (without u g.vertices) g.outputs (ends_without u g.vertices g.outputs w.outputs interior.no_output) (λ p t. keeps p));
    }

pub different-all : (x : ℕ) (xs : List ℕ) → member x xs ≡ false → list_all (different x) xs ≡ true
different-all x [] h = refl
different-all x (y ∷ ys) h =
    let apart : eqb x y ≡ false = or-left _ _ h in rw apart (different-all x ys (or-right _ _ h))

pub kind_of-insert_other : (p : ℕ) (n : Vertex) (vs : List Vertex) → p ≢ n.id → kind_of (insert_vertex n vs) p ≡ kind_of vs p
kind_of-insert_other p n [] apart = ap (λ b. cond b n.kind (record { plane = XY; phase = 0 })) (ne_eqb p n.id apart)
kind_of-insert_other p n (v ∷ vs) apart =
    by_test (ltb n.id v.id) (λ t. rw t (ap (λ b. cond b n.kind (kind_of (v ∷ vs) p)) (ne_eqb p n.id apart)))
    (λ f. rw f (ap (cond (eqb p v.id) v.kind) (kind_of-insert_other p n vs apart)))

pub ends_insert : (n : Vertex) (vs : List Vertex) (ends : List End) → member n.id (ids vs) ≡ false → OrderedEnds vs ends → OrderedEnds (insert_vertex n vs) ends
ends_insert n vs ends fresh o =
    ends_kept vs (insert_vertex n vs) ends o
    (λ p t there plane. (
      member-insert p n vs ∙ ap (λ c. eqb p n.id || c) there ∙ or-true (eqb p n.id),
      ap (λ k. is_XY k.plane) (kind_of-insert_other p n vs (apart_of_member p n.id (ids vs) there fresh)) ∙ plane,
    ))
