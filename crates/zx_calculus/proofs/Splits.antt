-- The split of an end: the form of the graph, where ends stand, the sum, the counts, and the program.
use Rattle.std.proofs.Common.{◌≡◌, ◌≢◌, ◌⊎◌, inl, inr, refl, sym, ◌∙◌, ap, subst, ℕ, Bool, true, false, cond, ◌&&◌, ◌||◌, eqb, ltb, List, [], ◌∷◌, true≢false, ne_eqb, eq-eqb, arith, ap₂, ⊎_elim, not, length, map, suc, ◌+◌, eqb-true}
use Rattle.std.specs.List.{list_all}
use Rattle.std.proofs.lemmas.Bool.{cases_Bool, cases_eq, eqb-true, or_left}
use Rattle.zx_model.specs.Bits.{member, one_if}
use Rattle.zx_model.specs.Number.{Number, sign, add, mul, one, root_power}
use Rattle.zx_model.specs.Sums.{labelled, sum_over, total, all_labels, label_of}
use Rattle.zx_model.specs.Phase.{is_odd}
use Rattle.zx_model.proofs.Ring.{expand, sorted, mul_comm, mul_left_comm}
use Rattle.zx_model.proofs.SumLemmas.{labelled-same, labelled-other, sum_over_same, sum_over_scaled}
use Rattle.zx_model.proofs.Powers.{root_power-zero}
use Rattle.zx_calculus.specs.Splits.{move_end, spider_of_phase_zero, IsSplitInput, IsSplitOutput, mark_of, split_vertices, split_input_graph, split_output_graph}
use Rattle.zx_calculus.specs.Graph.{end_vertices, End, different, in_order, kind_of, ids, OrderedEnds, insert_vertex, is_XY, Vertex, WellFormed, Graph, joined, Edge, XY, is_interior, IsVertex}
use Rattle.zx_calculus.specs.Sum.{end_factor, end_product, edge_product, graph_sum, term, vertex_product}
use Rattle.zx_calculus.specs.Internal.Pairs.{quad}
use Rattle.zx_calculus.specs.Edits.{is_pair}
use Rattle.zx_calculus.specs.Turns.{in_plane}
use Rattle.zx_calculus.specs.Counts.{even_interior, not_XY, has_input, is_even_at, has_output, odd_phases}
use Rattle.zx_calculus.specs.Adjacency.{edges_of}
use Rattle.zx_calculus.specs.Steps.{SplitInput, SplitOutput, allowed}
use Rattle.zx_calculus.proofs.Ids.{by_equal, member-there, by_test, member-different, or-right, and-right, and-left, or-left, apart_of_member, eqb-self, Distinct, Symmetric}
use Rattle.zx_calculus.proofs.Kept.{different-all, both, ends_insert, all_by, in_order-insert, insert-below}
use Rattle.zx_calculus.proofs.Vertices.{kind_of-insert, member-insert, all_below_a_turn, without-insert}
use Rattle.zx_calculus.proofs.Splitting.{all_at, absent_from, joined-absent, distinct, joined-self, no_loop}
use Rattle.zx_calculus.proofs.Forms.{end_product-labelled, form_front, at_ends, sum_is_form, over_value, form}
use Rattle.zx_calculus.proofs.Edges.{joined_comm, quad_same, masked-pick}
use Rattle.zx_calculus.proofs.Parity.{masked_same}
use Rattle.zx_calculus.proofs.CountLemmas.{count-insert, count_apart, count}
use Rattle.zx_calculus.proofs.Counting.{plane_test, odd_test}
use Rattle.zx_calculus.proofs.Booleans.{or_comm, and_comm, and-false}
use Rattle.zx_calculus.proofs.Factors.{split_left}
use Rattle.zx_calculus.proofs.Programs.{edges_full, absent_left, end_there}
use Rattle.zx_calculus.proofs.EdgeLists.{OrderedEdges-edges_of}

-- the ends after a split
member-move : (b new x : ℕ) (ends : List End) → member x (end_vertices (move_end b new ends)) ≡ true → (x ≡ new) ⊎ (member x (end_vertices ends) ≡ true)
member-move b new x [] h = absurd (true≢false (sym h))
member-move b new x (e ∷ es) h =
    by_equal b e.vertex (λ t same. moved (member-move b new x es) (rw t at h)) (λ t n. stayed (member-move b new x es) (rw t at h))
  where
    later : (x ≡ new) ⊎ (member x (end_vertices es) ≡ true) → (x ≡ new) ⊎ (member x (e.vertex ∷ end_vertices es) ≡ true)
    later (inl e') = inl e'
    later (inr m) = inr (member-there x e.vertex (end_vertices es) m)

    moved : (member x (end_vertices (move_end b new es)) ≡ true → (x ≡ new) ⊎ (member x (end_vertices es) ≡ true)) → (eqb x new || member x (end_vertices (move_end b new es))) ≡ true → (x ≡ new) ⊎ (member x (e.vertex ∷ end_vertices es) ≡ true)
    moved again m = by_equal x new (λ t s. inl s) (λ t n. later (again (rw t at m)))

    stayed : (member x (end_vertices (move_end b new es)) ≡ true → (x ≡ new) ⊎ (member x (end_vertices es) ≡ true)) → (eqb x e.vertex || member x (end_vertices (move_end b new es))) ≡ true → (x ≡ new) ⊎ (member x (e.vertex ∷ end_vertices es) ≡ true)
    stayed again m = by_equal x e.vertex (λ t s. inr (ap (λ c. c || member x (end_vertices es)) t)) (λ t n. later (again (rw t at m)))

absent-move : (b new x : ℕ) (ends : List End) → x ≢ new → member x (end_vertices ends) ≡ false → member x (end_vertices (move_end b new ends)) ≡ false
absent-move b new x ends n absent = by_test (member x (end_vertices (move_end b new ends))) (λ t. absurd (from (member-move b new x ends t))) (λ f. f)
  where
    from : (x ≡ new) ⊎ (member x (end_vertices ends) ≡ true) → ⊥
    from (inl e) = n e
    from (inr m) = true≢false (sym m ∙ absent)

pub move_end-absent : (b new : ℕ) (ends : List End) → member b (end_vertices ends) ≡ false → move_end b new ends ≡ ends
move_end-absent b new [] h = refl
move_end-absent b new (e ∷ es) h =
    let apart : eqb b e.vertex ≡ false = or-left _ _ h in
    rw apart (ap (λ r. e ∷ r) (move_end-absent b new es (or-right _ _ h)))

one_each-move : (b new : ℕ) (ends : List End) → member new (end_vertices ends) ≡ false → in_order different (end_vertices ends) ≡ true → in_order different (end_vertices (move_end b new ends)) ≡ true
one_each-move b new [] fresh h = refl
one_each-move b new (e ∷ es) fresh h =
    by_equal b e.vertex
    (λ t same.
    let gone : member b (end_vertices es) ≡ false = ap (λ w. member w (end_vertices es)) same ∙ member-different e.vertex (end_vertices es) (and-left _ _ h) in
    rw t
    (both _ _ (ap (λ ends. list_all (different new) (end_vertices ends)) (move_end-absent b new es gone) ∙ different-all new (end_vertices es) (or-right _ _ fresh))
    (ap (λ ends. in_order different (end_vertices ends)) (move_end-absent b new es gone) ∙ and-right _ _ h)))
    (λ t n.
    let apart : e.vertex ≢ new = λ q. by_equal new e.vertex (λ s w. true≢false (sym s ∙ or-left _ _ fresh)) (λ s w. w (sym q)) in
    rw t
    (both _ _ (different-all e.vertex _ (absent-move b new e.vertex es apart (member-different e.vertex (end_vertices es) (and-left _ _ h)))) (one_each-move b new es (or-right _ _ fresh) (and-right _ _ h))))

ends_moved : (b new : ℕ) (vs : List Vertex) (ends : List End) → member new (ids vs) ≡ false → OrderedEnds vs ends → OrderedEnds (insert_vertex (spider_of_phase_zero new) vs) (move_end b new ends)
ends_moved b new vs ends fresh o =
    record {
      one_each = one_each-move b new ends (absent_from (ids vs) (end_vertices ends) new o.there fresh) o.one_each;
      there = all_by _ (end_vertices (move_end b new ends)) (λ p t. at_there p (member-move b new p ends t));
      at_XY = all_by _ (end_vertices (move_end b new ends)) (λ p t. at_plane p (member-move b new p ends t));
    }
  where
    n : Vertex
    n = spider_of_phase_zero new

    kept : OrderedEnds (insert_vertex n vs) ends
    kept = ends_insert n vs ends fresh o

    at_there : (p : ℕ) → (p ≡ new) ⊎ (member p (end_vertices ends) ≡ true) → member p (ids (insert_vertex n vs)) ≡ true
    at_there p (inl e) = member-insert p n vs ∙ ap (λ c. c || member p (ids vs)) (eq-eqb p new e)
    at_there p (inr m) = all_at (λ u. member u (ids (insert_vertex n vs))) (end_vertices ends) p kept.there m

    at_plane : (p : ℕ) → (p ≡ new) ⊎ (member p (end_vertices ends) ≡ true) → is_XY (kind_of (insert_vertex n vs) p).plane ≡ true
    at_plane p (inl e) = ap (λ w. is_XY (kind_of (insert_vertex n vs) w).plane) e ∙ ap (λ k. is_XY k.plane) (kind_of-insert n vs fresh)
    at_plane p (inr m) = all_at (λ u. is_XY (kind_of (insert_vertex n vs) u).plane) (end_vertices ends) p kept.at_XY m

pub split_input_kept : (g : Graph) (b new : ℕ) (h : Graph) → WellFormed g → IsSplitInput g b new h → WellFormed h
split_input_kept g b new h w c =
    record {
      vertices_rising = ap (λ vs. in_order ltb (ids vs)) c.vertices ∙ in_order-insert (spider_of_phase_zero new) g.vertices c.fresh w.vertices_rising;
      phases_below_a_turn = ap all_below_a_turn c.vertices ∙ insert-below (spider_of_phase_zero new) g.vertices (omega arith) w.phases_below_a_turn;
      edges = c.ordered;
      inputs = rw (c.vertices, c.inputs) (ends_moved b new g.vertices g.inputs c.fresh w.inputs);
      outputs = rw (c.vertices, c.outputs) (ends_insert (spider_of_phase_zero new) g.vertices g.outputs c.fresh w.outputs);
    }

-- ---- inputs and outputs exchanged: what holds of a split input holds of a split output
abbrev pub mirrored : Graph → Graph
mirrored g = record g { inputs = g.outputs; outputs = g.inputs }

pub mirrored_formed : (g : Graph) → WellFormed g → WellFormed (mirrored g)
mirrored_formed g w = record { vertices_rising = w.vertices_rising; phases_below_a_turn = w.phases_below_a_turn; edges = w.edges; inputs = w.outputs; outputs = w.inputs }

pub mirrored_split : (g : Graph) (b new : ℕ) (h : Graph) → IsSplitOutput g b new h → IsSplitInput (mirrored g) b new (mirrored h)
mirrored_split g b new h c =
    record { fresh = c.fresh; has_input = c.has_output; vertices = c.vertices; ordered = c.ordered; edges = c.edges; inputs = c.outputs; outputs = c.inputs }

pub split_mirrored : (g : Graph) (b new : ℕ) (h : Graph) → IsSplitInput (mirrored g) b new h → IsSplitOutput g b new (mirrored h)
split_mirrored g b new h c =
    record { fresh = c.fresh; has_output = c.has_input; vertices = c.vertices; ordered = c.ordered; edges = c.edges; inputs = c.outputs; outputs = c.inputs }

mirrored_sum : (g : Graph) (x y : List Bool) → graph_sum (mirrored g) y x ≡ graph_sum g x y
mirrored_sum g x y = λ i. total (map (λ hs. mirrored_term (label_of (ids g.vertices) hs) i) (all_labels (length g.vertices)))
  where
    mirrored_term : (label : ℕ → Bool) → term (mirrored g) y x label ≡ term g x y label
    mirrored_term label =
        ap (λ z. mul (vertex_product g.vertices label) (mul (edge_product g.edges label) z)) (mul_comm (end_product g.outputs y label) (end_product g.inputs x label))

mirrored_even : (g : Graph) → even_interior (mirrored g) ≡ even_interior g
mirrored_even g = λ i. count (λ p k. not (or_comm (member p (end_vertices g.outputs)) (member p (end_vertices g.inputs)) i) && not (is_odd k.phase)) g.vertices

pub split_output_kept : (g : Graph) (b new : ℕ) (h : Graph) → WellFormed g → IsSplitOutput g b new h → WellFormed h
split_output_kept g b new h w c = mirrored_formed (mirrored h) (split_input_kept (mirrored g) b new (mirrored h) (mirrored_formed g w) (mirrored_split g b new h c))

pub member-move_end-old : (b new : ℕ) (ends : List End) → b ≢ new → member b (end_vertices (move_end b new ends)) ≡ false
member-move_end-old b new [] ne = refl
member-move_end-old b new (e ∷ es) ne = ⊎_elim
    (λ f. ap (λ c. eqb b (cond c (record { vertex = new; hadamard = not e.hadamard }) e).vertex || member b (end_vertices (move_end b new es))) f
    ∙ ap₂ (λ x y. x || y) (ne_eqb b new ne) (member-move_end-old b new es ne))
    (λ f. ap (λ c. eqb b (cond c (record { vertex = new; hadamard = not e.hadamard }) e).vertex || member b (end_vertices (move_end b new es))) f
    ∙ ap₂ (λ x y. x || y) f (member-move_end-old b new es ne))
    (cases_Bool (eqb b e.vertex))

moved_past : (n mb mn : Bool) → (n || (mb || mn)) ≡ (mb || (n || mn))
moved_past true true mn = refl
moved_past true false mn = refl
moved_past false mb mn = refl

pub member-move_end-new : (b new : ℕ) (ends : List End) → member new (end_vertices (move_end b new ends)) ≡ (member b (end_vertices ends) || member new (end_vertices ends))
member-move_end-new b new [] = refl
member-move_end-new b new (e ∷ es) = ⊎_elim
    (λ f. ap (λ c. eqb new (cond c (record { vertex = new; hadamard = not e.hadamard }) e).vertex || member new (end_vertices (move_end b new es))) f
    ∙ or_left (eqb new new) (member new (end_vertices (move_end b new es))) (eq-eqb new new refl)
    ∙ sym (ap (λ c. (c || member b (end_vertices es)) || (eqb new e.vertex || member new (end_vertices es))) f))
    (λ f. ap (λ c. eqb new (cond c (record { vertex = new; hadamard = not e.hadamard }) e).vertex || member new (end_vertices (move_end b new es))) f
    ∙ ap (λ x. eqb new e.vertex || x) (member-move_end-new b new es)
    ∙ moved_past (eqb new e.vertex) (member b (end_vertices es)) (member new (end_vertices es))
    ∙ sym (ap (λ c. (c || member b (end_vertices es)) || (eqb new e.vertex || member new (end_vertices es))) f))
    (cases_Bool (eqb b e.vertex))

pub member-move_end-other : (b new : ℕ) (ends : List End) (v : ℕ) → v ≢ b → v ≢ new → member v (end_vertices (move_end b new ends)) ≡ member v (end_vertices ends)
member-move_end-other b new [] v nb nn = refl
member-move_end-other b new (e ∷ es) v nb nn = ⊎_elim
    (λ f. ap (λ c. eqb v (cond c (record { vertex = new; hadamard = not e.hadamard }) e).vertex || member v (end_vertices (move_end b new es))) f
    ∙ ap₂ (λ x y. x || y) (ne_eqb v new nn ∙ sym (ne_eqb v e.vertex (λ g. nb (g ∙ sym (eqb-true b e.vertex f))))) (member-move_end-other b new es v nb nn))
    (λ f. ap (λ c. eqb v (cond c (record { vertex = new; hadamard = not e.hadamard }) e).vertex || member v (end_vertices (move_end b new es))) f
    ∙ ap (λ x. eqb v e.vertex || x) (member-move_end-other b new es v nb nn))
    (cases_Bool (eqb b e.vertex))

-- where the ends stand after that at b has moved
pub member-move_end : (b new : ℕ) (ends : List End) (v : ℕ) → b ≢ new → member b (end_vertices ends) ≡ true →
    member v (end_vertices (move_end b new ends)) ≡ cond (eqb v b) false (cond (eqb v new) true (member v (end_vertices ends)))
member-move_end b new ends v ne there = ⊎_elim
    (λ e. ap (λ x. member x (end_vertices (move_end b new ends))) e ∙ member-move_end-old b new ends ne
    ∙ sym (ap (λ c. cond c false (cond (eqb v new) true (member v (end_vertices ends)))) (eq-eqb v b e)))
    (λ nb. ⊎_elim
    (λ e. ap (λ x. member x (end_vertices (move_end b new ends))) e ∙ member-move_end-new b new ends ∙ or_left (member b (end_vertices ends)) (member new (end_vertices ends)) there
    ∙ sym (ap₂ (λ c d. cond c false (cond d true (member v (end_vertices ends)))) (ne_eqb v b nb) (eq-eqb v new e)))
    (λ nn. member-move_end-other b new ends v nb nn
    ∙ sym (ap₂ (λ c d. cond c false (cond d true (member v (end_vertices ends)))) (ne_eqb v b nb) (ne_eqb v new nn)))
    (cases_eq v new))
    (cases_eq v b)

-- a Hadamard at a bit, then at a label: twice nothing, or the other mark
pub mark_toggled : (hadamard l b : Bool) (p : Number) →
    add (mul (end_factor (not hadamard) false b) p) (mul (sign l) (mul (end_factor (not hadamard) true b) p)) ≡ mul (split_left hadamard) (mul (end_factor hadamard l b) p)
mark_toggled true true true p = simp expand
mark_toggled true true false p = simp expand
mark_toggled true false true p = simp expand
mark_toggled true false false p = simp expand
mark_toggled false true true p = simp expand
mark_toggled false true false p = simp expand
mark_toggled false false true p = simp expand
mark_toggled false false false p = simp expand

out_of_sum : (f s p q : Number) → add (mul f p) (mul s (mul f q)) ≡ mul f (add p (mul s q))
out_of_sum f s p q = simp expand

pub moved_ends : (b new : ℕ) (ends : List End) (bits : List Bool) (label : ℕ → Bool) → member new (end_vertices ends) ≡ false → b ≢ new → in_order different (end_vertices ends) ≡ true → member b (end_vertices ends) ≡ true → length bits ≡ length ends →
    add (end_product (move_end b new ends) bits (labelled label new false)) (mul (sign (label b)) (end_product (move_end b new ends) bits (labelled label new true)))
    ≡ mul (split_left (mark_of ends b)) (end_product ends bits label)
moved_ends b new [] bits label fresh apart once there long = absurd (true≢false (sym there))
moved_ends b new (e ∷ es) [] label fresh apart once there long = absurd (omega arith)
moved_ends b new (e ∷ es) (bit ∷ bits) label fresh apart once there long =
    by_equal b e.vertex
    (λ t same.
    let gone : member b (end_vertices es) ≡ false = ap (λ w. member w (end_vertices es)) same ∙ member-different e.vertex (end_vertices es) (and-left _ _ once) in
    let rest : (h : Bool) → end_product (move_end b new es) bits (labelled label new h) ≡ end_product es bits label = λ h. ap (λ ends. end_product ends bits (labelled label new h)) (move_end-absent b new es gone) ∙ end_product-labelled new es bits label h (or-right _ _ fresh) in
    rw t
    (ap₂ (λ l k. add (mul (end_factor (not e.hadamard) l bit) (end_product (move_end b new es) bits (labelled label new false))) (mul (sign (label b)) (mul (end_factor (not e.hadamard) k bit) (end_product (move_end b new es) bits (labelled label new true)))))
    (labelled-same label new false) (labelled-same label new true)
    ∙ ap₂ (λ p q. add (mul (end_factor (not e.hadamard) false bit) p) (mul (sign (label b)) (mul (end_factor (not e.hadamard) true bit) q))) (rest false) (rest true)
    ∙ mark_toggled e.hadamard (label b) bit (end_product es bits label)
    ∙ ap (λ w. mul (split_left e.hadamard) (mul (end_factor e.hadamard (label w) bit) (end_product es bits label))) same))
    (λ t n.
    let later : member b (end_vertices es) ≡ true = rw t at there in
    let stays : (h : Bool) → labelled label new h e.vertex ≡ label e.vertex = λ h. labelled-other label new h e.vertex (λ q. by_equal new e.vertex (λ s w. true≢false (sym s ∙ or-left _ _ fresh)) (λ s w. w (sym q))) in
    rw t
    (ap₂ (λ l k. add (mul (end_factor e.hadamard l bit) (end_product (move_end b new es) bits (labelled label new false))) (mul (sign (label b)) (mul (end_factor e.hadamard k bit) (end_product (move_end b new es) bits (labelled label new true)))))
    (stays false) (stays true)
    ∙ out_of_sum _ _ _ _
    ∙ ap (mul (end_factor e.hadamard (label e.vertex) bit)) (moved_ends b new es bits label (or-right _ _ fresh) apart (and-right _ _ once) later (omega arith))
    ∙ mul_left_comm _ _ _))

-- a new vertex of phase 0 at b, whatever the ends
module _ (g : Graph) (b new : ℕ) (es : List Edge) (inputs outputs : List End) (wg : WellFormed g)
    (wh : WellFormed (record { vertices = insert_vertex (spider_of_phase_zero new) g.vertices; edges = es; inputs = inputs; outputs = outputs }))
    (fresh : member new (ids g.vertices) ≡ false) (there : member b (ids g.vertices) ≡ true)
    (edges : (p q : ℕ) → joined es p q ≡ (joined g.edges p q || is_pair b new p q)) (x y : List Bool) where
  abbrev after : Graph
  after = record { vertices = insert_vertex (spider_of_phase_zero new) g.vertices; edges = es; inputs = inputs; outputs = outputs }

  abbrev rest : (ℕ → Bool) → Number
  rest = at_ends inputs outputs x y

  apart : (p : ℕ) → member p (ids g.vertices) ≡ true → eqb p new ≡ false
  apart p t = ne_eqb p new (apart_of_member p new (ids g.vertices) t fresh)

  old_edges : (p q : ℕ) → member p (ids g.vertices) ≡ true → member q (ids g.vertices) ≡ true → joined es p q ≡ joined g.edges p q
  old_edges p q s t =
      edges p q ∙ ap₂ (λ m n. joined g.edges p q || ((eqb p b && m) || (n && eqb q b))) (apart q t) (apart p s)
      ∙ nothing (joined g.edges p q) (eqb p b)
    where
      nothing : (a c : Bool) → (a || ((c && false) || false)) ≡ a
      nothing true c = refl
      nothing false true = refl
      nothing false false = refl

  new_edges : (p : ℕ) → member p (ids g.vertices) ≡ true → joined es new p ≡ eqb p b
  new_edges p t =
      edges new p
      ∙ ap₂ (λ a c. a || c) (joined-absent (ids g.vertices) g.edges new p wg.edges.lower_there wg.edges.higher_there fresh)
      (ap₂ (λ m n. (eqb new b && m) || (n && eqb p b)) (apart p t) (eqb-self new))
      ∙ nothing (eqb new b) (eqb p b)
    where
      nothing : (a c : Bool) → ((a && false) || c) ≡ c
      nothing true c = refl
      nothing false c = refl

  plain_step : (p q c s d : Number) → mul p (mul q (add (mul one c) (mul (mul one s) d))) ≡ mul p (mul q (add c (mul s d)))
  plain_step p q c s d = simp expand

  pub split_after : graph_sum after x y ≡ sum_over (ids g.vertices)
      (λ label. mul (vertex_product g.vertices label) (mul (sign (quad (joined g.edges) (ids g.vertices) label))
      (add (rest (labelled label new false)) (mul (sign (label b)) (rest (labelled label new true))))))
  split_after =
      sum_is_form after x y wh
      ∙ form_front (joined es) rest new (insert_vertex (spider_of_phase_zero new) g.vertices) (joined_comm es) (distinct after wh)
      (member-insert new (spider_of_phase_zero new) g.vertices ∙ ap (λ c. c || member new (ids g.vertices)) (eqb-self new))
      ∙ ap₂ (λ k vs. form (joined es) rest (record { id = new; kind = k } ∷ vs)) (kind_of-insert (spider_of_phase_zero new) g.vertices fresh) (without-insert (spider_of_phase_zero new) g.vertices fresh)
      ∙ sum_over_same (ids g.vertices) _ _
      (λ label. over_value (joined es) rest (in_plane XY 0) new g.vertices label fresh
      ∙ ap₂ (λ q m. mul (vertex_product g.vertices label) (mul (sign q) (add (mul one (rest (labelled label new false))) (mul (mul (root_power 0) (sign m)) (rest (labelled label new true))))))
      (quad_same (joined es) (joined g.edges) (ids g.vertices) label (distinct g wg) (λ p q s t n. old_edges p q s t))
      (masked_same (joined es new) (λ p. eqb p b) (ids g.vertices) label new_edges ∙ masked-pick b (ids g.vertices) label (distinct g wg) there)
      ∙ ap (λ w. mul (vertex_product g.vertices label) (mul (sign (quad (joined g.edges) (ids g.vertices) label)) (add (mul one (rest (labelled label new false))) (mul (mul w (sign (label b))) (rest (labelled label new true)))))) root_power-zero
      ∙ plain_step _ _ _ _ _)

factor_first : (i j s o : Number) → add (mul i o) (mul s (mul j o)) ≡ mul (add i (mul s j)) o
factor_first i j s o = simp expand

with_cost : (c p q a o : Number) → mul c (mul p (mul q (mul a o))) ≡ mul one (mul p (mul q (mul (mul c a) o)))
with_cost c p q a o = simp sorted

pub split_input_sum : (g : Graph) (b new : ℕ) (h : Graph) (x y : List Bool) → WellFormed g → WellFormed h → IsSplitInput g b new h → length x ≡ length g.inputs →
    mul (split_left (mark_of g.inputs b)) (graph_sum g x y) ≡ mul one (graph_sum h x y)
split_input_sum g b new h x y wg wh c long =
    ap (mul (split_left (mark_of g.inputs b))) (sum_is_form g x y wg)
    ∙ sum_over_scaled (split_left (mark_of g.inputs b)) one (ids g.vertices) _ _
    (λ label. with_cost _ _ _ _ _
    ∙ ap (λ z. mul one (mul (vertex_product g.vertices label) (mul (sign (quad (joined g.edges) (ids g.vertices) label)) z)))
    (ap (λ z. mul z (end_product g.outputs y label)) (sym (moved_ends b new g.inputs x label fresh_in apart wg.inputs.one_each c.has_input long))
    ∙ sym (factor_first _ _ _ _)
    ∙ ap₂ (λ o p. add (mul (end_product (move_end b new g.inputs) x (labelled label new false)) o) (mul (sign (label b)) (mul (end_product (move_end b new g.inputs) x (labelled label new true)) p)))
    (sym (end_product-labelled new g.outputs y label false fresh_out)) (sym (end_product-labelled new g.outputs y label true fresh_out))))
    ∙ ap (mul one) (sym (split_after g b new h.edges (move_end b new g.inputs) g.outputs wg (subst WellFormed shape wh) c.fresh there c.edges x y) ∙ sym (ap (λ k. graph_sum k x y) shape))
  where
    shape : h ≡ record { vertices = insert_vertex (spider_of_phase_zero new) g.vertices; edges = h.edges; inputs = move_end b new g.inputs; outputs = g.outputs }
    shape = λ j. record { vertices = c.vertices j; edges = h.edges; inputs = c.inputs j; outputs = c.outputs j }

    there : member b (ids g.vertices) ≡ true
    there = all_at (λ u. member u (ids g.vertices)) (end_vertices g.inputs) b wg.inputs.there c.has_input

    apart : b ≢ new
    apart = apart_of_member b new (ids g.vertices) there c.fresh

    fresh_in : member new (end_vertices g.inputs) ≡ false
    fresh_in = absent_from (ids g.vertices) (end_vertices g.inputs) new wg.inputs.there c.fresh

    fresh_out : member new (end_vertices g.outputs) ≡ false
    fresh_out = absent_from (ids g.vertices) (end_vertices g.outputs) new wg.outputs.there c.fresh

pub split_output_sum : (g : Graph) (b new : ℕ) (h : Graph) (x y : List Bool) → WellFormed g → WellFormed h → IsSplitOutput g b new h → length y ≡ length g.outputs →
    mul (split_left (mark_of g.outputs b)) (graph_sum g x y) ≡ mul one (graph_sum h x y)
split_output_sum g b new h x y wg wh c long =
    ap (mul (split_left (mark_of g.outputs b))) (sym (mirrored_sum g x y))
    ∙ split_input_sum (mirrored g) b new (mirrored h) y x (mirrored_formed g wg) (mirrored_formed h wh) (mirrored_split g b new h c) long
    ∙ ap (mul one) (mirrored_sum h x y)

pub length-move_end : (b new : ℕ) (ends : List End) → length (move_end b new ends) ≡ length ends
length-move_end b new [] = refl
length-move_end b new (e ∷ es) = ap (λ n. suc n) (length-move_end b new es)

none_more : (a b c : ℕ) (t : Bool) → a ≡ one_if t + b → t ≡ false → b ≡ c → a ≡ c
none_more a b c true e f g = absurd (true≢false f)
none_more a b c false e f g = omega arith

-- b is no longer at the end, and the new vertex is
even_grown : (inside inside' : ℕ → Bool) (b new : ℕ) (vs : List Vertex) → Distinct (ids vs) → member b (ids vs) ≡ true → member new (ids vs) ≡ false
    → inside' new ≡ false → inside b ≡ false → ((p : ℕ) → p ≢ b → p ≢ new → inside' p ≡ inside p)
    → count (λ p k. inside' p && not (is_odd k.phase)) (insert_vertex (spider_of_phase_zero new) vs)
    ≡ count (λ p k. inside p && not (is_odd k.phase)) vs + one_if (inside' b && not (is_odd (kind_of vs b).phase))
even_grown inside inside' b new vs d there fresh at_end was_end same =
    none_more _ _ _ _ (count-insert (λ p k. inside' p && not (is_odd k.phase)) (spider_of_phase_zero new) vs) (ap (λ t. t && true) at_end)
    (none_gone _ _ _ _ (count_apart (λ p k. inside' p && not (is_odd k.phase)) (λ p k. inside p && not (is_odd k.phase)) b vs d there
    (λ p m n. ap (λ t. t && not (is_odd (kind_of vs p).phase)) (same p n (apart_of_member p new (ids vs) m fresh))))
    (ap (λ t. t && not (is_odd (kind_of vs b).phase)) was_end))
  where
    none_gone : (a c n : ℕ) (t : Bool) → a + one_if t ≡ c + n → t ≡ false → a ≡ c + n
    none_gone a c n true e f = absurd (true≢false f)
    none_gone a c n false e f = omega arith

-- one more spider of phase 0 changes neither the odd phases nor what isn't XY
module _ (g h : Graph) (new : ℕ) (vertices : h.vertices ≡ insert_vertex (spider_of_phase_zero new) g.vertices) where
  pub odd-split : odd_phases h ≡ odd_phases g
  odd-split = none_more _ _ _ _ (ap (count odd_test) vertices ∙ count-insert odd_test (spider_of_phase_zero new) g.vertices) refl refl

  pub planes-split : not_XY h ≡ not_XY g
  planes-split = none_more _ _ _ _ (ap (count plane_test) vertices ∙ count-insert plane_test (spider_of_phase_zero new) g.vertices) refl refl

module _ (g : Graph) (b new : ℕ) (h : Graph) (w : WellFormed g) (c : IsSplitInput g b new h) where
  input_there : IsVertex g b
  input_there = end_there g w b g.inputs w.inputs.there c.has_input

  input_not_new : b ≢ new
  input_not_new = apart_of_member b new (ids g.vertices) input_there c.fresh

  pub even-split_input : even_interior h ≡ even_interior g + one_if (not (has_output g b) && is_even_at g b)
  even-split_input =
      ap₂ (λ ins outs. count (λ p k. not (member p (end_vertices ins) || member p (end_vertices outs)) && not (is_odd k.phase)) h.vertices) c.inputs c.outputs
      ∙ ap (count (λ p k. not (member p (end_vertices (move_end b new g.inputs)) || member p (end_vertices g.outputs)) && not (is_odd k.phase))) c.vertices
      ∙ even_grown (is_interior g) (λ p. not (member p (end_vertices (move_end b new g.inputs)) || member p (end_vertices g.outputs))) b new g.vertices (distinct g w) input_there c.fresh
      (ap (λ t. not (t || member new (end_vertices g.outputs))) (member-move_end-new b new g.inputs ∙ ap (λ t. t || member new (end_vertices g.inputs)) c.has_input))
      (ap (λ t. not (t || member b (end_vertices g.outputs))) c.has_input)
      (λ p n m. ap (λ t. not (t || member p (end_vertices g.outputs))) (member-move_end-other b new g.inputs p n m))
      ∙ ap (λ t. even_interior g + one_if (not (t || member b (end_vertices g.outputs)) && is_even_at g b)) (member-move_end-old b new g.inputs input_not_new)

pub even-split_output : (g : Graph) (b new : ℕ) (h : Graph) → WellFormed g → IsSplitOutput g b new h →
    even_interior h ≡ even_interior g + one_if (not (has_input g b) && is_even_at g b)
even-split_output g b new h w c =
    sym (mirrored_even h) ∙ even-split_input (mirrored g) b new (mirrored h) (mirrored_formed g w) (mirrored_split g b new h c)
    ∙ ap (λ n. n + one_if (not (has_input g b) && is_even_at g b)) (mirrored_even g)

pub is_pair_comm : (b new : ℕ) → Symmetric (is_pair b new)
is_pair_comm b new p q = or_comm (eqb p b && eqb q new) (eqb p new && eqb q b) ∙ ap₂ (λ x y. x || y) (and_comm (eqb p new) (eqb q b)) (and_comm (eqb p b) (eqb q new))

pub is_pair-self : (b new : ℕ) → b ≢ new → (q : ℕ) → is_pair b new q q ≡ false
is_pair-self b new apart q =
    by_equal q b
    (λ t e. let other : eqb q new ≡ false = ne_eqb q new (λ e'. apart (sym e ∙ e')) in ap₂ (λ x y. (eqb q b && x) || (y && eqb q b)) other other ∙ ap (λ x. x || false) (and-false (eqb q b)))
    (λ f n. ap₂ (λ x y. (x && eqb q new) || (eqb q new && y)) f f ∙ and-false (eqb q new))

pub split_symmetric : (g : Graph) (b new : ℕ) → Symmetric (λ p q. joined g.edges p q || is_pair b new p q)
split_symmetric g b new p q =
    ap₂ (λ x y. x || y) (joined_comm g.edges p q) (is_pair_comm b new p q)

module _ (g : Graph) (w : WellFormed g) where
  module _ (b new : ℕ) (fresh : member new (ids g.vertices) ≡ false) (b_there : member b (ids g.vertices) ≡ true) where
    rising_split : in_order ltb (ids (split_vertices g new)) ≡ true
    rising_split = in_order-insert (spider_of_phase_zero new) g.vertices fresh w.vertices_rising

    b≢new : b ≢ new
    b≢new = apart_of_member b new (ids g.vertices) b_there fresh

    -- neither the new vertex nor an old one
    neither : (p : ℕ) → member p (ids (split_vertices g new)) ≡ false → (eqb p new ≡ false) × (member p (ids g.vertices) ≡ false)
    neither p f =
        (or-left _ _ (sym (member-insert p (spider_of_phase_zero new) g.vertices) ∙ f), or-right _ _ (sym (member-insert p (spider_of_phase_zero new) g.vertices) ∙ f))

    not_b : (p : ℕ) → member p (ids g.vertices) ≡ false → eqb p b ≡ false
    not_b p f = ne_eqb p b (λ e. true≢false (sym b_there ∙ ap (λ r. member r (ids g.vertices)) (sym e) ∙ f))

    no_pair : (p q : ℕ) → member p (ids (split_vertices g new)) ≡ false → is_pair b new p q ≡ false
    no_pair p q f = ap₂ (λ x y. (x && eqb q new) || (y && eqb q b)) (not_b p (neither p f).1) (neither p f).0

    split_law : (p q : ℕ) → joined (edges_of (λ p q. joined g.edges p q || is_pair b new p q) (ids (split_vertices g new))) p q ≡ (joined g.edges p q || is_pair b new p q)
    split_law p q =
        by_equal p q
        (λ t same. ap (λ r. joined (edges_of (λ p q. joined g.edges p q || is_pair b new p q) (ids (split_vertices g new))) r q) same
        ∙ joined-self _ q (OrderedEdges-edges_of (λ p q. joined g.edges p q || is_pair b new p q) (ids (split_vertices g new)) rising_split).lower_first
        ∙ sym (ap (λ r. joined g.edges r q || is_pair b new r q) same ∙ ap (λ x. x || is_pair b new q q) (no_loop g q w) ∙ is_pair-self b new b≢new q))
        (λ f n. edges_full (λ p q. joined g.edges p q || is_pair b new p q) (ids (split_vertices g new)) p q (split_symmetric g b new) n
        (λ f. ap₂ (λ x y. x || y) (absent_left g w p q (neither p f).1) (no_pair p q f))
        (λ f. split_symmetric g b new p q ∙ ap₂ (λ x y. x || y) (absent_left g w q p (neither q f).1) (no_pair q p f)))

  pub after_split_input : (b : ℕ) → allowed g (SplitInput b) ≡ true → (new : ℕ) → member new (ids g.vertices) ≡ false → IsSplitInput g b new (split_input_graph g b new)
  after_split_input b h new fresh =
      record {
        fresh = fresh;
        has_input = h;
        vertices = refl;
        ordered = OrderedEdges-edges_of _ _ (rising_split b new fresh (end_there g w b g.inputs w.inputs.there h));
        edges = split_law b new fresh (end_there g w b g.inputs w.inputs.there h);
        inputs = refl;
        outputs = refl;
      }

pub after_split_output : (g : Graph) → WellFormed g → (b : ℕ) → allowed g (SplitOutput b) ≡ true → (new : ℕ) → member new (ids g.vertices) ≡ false → IsSplitOutput g b new (split_output_graph g b new)
after_split_output g w b h new fresh =
    split_mirrored g b new (split_input_graph (mirrored g) b new) (after_split_input (mirrored g) (mirrored_formed g w) b h new fresh)
