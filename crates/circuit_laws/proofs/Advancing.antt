-- A new output after a Hadamard: with a mark at the old place, the output of the other graph is split.
use Rattle.std.proofs.Common.{◌≡◌, sym, ◌∙◌, ap, refl, ℕ, zero as nought, suc, Bool, true, false, List, [], ◌∷◌, length, set, ne_eqb}
use Rattle.std.proofs.Math.ListN.{length-set}
use Rattle.std.proofs.lemmas.List.{set-set}
use Rattle.std.specs.Prelude.{slice_get, Some}
use Rattle.zx_model.specs.Bits.{member}
use Rattle.zx_model.specs.Number.{Number, one, mul}
use Rattle.zx_model.proofs.Ring.{one-mul}
use Rattle.zx_calculus.specs.Graph.{End, Graph, end_vertices, in_order, different, WellFormed, plain}
use Rattle.zx_calculus.specs.Sum.{graph_sum}
use Rattle.zx_calculus.proofs.Factors.{split_left}
use Rattle.zx_calculus.specs.Splits.{IsSplitOutput, move_end, mark_of}
use Rattle.zx_calculus.proofs.Ids.{and-left, and-right, member-different, eqb-self}
use Rattle.zx_calculus.proofs.Splits.{move_end-absent, split_output_sum}
use Rattle.zx_gates.specs.Maps.{act}
use Rattle.zx_gates.specs.declared.gate.Gate.TheVariants.{H}
use Rattle.circuit_laws.specs.Followed.{followed, PeelsAt}
use Rattle.circuit_laws.specs.Peeling.{IsMarkPeel, IsSpiderPeel, marked}
use Rattle.circuit_laws.proofs.Composing.{followed_by_sums, peels_exactly}
use Rattle.circuit_laws.proofs.Places.{first_is, member-places, places-same, slice_get-set, set_same, apart_from, ordered_by_places}
use Rattle.circuit_laws.proofs.Settling.{mark_peeled}

-- the mark goes, and the end moves
move_end-set : (es : List End) (q u new : ℕ) → in_order different (end_vertices es) ≡ true →
    slice_get es q ≡ Some (plain u) → move_end u new (set es q (marked u)) ≡ set es q (plain new)
move_end-set [] q u new once h = refl
move_end-set (e ∷ es) nought u new once h =
    let absent : member u (end_vertices es) ≡ false = ap (λ (d : End). member d.vertex (end_vertices es)) (sym (first_is e (plain u) h)) ∙ member-different e.vertex (end_vertices es) (and-left _ _ once) in
    rw (eqb-self u) (ap (λ r. plain new ∷ r) (move_end-absent u new es absent))
move_end-set (e ∷ es) (suc q) u new once h =
    rw (ne_eqb u e.vertex (λ s. apart_from e.vertex es q (plain u) (and-left _ _ once) h (sym s)))
    (ap (λ r. e ∷ r) (move_end-set es q u new (and-right _ _ once) h))

mark_of-set : (es : List End) (q u : ℕ) → in_order different (end_vertices es) ≡ true → slice_get es q ≡ Some (plain u) →
    mark_of (set es q (marked u)) u ≡ true
mark_of-set [] q u once h = cc
mark_of-set (e ∷ es) nought u once h = rw (eqb-self u)
mark_of-set (e ∷ es) (suc q) u once h =
    rw (ne_eqb u e.vertex (λ s. apart_from e.vertex es q (plain u) (and-left _ _ once) h (sym s))) (mark_of-set es q u (and-right _ _ once) h)

module _ (g : Graph) (q : ℕ) (h : Graph) (wh : WellFormed h) (c : IsSpiderPeel g q h) where
  -- h with a mark at the output
  abbrev pub with_mark : Graph
  with_mark = record { vertices = h.vertices; edges = h.edges; inputs = h.inputs; outputs = set h.outputs q (marked c.next) }

  same_places : end_vertices with_mark.outputs ≡ end_vertices h.outputs
  same_places = places-same h.outputs q (plain c.next) (marked c.next) c.output refl

  pub with_mark_formed : WellFormed with_mark
  with_mark_formed = record {
    vertices_rising = wh.vertices_rising;
    phases_below_a_turn = wh.phases_below_a_turn;
    edges = wh.edges;
    inputs = wh.inputs;
    outputs = ordered_by_places h.vertices h.outputs with_mark.outputs same_places wh.outputs;
  }

  pub is_split : IsSplitOutput with_mark c.next c.spider g
  is_split = record {
    fresh = c.fresh;
    has_output = ap (member c.next) same_places ∙ member-places h.outputs q (plain c.next) c.output;
    vertices = c.vertices;
    ordered = c.ordered;
    edges = c.edges;
    inputs = c.inputs;
    outputs = c.outputs ∙ sym (move_end-set h.outputs q c.next c.spider wh.outputs.one_each c.output);
  }

  is_mark : IsMarkPeel with_mark q h
  is_mark = record {
    vertex = c.next;
    output = slice_get-set h.outputs q (plain c.next) (marked c.next) c.output;
    vertices = refl;
    edges = refl;
    inputs = refl;
    outputs = sym (ap (λ es. es) (set-set h.outputs q (marked c.next) (plain c.next)) ∙ set_same h.outputs q (plain c.next) c.output);
  }

  same_sum : WellFormed g → (x y : List Bool) → length y ≡ length with_mark.outputs → graph_sum with_mark x y ≡ graph_sum g x y
  same_sum wg x y l =
      sym (one-mul (graph_sum with_mark x y))
      ∙ ap (λ b. mul (split_left b) (graph_sum with_mark x y)) (sym (mark_of-set h.outputs q c.next wh.outputs.one_each c.output))
      ∙ split_output_sum with_mark c.next c.spider g x y with_mark_formed wg is_split l
      ∙ one-mul (graph_sum g x y)

  same_length : length with_mark.outputs ≡ length g.outputs
  same_length = length-set h.outputs q (marked c.next) ∙ sym (ap length c.outputs ∙ length-set h.outputs q (plain c.spider))

  pub spider_peeled : (f : List Bool → Number) (x : List Bool) → WellFormed g →
      followed g f x ≡ followed h (act (H q) f) x
  spider_peeled f x wg =
      followed_by_sums g with_mark f x same_length (λ y l. sym (same_sum wg x y (l ∙ sym same_length)))
      ∙ mark_peeled with_mark q h f x with_mark_formed wh is_mark

  pub spider_peels : WellFormed g → PeelsAt one g (H q ∷ []) h
  spider_peels wg =
      peels_exactly g (H q ∷ []) h (ap length (sym c.inputs)) (sym (length-set h.outputs q (plain c.spider)) ∙ ap length (sym c.outputs)) (λ f x. spider_peeled f x wg)
