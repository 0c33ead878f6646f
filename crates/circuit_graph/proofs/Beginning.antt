-- The wires that a translation begins with.
use Rattle.std.proofs.Common.{◌≡◌, refl, sym, ◌∙◌, ap, ap₂, subst, ℕ, zero, suc, ◌+◌, true, false, ◌||◌, List, [], ◌∷◌, ◌++◌, length, map, filter, le-ltb, add-one, zero-add, arith}
use Rattle.std.specs.List.{range_with_len}
use Rattle.std.proofs.lemmas.List.FromFn.{length-map-range_with_len, map-range_with_len_more}
use Rattle.zx_model.specs.Bits.{member}
use Rattle.zx_model.specs.Phase.{is_odd}
use Rattle.zx_model.specs.Number.{one}
use Rattle.zx_calculus.specs.Graph.{XY, Kind, Graph, ids, kind_of, end_vertices, insert_vertex, WellFormed, plain}
use Rattle.zx_calculus.specs.Splits.{spider_of_phase_zero, least_free}
use Rattle.zx_calculus.specs.Turns.{in_plane}
use Rattle.zx_calculus.specs.Counts.{odd_phases}
use Rattle.zx_calculus.proofs.Ids.{by_equal}
use Rattle.zx_calculus.proofs.Kept.{all_by}
use Rattle.circuit_laws.specs.Followed.{EndsAt}
use Rattle.circuit_laws.specs.Peeling.{IsWires, are_plain}
use Rattle.circuit_laws.proofs.Wires.{wires_end, hadamards_from-plain}
use Rattle.circuit_graph.specs.Translation.{wires}
use Rattle.circuit_graph.specs.Internal.Runs.{begun, AreNumbered, IsReady}
use Rattle.circuit_graph.proofs.Gates.{numbered_more, least_is}

pub ids-spiders : (us : List ℕ) → ids (map spider_of_phase_zero us) ≡ us
ids-spiders [] = refl
ids-spiders (u ∷ us) = ap (λ vs. u ∷ vs) (ids-spiders us)

pub places-plain : (us : List ℕ) → end_vertices (map plain us) ≡ us
places-plain [] = refl
places-plain (u ∷ us) = ap (λ vs. u ∷ vs) (places-plain us)

pub kinds-spiders : (us : List ℕ) (v : ℕ) → kind_of (map spider_of_phase_zero us) v ≡ in_plane XY 0
kinds-spiders [] v = refl
kinds-spiders (u ∷ us) v = by_equal v u (λ t e. rw t refl) (λ f n. rw f (kinds-spiders us v))

all_plain : (us : List ℕ) → are_plain (map plain us) ≡ true
all_plain [] = refl
all_plain (u ∷ us) = all_plain us

none_odd : (us : List ℕ) → length (filter (λ v. is_odd v.kind.phase) (map spider_of_phase_zero us)) ≡ 0
none_odd [] = refl
none_odd (u ∷ us) = none_odd us

pub odd-wires : (n : ℕ) → odd_phases (wires n) ≡ 0
odd-wires n = none_odd (range_with_len 0 n)

-- the vertices and the places of the ends are the same
pub at_both : (n u : ℕ) → member u (ids (wires n).vertices) ≡ member u (end_vertices (wires n).inputs)
at_both n u = ap (member u) (ids-spiders (range_with_len 0 n) ∙ sym (places-plain (range_with_len 0 n)))

-- ---- one more wire
insert-range : (a n new : ℕ) → a + n ≡ new →
    insert_vertex (spider_of_phase_zero new) (map spider_of_phase_zero (range_with_len a n)) ≡ map spider_of_phase_zero (range_with_len a n) ++ spider_of_phase_zero new ∷ []
insert-range a zero new e = refl
insert-range a (suc n) new e = rw (le-ltb new a (omega arith)) (ap (λ vs. spider_of_phase_zero a ∷ vs) (insert-range (a + 1) n new (omega arith)))

vertices-more : (n : ℕ) → insert_vertex (spider_of_phase_zero n) (wires n).vertices ≡ (wires (n + 1)).vertices
vertices-more n = insert-range 0 n n (zero-add n) ∙ sym (map-range_with_len_more spider_of_phase_zero 0 n n (zero-add n))

places-more : (n : ℕ) → (wires n).inputs ++ plain n ∷ [] ≡ (wires (n + 1)).inputs
places-more n = sym (map-range_with_len_more plain 0 n n (zero-add n))

wires_numbered : (n : ℕ) → AreNumbered (wires n).vertices
wires_numbered zero = λ u. sym (le-ltb u 0 (omega arith))
wires_numbered (suc n) =
    subst AreNumbered (vertices-more n ∙ ap (λ k. (wires k).vertices) (add-one n))
    (numbered_more n (wires n).vertices (sym (length-map-range_with_len spider_of_phase_zero 0 n)) (wires_numbered n))

-- the new vertex, the least free one, is the next number
pub next_is : (n : ℕ) (s : Graph) (v : ℕ) → s ≡ wires n → WellFormed s → v ≡ least_free (ids s.vertices) → v ≡ n
next_is n s v e w least =
    least ∙ ap (λ (h : Graph). least_free (ids h.vertices)) e ∙ least_is (wires n) (subst WellFormed e w) (wires_numbered n)
    ∙ length-map-range_with_len spider_of_phase_zero 0 n

pub one_more_wire : (n : ℕ) (s : Graph) (v : ℕ) → s ≡ wires n → v ≡ n →
    record { vertices = insert_vertex (spider_of_phase_zero v) s.vertices; edges = s.edges; inputs = s.inputs ++ plain v ∷ []; outputs = s.outputs ++ plain v ∷ [] } ≡ wires (n + 1)
one_more_wire n s v e next =
    ap₂ (λ (g : Graph) u. record { vertices = insert_vertex (spider_of_phase_zero u) g.vertices; edges = g.edges; inputs = g.inputs ++ plain u ∷ []; outputs = g.outputs ++ plain u ∷ [] }) e next
    ∙ (λ j. record { vertices = vertices-more n j; edges = []; inputs = places-more n j; outputs = places-more n j })

-- ---- what holds of wires
wires_alone : (n : ℕ) → IsWires (wires n)
wires_alone n = record {
  phase = λ u there. ap (λ (k : Kind). k.phase) (kinds-spiders (range_with_len 0 n) u);
  output = λ u there. sym (at_both n u) ∙ there;
  in_line = refl;
  plain_outputs = all_plain (range_with_len 0 n);
  no_edges = λ p q. refl;
}

pub begun_ends : (n : ℕ) → WellFormed (wires n) → EndsAt one (wires n) []
begun_ends n w = subst (EndsAt one (wires n)) (hadamards_from-plain 0 (wires n).inputs (all_plain (range_with_len 0 n))) (wires_end (wires n) w (wires_alone n))

pub begun_ready : (n : ℕ) → WellFormed (wires n) → IsReady (begun n)
begun_ready n w = record {
  well_formed = w;
  numbered = wires_numbered n;
  planes = λ u. ap (λ (k : Kind). k.plane) (kinds-spiders (range_with_len 0 n) u);
  flow = record {
    is_table = record {
      each_once = refl;
      no_others = refl;
      all_there = all_by _ (ids (wires n).vertices) (λ u there. ap (λ c. c || false) (sym (at_both n u) ∙ there));
      vertices = refl;
    };
    input = refl;
    order = refl;
    odd = refl;
    plane = refl;
  };
  plain = all_plain (range_with_len 0 n);
}
