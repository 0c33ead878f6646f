-- Wires alone are a well-formed graph.
use Rattle.std.proofs.Common.{◌≡◌, refl, ◌∙◌, ap, ℕ, zero, suc, ◌<◌, ◌+◌, true, ltb, lt-ltb, arith, List, [], ◌∷◌, map}
use Rattle.std.specs.List.{list_all, range_with_len}
use Rattle.zx_model.specs.Phase.{turn}
use Rattle.zx_calculus.specs.Graph.{is_XY, in_order, different, end_vertices, OrderedEnds, WellFormed}
use Rattle.zx_calculus.specs.Splits.{spider_of_phase_zero}
use Rattle.zx_calculus.proofs.Ids.{and-left, and-right, member-below}
use Rattle.zx_calculus.proofs.Kept.{both, all_by, different-all}
use Rattle.circuit_graph.specs.Translation.{wires}
use Rattle.circuit_graph.proofs.Beginning.{at_both, ids-spiders, places-plain, kinds-spiders}

above : (b a n : ℕ) → b < a → list_all (ltb b) (range_with_len a n) ≡ true
above b a zero lt = refl
above b a (suc n) lt = both _ _ (lt-ltb b a lt) (above b (a + 1) n (omega arith))

range_rising : (a n : ℕ) → in_order ltb (range_with_len a n) ≡ true
range_rising a zero = refl
range_rising a (suc n) = both _ _ (above a (a + 1) n (omega arith)) (range_rising (a + 1) n)

rising_different : (xs : List ℕ) → in_order ltb xs ≡ true → in_order different xs ≡ true
rising_different [] o = refl
rising_different (x ∷ xs) o = both _ _ (different-all x xs (member-below x xs (and-left _ _ o))) (rising_different xs (and-right _ _ o))

below-spiders : (us : List ℕ) → list_all (λ v. ltb v.kind.phase turn) (map spider_of_phase_zero us) ≡ true
below-spiders [] = refl
below-spiders (u ∷ us) = below-spiders us

module _ (n : ℕ) where
  ends : OrderedEnds (wires n).vertices (wires n).inputs
  ends = record {
    one_each = ap (in_order different) (places-plain (range_with_len 0 n)) ∙ rising_different (range_with_len 0 n) (range_rising 0 n);
    there = all_by _ (end_vertices (wires n).inputs) (λ u there. at_both n u ∙ there);
    at_XY = all_by _ (end_vertices (wires n).inputs) (λ u there. ap (λ kind. is_XY kind.plane) (kinds-spiders (range_with_len 0 n) u));
  }

  pub wires_formed : WellFormed (wires n)
  wires_formed = record {
    vertices_rising = ap (in_order ltb) (ids-spiders (range_with_len 0 n)) ∙ range_rising 0 n;
    phases_below_a_turn = below-spiders (range_with_len 0 n);
    edges = record { lower_first = refl; rising = refl; lower_there = refl; higher_there = refl };
    inputs = ends;
    outputs = ends;
  }
