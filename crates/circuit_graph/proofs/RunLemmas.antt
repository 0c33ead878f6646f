-- What a list of gates does to a translation under way.
use Rattle.std.proofs.Common.{◌≡◌, refl, sym, ◌∙◌, ap, subst, ℕ, ◌+◌, ◌≤◌, ◌<◌, take, get_or, add-one, List, [], ◌∷◌, ◌++◌, append-nil, length, arith}
use Rattle.std.specs.List.{fold}
use Rattle.std.proofs.lemmas.List.{flat_map_more}
use Rattle.std.proofs.Math.Seq.{take-suc}
use Rattle.zx_model.specs.Number.{one}
use Rattle.zx_model.proofs.Ring.{one-mul}
use Rattle.gflow_laws.proofs.Rewriting.{same_of_equal}
use Rattle.zx_gates.specs.Circuit.{is_odd_phase}
use Rattle.zx_gates.specs.Counting.{is_h}
use Rattle.zx_gates.specs.declared.gate.Gate.{Gate}
use Rattle.circuit_laws.specs.Followed.{PeelsAt}
use Rattle.circuit_laws.proofs.Composing.{peels_nothing, peels_at_then}
use Rattle.circuit_graph.specs.Translation.{by_hadamards, written_out, with_gate}
use Rattle.circuit_graph.specs.Internal.Runs.{GraphSoFar, IsReady, IsRun, Comes}
use Rattle.circuit_graph.proofs.WrittenOut.{count-cons}
use Rattle.circuit_graph.proofs.Gates.{gate_comes, as_many}
use Rattle.circuit_graph.proofs.Tables.{corrected_then}

-- one gate after the other
join : (s : GraphSoFar) (gate : Gate) (u : GraphSoFar) (gates : List Gate) (t : GraphSoFar) → Comes s (gate ∷ []) u → Comes u gates t → Comes s (gate ∷ gates) t
join s gate u gates t c d = record {
  ready = d.ready;
  graph = d.graph ∙ ap (λ g. fold with_gate g gates) c.graph;
  table = corrected_then s.graph u.graph gate gates s.table u.table t.table c.graph c.table d.table;
  map = subst (λ k. PeelsAt k t.graph (gate ∷ gates) s.graph) (one-mul one) (peels_at_then one one t.graph u.graph s.graph (gate ∷ []) gates d.map c.map);
  spiders = more _ _ _ _ _ _ d.spiders c.spiders (count-cons is_h gate gates);
  odd = no_more _ _ _ _ _ _ d.odd c.odd (count-cons is_odd_phase gate gates);
  inputs = d.inputs ∙ c.inputs;
  outputs = d.outputs ∙ c.outputs;
}
  where
    more : (a b c first rest all : ℕ) → a ≡ b + rest → b ≡ c + first → all ≡ first + rest → a ≡ c + all
    more a b c first rest all e f g = omega arith

    no_more : (a b c first rest all : ℕ) → a ≤ b + rest → b ≤ c + first → all ≡ first + rest → a ≤ c + all
    no_more a b c first rest all e f g = omega arith

nothing_comes : (s : GraphSoFar) → IsReady s → Comes s [] s
nothing_comes s r = record { ready = r; graph = refl; table = same_of_equal (sym (append-nil s.table)); map = peels_nothing s.graph; spiders = as_many refl; odd = omega arith; inputs = refl; outputs = refl }

pub run_comes : (s : GraphSoFar) (gates : List Gate) (t : GraphSoFar) → IsReady s → IsRun s gates t → Comes s gates t
run_comes s [] t r e = subst (Comes s []) e (nothing_comes s r)
run_comes s (gate ∷ gates) t r run =
    let first = gate_comes s gate run.0 r run.1 in
    join s gate run.0 gates t first (run_comes run.0 gates t first.ready run.2)

pub run-append : (s : GraphSoFar) (first : List Gate) (t : GraphSoFar) (second : List Gate) (u : GraphSoFar) → IsRun s first t → IsRun t second u → IsRun s (first ++ second) u
run-append s [] t second u e run = subst (λ r. IsRun r second u) (sym e) run
run-append s (gate ∷ gates) t second u before run = (before.0, before.1, run-append before.0 gates t second u before.2 run)

pub run_more : (s : GraphSoFar) (gates : List Gate) (i : ℕ) (gate : Gate) (t u : GraphSoFar) → i < length gates → gate ≡ get_or gates i gate →
    IsRun s (written_out (take i gates)) t → IsRun t (by_hadamards gate) u → IsRun s (written_out (take (i + 1) gates)) u
run_more s gates i gate t u within is before run =
    subst (λ l. IsRun s l u) (sym more) (run-append s (written_out (take i gates)) t (by_hadamards gate) u before run)
  where
    more : written_out (take (i + 1) gates) ≡ written_out (take i gates) ++ by_hadamards gate
    more = ap written_out (rw add-one (take-suc gates i gate within) ∙ ap (λ g. take i gates ++ g ∷ []) (sym is)) ∙ sym (flat_map_more by_hadamards [] (take i gates) gate)
