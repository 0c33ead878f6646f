-- Pairs and triples that are left, and a list that is tidy gate by gate.
use Rattle.std.proofs.Common.{[], ◌∷◌, refl}
use Rattle.zx_model.specs.Phase.{eighth_turn}
use Rattle.zx_gates.specs.declared.gate.Gate.TheVariants.{H, Phase, Cz, Cx, Not}
use Rattle.zx_peephole.specs.Tidy.{IsTidy}
use Rattle.zx_peephole.proofs.TidyLemmas.{tidy-none}
use Rattle.zx_peephole.proofs.FindingLemmas.{free_extends, stop_extends}
use Rattle.zx_peephole.proofs.laws.worked_lists.Goals as goal

pub returns-clause-apart : goal.returns-clause-apart
returns-clause-apart c = λ tidy. tidy.no_pair [] (Cx 0 1 ∷ []) [] (Phase 0 eighth_turn) (Phase 0 eighth_turn) refl refl refl

pub returns-clause-either_order : goal.returns-clause-either_order
returns-clause-either_order c = λ tidy. tidy.no_pair [] [] [] (Cz 0 1) (Cz 1 0) refl refl refl

pub returns-clause-triple : goal.returns-clause-triple
returns-clause-triple c = λ tidy. tidy.no_triple 0 [] (Cx 1 2 ∷ []) [] [] (Not 0) refl refl refl refl

pub returns-clause-nothing_left : goal.returns-clause-nothing_left
returns-clause-nothing_left c =
    let one : IsTidy (H 0 ∷ []) = free_extends [] (H 0) refl tidy-none in
    let two : IsTidy (H 0 ∷ Phase 0 eighth_turn ∷ []) =
    stop_extends (H 0 ∷ []) (Phase 0 eighth_turn) 0 (record { before = []; stop = H 0; between = []; cut = refl; at = refl; stopped = refl; free = refl }) refl refl one in
    stop_extends (H 0 ∷ Phase 0 eighth_turn ∷ []) (H 0) 1
    (record { before = H 0 ∷ []; stop = Phase 0 eighth_turn; between = []; cut = refl; at = refl; stopped = refl; free = refl }) refl refl two
