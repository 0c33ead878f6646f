-- Each map is compared at every entry, but phases add up by their law.
use Rattle.std.proofs.Common.{◌≡◌, refl, sym, ap, ◌∙◌, true, false, [], ◌∷◌}
use Rattle.zx_model.specs.Phase.{half_turn, quarter_turn, eighth_turn, opposite_phase}
use Rattle.zx_model.specs.Cyclotomic.{add_cyclotomic, mul_cyclotomic, neg_cyclotomic}
use Rattle.zx_model.specs.Number.{one, add, mul, neg, root_power}
use Rattle.zx_model.specs.Constants.{two}
use Rattle.zx_model.proofs.Ring.{one_nonzero, two_nonzero}
use Rattle.zx_model.proofs.ProportionalLemmas.{proportional_trans}
use Rattle.zx_gates.specs.Maps.{amp, swap_two}
use Rattle.zx_gates.specs.declared.gate.Gate.TheVariants.{H, Phase, Cz, Cx, Not}
use Rattle.zx_gates.proofs.WorkedLemmas.{one_qubit_entries, two_qubit_entries, two_phases, no_phase, root_nonzero, half_turn_at_one, not_proportional}
use Rattle.zx_gates.proofs.laws.worked_maps.Goals as goal

pub returns-clause-two_hadamards : goal.returns-clause-two_hadamards
unfolding add mul neg root_power add_cyclotomic mul_cyclotomic neg_cyclotomic
returns-clause-two_hadamards c =
    one_qubit_entries one two one_nonzero two_nonzero (amp (H 0 ∷ H 0 ∷ [])) (amp []) (refl, refl, refl, refl)

pub returns-clause-hadamard_z_hadamard : goal.returns-clause-hadamard_z_hadamard
unfolding add mul neg root_power add_cyclotomic mul_cyclotomic neg_cyclotomic
returns-clause-hadamard_z_hadamard c =
    one_qubit_entries one two one_nonzero two_nonzero (amp (H 0 ∷ Phase 0 half_turn ∷ H 0 ∷ [])) (amp (Not 0 ∷ [])) (refl, refl, refl, refl)

pub returns-clause-hadamard_x_hadamard : goal.returns-clause-hadamard_x_hadamard
unfolding add mul neg root_power add_cyclotomic mul_cyclotomic neg_cyclotomic
returns-clause-hadamard_x_hadamard c =
    let third : mul one (amp (H 0 ∷ Not 0 ∷ H 0 ∷ []) (true ∷ []) (false ∷ [])) ≡ mul two (mul (neg one) (amp [] (true ∷ []) (false ∷ []))) = refl in
    let fourth : mul one (amp (H 0 ∷ Not 0 ∷ H 0 ∷ []) (true ∷ []) (true ∷ [])) ≡ mul two (mul (neg one) (amp [] (true ∷ []) (true ∷ []))) = refl in
    one_qubit_entries one two one_nonzero two_nonzero (amp (H 0 ∷ Not 0 ∷ H 0 ∷ [])) (amp (Phase 0 half_turn ∷ []))
    (refl, refl, third ∙ ap (mul two) (sym (half_turn_at_one false)), fourth ∙ ap (mul two) (sym (half_turn_at_one true)))

pub returns-clause-two_nots : goal.returns-clause-two_nots
unfolding add mul neg root_power add_cyclotomic mul_cyclotomic neg_cyclotomic
returns-clause-two_nots c =
    one_qubit_entries one one one_nonzero one_nonzero (amp (Not 0 ∷ Not 0 ∷ [])) (amp []) (refl, refl, refl, refl)

pub returns-clause-two_ts_are_s : goal.returns-clause-two_ts_are_s
returns-clause-two_ts_are_s c =
    two_phases eighth_turn eighth_turn

pub returns-clause-two_roots_of_t_are_t : goal.returns-clause-two_roots_of_t_are_t
returns-clause-two_roots_of_t_are_t c =
    two_phases 1 1

pub returns-clause-s_and_its_inverse : goal.returns-clause-s_and_its_inverse
returns-clause-s_and_its_inverse c =
    proportional_trans 1 1 (amp (Phase 0 quarter_turn ∷ Phase 0 (opposite_phase quarter_turn) ∷ [])) (amp (Phase 0 0 ∷ [])) (amp [])
    (two_phases quarter_turn (opposite_phase quarter_turn)) no_phase

pub returns-clause-t_between_nots_undoes_t : goal.returns-clause-t_between_nots_undoes_t
unfolding add mul neg root_power add_cyclotomic mul_cyclotomic neg_cyclotomic
returns-clause-t_between_nots_undoes_t c =
    one_qubit_entries one (root_power eighth_turn) one_nonzero root_nonzero (amp (Not 0 ∷ Phase 0 eighth_turn ∷ Not 0 ∷ Phase 0 eighth_turn ∷ [])) (amp []) (refl, refl, refl, refl)

pub returns-clause-cz_by_cx : goal.returns-clause-cz_by_cx
unfolding add mul neg root_power add_cyclotomic mul_cyclotomic neg_cyclotomic
returns-clause-cz_by_cx c =
    two_qubit_entries two one two_nonzero one_nonzero (amp (Cz 0 1 ∷ [])) (amp (H 1 ∷ Cx 0 1 ∷ H 1 ∷ []))
    ((refl, refl, refl, refl), (refl, refl, refl, refl), (refl, refl, refl, refl), (refl, refl, refl, refl))

pub returns-clause-cz_is_symmetric : goal.returns-clause-cz_is_symmetric
unfolding add mul neg root_power add_cyclotomic mul_cyclotomic neg_cyclotomic
returns-clause-cz_is_symmetric c =
    two_qubit_entries one one one_nonzero one_nonzero (amp (Cz 0 1 ∷ [])) (amp (Cz 1 0 ∷ []))
    ((refl, refl, refl, refl), (refl, refl, refl, refl), (refl, refl, refl, refl), (refl, refl, refl, refl))

pub returns-clause-two_cx : goal.returns-clause-two_cx
unfolding add mul neg root_power add_cyclotomic mul_cyclotomic neg_cyclotomic
returns-clause-two_cx c =
    two_qubit_entries one one one_nonzero one_nonzero (amp (Cx 0 1 ∷ Cx 0 1 ∷ [])) (amp [])
    ((refl, refl, refl, refl), (refl, refl, refl, refl), (refl, refl, refl, refl), (refl, refl, refl, refl))

pub returns-clause-three_cx_exchange : goal.returns-clause-three_cx_exchange
unfolding add mul neg root_power add_cyclotomic mul_cyclotomic neg_cyclotomic
returns-clause-three_cx_exchange c =
    two_qubit_entries one one one_nonzero one_nonzero (amp (Cx 0 1 ∷ Cx 1 0 ∷ Cx 0 1 ∷ [])) swap_two
    ((refl, refl, refl, refl), (refl, refl, refl, refl), (refl, refl, refl, refl), (refl, refl, refl, refl))

pub returns-clause-t_is_not_s : goal.returns-clause-t_is_not_s
returns-clause-t_is_not_s c = not_proportional
