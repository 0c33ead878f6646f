-- What is wrong with an application, and what it comes to, by what names are kept as.
use Rattle.std.proofs.Common.{◌≡◌, ℕ, zero, suc, ◌+◌, ◌<◌, ◌≤◌, Bool, true, false, ◌||◌, if◌then◌else◌, List, [], ◌∷◌, length, map, Option, None, Some, refl, sym, ap, ap₂, subst, ◌∙◌, arith}
use Rattle.std.specs.List.{list_any, flat_map, range_with_len}
use Rattle.std.proofs.lemmas.Bool.Decides.{nat_tests}
use Rattle.zx_gates.specs.Circuit.{most_qubits}
use Rattle.zx_gates.specs.declared.elementary.Measure.{Measure}
use Rattle.qasm_angle.specs.Trees.{Tree}
use Rattle.qasm_reader.specs.Syntax.{Apply, Callee, Declared, Operand, Act, Applied}
use Rattle.qasm_scope.specs.Calls.{Event}
use Rattle.qasm_scope.specs.declared.causes.Cause.{Cause}
use Rattle.qasm_scope.specs.declared.causes.Cause.TheVariants as cause
use Rattle.qasm_names.specs.declared.gates.CalledGate.{CalledGate}
use Rattle.qasm_scope.specs.Angles.{is_unsupported, numbered, places_among}
use Rattle.qasm_scope.specs.Applications.{Range, Single, Register, element_at, instances, register_of, register_sizes, ranges_of, range_in, has_twice, application_events}
use Rattle.qasm_names.specs.AppliedGates.{IsAppliedGate, gate_faults, has_fault, is_unknown_gate}
use Rattle.qasm_names.specs.Checks.{Symbols, lookup_by}
use Rattle.qasm_names.specs.Kept.{IsSound, called_for, kept_names}
use Rattle.qasm_names.specs.Places.{ArePlaces}
use Rattle.qasm_scope.specs.Faults.{is_no_gate, shape_of, has_other_name, has_no_register, has_past_index, has_other_size, has_wrong_count, is_past, wrong_behind, wrong_in, is_hidden, has_unknown, application_tests, first_cause}
use Rattle.qasm_unroll.specs.Internal.KeptCalls.{expand_number}
use Rattle.qasm_unroll.specs.Internal.KeptCalls.{called_events, values_of}
use Rattle.qasm_scope.specs.Measurements.{holds_any, qubits_of}
use Rattle.qasm_scope.specs.Scope.{Scope, numeral, lookup_in}
use Rattle.qasm_unroll.specs.Internal.Spans.{any_missing, span_of, AreSpans, IsResolved, IsResolvedIn, is_unresolved, unresolved_cause, resolved_cause, cut_element_at, cut_instance, cut_instances, instances_events, instance_count}
use Rattle.qasm_names.proofs.CheckLemmas.{AreNames, same-kept, same-lookup, same-places}
use Rattle.qasm_names.specs.declared.applied_gates.AppliedGate.{AppliedGate}
use Rattle.qasm_names.specs.declared.applied_gates.GateFaults.{GateFaults}
use Rattle.qasm_names.specs.declared.formals.Formals.{Formals}
use Rattle.std.specs.Prelude.{◌==◌}
use Rattle.qasm_unroll.proofs.EventLemmas.{application-numbered}
use Rattle.qasm_names.proofs.Tests.{or-first, or-second, any_or}
use Rattle.qasm_unroll.proofs.SpanLemmas.{span-range, few-register, LiesBelow}

-- ---- causes
-- the first cause of an application
abbrev application_cause : Bool → Bool → Bool → Bool → Bool → Bool → Option Cause
application_cause unsupported unknown wrong_count past sizes same_qubit =
    if unsupported then Some cause.Unsupported else
    if unknown then Some cause.Unknown else
    if wrong_count then Some cause.WrongCount else
    if past then Some cause.Index else
    if sizes then Some cause.Sizes else
    if same_qubit then Some cause.SameQubit else None

wrong_in-application : (scope : Scope) (a : Apply) → wrong_in scope (Act (Applied a)) ≡ first_cause (application_tests (lookup_in scope) a)
unfolding wrong_in
wrong_in-application scope a = refl

unresolved-cause : (u k w p s q : Bool) → (u || k || w || p) ≡ true → application_cause u k w p s q ≡ Some (unresolved_cause u k w)
unresolved-cause false false false false s q h = absurd (cc)
unresolved-cause _ _ _ _ s q h = refl

-- what is wrong with an application that isn't resolved
pub wrong-unresolved : (symbols : Symbols) (scope : Scope) (a : Apply) → AreNames symbols scope → is_unresolved (lookup_by symbols) a ≡ true
    → wrong_in scope (Act (Applied a)) ≡ Some (unresolved_cause (list_any is_unsupported a.angles) (has_unknown (lookup_by symbols) a) (has_wrong_count (lookup_by symbols) a))
wrong-unresolved symbols scope a h unresolved =
    let names = lookup_by symbols in
    wrong_in-application scope a ∙ ap (λ names. first_cause (application_tests names a)) (sym (same-lookup symbols scope h))
    ∙ unresolved-cause (list_any is_unsupported a.angles) (has_unknown names a) (has_wrong_count names a) (list_any (has_past_index names) a.qubits)
    (has_other_size (register_sizes (ranges_of names a.qubits))) (list_any (has_twice ◌==◌) (instances (ranges_of names a.qubits))) unresolved

clear-cause : (u k w p s q : Bool) → u ≡ false → k ≡ false → w ≡ false → p ≡ false → application_cause u k w p s q ≡ resolved_cause s q
clear-cause false false false false s q eu ek ew ep = refl
clear-cause _ _ _ _ s q eu ek ew ep = absurd (cc)

pub spans-ranges : (scope : Scope) (operands : List Operand) → IsSound scope
    → list_any (has_past_index (lookup_in scope)) operands ≡ false → map (span_of (lookup_in scope)) operands ≡ ranges_of (lookup_in scope) operands
spans-ranges scope [] sound within = refl
spans-ranges scope (o ∷ operands) sound within =
    ap₂ (λ t ts. t ∷ ts) (span-range scope o sound (or-first _ _ within)) (spans-ranges scope operands sound (or-second _ _ within))

-- what is resolved by what names are kept as is so in the scope
resolved-in : (symbols : Symbols) {a : Apply} {gate : CalledGate} {angles : List Tree} {ranges : List Range} (scope : Scope)
    → AreNames symbols scope → IsResolved symbols a gate angles ranges → IsResolvedIn (lookup_in scope) (kept_names scope) a gate angles ranges
resolved-in symbols {a = a} {gate = gate} {angles = angles} {ranges = ranges} scope h r =
    subst (λ names. IsResolvedIn names (kept_names scope) a gate angles ranges) (same-lookup symbols scope h)
    (subst (λ kept. IsResolvedIn (lookup_by symbols) kept a gate angles ranges) (same-kept symbols scope h) r)

resolved-ranges : (symbols : Symbols) {a : Apply} {gate : CalledGate} {angles : List Tree} {ranges : List Range} (scope : Scope)
    → AreNames symbols scope → IsSound scope → IsResolved symbols a gate angles ranges → ranges ≡ ranges_of (lookup_in scope) a.qubits
resolved-ranges symbols {a = a} scope h sound r = let s = resolved-in symbols scope h r in s.same_spans ∙ spans-ranges scope a.qubits sound s.within

-- and with one that is
pub wrong-resolved : (symbols : Symbols) {a : Apply} {gate : CalledGate} {angles : List Tree} {ranges : List Range} (scope : Scope)
    → AreNames symbols scope → IsSound scope → IsResolved symbols a gate angles ranges
    → wrong_in scope (Act (Applied a)) ≡ resolved_cause (has_other_size (register_sizes ranges)) (list_any (has_twice ◌==◌) (instances ranges))
wrong-resolved symbols {a = a} scope h sound r =
    let s = resolved-in symbols scope h r in
    let ranges = ranges_of (lookup_in scope) a.qubits in
    wrong_in-application scope a
    ∙ clear-cause _ _ _ _ (has_other_size (register_sizes ranges)) (list_any (has_twice ◌==◌) (instances ranges)) s.supported s.all_known s.same_counts s.within
    ∙ ap (λ rs. resolved_cause (has_other_size (register_sizes rs)) (list_any (has_twice ◌==◌) (instances rs))) (sym (resolved-ranges symbols scope h sound r))

-- what is wrong with one behind measurements
pub behind-resolved : (symbols : Symbols) {a : Apply} {gate : CalledGate} {angles : List Tree} {ranges : List Range} (scope : Scope) (measured : List Measure)
    → AreNames symbols scope → IsSound scope → IsResolved symbols a gate angles ranges
    → wrong_behind scope measured (Act (Applied a)) ≡ (if list_any (holds_any (qubits_of measured)) ranges then Some cause.AfterMeasure else None)
behind-resolved symbols scope measured h sound r =
    ap (λ rs. if list_any (holds_any (qubits_of measured)) rs then Some cause.AfterMeasure else None) (sym (resolved-ranges symbols scope h sound r))

-- no formal name hides a gate
none-hidden : (gate : Callee) → is_hidden (places_among []) (places_among []) gate ≡ false
none-hidden (Declared name) = refl
none-hidden _ = refl

-- the names of the gate and in its angles, where there are no formal names
unknown-gate : (symbols : Symbols) (formals : Formals) (a : Apply) → ArePlaces formals.parameters [] → ArePlaces formals.qubits []
    → is_unknown_gate symbols formals a.gate a.angles ≡ (is_no_gate (shape_of (lookup_by symbols) a.gate) || list_any (has_other_name (places_among [])) a.angles)
unknown-gate symbols formals a parameters qubits =
    ap₂ (λ p q. is_hidden p q a.gate || is_no_gate (shape_of (lookup_by symbols) a.gate) || list_any (has_other_name p) a.angles)
    (same-places formals.parameters [] parameters) (same-places formals.qubits [] qubits)
    ∙ ap (λ h. h || is_no_gate (shape_of (lookup_by symbols) a.gate) || list_any (has_other_name (places_among [])) a.angles) (none-hidden a.gate)

unknown-kept : (symbols : Symbols) (formals : Formals) (a : Apply) → ArePlaces formals.parameters [] → ArePlaces formals.qubits []
    → (is_unknown_gate symbols formals a.gate a.angles || list_any (has_no_register (lookup_by symbols)) a.qubits) ≡ has_unknown (lookup_by symbols) a
unknown-kept symbols formals a parameters qubits = ap (λ k. k || list_any (has_no_register (lookup_by symbols)) a.qubits) (unknown-gate symbols formals a parameters qubits)

pub same-causes : (symbols : Symbols) (formals : Formals) (a : Apply) (faults : GateFaults) (unknown : Bool) → ArePlaces formals.parameters [] → ArePlaces formals.qubits []
    → faults ≡ gate_faults symbols formals a.gate a.angles (length a.qubits) → unknown ≡ (faults.unknown || list_any (has_no_register (lookup_by symbols)) a.qubits)
    → unresolved_cause faults.unsupported unknown faults.wrong_count ≡ unresolved_cause (list_any is_unsupported a.angles) (has_unknown (lookup_by symbols) a) (has_wrong_count (lookup_by symbols) a)
same-causes symbols formals a faults unknown parameters qubits same names =
    ap (λ k. unresolved_cause faults.unsupported k faults.wrong_count) names
    ∙ ap (λ f. unresolved_cause f.unsupported (f.unknown || list_any (has_no_register (lookup_by symbols)) a.qubits) f.wrong_count) same
    ∙ ap (λ k. unresolved_cause (list_any is_unsupported a.angles) k (has_wrong_count (lookup_by symbols) a)) (unknown-kept symbols formals a parameters qubits)

or-gate : (u g o r w p : Bool) → (u || (g || o) || w) ≡ true → (u || (g || o || r) || w || p) ≡ true
or-gate false false false false false p h = absurd (cc)
or-gate _ _ _ _ _ p h = refl

-- something is wrong with the gate or its angles
pub unresolved-gate : (symbols : Symbols) (formals : Formals) (a : Apply) → ArePlaces formals.parameters [] → ArePlaces formals.qubits []
    → has_fault (gate_faults symbols formals a.gate a.angles (length a.qubits)) ≡ true → is_unresolved (lookup_by symbols) a ≡ true
unresolved-gate symbols formals a parameters qubits h =
    or-gate (list_any is_unsupported a.angles) (is_no_gate (shape_of (lookup_by symbols) a.gate)) (list_any (has_other_name (places_among [])) a.angles) (list_any (has_no_register (lookup_by symbols)) a.qubits)
    (has_wrong_count (lookup_by symbols) a) (list_any (has_past_index (lookup_by symbols)) a.qubits)
    (sym (ap (λ k. list_any is_unsupported a.angles || k || has_wrong_count (lookup_by symbols) a) (unknown-gate symbols formals a parameters qubits)) ∙ h)

or-arguments : (u g o r w p : Bool) → (r || p) ≡ true → (u || (g || o || r) || w || p) ≡ true
or-arguments false false false false false p h = h
or-arguments _ _ _ _ _ p h = refl

-- an argument isn't there
pub unresolved-arguments : (symbols : Symbols) (a : Apply) → any_missing (lookup_by symbols) a.qubits ≡ true → is_unresolved (lookup_by symbols) a ≡ true
unresolved-arguments symbols a h =
    or-arguments (list_any is_unsupported a.angles) (is_no_gate (shape_of (lookup_by symbols) a.gate)) (list_any (has_other_name (places_among [])) a.angles) (list_any (has_no_register (lookup_by symbols)) a.qubits)
    (has_wrong_count (lookup_by symbols) a) (list_any (has_past_index (lookup_by symbols)) a.qubits)
    (sym (any_or (has_no_register (lookup_by symbols)) (has_past_index (lookup_by symbols)) a.qubits) ∙ h)

-- what was found is an application with its names resolved
pub resolved-from : (symbols : Symbols) (formals : Formals) (a : Apply) (applied : AppliedGate) (ranges : List Range) → ArePlaces formals.parameters [] → ArePlaces formals.qubits []
    → IsAppliedGate symbols formals a.gate a.angles (length a.qubits) applied → AreSpans (lookup_by symbols) a.qubits ranges → IsResolved symbols a applied.called applied.angles.items ranges
resolved-from symbols formals a applied ranges parameters qubits is spans =
    let known : (list_any is_unsupported a.angles || is_unknown_gate symbols formals a.gate a.angles) ≡ false = or-first _ _ is.faultless in
    let gate : (is_no_gate (shape_of (lookup_by symbols) a.gate) || list_any (has_other_name (places_among [])) a.angles) ≡ false = sym (unknown-gate symbols formals a parameters qubits) ∙ or-second _ _ known in
    record {
      supported = or-first _ _ known;
      all_known = ap₂ ◌||◌ gate spans.all_registers;
      same_counts = or-second _ _ is.faultless;
      within = spans.all_within;
      same_gate = is.same_gate;
      same_angles = is.same_angles ∙ ap (λ places. map (numbered places) a.angles) (same-places formals.parameters [] parameters);
      same_spans = spans.same;
    }

-- ---- qubits are few
abbrev pub IsSmall : ℕ → Range → Type 0
IsSmall limit (Single place) = place ≤ limit
IsSmall limit (Register first size) = (first ≤ limit) × (size ≤ limit)

abbrev AreSmall : List Range → Type 0
AreSmall [] = Unit {0}
AreSmall (t ∷ ranges) = IsSmall most_qubits t × AreSmall ranges

pub small-at : (limit : ℕ) (register : Option (ℕ × ℕ)) (index : Option (List ℕ)) → LiesBelow limit register → is_past register index ≡ false → IsSmall limit (range_in register index)
small-at limit (Some register) None few h = (omega arith, omega arith)
small-at limit (Some register) (Some text) few h = let within : numeral text < register.1 = grind (arith, nat_tests) in omega arith
small-at limit None _ few h = omega arith

small-ranges : (scope : Scope) (operands : List Operand) → IsSound scope → list_any (has_past_index (lookup_in scope)) operands ≡ false → AreSmall (ranges_of (lookup_in scope) operands)
small-ranges scope [] sound within = tt
small-ranges scope (o ∷ operands) sound within = (
  small-at most_qubits (register_of (lookup_in scope) o) o.index (few-register o.register scope sound) (or-first _ _ within),
  small-ranges scope operands sound (or-second _ _ within),
)

small-count : (ranges : List Range) → AreSmall ranges → instance_count (register_sizes ranges) ≤ most_qubits
small-count [] small = omega arith
small-count (Single qubit ∷ ranges) small = small-count ranges small.1
small-count (Register first size ∷ ranges) small = small.0.1

pub cut-at : (t : Range) (index : ℕ) → IsSmall most_qubits t → index ≤ most_qubits → cut_element_at index t ≡ element_at index t
cut-at (Single qubit) index small within = omega arith
cut-at (Register first size) index small within = let few = small.0 in omega arith

cut-instance : (ranges : List Range) (index : ℕ) → AreSmall ranges → index ≤ most_qubits → cut_instance ranges index ≡ map (element_at index) ranges
cut-instance [] index small within = refl
cut-instance (t ∷ ranges) index small within = ap₂ (λ q qs. q ∷ qs) (cut-at t index small.0 within) (cut-instance ranges index small.1 within)

cut-from : (ranges : List Range) (start n : ℕ) → AreSmall ranges → start + n ≤ most_qubits
    → map (cut_instance ranges) (range_with_len start n) ≡ map (λ index. map (element_at index) ranges) (range_with_len start n)
cut-from ranges start zero small h = refl
cut-from ranges start (suc n) small h = ap₂ (λ q qs. q ∷ qs) (cut-instance ranges start small (omega arith)) (cut-from ranges (start + 1) n small (omega arith))

cut-instances : (ranges : List Range) → AreSmall ranges → cut_instances ranges ≡ instances ranges
cut-instances ranges small = let few = small-count ranges small in cut-from ranges 0 (instance_count (register_sizes ranges)) small (omega arith)

-- ---- what an application comes to
pub resolved-events : (symbols : Symbols) {a : Apply} {gate : CalledGate} {angles : List Tree} {ranges : List Range} (scope : Scope)
    → AreNames symbols scope → IsSound scope → IsResolved symbols a gate angles ranges
    → instances_events (expand_number scope) gate (values_of angles []) ranges ≡ application_events scope a
resolved-events symbols {a = a} {ranges = ranges} scope h sound r =
    let s = resolved-in symbols scope h r in
    let called : CalledGate → List Tree → List (List ℕ) → List Event = λ t ts is. flat_map (called_events (expand_number scope) t 1 (values_of ts [])) is in
    ap₂ (λ t ts. called t ts (cut_instances ranges)) s.same_gate s.same_angles
    ∙ ap (called (called_for (kept_names scope) a.gate) (map (numbered (places_among [])) a.angles))
    (ap cut_instances (resolved-ranges symbols scope h sound r) ∙ cut-instances (ranges_of (lookup_in scope) a.qubits) (small-ranges scope a.qubits sound s.within))
    ∙ sym (application-numbered scope a (or-first _ _ (or-first _ _ s.all_known)))
