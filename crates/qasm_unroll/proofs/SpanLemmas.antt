-- Arguments in numbers that are cut off stand for what they stand for in the scope.
use Rattle.std.proofs.Common.{◌≡◌, ℕ, ◌+◌, ◌-◌, ◌^◌, ◌<◌, ◌≤◌, min, Bool, true, false, ◌||◌, if◌then◌else◌, List, [], ◌∷◌, Option, None, Some, refl, sym, ap, ◌∙◌, arith}
use Rattle.std.specs.List.{list_any}
use Rattle.std.specs.Str.{bytes_eq}
use Rattle.std.proofs.lemmas.Bool.Decides.{nat_tests}
use Rattle.zx_gates.specs.Circuit.{most_qubits}
use Rattle.zx_gates.specs.Elementary.{most_bits}
use Rattle.qasm_reader.specs.Syntax.{Operand, Barrier}
use Rattle.qasm_scope.specs.Applications.{Single, range_in, range_of, register_of}
use Rattle.qasm_names.specs.Checks.{Symbols, lookup_by}
use Rattle.qasm_scope.specs.declared.causes.Cause.{Cause}
use Rattle.qasm_names.specs.Kept.{IsSound, IsSoundMeaning}
use Rattle.qasm_scope.specs.Faults.{is_past, wrong_in, has_no_register, has_past_index}
use Rattle.qasm_scope.specs.Scope.{Scope, Meaning, Qubits, Bits, Gate, bit_count, bit_register, bits_in, meaning_of, numeral, qubit_count, qubit_register, qubits_in, lookup_in}
use Rattle.qasm_unroll.specs.Internal.Spans.{any_missing, span_in, span_of}
use Rattle.qasm_names.proofs.CheckLemmas.{AreNames, same-lookup}
use Rattle.qasm_names.proofs.Tests.{any_or}
use Rattle.qasm_scope.specs.declared.causes.Cause.TheVariants as cause

-- a register lies below a number of qubits or bits
abbrev pub LiesBelow : ℕ → Option (ℕ × ℕ) → Type 0
LiesBelow limit None = Unit {0}
LiesBelow limit (Some register) = register.0 + register.1 ≤ limit

pub lies-more : (register : Option (ℕ × ℕ)) (limit more : ℕ) → limit ≤ more → LiesBelow limit register → LiesBelow more register
lies-more None limit more h k = tt
lies-more (Some register) limit more h k = omega arith

qubits-at : (b replaceable : Bool) (m : Meaning) (scope : Scope) (rest : Option Meaning) → IsSoundMeaning scope m replaceable → LiesBelow (qubit_count scope) (qubit_register rest)
    → LiesBelow (qubits_in m + qubit_count scope) (qubit_register (if b then Some m else rest))
qubits-at true replaceable (Qubits first size) scope rest sound h = let place = sound.0.after_others in omega arith
qubits-at false replaceable m scope rest sound h = lies-more (qubit_register rest) (qubit_count scope) (qubits_in m + qubit_count scope) (omega arith) h
qubits-at true replaceable _ scope rest sound h = tt

bits-at : (b replaceable : Bool) (m : Meaning) (scope : Scope) (rest : Option Meaning) → IsSoundMeaning scope m replaceable → LiesBelow (bit_count scope) (bit_register rest)
    → LiesBelow (bits_in m + bit_count scope) (bit_register (if b then Some m else rest))
bits-at true replaceable (Bits first size) scope rest sound h = let place = sound.0.after_others in omega arith
bits-at false replaceable m scope rest sound h = lies-more (bit_register rest) (bit_count scope) (bits_in m + bit_count scope) (omega arith) h
bits-at true replaceable _ scope rest sound h = tt

-- the registers of a sound scope lie below its number of qubits or bits
pub register-below : (name : List ℕ) (scope : Scope) → IsSound scope → LiesBelow (qubit_count scope) (qubit_register (meaning_of name scope))
register-below name [] sound = tt
register-below name (d ∷ scope) sound = qubits-at (bytes_eq d.name name) d.replaceable d.meaning scope (meaning_of name scope) sound.0 (register-below name scope sound.2)

pub bits-below : (name : List ℕ) (scope : Scope) → IsSound scope → LiesBelow (bit_count scope) (bit_register (meaning_of name scope))
bits-below name [] sound = tt
bits-below name (d ∷ scope) sound = bits-at (bytes_eq d.name name) d.replaceable d.meaning scope (meaning_of name scope) sound.0 (bits-below name scope sound.2)

few-at : (m : Meaning) (replaceable : Bool) (scope : Scope) → IsSoundMeaning scope m replaceable → (qubit_count scope ≤ most_qubits) × (bit_count scope ≤ most_bits)
    → (qubits_in m + qubit_count scope ≤ most_qubits) × (bits_in m + bit_count scope ≤ most_bits)
few-at (Qubits first size) replaceable scope sound h = (sound.0.few, omega (arith, h.1))
few-at (Bits first size) replaceable scope sound h = (omega (arith, h.0), sound.0.few)
few-at (Gate form) replaceable scope sound h = (omega (arith, h.0), omega (arith, h.1))

-- a sound scope has few qubits and bits
pub few-sound : (scope : Scope) → IsSound scope → (qubit_count scope ≤ most_qubits) × (bit_count scope ≤ most_bits)
few-sound [] sound = (omega arith, omega arith)
few-sound (d ∷ scope) sound = few-at d.meaning d.replaceable scope sound.0 (few-sound scope sound.2)

pub few-register : (name : List ℕ) (scope : Scope) → IsSound scope → LiesBelow most_qubits (qubit_register (meaning_of name scope))
few-register name scope sound = lies-more (qubit_register (meaning_of name scope)) (qubit_count scope) most_qubits (few-sound scope sound).0 (register-below name scope sound)

pub few-bits : (name : List ℕ) (scope : Scope) → IsSound scope → LiesBelow most_bits (bit_register (meaning_of name scope))
few-bits name scope sound = lies-more (bit_register (meaning_of name scope)) (bit_count scope) most_bits (few-sound scope sound).1 (bits-below name scope sound)

pub span-at : (limit : ℕ) (register : Option (ℕ × ℕ)) (index : Option (List ℕ)) → limit < 2 ^ 64 → LiesBelow limit register → is_past register index ≡ false → span_in register index ≡ range_in register index
span-at limit (Some register) (Some text) large few h =
    let within : numeral text < register.1 = grind (arith, nat_tests) in
    let same : min (register.0 + min (numeral text) (2 ^ 64 - 1)) (2 ^ 64 - 1) ≡ register.0 + numeral text = omega arith in
    ap Single same
span-at limit _ _ large few h = refl

-- an argument stands for its qubits
pub span-range : (scope : Scope) (o : Operand) → IsSound scope → has_past_index (lookup_in scope) o ≡ false → span_of (lookup_in scope) o ≡ range_of (lookup_in scope) o
span-range scope o sound within = span-at most_qubits (register_of (lookup_in scope) o) o.index (omega arith) (few-register o.register scope sound) within

-- the first cause of a barrier
abbrev barrier_cause : Bool → Bool → Option Cause
barrier_cause unknown past =
    if unknown then Some cause.Unknown else
    if past then Some cause.Index else None

-- what is wrong with a barrier
barrier-at : (unknown past : Bool) → (unknown || past) ≡ true → barrier_cause unknown past ≡ Some (if unknown then cause.Unknown else cause.Index)
barrier-at false false h = absurd (cc)
barrier-at _ _ h = refl

barrier-clear : (unknown past : Bool) → (unknown || past) ≡ false → barrier_cause unknown past ≡ None
barrier-clear false false h = refl
barrier-clear _ _ h = absurd (cc)

barrier-kept : (symbols : Symbols) (scope : Scope) (operands : List Operand) → AreNames symbols scope
    → wrong_in scope (Barrier operands) ≡ barrier_cause (list_any (has_no_register (lookup_by symbols)) operands) (list_any (has_past_index (lookup_by symbols)) operands)
unfolding wrong_in
barrier-kept symbols scope operands h =
    ap (λ names. barrier_cause (list_any (has_no_register names) operands) (list_any (has_past_index names) operands)) (sym (same-lookup symbols scope h))

pub wrong_in-barrier : (symbols : Symbols) (scope : Scope) (operands : List Operand) → AreNames symbols scope
    → any_missing (lookup_by symbols) operands ≡ true
    → wrong_in scope (Barrier operands) ≡ Some (if list_any (has_no_register (lookup_by symbols)) operands then cause.Unknown else cause.Index)
wrong_in-barrier symbols scope operands h missing =
    barrier-kept symbols scope operands h ∙ barrier-at (list_any (has_no_register (lookup_by symbols)) operands) (list_any (has_past_index (lookup_by symbols)) operands) (sym (any_or (has_no_register (lookup_by symbols)) (has_past_index (lookup_by symbols)) operands) ∙ missing)

pub clear-barrier : (symbols : Symbols) (scope : Scope) (operands : List Operand) → AreNames symbols scope
    → any_missing (lookup_by symbols) operands ≡ false → wrong_in scope (Barrier operands) ≡ None
clear-barrier symbols scope operands h clear =
    barrier-kept symbols scope operands h ∙ barrier-clear (list_any (has_no_register (lookup_by symbols)) operands) (list_any (has_past_index (lookup_by symbols)) operands) (sym (any_or (has_no_register (lookup_by symbols)) (has_past_index (lookup_by symbols)) operands) ∙ clear)
