-- Measurements by what names are kept as, and what is kept of them.
use Rattle.std.proofs.Common.{◌≡◌, ℕ, zero, suc, ◌+◌, ◌-◌, ◌^◌, ◌≤◌, ◌==◌, min, Bool, true, false, ◌||◌, if◌then◌else◌, List, [], ◌∷◌, ◌++◌, map, Option, None, Some, refl, sym, ap, ap₂, subst, ◌∙◌, append_assoc, arith}
use Rattle.std.specs.List.{list_any, range_with_len}
use Rattle.std.specs.Option.{option_or}
use Rattle.std.proofs.lemmas.List.{map-append}
use Rattle.zx_model.specs.Bits.{member}
use Rattle.zx_gates.specs.Circuit.{most_qubits}
use Rattle.zx_gates.specs.Elementary.{most_bits}
use Rattle.zx_gates.specs.declared.elementary.Measure.{Measure}
use Rattle.qasm_reader.specs.Syntax.{Operand, Act, Measured as MeasuredAs}
use Rattle.qasm_scope.specs.Applications.{Range, Single, Register, element_at, range_of, register_of}
use Rattle.qasm_scope.specs.declared.causes.Cause.{Cause}
use Rattle.qasm_scope.specs.declared.causes.Cause.TheVariants as cause
use Rattle.qasm_scope.specs.Faults.{is_no_register, is_past, wrong_behind, wrong_in}
use Rattle.qasm_scope.specs.Measurements.{are_unlike, bit_range_of, bit_register_of, bits_of, count_in, holds, holds_any, measures_of, qubits_of}
use Rattle.qasm_scope.specs.Scope.{Scope, Lookup, lookup_in}
use Rattle.qasm_names.specs.Checks.{Symbols, lookup_by}
use Rattle.qasm_names.specs.Kept.{IsSound}
use Rattle.qasm_unroll.specs.declared.measured.Measured.{Measured}
use Rattle.qasm_unroll.specs.Internal.KeptMeasures.{Adds, AreFoundSpans, Inserts, cut_measure, cut_measures, found_cause, named_cause, wrong_measure}
use Rattle.qasm_names.proofs.CheckLemmas.{AreNames, same-lookup}
use Rattle.qasm_names.proofs.Tests.{list_any-same, or-first, or-second}
use Rattle.qasm_unroll.proofs.ApplyLemmas.{IsSmall, cut-at, small-at}
use Rattle.qasm_unroll.proofs.MemberLemmas.{any-members, member-append}
use Rattle.qasm_unroll.proofs.SpanLemmas.{few-bits, few-register, span-at}

-- ---- causes
abbrev named : Bool → Bool → Option Cause
named unknown past =
    if unknown then Some cause.Unknown else
    if past then Some cause.Index else None

abbrev sized : Bool → Option Cause
sized unlike = if unlike then Some cause.Sizes else None

named-then : (u p s : Bool) → (if u then Some cause.Unknown else if p then Some cause.Index else sized s) ≡ option_or (named u p) (sized s)
named-then false false s = refl
named-then _ _ s = refl

named-clear : (u p : Bool) → named u p ≡ None → (u ≡ false) × (p ≡ false)
named-clear false false h = (refl, refl)
named-clear _ _ h = absurd (cc)

found-then : (s a t : Bool) → option_or (sized s) (if a then Some cause.AfterMeasure else if t then Some cause.BitTwice else None)
    ≡ (if s then Some cause.Sizes else if a then Some cause.AfterMeasure else if t then Some cause.BitTwice else None)
found-then true a t = refl
found-then false a t = refl

wrong-measure : (scope : Scope) (from to : Operand)
    → wrong_in scope (Act (MeasuredAs from to)) ≡ option_or (named_cause (lookup_in scope) from to) (sized (are_unlike (range_of (lookup_in scope) from) (bit_range_of (lookup_in scope) to)))
unfolding wrong_in
wrong-measure scope from to = let names = lookup_in scope in
    named-then (is_no_register (register_of names from) || is_no_register (bit_register_of names to)) (is_past (register_of names from) from.index || is_past (bit_register_of names to) to.index)
    (are_unlike (range_of names from) (bit_range_of names to))

-- a measurement where this is wrong with what the arguments name
wrong-from : (scope : Scope) (measured : List Measure) (from to : Operand) (what : Option Cause) → named_cause (lookup_in scope) from to ≡ what
    → wrong_measure scope measured from to
    ≡ option_or (option_or what (sized (are_unlike (range_of (lookup_in scope) from) (bit_range_of (lookup_in scope) to)))) (wrong_behind scope measured (Act (MeasuredAs from to)))
wrong-from scope measured from to what e =
    ap (λ o. option_or o (wrong_behind scope measured (Act (MeasuredAs from to))))
    (wrong-measure scope from to ∙ ap (λ o. option_or o (sized (are_unlike (range_of (lookup_in scope) from) (bit_range_of (lookup_in scope) to)))) e)

-- something is wrong with what the arguments name
pub wrong-named : (symbols : Symbols) (scope : Scope) (measured : List Measure) (from to : Operand) (what : Cause) → AreNames symbols scope → named_cause (lookup_by symbols) from to ≡ Some what
    → wrong_measure scope measured from to ≡ Some what
wrong-named symbols scope measured from to what h e =
    wrong-from scope measured from to (Some what) (ap (λ names. named_cause names from to) (sym (same-lookup symbols scope h)) ∙ e)

-- no index is past its register
indices-within : (names : Lookup) (from to : Operand) → named_cause names from to ≡ None
    → (is_past (register_of names from) from.index ≡ false) × (is_past (bit_register_of names to) to.index ≡ false)
indices-within names from to fine =
    let clear = named-clear (is_no_register (register_of names from) || is_no_register (bit_register_of names to)) _ fine in
    (or-first _ _ clear.1, or-second (is_past (register_of names from) from.index) _ clear.1)

found-in : (symbols : Symbols) (scope : Scope) (from to : Operand) (qubits bits : Range) → AreNames symbols scope → AreFoundSpans (lookup_by symbols) from to qubits bits
    → AreFoundSpans (lookup_in scope) from to qubits bits
found-in symbols scope from to qubits bits h found = subst (λ names. AreFoundSpans names from to qubits bits) (same-lookup symbols scope h) found

found-qubits : (scope : Scope) (from to : Operand) (qubits bits : Range) → IsSound scope → AreFoundSpans (lookup_in scope) from to qubits bits → qubits ≡ range_of (lookup_in scope) from
found-qubits scope from to qubits bits sound found =
    found.same_qubits
    ∙ span-at most_qubits (register_of (lookup_in scope) from) from.index (omega arith) (few-register from.register scope sound) (indices-within (lookup_in scope) from to found.named).0

found-bits : (scope : Scope) (from to : Operand) (qubits bits : Range) → IsSound scope → AreFoundSpans (lookup_in scope) from to qubits bits → bits ≡ bit_range_of (lookup_in scope) to
found-bits scope from to qubits bits sound found =
    found.same_bits
    ∙ span-at most_bits (bit_register_of (lookup_in scope) to) to.index (omega arith) (few-bits to.register scope sound) (indices-within (lookup_in scope) from to found.named).1

-- what is wrong with a measurement whose arguments stand for these
pub wrong-found : (symbols : Symbols) (scope : Scope) (measured : List Measure) (from to : Operand) (qubits bits : Range) → AreNames symbols scope → IsSound scope
    → AreFoundSpans (lookup_by symbols) from to qubits bits → wrong_measure scope measured from to ≡ found_cause measured qubits bits
wrong-found symbols scope measured from to qubits bits h sound by =
    let found = found-in symbols scope from to qubits bits h by in
    let from_is = range_of (lookup_in scope) from in
    let to_is = bit_range_of (lookup_in scope) to in
    wrong-from scope measured from to None found.named
    ∙ found-then (are_unlike from_is to_is) (holds_any (qubits_of measured) from_is) (holds_any (bits_of measured) to_is)
    ∙ ap₂ (found_cause measured) (sym (found-qubits scope from to qubits bits sound found)) (sym (found-bits scope from to qubits bits sound found))

-- ---- numbers that are cut off
cut-bit : (t : Range) (index : ℕ) → IsSmall most_bits t → index ≤ most_qubits → min (element_at index t) (2 ^ 32 - 1) ≡ element_at index t
cut-bit (Single bit) index small within = omega arith
cut-bit (Register first size) index small within = let few = small.0 in omega arith

cut-from : (from to : Range) (start n : ℕ) → IsSmall most_qubits from → IsSmall most_bits to → start + n ≤ most_qubits
    → map (cut_measure from to) (range_with_len start n) ≡ map (λ index. record { qubit = element_at index from; bit = element_at index to }) (range_with_len start n)
cut-from from to start zero small small_bits h = refl
cut-from from to start (suc n) small small_bits h =
    ap₂ (λ m ms. m ∷ ms) (ap₂ (λ (q : ℕ) (b : ℕ). record { qubit = q; bit = b }) (cut-at from start small (omega arith)) (cut-bit to start small_bits (omega arith)))
    (cut-from from to (start + 1) n small small_bits (omega arith))

few-in : (t : Range) → IsSmall most_qubits t → count_in t ≤ most_qubits
few-in (Single place) small = omega arith
few-in (Register first size) small = small.1

measures-are : (scope : Scope) (from to : Operand) → IsSound scope → named_cause (lookup_in scope) from to ≡ None
    → cut_measures (range_of (lookup_in scope) from) (bit_range_of (lookup_in scope) to) ≡ measures_of (range_of (lookup_in scope) from) (bit_range_of (lookup_in scope) to)
measures-are scope from to sound fine =
    let names = lookup_in scope in
    let within = indices-within names from to fine in
    let small = small-at most_qubits (register_of names from) from.index (few-register from.register scope sound) within.0 in
    let few = few-in (range_of names from) small in
    cut-from (range_of names from) (bit_range_of names to) 0 (count_in (range_of names from)) small
    (small-at most_bits (bit_register_of names to) to.index (few-bits to.register scope sound) within.1) (omega arith)

-- what was measured is what the statement measures
pub adds-found : (symbols : Symbols) (scope : Scope) (before after : Measured) (from to : Operand) (qubits bits : Range) → AreNames symbols scope → IsSound scope
    → AreFoundSpans (lookup_by symbols) from to qubits bits → Adds before after (cut_measures qubits bits) → Adds before after (measures_of (range_of (lookup_in scope) from) (bit_range_of (lookup_in scope) to))
adds-found symbols scope before after from to qubits bits h sound by adds =
    let found = found-in symbols scope from to qubits bits h by in
    subst (Adds before after)
    (ap₂ cut_measures (found-qubits scope from to qubits bits sound found) (found-bits scope from to qubits bits sound found) ∙ measures-are scope from to sound found.named) adds

-- ---- what is kept
or-last : (a b : Bool) → (a || b) ≡ (a || (b || false))
or-last false false = refl
or-last _ _ = refl

more-members : (number one : ℕ) (set later numbers : List ℕ) → Inserts set one later → member number set ≡ member number numbers → member number later ≡ member number (numbers ++ one ∷ [])
more-members number one set later numbers inserts same =
    inserts number ∙ ap (λ a. a || (number == one)) same ∙ or-last (member number numbers) (number == one) ∙ sym (member-append number numbers (one ∷ []))

pub adds-one : (before after : Measured) (measure : Measure) → Inserts before.qubits.numbers measure.qubit after.qubits.numbers → Inserts before.bits.numbers measure.bit after.bits.numbers → after.list ≡ before.list ++ measure ∷ []
    → Adds before after (measure ∷ [])
adds-one before after measure qubits bits same = record {
  same = same;
  remembers = λ h. record {
    qubits = λ number. more-members number measure.qubit before.qubits.numbers after.qubits.numbers (qubits_of before.list) qubits (h.qubits number)
        ∙ ap (member number) (sym (map-append (λ m. m.qubit) before.list (measure ∷ [])) ∙ ap qubits_of (sym same));
    bits = λ number. more-members number measure.bit before.bits.numbers after.bits.numbers (bits_of before.list) bits (h.bits number)
        ∙ ap (member number) (sym (map-append (λ m. m.bit) before.list (measure ∷ [])) ∙ ap bits_of (sym same));
  };
}

pub adds-join : (before between after : Measured) (first second : List Measure) → Adds before between first → Adds between after second → Adds before after (first ++ second)
adds-join before between after first second h k = record {
  same = k.same ∙ ap (λ ms. ms ++ second) h.same ∙ append_assoc before.list first second;
  remembers = λ r. k.remembers (h.remembers r);
}

-- ---- sets and lists
pub holds-members : (t : Range) (set numbers : List ℕ) → ((number : ℕ) → member number set ≡ member number numbers) → holds_any set t ≡ holds_any numbers t
holds-members t set numbers same = any-members (holds t) set numbers same

pub any-holds-members : (ranges : List Range) (set numbers : List ℕ) → ((number : ℕ) → member number set ≡ member number numbers) → list_any (holds_any set) ranges ≡ list_any (holds_any numbers) ranges
any-holds-members ranges set numbers same = list_any-same (holds_any set) (holds_any numbers) ranges (λ t. holds-members t set numbers same)

pub none-held : (ranges : List Range) → list_any (holds_any []) ranges ≡ false
none-held [] = refl
none-held (t ∷ ranges) = none-held ranges
