-- The statements of a written text, one after the other: where they stand, that they have no fault, and what they come to.
use Rattle.std.specs.Prelude.{◌≡◌, ◌≢◌, ◌≤◌, ◌==◌, if◌then◌else◌, ℕ, ◌+◌, ◌*◌, Bool, true, false, ◌||◌, List, [], ◌∷◌, ◌++◌, length, map, codes, decimal, nat_le, nat_lt, Option, None}
use Rattle.std.proofs.Common.{refl, sym, ap, ap₂, ◌∙◌, arith, subst, append_assoc, inl, inr}
use Rattle.std.specs.List.{All, AllByRecursion, IsDistinct, flat_map, list_any}
use Rattle.std.specs.Option.{option_or}
use Rattle.std.proofs.lemmas.Bool.{false≢true, lt-leb, ne_eqb}
use Rattle.std.proofs.lemmas.Bool.Decides.{eqb_tells}
use Rattle.std.proofs.lemmas.List.{map-append}
use Rattle.std.proofs.lemmas.List.Folds.{list_any-append}
use Rattle.std.proofs.lemmas.List.Elements.{All-head, All-tail}
use Rattle.std.proofs.lemmas.Map.Keys.{IsDistinct-head, IsDistinct-tail}
use Rattle.zx_gates.specs.Circuit.{IsGateOn, most_qubits}
use Rattle.zx_gates.specs.Elementary.{IsMeasureOn, most_bits}
use Rattle.zx_gates.specs.declared.elementary.ElementaryGate.{ElementaryGate}
use Rattle.zx_gates.specs.declared.elementary.Measure.{Measure}
use Rattle.zx_gates.specs.declared.gate.Gate.{Gate}
use Rattle.qasm_reader.specs.Syntax.{Formula, Operand, Sentence, Include, QubitRegister, BitRegister, Placed}
use Rattle.qasm_scope.specs.Applications.{Range, Single, ranges_of}
use Rattle.qasm_scope.specs.Calls.{Event, applied, call_count, first_wrong}
use Rattle.qasm_scope.specs.declared.causes.Cause.{Cause}
use Rattle.qasm_scope.specs.declared.causes.Cause.TheVariants as cause
use Rattle.qasm_scope.specs.Faults.{wrong_behind, wrong_in}
use Rattle.qasm_scope.specs.Meaning.{with_header, after_statement, events_of, fault_after, scope_after, gates_after, measures_after}
use Rattle.qasm_scope.specs.Measurements.{bits_of, holds_any, measured_by, qubits_of}
use Rattle.qasm_scope.specs.Scope.{Scope, Bits, Qubits, bit_count, declared, is_taken, numeral, qubit_count, lookup_in}
use Rattle.qasm_scope.specs.Texts.{instances_in, size_after}
use Rattle.qasm_scope.proofs.Placing.{placed_or}
use Rattle.qasm_writer.specs.Elements.{elements, elements_of}
use Rattle.qasm_writer.specs.Written.{bits_line, gate_line, measure_line, register_line}
use Rattle.qasm_writer.proofs.Lines.{IsLine, AreLines, no_line, line_then, bits_are, bits_text, include_is, include_line, measure_is, register_is, register_text}
use Rattle.qasm_writer.proofs.Statements.{application, measurement, register_scope, both_scope, qubits_scope, written_scope, qubits_scope-some, Comes, are_calm, most_of_one, no_cause}
use Rattle.qasm_writer.proofs.GateLines.{IsGateLine, gate_line_is, no_wrong, numeral-decimal}

-- ---- one statement
-- behind these measurements a statement has no fault, and comes to so many gates, these built-in ones, and these
-- measurements
pub record Does (scope : Scope) (before : List Measure) (s : Sentence) (next : Scope) (gates : List ElementaryGate) (measures : List Measure) (count : ℕ) : Type 0 where
  pub fine : wrong_in scope s ≡ None
  pub fine_behind : wrong_behind scope before s ≡ None
  pub calm : are_calm (events_of scope s) ≡ true
  pub few : call_count (events_of scope s) ≤ most_of_one * count
  pub next_is : after_statement scope s ≡ next
  pub gates_are : applied (events_of scope s) ≡ gates
  pub measures_are : measured_by scope s ≡ measures
  pub count_is : instances_in scope s ≡ count

-- ---- the statements from a place on
-- the same of all statements of a text
pub record Continues (place : ℕ) (scope : Scope) (before : List Measure) (text : List ℕ) (end : Scope) (gates : List ElementaryGate) (measures : List Measure) (count : ℕ) : Type 0 where
  pub program : List Placed
  pub lines : AreLines place text program
  pub faultless : (most calls : ℕ) → calls + most_of_one * count ≤ most → fault_after most scope before calls program ≡ None
  pub end_is : scope_after scope program ≡ end
  pub gates_are : gates ≡ gates_after scope program
  pub measures_are : measures ≡ measures_after scope program
  pub count_is : size_after scope program ≡ count

ends : (place : ℕ) (scope : Scope) (before : List Measure) → Continues place scope before [] scope [] [] 0
ends place scope before = record {
  program = [];
  lines = no_line place;
  faultless = λ most calls enough. refl;
  end_is = refl;
  gates_are = refl;
  measures_are = refl;
  count_is = refl;
}

fine_then : (a b c : Option Cause) (place : ℕ) (o : Option (Cause × ℕ)) → a ≡ None → b ≡ None → c ≡ None → o ≡ None
    → placed_or (option_or a (option_or b c)) place o ≡ None
fine_then a b c place o e f g h = ap₂ (λ x y. placed_or (option_or x (option_or y c)) place o) e f ∙ ap₂ (λ x y. placed_or x place y) g h

module _ (place : ℕ) (scope next end : Scope) (before measures others : List Measure) (line text : List ℕ) (s : Sentence) (gates more : List ElementaryGate) (count size total : ℕ) where
  pub then_more : IsLine place line s → Does scope before s next gates measures count
      → Continues (place + length line) next (before ++ measures) text end more others size → total ≡ count + size
      → Continues place scope before (line ++ text) end (gates ++ more) (measures ++ others) total
  then_more l d c adds =
      let events : List Event = events_of scope s in
      record {
        program = record { place = place; sentence = s } ∷ c.program;
        lines = line_then place line text s c.program l c.lines;
        faultless = λ most calls enough.
            fine_then (wrong_in scope s) (wrong_behind scope before s) (first_wrong most calls events) place _ d.fine d.fine_behind
            (no_wrong most calls events d.calm (omega (arith, d.few, adds)))
            (ap₂ (λ after made. fault_after most after (before ++ made) (calls + call_count events) c.program) d.next_is d.measures_are
            ∙ c.faultless most (calls + call_count events) (omega (arith, d.few, adds)));
        end_is = ap (λ after. scope_after after c.program) d.next_is ∙ c.end_is;
        gates_are = ap₂ (λ a b. a ++ b) (sym d.gates_are) (c.gates_are ∙ ap (λ after. gates_after after c.program) (sym d.next_is));
        measures_are = ap₂ (λ a b. a ++ b) (sym d.measures_are) (c.measures_are ∙ ap (λ after. measures_after after c.program) (sym d.next_is));
        count_is = ap₂ (λ a b. a + b) d.count_is (ap (λ after. size_after after c.program) d.next_is ∙ c.count_is) ∙ sym adds;
      }

-- ---- measurements
-- none of these numbers is among those
abbrev AreApart : List ℕ → List ℕ → Type 0
AreApart seen next = AllByRecursion (λ y. list_any (λ number. y == number) seen ≡ false) next

apart-nil : (next : List ℕ) → AreApart [] next
apart-nil [] = tt
apart-nil (y ∷ next) = (refl, apart-nil next)

exchanged : (x y : ℕ) → (x == y) ≡ false → (y == x) ≡ false
exchanged x y e = ne_eqb y x (λ same. elim (eqb_tells x y) [
  | inl t ↦ false≢true (sym e ∙ t.0)
  | inr f ↦ f.1 (sym same)
])

apart-more : (seen : List ℕ) (x : ℕ) (next : List ℕ) → AreApart seen next → AllByRecursion (λ y. (x == y) ≡ false) next → AreApart (seen ++ x ∷ []) next
apart-more seen x [] a b = tt
apart-more seen x (y ∷ next) a b = (
  list_any-append (λ number. y == number) seen (x ∷ []) ∙ ap₂ (λ p q. p || (q || false)) a.0 (exchanged x y b.0),
  apart-more seen x next a.1 b.1,
)

-- the qubits, or the bits, of measurements behind others
module _ (number_of : Measure → ℕ) where
  apart-next : (before : List Measure) (x : Measure) (next : List Measure) → AreApart (map number_of before) (map number_of (x ∷ next))
      → IsDistinct ◌==◌ (map number_of (x ∷ next)) → AreApart (map number_of (before ++ x ∷ [])) (map number_of next)
  apart-next before x next a d =
      subst (λ seen. AreApart seen (map number_of next)) (sym (map-append number_of before (x ∷ [])))
      (apart-more (map number_of before) (number_of x) (map number_of next) a.1 (IsDistinct-head ◌==◌ (number_of x) (map number_of next) d))

  distinct-next : (x : Measure) (next : List Measure) → IsDistinct ◌==◌ (map number_of (x ∷ next)) → IsDistinct ◌==◌ (map number_of next)
  distinct-next x next d = IsDistinct-tail ◌==◌ (number_of x) (map number_of next) d

abbrev qubit_in : Measure → ℕ
qubit_in measure = measure.qubit

abbrev bit_in : Measure → ℕ
bit_in measure = measure.bit

module _ (n m : ℕ) (few : n ≤ most_qubits) (slight : m ≤ most_bits) where
  measure_does : (before : List Measure) (x : Measure) → IsMeasureOn n m x
      → list_any (λ number. x.qubit == number) (qubits_of before) ≡ false → list_any (λ number. x.bit == number) (bits_of before) ≡ false
      → Does (both_scope n m) before (measurement x.qubit x.bit) (both_scope n m) [] (x ∷ []) 0
  unfolding wrong_in
  measure_does before x on new_qubit new_bit =
      let q : ℕ = numeral (decimal x.qubit) in
      let b : ℕ = numeral (decimal x.bit) in
      let q_is : 0 + q ≡ x.qubit = omega (arith, numeral-decimal x.qubit (omega (arith, on.a_qubit))) in
      let b_is : 0 + b ≡ x.bit = omega (arith, numeral-decimal x.bit (omega (arith, on.a_bit))) in
      record {
        fine = no_cause ((false, cause.Unknown) ∷ (nat_le n q || nat_le m b, cause.Index) ∷ (false, cause.Sizes) ∷ [])
            (refl, (ap₂ (λ b c. b || c) (lt-leb n q (omega (arith, q_is, on.a_qubit))) (lt-leb m b (omega (arith, b_is, on.a_bit))), (refl, tt)));
        fine_behind = no_cause (
            (holds_any (qubits_of before) (Single (0 + q)), cause.AfterMeasure)
            ∷ (holds_any (bits_of before) (Single (0 + b)), cause.BitTwice) ∷ []) (
              ap (λ k. list_any (λ number. k == number) (qubits_of before)) q_is ∙ new_qubit,
              (ap (λ k. list_any (λ number. k == number) (bits_of before)) b_is ∙ new_bit, tt),
            );
        calm = refl;
        few = omega arith;
        next_is = refl;
        gates_are = refl;
        measures_are = ap₂ (λ j k. record { qubit = j; bit = k } ∷ []) q_is b_is;
        count_is = refl;
      }

  measures_do : (place : ℕ) (before next : List Measure) → All (IsMeasureOn n m) next
      → AreApart (qubits_of before) (qubits_of next) → AreApart (bits_of before) (bits_of next)
      → IsDistinct ◌==◌ (qubits_of next) → IsDistinct ◌==◌ (bits_of next)
      → Continues place (both_scope n m) before (flat_map measure_line next) (both_scope n m) [] next 0
  measures_do place before [] on q b c d = ends place (both_scope n m) before
  measures_do place before (x ∷ next) on q b c d =
      let h : IsMeasureOn n m x = All-head (IsMeasureOn n m) x next on in
      then_more place (both_scope n m) (both_scope n m) (both_scope n m) before (x ∷ []) next (measure_line x) (flat_map measure_line next)
      (measurement x.qubit x.bit) [] [] 0 0 0
      (measure_is place x.qubit x.bit (omega (arith, h.a_qubit)) (omega (arith, h.a_bit)))
      (measure_does before x h q.0 b.0)
      (measures_do (place + length (measure_line x)) (before ++ x ∷ []) next (All-tail (IsMeasureOn n m) x next on)
      (apart-next qubit_in before x next q c) (apart-next bit_in before x next b d) (distinct-next qubit_in x next c) (distinct-next bit_in x next d))
      refl

-- where there are measurements, there are both registers
both_is : (n m : ℕ) → n ≢ 0 → m ≢ 0 → written_scope n m ≡ both_scope n m
both_is n m some bits =
    ap₂ (λ a b. if a then (if b then with_header [] else register_scope n) else declared (codes "c") (Bits 0 m) ∷ (if b then with_header [] else register_scope n))
    (ne_eqb m 0 bits) (ne_eqb n 0 some)

measured_do : (n m : ℕ) → n ≤ most_qubits → m ≤ most_bits → (measured : List Measure) → All (IsMeasureOn n m) measured
    → IsDistinct ◌==◌ (qubits_of measured) → IsDistinct ◌==◌ (bits_of measured) → (place : ℕ)
    → Continues place (written_scope n m) [] (flat_map measure_line measured) (written_scope n m) [] measured 0
measured_do n m few slight [] on c d place = ends place (written_scope n m) []
measured_do n m few slight (x ∷ next) on c d place =
    let h : IsMeasureOn n m x = All-head (IsMeasureOn n m) x next on in
    subst (λ s. Continues place s [] (flat_map measure_line (x ∷ next)) s [] (x ∷ next) 0)
    (sym (both_is n m (λ z. omega (arith, h.a_qubit)) (λ z. omega (arith, h.a_bit))))
    (measures_do n m few slight place [] (x ∷ next) on (apart-nil (qubits_of (x ∷ next))) (apart-nil (bits_of (x ∷ next))) c d)

-- ---- gates
none_held : (ranges : List Range) → list_any (holds_any []) ranges ≡ false
none_held [] = refl
none_held (range ∷ ranges) = none_held ranges

gate_does : (scope : Scope) (name : List ℕ) (angles : List Formula) (operands : List Operand) (gates : List ElementaryGate)
    → Comes scope (application name angles operands) gates → Does scope [] (application name angles operands) scope gates [] 1
gate_does scope name angles operands gates c = record {
  fine = c.fine;
  fine_behind = no_cause ((list_any (holds_any []) (ranges_of (lookup_in scope) operands), cause.AfterMeasure) ∷ []) (none_held (ranges_of (lookup_in scope) operands), tt);
  calm = c.calm;
  few = omega (arith, c.few);
  next_is = refl;
  gates_are = c.gates_are;
  measures_are = refl;
  count_is = c.one;
}

module _ (n m : ℕ) (few : n ≤ most_qubits) (text : List ℕ) (measures : List Measure)
    (base : (place : ℕ) → Continues place (written_scope n m) [] text (written_scope n m) [] measures 0) where
  gates_do : (gates : List Gate) → All (IsGateOn n) gates → (place : ℕ)
      → Continues place (written_scope n m) [] (flat_map gate_line gates ++ text) (written_scope n m) (elements_of gates) measures (length gates)
  gates_do [] on place = base place
  gates_do (gate ∷ gates) on place =
      let l : IsGateLine place (written_scope n m) gate = gate_line_is place n m few gate (All-head (IsGateOn n) gate gates on) in
      subst (λ t. Continues place (written_scope n m) [] t (written_scope n m) (elements_of (gate ∷ gates)) measures (length (gate ∷ gates)))
      (sym (append_assoc (gate_line gate) (flat_map gate_line gates) text))
      (then_more place (written_scope n m) (written_scope n m) (written_scope n m) [] [] measures (gate_line gate) (flat_map gate_line gates ++ text)
      (application l.name l.angles l.operands) (elements gate) (elements_of gates) 1 (length gates) (length (gate ∷ gates))
      l.line (gate_does (written_scope n m) l.name l.angles l.operands (elements gate) l.comes)
      (gates_do gates (All-tail (IsGateOn n) gate gates on) (place + length (gate_line gate))) (omega arith))

-- ---- registers
-- the line of a register that isn't empty
module _ (scope next end : Scope) (line text : List ℕ) (s : Sentence) (gates : List ElementaryGate) (measures : List Measure) (count : ℕ) where
  line_where : (empty : Bool) → ((place : ℕ) → IsLine place line s) → (empty ≡ false → Does scope [] s next [] [] 0)
      → ((place : ℕ) → Continues place (if empty then scope else next) [] text end gates measures count)
      → (place : ℕ) → Continues place scope [] ((if empty then [] else line) ++ text) end gates measures count
  line_where true l d c place = c place
  line_where false l d c place =
      then_more place scope next end [] [] measures line text s [] gates 0 count count (l place) (d refl) (c (place + length line)) (omega arith)

-- what declares and applies nothing does nothing else
declares : (scope next : Scope) (s : Sentence) → wrong_in scope s ≡ None → wrong_behind scope [] s ≡ None → events_of scope s ≡ [] → measured_by scope s ≡ []
    → instances_in scope s ≡ 0 → after_statement scope s ≡ next → Does scope [] s next [] [] 0
declares scope next s fine behind events measures count after = record {
  fine = fine;
  fine_behind = behind;
  calm = ap are_calm events;
  few = omega (arith, ap call_count events);
  next_is = after;
  gates_are = ap applied events;
  measures_are = measures;
  count_is = count;
}

abbrev register : ℕ → Sentence
register n = QubitRegister (codes "q") (decimal n)

abbrev bit_register : ℕ → Sentence
bit_register m = BitRegister (codes "c") (decimal m)

no_qubits : qubit_count (with_header []) ≡ 0
unfolding with_header
no_qubits = refl

register_fine : (n : ℕ) → n ≤ most_qubits → (n == 0) ≡ false → numeral (decimal n) ≡ n → wrong_in (with_header []) (register n) ≡ None
unfolding wrong_in with_header
register_fine n few some value =
    no_cause (
    (false, cause.Redeclared)
    ∷ (numeral (decimal n) == 0, cause.EmptyRegister)
    ∷ (nat_lt most_qubits (0 + numeral (decimal n)), cause.TooManyQubits)
    ∷ [])
    (refl, (ap (λ k. k == 0) value ∙ some, (lt-leb (1025) (0 + numeral (decimal n)) (omega (arith, value)), tt)))

register_does : (n : ℕ) → n ≤ most_qubits → (n == 0) ≡ false → Does (with_header []) [] (register n) (register_scope n) [] [] 0
register_does n few some =
    let value : numeral (decimal n) ≡ n = numeral-decimal n (omega arith) in
    declares (with_header []) (register_scope n) (register n) (register_fine n few some value) refl refl refl refl
    (ap₂ (λ a b. declared (codes "q") (Qubits a b) ∷ with_header []) no_qubits value)

-- with a register of qubits or without
free : (empty : Bool) (n : ℕ) → is_taken (codes "c") (if empty then with_header [] else register_scope n) ≡ false
unfolding with_header
free true n = refl
free false n = refl

bits_before : (empty : Bool) (n : ℕ) → bit_count (if empty then with_header [] else register_scope n) ≡ 0
unfolding with_header
bits_before true n = refl
bits_before false n = refl

bits_fine : (n m : ℕ) → m ≤ most_bits → (m == 0) ≡ false → numeral (decimal m) ≡ m → bit_count (qubits_scope n) ≡ 0
    → wrong_in (qubits_scope n) (bit_register m) ≡ None
unfolding wrong_in
bits_fine n m few some value none =
    no_cause (
    (is_taken (codes "c") (qubits_scope n), cause.Redeclared)
    ∷ (numeral (decimal m) == 0, cause.EmptyRegister)
    ∷ (nat_lt most_bits (bit_count (qubits_scope n) + numeral (decimal m)), cause.TooManyBits)
    ∷ [])
    (free (n == 0) n, (ap (λ k. k == 0) value ∙ some, (lt-leb (65537) (bit_count (qubits_scope n) + numeral (decimal m)) (omega (arith, value, none)), tt)))

bits_do : (n m : ℕ) → m ≤ most_bits → (m == 0) ≡ false → Does (qubits_scope n) [] (bit_register m) (declared (codes "c") (Bits 0 m) ∷ qubits_scope n) [] [] 0
bits_do n m few some =
    let value : numeral (decimal m) ≡ m = numeral-decimal m (omega arith) in
    let none : bit_count (qubits_scope n) ≡ 0 = bits_before (n == 0) n in
    declares (qubits_scope n) (declared (codes "c") (Bits 0 m) ∷ qubits_scope n) (bit_register m) (bits_fine n m few some value none) refl refl refl refl
    (ap₂ (λ a b. declared (codes "c") (Bits a b) ∷ qubits_scope n) none value)

-- ---- the whole, behind the version
abbrev header : Sentence
header = Include (codes "\"qelib1.inc\"")

header_fine : wrong_in [] header ≡ None
unfolding wrong_in
header_fine = refl

header_does : Does [] [] header (with_header []) [] [] 0
header_does = declares [] (with_header []) header header_fine refl refl refl refl refl

pub text_does : (n m : ℕ) (gates : List Gate) (measured : List Measure) → n ≤ most_qubits → m ≤ most_bits
    → All (IsGateOn n) gates → All (IsMeasureOn n m) measured → IsDistinct ◌==◌ (qubits_of measured) → IsDistinct ◌==◌ (bits_of measured)
    → Continues 14 [] [] (include_line ++ (register_line n ++ (bits_line m ++ (flat_map gate_line gates ++ flat_map measure_line measured))))
    (written_scope n m) (elements_of gates) measured (length gates)
text_does n m gates measured few slight on within qubits bits =
    let end : Scope = written_scope n m in
    let rest : List ℕ = flat_map gate_line gates ++ flat_map measure_line measured in
    then_more 14 [] (with_header []) end [] [] measured include_line (register_line n ++ (bits_line m ++ rest)) header [] (elements_of gates)
    0 (length gates) (length gates) include_is header_does
    (line_where (with_header []) (register_scope n) end (register_text n) (bits_line m ++ rest) (register n) (elements_of gates) measured (length gates)
    (n == 0) (λ place. register_is place n (omega arith)) (register_does n few)
    (line_where (qubits_scope n) (declared (codes "c") (Bits 0 m) ∷ qubits_scope n) end (bits_text m) rest (bit_register m) (elements_of gates) measured (length gates)
    (m == 0) (λ place. bits_are place m (omega arith)) (bits_do n m slight)
    (gates_do n m few (flat_map measure_line measured) measured (measured_do n m few slight measured within qubits bits) gates on)) 36)
    (omega arith)

-- what the registers come to
pub qubits_are : (n m : ℕ) → qubit_count (written_scope n m) ≡ n
qubits_are n m = under (m == 0) ∙ whole where
  under : (empty : Bool) → qubit_count (if empty then qubits_scope n else declared (codes "c") (Bits 0 m) ∷ qubits_scope n) ≡ qubit_count (qubits_scope n)
  under true = refl
  under false = omega arith

  whole : qubit_count (qubits_scope n) ≡ n
  whole = elim (eqb_tells n 0) [
    | inl z ↦ ap (λ b. qubit_count (if b then with_header [] else register_scope n)) z.0 ∙ no_qubits ∙ sym z.1
    | inr some ↦ ap qubit_count (qubits_scope-some n some.1) ∙ ap (λ k. n + k) no_qubits ∙ omega arith
  ]

pub bits_after : (n m : ℕ) → bit_count (written_scope n m) ≡ m
bits_after n m =
    let none : bit_count (qubits_scope n) ≡ 0 = bits_before (n == 0) n in
    elim (eqb_tells m 0) [
      | inl z ↦ ap (λ b. bit_count (if b then qubits_scope n else declared (codes "c") (Bits 0 m) ∷ qubits_scope n)) z.0 ∙ none ∙ sym z.1
      | inr some ↦ ap (λ b. bit_count (if b then qubits_scope n else declared (codes "c") (Bits 0 m) ∷ qubits_scope n)) some.0
          ∙ ap (λ k. m + k) none ∙ omega arith
    ]
