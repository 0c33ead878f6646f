-- The statements that the lines of gates are: after the header and the register they have no fault, and come to the
-- built-in gates of `elements`.
use Rattle.std.specs.Prelude.{◌≡◌, ◌≢◌, ◌≤◌, if◌then◌else◌, ℕ, ◌+◌, Bool, true, false, ◌&&◌, ◌||◌, not, List, [], ◌∷◌, codes, decimal, length, map, nat_le, nat_lt, ◌==◌, Option, Some, None}
use Rattle.std.proofs.Common.{refl, sym, ap, ap₂, ◌∙◌, arith, subst}
use Rattle.std.proofs.lemmas.Bool.{false≢true, ne_eqb}
use Rattle.zx_model.specs.Phase.{half_turn, quarter_turn, eighth_turn, opposite_phase}
use Rattle.zx_gates.specs.declared.elementary.ElementaryGate.{ElementaryGate}
use Rattle.zx_gates.specs.declared.elementary.ElementaryGate.TheVariants as elementary
use Rattle.qasm_reader.specs.declared.expression.Operator.TheVariants.{Multiply, Divide}
use Rattle.qasm_reader.specs.Syntax.{Formula, Number, Pi, Binary, Operand, Declared, Sentence, Act}
use Rattle.qasm_reader.specs.Syntax as syntax
use Rattle.qasm_angle.specs.Ratio.{gcd, lowest, limited}
use Rattle.qasm_angle.specs.Sixteenths.{phase_of_angle}
use Rattle.qasm_angle.specs.Literals as literals
use Rattle.qasm_angle.specs.Values as values
use Rattle.std.specs.List.{flat_map, list_any}
use Rattle.std.specs.Str.{bytes_eq}
use Rattle.qasm_angle.specs.declared.angle.Angle.{Angle}
use Rattle.qasm_scope.specs.Angles.{angle_of, angles_of, is_unsupported, places_among}
use Rattle.qasm_scope.specs.Applications.{has_twice, instances, ranges_of, register_sizes}
use Rattle.qasm_scope.specs.Calls.{Event, Called, Undefined, Applied, after_angles, applied, call_count, deepest, expand_declared}
use Rattle.qasm_scope.specs.declared.causes.Cause.{Cause}
use Rattle.qasm_scope.specs.declared.causes.Cause.TheVariants as cause
use Rattle.qasm_scope.specs.Faults.{wrong_in, first_cause, has_no_register, has_other_name, has_unknown, has_other_shape, has_other_size, has_past_index, is_no_gate, shape_of}
use Rattle.qasm_scope.specs.Meaning.{with_header, events_of}
use Rattle.qasm_scope.specs.Scope.{Scope, Meaning, Bits, Qubits, declared, meaning_of, numeral, lookup_in, shape_in}
use Rattle.qasm_scope.specs.Texts.{instances_in}

-- the qubit of the register at an index
abbrev pub operand : List ℕ → Operand
operand index = record { register = codes "q"; index = Some index }

-- the bit of the register at an index
abbrev pub bit_operand : List ℕ → Operand
bit_operand index = record { register = codes "c"; index = Some index }

-- the measurement of a qubit into a bit
abbrev pub measurement : ℕ → ℕ → Sentence
measurement q b = Act (syntax.Measured (operand (decimal q)) (bit_operand (decimal b)))

abbrev pub apply : List ℕ → List Formula → List Operand → syntax.Apply
apply name angles operands = record { gate = Declared name; angles = angles; qubits = operands }

abbrev pub application : List ℕ → List Formula → List Operand → Sentence
application name angles operands = Act (syntax.Applied (apply name angles operands))

-- the angles pi/d and n*pi/d
abbrev pub pi_over : List ℕ → Formula
pi_over d = Binary Divide Pi (Number d)

abbrev pub pi_times_over : List ℕ → List ℕ → Formula
pi_times_over n d = Binary Divide (Binary Multiply (Number n) Pi) (Number d)

-- the scope after the header and a register of n qubits
abbrev pub register_scope : ℕ → Scope
register_scope n = declared (codes "q") (Qubits 0 n) ∷ with_header []

-- the scope with a register of m bits too
abbrev pub both_scope : ℕ → ℕ → Scope
both_scope n m = declared (codes "c") (Bits 0 m) ∷ register_scope n

-- the scope with each of the registers that isn't empty
abbrev pub qubits_scope : ℕ → Scope
qubits_scope n = if n == 0 then with_header [] else register_scope n

abbrev pub bits_scope : ℕ → Scope → Scope
bits_scope m scope = if m == 0 then scope else declared (codes "c") (Bits 0 m) ∷ scope

abbrev pub written_scope : ℕ → ℕ → Scope
written_scope n m = bits_scope m (qubits_scope n)

pub qubits_scope-some : (n : ℕ) → n ≢ 0 → qubits_scope n ≡ register_scope n
qubits_scope-some n some = ap (λ b. if b then with_header [] else register_scope n) (ne_eqb n 0 some)

-- with qubits, what holds with both registers and with that of qubits alone
pub in_both : (P : Scope → Type 0) (n m : ℕ) → n ≢ 0 → P (register_scope n) → P (both_scope n m) → P (written_scope n m)
in_both P n m some without with = subst (λ s. P (bits_scope m s)) (sym (qubits_scope-some n some)) (by_bits (m == 0)) where
  by_bits : (b : Bool) → P (if b then register_scope n else both_scope n m)
  by_bits true = without
  by_bits false = with

-- ---- where every test fails there is no cause
abbrev pub AllFail : List (Bool × Cause) → Type 0
AllFail [] = Unit {0}
AllFail (test ∷ tests) = (test.0 ≡ false) × AllFail tests

fails : (b : Bool) (cause : Cause) (tests : List (Bool × Cause)) → b ≡ false → first_cause tests ≡ None → (if b then Some cause else first_cause tests) ≡ None
fails true cause tests e h = absurd (false≢true (sym e))
fails false cause tests e h = h

pub no_cause : (tests : List (Bool × Cause)) → AllFail tests → first_cause tests ≡ None
no_cause [] h = refl
no_cause (test ∷ tests) h = fails test.0 test.1 tests h.0 (no_cause tests h.1)

-- the tests that an application may fail
pub right : (scope : Scope) (name : List ℕ) (angles : List Formula) (operands : List Operand)
    → list_any is_unsupported angles ≡ false
    → has_unknown (lookup_in scope) (apply name angles operands) ≡ false
    → has_other_shape (shape_of (lookup_in scope) (Declared name)) (length angles) (length operands) ≡ false
    → list_any (has_past_index (lookup_in scope)) operands ≡ false
    → has_other_size (register_sizes (ranges_of (lookup_in scope) operands)) ≡ false
    → list_any (has_twice ◌==◌) (instances (ranges_of (lookup_in scope) operands)) ≡ false
    → wrong_in scope (application name angles operands) ≡ None
unfolding wrong_in
right scope name angles operands unsupported unknown count index sizes twice =
    no_cause (
    (list_any is_unsupported angles, cause.Unsupported)
    ∷ (has_unknown (lookup_in scope) (apply name angles operands), cause.Unknown)
    ∷ (has_other_shape (shape_of (lookup_in scope) (Declared name)) (length angles) (length operands), cause.WrongCount)
    ∷ (list_any (has_past_index (lookup_in scope)) operands, cause.Index)
    ∷ (has_other_size (register_sizes (ranges_of (lookup_in scope) operands)), cause.Sizes)
    ∷ (list_any (has_twice ◌==◌) (instances (ranges_of (lookup_in scope) operands)), cause.SameQubit)
    ∷ [])
    (unsupported, (unknown, (count, (index, (sizes, (twice, tt))))))

-- ---- a statement without fault, its calls and its gates

-- no angle without value, and no call too deep
abbrev pub are_calm : List Event → Bool
are_calm [] = true
are_calm (Called depth ∷ events) = not (nat_lt deepest depth) && are_calm events
are_calm (Undefined cause ∷ events) = false
are_calm (Applied gate ∷ events) = are_calm events

-- the most calls that a gate of the writer makes
abbrev pub most_of_one : ℕ
most_of_one = 9

pub record Comes (scope : Scope) (s : Sentence) (gates : List ElementaryGate) : Type 0 where
  pub fine : wrong_in scope s ≡ None
  pub calm : are_calm (events_of scope s) ≡ true
  pub few : call_count (events_of scope s) ≤ most_of_one
  pub gates_are : applied (events_of scope s) ≡ gates
  pub one : instances_in scope s ≡ 1

module _ (n : ℕ) (i : List ℕ) (name : List ℕ) (angles : List Formula) (gate : ℕ → List ElementaryGate) (events : List Event) where
  pub on_one_comes : (q : ℕ) → 0 + numeral i ≡ q → nat_le n (numeral i) ≡ false
      → list_any is_unsupported angles ≡ false
      → has_unknown (lookup_in (register_scope n)) (apply name angles (operand i ∷ [])) ≡ false
      → has_other_shape (shape_of (lookup_in (register_scope n)) (Declared name)) (length angles) 1 ≡ false
      → events_of (register_scope n) (application name angles (operand i ∷ [])) ≡ events
      → are_calm events ≡ true → call_count events ≤ most_of_one → applied events ≡ gate (0 + numeral i)
      → Comes (register_scope n) (application name angles (operand i ∷ [])) (gate q)
  on_one_comes q is below unsupported unknown count e calm few gates = record {
    fine = right (register_scope n) name angles (operand i ∷ []) unsupported unknown count (ap (λ b. b || false) below) refl refl;
    calm = ap are_calm e ∙ calm;
    few = omega (arith, ap call_count e);
    gates_are = ap applied e ∙ gates ∙ ap gate is;
    one = refl;
  }

module _ (n : ℕ) (i j : List ℕ) (name : List ℕ) (gate : ℕ → ℕ → List ElementaryGate) (events : List Event) where
  pub on_two_comes : (q r : ℕ) → 0 + numeral i ≡ q → 0 + numeral j ≡ r → nat_le n (numeral i) ≡ false → nat_le n (numeral j) ≡ false
      → ((0 + numeral j) == (0 + numeral i)) ≡ false
      → has_unknown (lookup_in (register_scope n)) (apply name [] (operand i ∷ operand j ∷ [])) ≡ false
      → has_other_shape (shape_of (lookup_in (register_scope n)) (Declared name)) 0 2 ≡ false
      → events_of (register_scope n) (application name [] (operand i ∷ operand j ∷ [])) ≡ events
      → are_calm events ≡ true → call_count events ≤ most_of_one → applied events ≡ gate (0 + numeral i) (0 + numeral j)
      → Comes (register_scope n) (application name [] (operand i ∷ operand j ∷ [])) (gate q r)
  on_two_comes q r is are below under differ unknown count e calm few gates = record {
    fine = right (register_scope n) name [] (operand i ∷ operand j ∷ []) refl unknown count
        (ap₂ (λ b c. b || (c || false)) below under) refl (ap (λ b. ((b || false) || false) || false) differ);
    calm = ap are_calm e ∙ calm;
    few = omega (arith, ap call_count e);
    gates_are = ap applied e ∙ gates ∙ ap₂ gate is are;
    one = refl;
  }

-- ---- a register of bits changes nothing for gates of other names
module _ (n m : ℕ) (name : List ℕ) (angles : List Formula) (other : bytes_eq (codes "c") name ≡ false) where
  same_meaning : meaning_of name (both_scope n m) ≡ meaning_of name (register_scope n)
  same_meaning = ap (λ b. if b then Some (Bits 0 m) else meaning_of name (register_scope n)) other

  same_expansion : (depth : ℕ) (values : List Angle) (qubits : List ℕ)
      → expand_declared (both_scope n m) name depth values qubits ≡ expand_declared (register_scope n) name depth values qubits
  same_expansion depth values qubits = ap (λ b. if b then [] else expand_declared (register_scope n) name depth values qubits) other

  abbrev wrong_by : Option Meaning → List Operand → Option Cause
  wrong_by meaning operands = first_cause (
      (list_any is_unsupported angles, cause.Unsupported)
      ∷ (is_no_gate (shape_in meaning) || list_any (has_other_name (places_among [])) angles || list_any (has_no_register (lookup_in (register_scope n))) operands, cause.Unknown)
      ∷ (has_other_shape (shape_in meaning) (length angles) (length operands), cause.WrongCount)
      ∷ (list_any (has_past_index (lookup_in (register_scope n))) operands, cause.Index)
      ∷ (has_other_size (register_sizes (ranges_of (lookup_in (register_scope n)) operands)), cause.Sizes)
      ∷ (list_any (has_twice ◌==◌) (instances (ranges_of (lookup_in (register_scope n)) operands)), cause.SameQubit)
      ∷ [])

  abbrev events_by : (ℕ → List Angle → List ℕ → List Event) → List Operand → List Event
  events_by expansion operands =
      flat_map (λ qubits. Called 1 ∷ after_angles (angles_of [] [] angles) (λ values. expansion 1 values qubits))
      (instances (ranges_of (lookup_in (register_scope n)) operands))

  also : (operands : List Operand) (gates : List ElementaryGate)
      → wrong_in (both_scope n m) (application name angles operands) ≡ wrong_by (meaning_of name (both_scope n m)) operands
      → events_of (both_scope n m) (application name angles operands) ≡ events_by (expand_declared (both_scope n m) name) operands
      → instances_in (both_scope n m) (application name angles operands) ≡ 1
      → Comes (register_scope n) (application name angles operands) gates → Comes (both_scope n m) (application name angles operands) gates
  unfolding wrong_in
  also operands gates wrong events one c =
      let e : events_of (both_scope n m) (application name angles operands) ≡ events_of (register_scope n) (application name angles operands) =
      events ∙ ap (λ x. events_by x operands) (λ i depth values qubits. same_expansion depth values qubits i) in
      record {
        fine = wrong ∙ ap (λ k. wrong_by k operands) same_meaning ∙ c.fine;
        calm = ap are_calm e ∙ c.calm;
        few = subst (λ k. k ≤ most_of_one) (sym (ap call_count e)) c.few;
        gates_are = ap applied e ∙ c.gates_are;
        one = one;
      }

  pub also_one : (i : List ℕ) (gates : List ElementaryGate) → Comes (register_scope n) (application name angles (operand i ∷ [])) gates
      → Comes (both_scope n m) (application name angles (operand i ∷ [])) gates
  unfolding wrong_in
  also_one i gates c = also (operand i ∷ []) gates refl refl refl c

  pub also_two : (i j : List ℕ) (gates : List ElementaryGate) → Comes (register_scope n) (application name angles (operand i ∷ operand j ∷ [])) gates
      → Comes (both_scope n m) (application name angles (operand i ∷ operand j ∷ [])) gates
  unfolding wrong_in
  also_two i j gates c = also (operand i ∷ operand j ∷ []) gates refl refl refl c

-- ---- each gate, at an index i that is the number q
module _ (n : ℕ) (i : List ℕ) (q : ℕ) (is : 0 + numeral i ≡ q) (below : nat_le n (numeral i) ≡ false) where
  -- gates without angles, with the three angles of U that they come to
  abbrev Word : Type 0
  Word = List ℕ × ℕ × ℕ × ℕ

  abbrev words : List Word
  words =
      (codes "h", quarter_turn, 0, half_turn) ∷ (codes "x", half_turn, 0, half_turn) ∷ (codes "z", 0, 0, half_turn) ∷ (codes "s", 0, 0, quarter_turn)
      ∷ (codes "sdg", 0, 0, half_turn + quarter_turn) ∷ (codes "t", 0, 0, eighth_turn) ∷ (codes "tdg", 0, 0, opposite_phase eighth_turn) ∷ []

  abbrev found : Word → Bool × Bool × List Event
  found w = (
    has_unknown (lookup_in (register_scope n)) (apply w.0 [] (operand i ∷ [])),
    has_other_shape (shape_of (lookup_in (register_scope n)) (Declared w.0)) 0 1,
    events_of (register_scope n) (application w.0 [] (operand i ∷ [])),
  )

  abbrev meant : Word → Bool × Bool × List Event
  meant w = (false, false, Called 1 ∷ Called 2 ∷ Called 3 ∷ Applied (elementary.U (0 + numeral i) w.1 w.2 w.3) ∷ [])

  as_meant : map found words ≡ map meant words
  unfolding with_header angle_of values.applied gcd lowest limited phase_of_angle literals.literal_value literals.decimal
  as_meant = refl

  abbrev pub Come : List (List ℕ × ℕ × ℕ × ℕ) → Type 0
  Come [] = Unit {0}
  Come (w ∷ ws) = Comes (register_scope n) (application w.0 [] (operand i ∷ [])) (elementary.U q w.1 w.2 w.3 ∷ []) × Come ws

  come : (ws : List Word) → map found ws ≡ map meant ws → Come ws
  come [] e = tt
  come (w ∷ ws) e =
      let here : found w ≡ meant w = cc in
      let later : map found ws ≡ map meant ws = cc in (
        on_one_comes n i w.0 [] (λ k. elementary.U k w.1 w.2 w.3 ∷ []) (meant w).2 q is below refl (ap (λ x. x.0) here) (ap (λ x. x.1) here) (ap (λ x. x.2) here) refl
            (omega arith) refl,
        come ws later,
      )

  pub words_come : Come words
  words_come = come words as_meant

  -- u1 of an angle that is k sixteenth turns
  pub u1_comes : (f : Formula) (k : ℕ) → list_any is_unsupported (f ∷ []) ≡ false
      → has_unknown (lookup_in (register_scope n)) (apply (codes "u1") (f ∷ []) (operand i ∷ [])) ≡ false
      → events_of (register_scope n) (application (codes "u1") (f ∷ []) (operand i ∷ []))
      ≡ Called 1 ∷ Called 2 ∷ Applied (elementary.U (0 + numeral i) 0 0 k) ∷ []
      → Comes (register_scope n) (application (codes "u1") (f ∷ []) (operand i ∷ [])) (elementary.U q 0 0 k ∷ [])
  unfolding with_header
  u1_comes f k supported known e = on_one_comes n i (codes "u1") (f ∷ []) (λ j. elementary.U j 0 0 k ∷ [])
      (Called 1 ∷ Called 2 ∷ Applied (elementary.U (0 + numeral i) 0 0 k) ∷ [])
      q is below supported known refl e refl (omega arith) refl

module _ (n : ℕ) (i j : List ℕ) (q r : ℕ) (is : 0 + numeral i ≡ q) (are : 0 + numeral j ≡ r)
    (below : nat_le n (numeral i) ≡ false) (under : nat_le n (numeral j) ≡ false) (differ : ((0 + numeral j) == (0 + numeral i)) ≡ false) where
  pub cx_comes : Comes (register_scope n) (application (codes "cx") [] (operand i ∷ operand j ∷ [])) (elementary.Cx q r ∷ [])
  unfolding with_header
  cx_comes = on_two_comes n i j (codes "cx") (λ k l. elementary.Cx k l ∷ [])
      (Called 1 ∷ Called 2 ∷ Applied (elementary.Cx (0 + numeral i) (0 + numeral j)) ∷ [])
      q r is are below under differ refl refl refl refl (omega arith) refl

  pub cz_comes : Comes (register_scope n) (application (codes "cz") [] (operand i ∷ operand j ∷ []))
      (elementary.U r quarter_turn 0 half_turn ∷ elementary.Cx q r ∷ elementary.U r quarter_turn 0 half_turn ∷ [])
  unfolding with_header angle_of values.applied gcd lowest limited phase_of_angle literals.literal_value literals.decimal
  cz_comes = on_two_comes n i j (codes "cz") (λ k l. elementary.U l quarter_turn 0 half_turn ∷ elementary.Cx k l ∷ elementary.U l quarter_turn 0 half_turn ∷ [])
      (Called 1 ∷ Called 2 ∷ Called 3 ∷ Called 4 ∷ Applied (elementary.U (0 + numeral j) quarter_turn 0 half_turn)
      ∷ Called 2 ∷ Called 3 ∷ Applied (elementary.Cx (0 + numeral i) (0 + numeral j))
      ∷ Called 2 ∷ Called 3 ∷ Called 4 ∷ Applied (elementary.U (0 + numeral j) quarter_turn 0 half_turn) ∷ [])
      q r is are below under differ refl refl refl refl (omega arith) refl
