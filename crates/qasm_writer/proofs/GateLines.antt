-- The lines of a circuit's gates are statements that come to its elements.
use Rattle.std.specs.Prelude.{◌≡◌, ◌≢◌, ◌<◌, ◌≤◌, if◌then◌else◌, ℕ, zero, suc, ◌+◌, ◌-◌, ◌^◌, ◌==◌, Bool, true, false, not, nat_le, nat_lt, List, [], ◌∷◌, codes, decimal, Some, None}
use Rattle.std.proofs.Common.{refl, sym, ◌∙◌, arith, rules, subst, inl, inr}
use Rattle.std.specs.List.{list_all}
use Rattle.std.specs.Str.{all_ascii_digits}
use Rattle.std.proofs.lemmas.Bool.{false≢true, and_parts, lt-leb, ne_eqb, cases_eq}
use Rattle.std.specs.Str.{bytes_eq}
use Rattle.std.specs.Fmt.{digits}
use Rattle.std.proofs.lemmas.Fmt.{digits_value-decimal}
use Rattle.std.proofs.lemmas.Str.Parse.{IsNumeralModel, numerals_by_fold}
use Rattle.zx_model.specs.Phase.{turn, half_turn, quarter_turn, eighth_turn, opposite_phase}
use Rattle.zx_gates.specs.Circuit.{IsGateOn, most_qubits}
use Rattle.zx_gates.specs.declared.gate.Gate.{Gate}
use Rattle.zx_gates.specs.declared.gate.Gate.TheVariants.{H, Phase, Cz, Cx, Not}
use Rattle.zx_gates.specs.declared.elementary.ElementaryGate.TheVariants as elementary
use Rattle.qasm_lexer.specs.declared.token.TokenKind.TheVariants.{Identifier}
use Rattle.std.specs.Char.{is_ascii_digit}
use Rattle.qasm_lexer.specs.Forms.{is_natural, is_word}
use Rattle.qasm_lexer.specs.Tokens.{word_kind}
use Rattle.qasm_reader.specs.Syntax.{Formula, Operand}
use Rattle.qasm_angle.specs.Ratio.{gcd, lowest, limited}
use Rattle.qasm_angle.specs.Sixteenths.{phase_of_angle}
use Rattle.qasm_angle.specs.Literals as literals
use Rattle.qasm_angle.specs.Values as values
use Rattle.qasm_scope.specs.Calls.{Event, Called, Undefined, Applied, call_count, deepest, first_wrong}
use Rattle.qasm_scope.specs.declared.causes.Cause.TheVariants as causes
use Rattle.qasm_scope.specs.Angles.{angle_of}
use Rattle.qasm_scope.specs.Faults.{has_unknown}
use Rattle.qasm_scope.specs.Meaning.{with_header, events_of}
use Rattle.qasm_scope.specs.Scope.{Scope, numeral, lookup_in}
use Rattle.qasm_scope.specs.Internal.Numerals.{numeral_from}
use Rattle.qasm_writer.specs.Elements.{elements}
use Rattle.qasm_writer.specs.Written.{gate_line, on_one, on_two}
use Rattle.qasm_writer.proofs.Lines.{IsLine, on_one_line, on_two_line, u1_text, over_text, times_text, IsDigit, over_line, times_line}
use Rattle.qasm_writer.proofs.Statements.{application, apply, operand, pi_over, pi_times_over, register_scope, written_scope, in_both, also_one, also_two, Comes, are_calm, u1_comes, cx_comes, cz_comes, words_come}

-- ---- numerals
own : IsNumeralModel (λ ds. all_ascii_digits ds ≡ true) (numeral_from 0)
own = numerals_by_fold _ (search rules) numeral_from (search rules)

pub numeral-decimal : (n : ℕ) → n < 2 ^ 64 → numeral (decimal n) ≡ n
unfolding numeral
numeral-decimal n small = digits_value-decimal own n small

-- ---- calls of a program
-- calm events are no fault where their calls may still be made
pub no_wrong : (most calls : ℕ) (events : List Event) → are_calm events ≡ true → calls + call_count events ≤ most → first_wrong most calls events ≡ None
no_wrong most calls [] calm few = refl
no_wrong most calls (Called depth ∷ events) calm few =
    let p : (not (nat_lt deepest depth) ≡ true) × (are_calm events ≡ true) = and_parts (not (nat_lt deepest depth)) (are_calm events) calm in
    called (nat_le most calls) (nat_lt deepest depth) (lt-leb most calls (omega arith)) p.0 (no_wrong most (calls + 1) events p.1 (omega arith)) where
      called : (many deep : Bool) → many ≡ false → not deep ≡ true → first_wrong most (calls + 1) events ≡ None
          → (if many then Some causes.TooManyGates else if deep then Some causes.TooDeep else first_wrong most (calls + 1) events) ≡ None
      called true deep e f r = absurd (false≢true (sym e))
      called false true e f r = absurd (false≢true f)
      called false false e f r = r
no_wrong most calls (Undefined cause ∷ events) calm few = absurd (false≢true calm)
no_wrong most calls (Applied gate ∷ events) calm few = no_wrong most calls events calm few

-- ---- the line of a gate
pub record IsGateLine (place : ℕ) (scope : Scope) (gate : Gate) : Type 0 where
  pub name : List ℕ
  pub angles : List Formula
  pub operands : List Operand
  pub line : IsLine place (gate_line gate) (application name angles operands)
  pub comes : Comes scope (application name angles operands) (elements gate)

-- a property of each of so many numbers, from the first on
abbrev pub AllFrom : (P : ℕ → Type 0) → ℕ → ℕ → Type 0
AllFrom P first zero = Unit {0}
AllFrom P first (suc count) = P first × AllFrom P (suc first) count

one_more : {A B : Type 0} → A → B → A × B
one_more here later = (here, later)

pub from_all : (P : ℕ → Type 0) (first count : ℕ) → AllFrom P first count → (k : ℕ) → first ≤ k → k < first + count → P k
from_all P first zero all k from below = absurd (omega arith)
from_all P first (suc count) all k from below = elim (cases_eq k first) [
  | inl e ↦ subst P (sym e) all.0
  | inr other ↦ from_all P (suc first) count all.1 k (omega arith) (omega arith)
]

module _ (place n m q : ℕ) (few : n ≤ most_qubits) (below : q < n) where
  small : q < 2 ^ 64
  small = omega arith

  is : 0 + numeral (decimal q) ≡ q
  is = omega (arith, numeral-decimal q (omega arith))

  in_range : nat_le n (numeral (decimal q)) ≡ false
  in_range = lt-leb n (numeral (decimal q)) (omega (arith, numeral-decimal q (omega arith)))

  some : n ≢ 0
  some = λ z. omega arith

  one_is : (text name : List ℕ) (angles : List Formula) (gate : Gate) → gate_line gate ≡ on_one text q → bytes_eq (codes "c") name ≡ false
      → IsLine place (on_one text q) (application name angles (operand (decimal q) ∷ []))
      → Comes (register_scope n) (application name angles (operand (decimal q) ∷ [])) (elements gate) → IsGateLine place (written_scope n m) gate
  one_is text name angles gate e other line comes = record {
    name = name;
    angles = angles;
    operands = operand (decimal q) ∷ [];
    line = subst (λ l. IsLine place l (application name angles (operand (decimal q) ∷ []))) (sym e) line;
    comes = in_both (λ s. Comes s (application name angles (operand (decimal q) ∷ [])) (elements gate)) n m some comes
        (also_one n m name angles other (decimal q) (elements gate) comes);
  }

  word_is : (name : List ℕ) (gate : Gate) → gate_line gate ≡ on_one name q → bytes_eq (codes "c") name ≡ false → is_word name ≡ true
      → word_kind name ≡ Some Identifier
      → Comes (register_scope n) (application name [] (operand (decimal q) ∷ [])) (elements gate) → IsGateLine place (written_scope n m) gate
  word_is name gate e other word identifier comes = one_is name name [] gate e other (on_one_line place name word identifier q small) comes

  h_is : IsGateLine place (written_scope n m) (H q)
  h_is = word_is (codes "h") (H q) refl refl refl refl (words_come n (decimal q) q is in_range).0

  not_is : IsGateLine place (written_scope n m) (Not q)
  not_is = word_is (codes "x") (Not q) refl refl refl refl (words_come n (decimal q) q is in_range).1.0

  -- the angle as the line has it is k sixteenth turns
  abbrev IsAngle : Formula → ℕ → Type 0
  IsAngle f k =
      (has_unknown (lookup_in (register_scope n)) (apply (codes "u1") (f ∷ []) (operand (decimal q) ∷ [])) ≡ false)
      × (events_of (register_scope n) (application (codes "u1") (f ∷ []) (operand (decimal q) ∷ []))
      ≡ Called 1 ∷ Called 2 ∷ Applied (elementary.U (0 + numeral (decimal q)) 0 0 k) ∷ [])

  over_is : (d k : ℕ) → IsDigit d → gate_line (Phase q k) ≡ on_one (u1_text (over_text d)) q → IsAngle (pi_over (d ∷ [])) k → IsGateLine place (written_scope n m) (Phase q k)
  over_is d k digit e angle =
      one_is (u1_text (over_text d)) (codes "u1") (pi_over (d ∷ []) ∷ []) (Phase q k) e refl (over_line place d q digit small)
      (u1_comes n (decimal q) q is in_range (pi_over (d ∷ [])) k refl angle.0 angle.1)

  times_is : (times : List ℕ) (d k : ℕ) → list_all is_ascii_digit times ≡ true → is_natural times ≡ true → IsDigit d
      → gate_line (Phase q k) ≡ on_one (u1_text (times_text times d)) q → IsAngle (pi_times_over times (d ∷ [])) k → IsGateLine place (written_scope n m) (Phase q k)
  times_is times d k digits natural digit e angle =
      one_is (u1_text (times_text times d)) (codes "u1") (pi_times_over times (d ∷ []) ∷ []) (Phase q k) e refl
      (times_line place times d q digits natural digit small)
      (u1_comes n (decimal q) q is in_range (pi_times_over times (d ∷ [])) k refl angle.0 angle.1)

  phases : AllFrom (λ k. IsGateLine place (written_scope n m) (Phase q k)) 1 (turn - 1)
  unfolding digits with_header angle_of values.applied gcd lowest limited phase_of_angle literals.literal_value literals.decimal
  phases =
      one_more (over_is 56 1 (refl, refl, refl) refl (refl, refl))
      (one_more (word_is (codes "t") (Phase q eighth_turn) refl refl refl refl (words_come n (decimal q) q is in_range).1.1.1.1.1.0)
      (one_more (times_is (codes "3") 56 3 refl refl (refl, refl, refl) refl (refl, refl))
      (one_more (word_is (codes "s") (Phase q quarter_turn) refl refl refl refl (words_come n (decimal q) q is in_range).1.1.1.0)
      (one_more (times_is (codes "5") 56 5 refl refl (refl, refl, refl) refl (refl, refl))
      (one_more (times_is (codes "3") 52 6 refl refl (refl, refl, refl) refl (refl, refl))
      (one_more (times_is (codes "7") 56 7 refl refl (refl, refl, refl) refl (refl, refl))
      (one_more (word_is (codes "z") (Phase q half_turn) refl refl refl refl (words_come n (decimal q) q is in_range).1.1.0)
      (one_more (times_is (codes "9") 56 9 refl refl (refl, refl, refl) refl (refl, refl))
      (one_more (times_is (codes "5") 52 10 refl refl (refl, refl, refl) refl (refl, refl))
      (one_more (times_is (codes "11") 56 11 refl refl (refl, refl, refl) refl (refl, refl))
      (one_more (word_is (codes "sdg") (Phase q (half_turn + quarter_turn)) refl refl refl refl (words_come n (decimal q) q is in_range).1.1.1.1.0)
      (one_more (times_is (codes "13") 56 13 refl refl (refl, refl, refl) refl (refl, refl))
      (one_more (word_is (codes "tdg") (Phase q (opposite_phase eighth_turn)) refl refl refl refl (words_come n (decimal q) q is in_range).1.1.1.1.1.1.0)
      (one_more (times_is (codes "15") 56 15 refl refl (refl, refl, refl) refl (refl, refl)) tt))))))))))))))

  phase_is : (k : ℕ) → k ≢ 0 → k < turn → IsGateLine place (written_scope n m) (Phase q k)
  phase_is k turned below_a_turn = from_all (λ k. IsGateLine place (written_scope n m) (Phase q k)) 1 (turn - 1) phases k (omega arith) (omega arith)

module _ (place n m q r : ℕ) (few : n ≤ most_qubits) (below : q < n) (under : r < n) (apart : q ≢ r) where
  differ : ((0 + numeral (decimal r)) == (0 + numeral (decimal q))) ≡ false
  differ = ne_eqb (0 + numeral (decimal r)) (0 + numeral (decimal q)) (λ e. apart (sym (is place n m q few below) ∙ sym e ∙ is place n m r few under))

  two_is : (name : List ℕ) (gate : Gate) → gate_line gate ≡ on_two name q r → bytes_eq (codes "c") name ≡ false → is_word name ≡ true
      → word_kind name ≡ Some Identifier
      → Comes (register_scope n) (application name [] (operand (decimal q) ∷ operand (decimal r) ∷ [])) (elements gate)
      → IsGateLine place (written_scope n m) gate
  two_is name gate e other word identifier comes = record {
    name = name;
    angles = [];
    operands = operand (decimal q) ∷ operand (decimal r) ∷ [];
    line = subst (λ l. IsLine place l (application name [] (operand (decimal q) ∷ operand (decimal r) ∷ []))) (sym e)
        (on_two_line place name word identifier q r (omega arith) (omega arith));
    comes = in_both (λ s. Comes s (application name [] (operand (decimal q) ∷ operand (decimal r) ∷ [])) (elements gate)) n m (λ z. omega arith) comes
        (also_two n m name [] other (decimal q) (decimal r) (elements gate) comes);
  }

  cx_is : IsGateLine place (written_scope n m) (Cx q r)
  cx_is = two_is (codes "cx") (Cx q r) refl refl refl refl
      (cx_comes n (decimal q) (decimal r) q r (is place n m q few below) (is place n m r few under) (in_range place n m q few below) (in_range place n m r few under) differ)

  cz_is : IsGateLine place (written_scope n m) (Cz q r)
  cz_is = two_is (codes "cz") (Cz q r) refl refl refl refl
      (cz_comes n (decimal q) (decimal r) q r (is place n m q few below) (is place n m r few under) (in_range place n m q few below) (in_range place n m r few under) differ)

pub gate_line_is : (place n m : ℕ) → n ≤ most_qubits → (gate : Gate) → IsGateOn n gate → IsGateLine place (written_scope n m) gate
gate_line_is place n m few (H q) on = h_is place n m q few on.0
gate_line_is place n m few (Phase q k) on = phase_is place n m q few on.0.0 k on.0.1 on.1
gate_line_is place n m few (Cz q r) on = cz_is place n m q r few on.0.0 on.0.1 on.0.2
gate_line_is place n m few (Cx control target) on = cx_is place n m control target few on.0.0 on.0.1 on.0.2
gate_line_is place n m few (Not q) on = not_is place n m q few on.0
