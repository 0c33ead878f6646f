-- Every expression is read, whatever follows: after its tokens the machine waits for an operator, and what it then
-- puts out for an operator that binds no more than the expression's level is the expression in postfix order.
use Rattle.std.proofs.Common.{◌≡◌, ℕ, ◌≤◌, true, List, [], ◌∷◌, ◌++◌, Option, None, Some, refl, sym, ap, ◌∙◌, append_assoc, arith, leb, le-leb, lit≤}
use Rattle.qasm_lexer.specs.declared.token.TokenKind.{TokenKind}
use Rattle.qasm_lexer.specs.declared.token.TokenKind.TheVariants as kind
use Rattle.qasm_lexer.specs.Tokens.{Lexeme}
use Rattle.qasm_reader.proofs.Steps.{each_function}
use Rattle.qasm_reader.specs.declared.expression.Function.{Function}
use Rattle.qasm_reader.specs.declared.expression.Operator.{Operator}
use Rattle.qasm_reader.specs.declared.expression.Operator.TheVariants.{Add, Subtract, Multiply, Divide, Power}
use Rattle.qasm_reader.specs.declared.machine.Awaited.TheVariants as awaited
use Rattle.qasm_reader.specs.declared.machine.Pending.{Pending}
use Rattle.qasm_reader.specs.declared.machine.Pending.TheVariants as pending
use Rattle.qasm_reader.specs.Syntax.{Formula, Number, Pi, Name, Binary}
use Rattle.qasm_reader.specs.Postfix.{Entry, NumberEntry, PiEntry, NameEntry, NegateEntry, BinaryEntry, CallEntry, postfix}
use Rattle.qasm_reader.specs.Internal.Machine.{MachineState, operand_of, operator_of, is_left, strength, bound, released, release, closed, with_operator, step, run, go_on, on_operand, on_operator, on_left}
use Rattle.qasm_reader.specs.Grammar.{function_kind, IsExpression, OneTerm, Sum, Difference, IsTerm, OnePower, Product, Quotient, IsPower, OneFactor, ToThePower, IsFactor, Negative, RealNumber, WholeNumber, PiWord, Parameter, InParentheses, ValueOf}

abbrev pub operand : List Entry → List Pending → MachineState
operand output ps = record { awaited = awaited.Operand; output = output; pending = ps }

abbrev pub operator : List Entry → List Pending → MachineState
operator output ps = record { awaited = awaited.Operator; output = output; pending = ps }

-- nothing of what waits is so strong
abbrev pub Rests : ℕ → List Pending → Type 0
Rests b [] = Unit {0}
Rests b (p ∷ ps) = released b p ≡ None

-- the expression's tokens lead from the operand to where its entries are put out for every operator up to the level
abbrev Runs : ℕ → Formula → List Lexeme → List Lexeme → List Entry → List Pending → Type 0
Runs level f us rest output ps =
    (o : List Entry) × (p : List Pending) × (run (us ++ rest) (operand output ps) ≡ run rest (operator o p))
    × ((b : ℕ) → b ≤ level → release b o p ≡ release b (output ++ postfix f) ps)

-- ---- single steps

operand_step : (t : Lexeme) (ts : List Lexeme) (e : Entry) (output : List Entry) (ps : List Pending) → operand_of t.kind t.text ≡ Some e
    → run (t ∷ ts) (operand output ps) ≡ run ts (operator (output ++ e ∷ []) ps)
unfolding run step
operand_step t ts e output ps is = ap (λ (o : Option Entry). go_on (on_operand o t.kind (operand output ps)) (t ∷ ts) (run ts)) is

minus_step : (t : Lexeme) (ts : List Lexeme) (output : List Entry) (ps : List Pending) → t.kind ≡ kind.Minus
    → run (t ∷ ts) (operand output ps) ≡ run ts (operand output (pending.Negate ∷ ps))
unfolding run step
minus_step t ts output ps is = ap (λ (k : TokenKind). go_on (on_operand (operand_of k t.text) k (operand output ps)) (t ∷ ts) (run ts)) is

left_step : (t : Lexeme) (ts : List Lexeme) (output : List Entry) (ps : List Pending) → t.kind ≡ kind.LeftParenthesis
    → run (t ∷ ts) (operand output ps) ≡ run ts (operand output (pending.Parenthesis ∷ ps))
unfolding run step
left_step t ts output ps is = ap (λ (k : TokenKind). go_on (on_operand (operand_of k t.text) k (operand output ps)) (t ∷ ts) (run ts)) is

name_step : (f : Function) (text : List ℕ) (s : MachineState) → on_operand (operand_of (function_kind f) text) (function_kind f) s ≡ (true, record s { awaited = awaited.Parenthesis f })
name_step f text s =
    each_function (λ g. on_operand (operand_of (function_kind g) text) (function_kind g) s ≡ (true, record s { awaited = awaited.Parenthesis g })) refl refl refl refl refl refl f

function_step : (f : Function) (t l : Lexeme) (ts : List Lexeme) (output : List Entry) (ps : List Pending) → t.kind ≡ function_kind f → l.kind ≡ kind.LeftParenthesis
    → run (t ∷ l ∷ ts) (operand output ps) ≡ run ts (operand output (pending.Call f ∷ ps))
unfolding run step
function_step f t l ts output ps is left =
    ap (λ (k : TokenKind). go_on (on_operand (operand_of k t.text) k (operand output ps)) (t ∷ l ∷ ts) (run (l ∷ ts))) is
    ∙ ap (λ m. go_on m (t ∷ l ∷ ts) (run (l ∷ ts))) (name_step f t.text (operand output ps))
    ∙ ap (λ (k : TokenKind). go_on (on_left (is_left k) f (record { awaited = awaited.Parenthesis f; output = output; pending = ps })) (l ∷ ts) (run ts)) left

operator_step : (op : Operator) (t : Lexeme) (ts : List Lexeme) (o output : List Entry) (p ps : List Pending) → operator_of t.kind ≡ Some op → release (bound op) o p ≡ (output, ps)
    → run (t ∷ ts) (operator o p) ≡ run ts (operand output (pending.Binary op ∷ ps))
unfolding run step
operator_step op t ts o output p ps is e =
    ap (λ (x : Option Operator). go_on (on_operator x t.kind (operator o p)) (t ∷ ts) (run ts)) is
    ∙ ap (λ r. go_on (with_operator op r) (t ∷ ts) (run ts)) e

right_step : (t : Lexeme) (ts : List Lexeme) (o : List Entry) (p : List Pending) → t.kind ≡ kind.RightParenthesis
    → run (t ∷ ts) (operator o p) ≡ go_on (closed (release 1 o p)) (t ∷ ts) (run ts)
unfolding run step
right_step t ts o p is = ap (λ (k : TokenKind). go_on (on_operator (operator_of k) k (operator o p)) (t ∷ ts) (run ts)) is

-- ---- the induction

-- an operator that waits is applied for one that binds no more
applied : (op : Operator) (b : ℕ) (output : List Entry) (ps : List Pending) → b ≤ strength op
    → release b output (pending.Binary op ∷ ps) ≡ release b (output ++ BinaryEntry op ∷ []) ps
applied op b output ps le = let e : leb b (strength op) ≡ true = le-leb _ _ le in rw e refl

stays : (b : ℕ) (output : List Entry) (ps : List Pending) → Rests b ps → release b output ps ≡ (output, ps)
stays b output [] rests = refl
stays b output (p ∷ ps) rests = rw rests refl

regroup : (output f g : List Entry) (e : Entry) → ((output ++ f) ++ g) ++ e ∷ [] ≡ output ++ ((f ++ g) ++ e ∷ [])
regroup output f g e = simp append_assoc

-- two operands with an operator between them
joins : (op : Operator) (low high : ℕ) (f g : Formula) (us vs : List Lexeme) (t : Lexeme) (rest : List Lexeme) (output : List Entry) (ps : List Pending)
    → operator_of t.kind ≡ Some op → bound op ≤ low → strength op ≤ high → Rests (bound op) ps
    → Runs low f us (t ∷ (vs ++ rest)) output ps
    → Runs high g vs rest (output ++ postfix f) (pending.Binary op ∷ ps)
    → Runs (strength op) (Binary op f g) (us ++ t ∷ vs) rest output ps
joins op low high f g us vs t rest output ps is first second rests left right = (
  right.0,
  right.1,
  ap (λ (ts : List Lexeme). run ts (operand output ps)) (append_assoc us (t ∷ vs) rest)
      ∙ left.2
      ∙ operator_step op t (vs ++ rest) left.0 (output ++ postfix f) left.1 ps is (left.3 (bound op) first ∙ stays (bound op) (output ++ postfix f) ps rests)
      ∙ right.2,
  λ b le.
      right.3 b (omega arith)
      ∙ applied op b ((output ++ postfix f) ++ postfix g) ps le
      ∙ ap (λ (o : List Entry). release b o ps) (regroup output (postfix f) (postfix g) (BinaryEntry op)),
)

-- what doesn't bind so strongly doesn't bind more strongly either
rests_more : (ps : List Pending) → (Rests 1 ps → Rests 2 ps) × (Rests 2 ps → Rests 4 ps)
rests_more (pending.Binary Add ∷ ps) = (λ r. refl, λ r. refl)
rests_more (pending.Binary Subtract ∷ ps) = (λ r. refl, λ r. refl)
rests_more (pending.Binary Multiply ∷ ps) = (λ r. r, λ r. refl)
rests_more (pending.Binary Divide ∷ ps) = (λ r. r, λ r. refl)
rests_more (pending.Binary Power ∷ ps) = (λ r. r, λ r. refl)
rests_more _ = (λ r. r, λ r. r)

-- a lower level asks for less
lower : (low high : ℕ) (f : Formula) (us rest : List Lexeme) (output : List Entry) (ps : List Pending) → low ≤ high → Runs high f us rest output ps → Runs low f us rest output ps
lower low high f us rest output ps le r = (r.0, r.1, r.2, λ b h. r.3 b (omega arith))

operator_kind : (op : Operator) (k l : TokenKind) → k ≡ l → operator_of l ≡ Some op → operator_of k ≡ Some op
operator_kind op k l is e = ap operator_of is ∙ e

-- a token that is an operand by itself
single : (t : Lexeme) (f : Formula) (e : Entry) (rest : List Lexeme) (output : List Entry) (ps : List Pending) → operand_of t.kind t.text ≡ Some e → postfix f ≡ e ∷ []
    → Runs 4 f (t ∷ []) rest output ps
single t f e rest output ps is post =
    (output ++ e ∷ [], ps, operand_step t rest e output ps is, λ b le. ap (λ (es : List Entry). release b (output ++ es) ps) (sym post))

-- after a parenthesis that closes
closes : (f : Formula) (us rest : List Lexeme) (right : Lexeme) (output : List Entry) (ps : List Pending) (opened : Pending) (closing : List Entry)
    → right.kind ≡ kind.RightParenthesis → Rests 1 (opened ∷ ps)
    → closed (output ++ postfix f, opened ∷ ps) ≡ (true, operator (output ++ closing) ps)
    → Runs 1 f us (right ∷ rest) output (opened ∷ ps)
    → run ((us ++ right ∷ []) ++ rest) (operand output (opened ∷ ps)) ≡ run rest (operator (output ++ closing) ps)
closes f us rest right output ps opened closing is rests closed_is r =
    ap (λ (ts : List Lexeme). run ts (operand output (opened ∷ ps))) (append_assoc us (right ∷ []) rest)
    ∙ r.2
    ∙ right_step right rest r.0 r.1 is
    ∙ ap (λ x. go_on (closed x) (right ∷ rest) (run rest)) (r.3 1 (lit≤ tt) ∙ stays 1 (output ++ postfix f) (opened ∷ ps) rests)
    ∙ ap (λ m. go_on m (right ∷ rest) (run rest)) closed_is

mutual
  pub expression_runs : (f : Formula) (us : List Lexeme) → IsExpression f us → (rest : List Lexeme) (output : List Entry) (ps : List Pending) → Rests 1 ps → Runs 1 f us rest output ps
  expression_runs f us (OneTerm d) rest output ps r = lower 1 2 f us rest output ps (lit≤ tt) (term_runs f us d rest output ps ((rests_more ps).0 r))
  expression_runs f us (Sum {f = g} {g = h} {us = xs} {vs = ys} t d is e) rest output ps r =
      joins Add 1 2 g h xs ys t rest output ps (operator_kind Add t.kind kind.Plus is refl) (lit≤ tt) (lit≤ tt) r
      (expression_runs g xs d (t ∷ (ys ++ rest)) output ps r)
      (term_runs h ys e rest (output ++ postfix g) (pending.Binary Add ∷ ps) refl)
  expression_runs f us (Difference {f = g} {g = h} {us = xs} {vs = ys} t d is e) rest output ps r =
      joins Subtract 1 2 g h xs ys t rest output ps (operator_kind Subtract t.kind kind.Minus is refl) (lit≤ tt) (lit≤ tt) r
      (expression_runs g xs d (t ∷ (ys ++ rest)) output ps r)
      (term_runs h ys e rest (output ++ postfix g) (pending.Binary Subtract ∷ ps) refl)

  term_runs : (f : Formula) (us : List Lexeme) → IsTerm f us → (rest : List Lexeme) (output : List Entry) (ps : List Pending) → Rests 2 ps → Runs 2 f us rest output ps
  term_runs f us (OnePower d) rest output ps r = lower 2 3 f us rest output ps (lit≤ tt) (power_runs f us d rest output ps ((rests_more ps).1 r))
  term_runs f us (Product {f = g} {g = h} {us = xs} {vs = ys} t d is e) rest output ps r =
      joins Multiply 2 3 g h xs ys t rest output ps (operator_kind Multiply t.kind kind.Star is refl) (lit≤ tt) (lit≤ tt) r
      (term_runs g xs d (t ∷ (ys ++ rest)) output ps r)
      (power_runs h ys e rest (output ++ postfix g) (pending.Binary Multiply ∷ ps) refl)
  term_runs f us (Quotient {f = g} {g = h} {us = xs} {vs = ys} t d is e) rest output ps r =
      joins Divide 2 3 g h xs ys t rest output ps (operator_kind Divide t.kind kind.Slash is refl) (lit≤ tt) (lit≤ tt) r
      (term_runs g xs d (t ∷ (ys ++ rest)) output ps r)
      (power_runs h ys e rest (output ++ postfix g) (pending.Binary Divide ∷ ps) refl)

  power_runs : (f : Formula) (us : List Lexeme) → IsPower f us → (rest : List Lexeme) (output : List Entry) (ps : List Pending) → Rests 4 ps → Runs 3 f us rest output ps
  power_runs f us (OneFactor d) rest output ps r = lower 3 4 f us rest output ps (lit≤ tt) (factor_runs f us d rest output ps)
  power_runs f us (ToThePower {f = g} {g = h} {us = xs} {vs = ys} t d is e) rest output ps r =
      joins Power 4 3 g h xs ys t rest output ps (operator_kind Power t.kind kind.Caret is refl) (lit≤ tt) (lit≤ tt) r
      (factor_runs g xs d (t ∷ (ys ++ rest)) output ps)
      (power_runs h ys e rest (output ++ postfix g) (pending.Binary Power ∷ ps) refl)

  factor_runs : (f : Formula) (us : List Lexeme) → IsFactor f us → (rest : List Lexeme) (output : List Entry) (ps : List Pending) → Runs 4 f us rest output ps
  factor_runs f us (Negative {f = g} {us = xs} t is d) rest output ps =
      let r = factor_runs g xs d rest output (pending.Negate ∷ ps) in
      (r.0, r.1, minus_step t (xs ++ rest) output ps is ∙ r.2, λ b le. r.3 b le ∙ ap (λ (o : List Entry). release b o ps) (append_assoc output (postfix g) (NegateEntry ∷ [])))
  factor_runs f us (RealNumber t is) rest output ps = single t (Number t.text) (NumberEntry t.text) rest output ps (ap (λ (k : TokenKind). operand_of k t.text) is) refl
  factor_runs f us (WholeNumber t is) rest output ps = single t (Number t.text) (NumberEntry t.text) rest output ps (ap (λ (k : TokenKind). operand_of k t.text) is) refl
  factor_runs f us (PiWord t is) rest output ps = single t Pi PiEntry rest output ps (ap (λ (k : TokenKind). operand_of k t.text) is) refl
  factor_runs f us (Parameter t is) rest output ps = single t (Name t.text) (NameEntry t.text) rest output ps (ap (λ (k : TokenKind). operand_of k t.text) is) refl
  factor_runs f us (InParentheses {f = g} {us = xs} left right is d is') rest output ps = (
    output ++ postfix g,
    ps,
    left_step left ((xs ++ right ∷ []) ++ rest) output ps is
        ∙ closes g xs rest right output ps pending.Parenthesis (postfix g) is' refl refl (expression_runs g xs d (right ∷ rest) output (pending.Parenthesis ∷ ps) refl),
    λ b le. refl,
  )
  factor_runs f us (ValueOf {f = g} {us = xs} function word left right is is' d is'') rest output ps = (
    output ++ (postfix g ++ CallEntry function ∷ []),
    ps,
    function_step function word left ((xs ++ right ∷ []) ++ rest) output ps is is'
        ∙ closes g xs rest right output ps (pending.Call function) (postfix g ++ CallEntry function ∷ []) is'' refl (ap (λ (o : List Entry). (true, operator o ps)) (append_assoc output (postfix g) (CallEntry function ∷ [])))
        (expression_runs g xs d (right ∷ rest) output (pending.Call function ∷ ps) refl),
    λ b le. refl,
  )
