-- The parser of expressions reads what stands in the grammar, and nothing else.
use Rattle.std.proofs.Common.{◌≡◌, ◌<◌, Bool, true, false, List, [], ◌∷◌, ◌++◌, length, length-append, Option, None, Some, refl, sym, ap, ◌∙◌, subst, append_assoc, append-nil, arith, lit≤}
use Rattle.qasm_lexer.specs.declared.token.TokenKind.{TokenKind}
use Rattle.qasm_lexer.specs.declared.token.TokenKind.TheVariants as kind
use Rattle.qasm_lexer.specs.Tokens.{Lexeme}
use Rattle.qasm_reader.specs.declared.expression.Function.{Function}
use Rattle.qasm_reader.specs.declared.machine.Pending.{Pending}
use Rattle.qasm_reader.specs.Syntax.{Formula, Pi, Negate, Binary, Call}
use Rattle.qasm_reader.specs.Postfix.{Entry, NegateEntry, BinaryEntry, CallEntry, postfix, push_entries, formula_of, first_or_pi, IsPostfix}
use Rattle.qasm_reader.specs.Internal.Machine.{MachineState, start, operator_of, is_right, release, closed, step, run, go_on, on_operator, on_right, finished, all_out, followed_by, entries_at, as_formula, take_entries, take_expression}
use Rattle.qasm_reader.specs.Grammar.{function_kind, IsExpression, OneTerm, Sum, Difference, IsTerm, OnePower, Product, Quotient, IsPower, OneFactor, ToThePower, IsFactor, Negative, RealNumber, WholeNumber, PiWord, Parameter, InParentheses, ValueOf}
use Rattle.qasm_reader.specs.Internal.Taking.{same_kind, after}
use Rattle.qasm_reader.proofs.Completing.{operator, expression_runs}
use Rattle.qasm_reader.proofs.Reading.{entries_read}
use Rattle.qasm_reader.proofs.Steps.{Sound, each_function, Complete, Shrinks, same, after_other}

-- ---- postfix order and back

pub push_postfix : (f : Formula) (es : List Entry) (operands : List Formula) → push_entries (postfix f ++ es) operands ≡ push_entries es (f ∷ operands)
push_postfix (Negate f) es operands =
    ap (λ (x : List Entry). push_entries x operands) (append_assoc (postfix f) (NegateEntry ∷ []) es) ∙ push_postfix f (NegateEntry ∷ es) operands
push_postfix (Call function f) es operands =
    ap (λ (x : List Entry). push_entries x operands) (append_assoc (postfix f) (CallEntry function ∷ []) es) ∙ push_postfix f (CallEntry function ∷ es) operands
push_postfix (Binary op f g) es operands =
    ap (λ (x : List Entry). push_entries x operands) (append_assoc (postfix f ++ postfix g) (BinaryEntry op ∷ []) es ∙ append_assoc (postfix f) (postfix g) (BinaryEntry op ∷ es))
    ∙ push_postfix f (postfix g ++ BinaryEntry op ∷ es) operands
    ∙ push_postfix g (BinaryEntry op ∷ es) (f ∷ operands)
push_postfix _ es operands = refl

pub formula_of_postfix : (f : Formula) → formula_of (postfix f) ≡ f
formula_of_postfix f = ap (λ (x : List Entry). formula_of x) (sym (append-nil (postfix f))) ∙ ap first_or_pi (push_postfix f [] [])

-- ---- what is read

formula_some : (o : Option (List Entry × List Lexeme)) (f : Formula) (rest : List Lexeme) → as_formula o ≡ Some (f, rest) → (es : List Entry) × (o ≡ Some (es, rest)) × (formula_of es ≡ f)
formula_some None f rest e = absurd cc
formula_some (Some x) f rest e =
    let p = same (formula_of x.0, x.1) (f, rest) e in
    (x.0, ap (λ (r : List Lexeme). Some (x.0, r)) (ap (λ (q : Formula × List Lexeme). q.1) p), ap (λ (q : Formula × List Lexeme). q.0) p)

pub expression_takes : Sound take_expression IsExpression
unfolding take_expression
expression_takes ts f rest e =
    let a = formula_some (take_entries ts) f rest e in
    let r = entries_read ts a.0 rest a.1 in
    let is : r.2.0 ≡ f = sym (formula_of_postfix r.2.0) ∙ ap formula_of (sym r.2.2) ∙ a.2 in
    (r.0, r.1, subst (λ (g : Formula). IsExpression g r.0) is r.2.1)

pub entries_postfix : (ts : List Lexeme) (es : List Entry) (rest : List Lexeme) → take_entries ts ≡ Some (es, rest) → IsPostfix es
entries_postfix ts es rest e = let r = entries_read ts es rest e in (r.2.0, r.2.2)

-- what the machine put out
pub run_postfix : (ts : List Lexeme) (s r : MachineState) (es : List Entry) (rest : List Lexeme) → s ≡ start → run ts s ≡ (r, rest) → finished r ≡ Some es → IsPostfix es
unfolding take_entries
run_postfix ts s r es rest is ran out =
    entries_postfix ts es rest (ap (λ (q : MachineState). entries_at (run ts q)) (sym is) ∙ ap entries_at ran ∙ ap (λ (o : Option (List Entry)). followed_by o rest) out)

-- ---- what an expression begins with

abbrev OpensWith : TokenKind → Type 0
OpensWith k = same_kind k kind.RightParenthesis ≡ false

abbrev Opens : List Lexeme → Type 0
Opens [] = ⊥
Opens (t ∷ ts) = OpensWith t.kind

opens_more : (us vs : List Lexeme) → Opens us → Opens (us ++ vs)
opens_more [] vs o = absurd o
opens_more (t ∷ ts) vs o = o

function_opens : (f : Function) → OpensWith (function_kind f)
unfolding same_kind
function_opens = each_function (λ f. OpensWith (function_kind f)) refl refl refl refl refl refl

by_kind : (k l : TokenKind) → k ≡ l → OpensWith l → OpensWith k
by_kind k l is o = ap (λ (x : TokenKind). same_kind x kind.RightParenthesis) is ∙ o

mutual
  unfolding same_kind

  expression_opens : (f : Formula) (us : List Lexeme) → IsExpression f us → Opens us
  expression_opens f us (OneTerm d) = term_opens f us d
  expression_opens f us (Sum {f = g} {g = h} {us = xs} {vs = ys} t d is e) = opens_more xs (t ∷ ys) (expression_opens g xs d)
  expression_opens f us (Difference {f = g} {g = h} {us = xs} {vs = ys} t d is e) = opens_more xs (t ∷ ys) (expression_opens g xs d)

  term_opens : (f : Formula) (us : List Lexeme) → IsTerm f us → Opens us
  term_opens f us (OnePower d) = power_opens f us d
  term_opens f us (Product {f = g} {g = h} {us = xs} {vs = ys} t d is e) = opens_more xs (t ∷ ys) (term_opens g xs d)
  term_opens f us (Quotient {f = g} {g = h} {us = xs} {vs = ys} t d is e) = opens_more xs (t ∷ ys) (term_opens g xs d)

  power_opens : (f : Formula) (us : List Lexeme) → IsPower f us → Opens us
  power_opens f us (OneFactor d) = factor_opens f us d
  power_opens f us (ToThePower {f = g} {g = h} {us = xs} {vs = ys} t d is e) = opens_more xs (t ∷ ys) (factor_opens g xs d)

  factor_opens : (f : Formula) (us : List Lexeme) → IsFactor f us → Opens us
  factor_opens f us (Negative t is d) = by_kind t.kind kind.Minus is refl
  factor_opens f us (RealNumber t is) = by_kind t.kind kind.Real is refl
  factor_opens f us (WholeNumber t is) = by_kind t.kind kind.Natural is refl
  factor_opens f us (PiWord t is) = by_kind t.kind kind.Pi is refl
  factor_opens f us (Parameter t is) = by_kind t.kind kind.Identifier is refl
  factor_opens f us (InParentheses left right is d is') = by_kind left.kind kind.LeftParenthesis is refl
  factor_opens f us (ValueOf function word left right is is' d is'') = by_kind word.kind (function_kind function) is (function_opens function)

opens_after : (us rest : List Lexeme) → Opens us → after kind.RightParenthesis (us ++ rest) ≡ None
opens_after [] rest o = absurd o
opens_after (t ∷ ts) rest o = after_other kind.RightParenthesis t.kind t (ts ++ rest) refl o

pub expression_begins : (f : Formula) (us rest : List Lexeme) → IsExpression f us → after kind.RightParenthesis (us ++ rest) ≡ None
expression_begins f us rest d = opens_after us rest (expression_opens f us d)

some_tokens : (us : List Lexeme) → Opens us → 0 < length us
some_tokens [] o = absurd o
some_tokens (t ∷ ts) o = omega arith

pub expression_shrinks : Shrinks take_expression
expression_shrinks ts f rest e =
    let t = expression_takes ts f rest e in
    omega (arith, ap length t.1, length-append t.0 rest, some_tokens t.0 (expression_opens f t.0 t.2))

-- ---- what stands there is read

-- no operator stands first
abbrev pub EndsExpression : List Lexeme → Type 0
EndsExpression [] = Unit {0}
EndsExpression (t ∷ ts) = operator_of t.kind ≡ None

ends_at : (b : Bool) (o es : List Entry) (p : List Pending) (rest : List Lexeme) (go : MachineState → MachineState × List Lexeme) → release 1 o p ≡ (es, []) → entries_at (go_on (on_right b (operator o p)) rest go) ≡ Some (es, rest)
unfolding finished
ends_at false o es p rest go is = ap (λ x. followed_by (all_out x) rest) is
ends_at true o es p rest go is = ap (λ x. entries_at (go_on (closed x) rest go)) is

ends_run : (rest : List Lexeme) (o es : List Entry) (p : List Pending) → EndsExpression rest → release 1 o p ≡ (es, []) → entries_at (run rest (operator o p)) ≡ Some (es, rest)
unfolding run step finished
ends_run [] o es p ends is = ap (λ x. followed_by (all_out x) []) is
ends_run (t ∷ ts) o es p ends is =
    ap (λ x. entries_at (go_on (on_operator x t.kind (operator o p)) (t ∷ ts) (run ts))) ends
    ∙ ends_at (is_right t.kind) o es p (t ∷ ts) (run ts) is

pub entries_again : (f : Formula) (us rest : List Lexeme) → IsExpression f us → EndsExpression rest → take_entries (us ++ rest) ≡ Some (postfix f, rest)
unfolding take_entries
entries_again f us rest d ends =
    let r = expression_runs f us d rest [] [] tt in
    ap entries_at r.2 ∙ ends_run rest r.0 (postfix f) r.1 ends (r.3 1 (lit≤ tt))

pub expression_again : Complete take_expression IsExpression EndsExpression
unfolding take_expression
expression_again f us rest d ends =
    ap as_formula (entries_again f us rest d ends) ∙ ap (λ (g : Formula). Some (g, rest)) (formula_of_postfix f)

-- ---- one expression

pub one_expression : (ts : List Lexeme) (f g : Formula) → IsExpression f ts → IsExpression g ts → f ≡ g
one_expression ts f g d e =
    ap (λ (x : Formula × List Lexeme). x.0) (same (f, []) (g, []) (sym (expression_again f ts [] d tt) ∙ expression_again g ts [] e tt))
