-- What the machine reads is an expression: at each token the tokens so far are what the stack says, with operands that
-- stand in the grammar.
use Rattle.std.proofs.Common.{◌≡◌, ℕ, ◌≤◌, Bool, true, false, List, [], ◌∷◌, ◌++◌, Option, None, Some, refl, sym, ap, ◌∙◌, subst, append_assoc, arith, leb, leb-true, lit≤}
use Rattle.qasm_lexer.specs.declared.token.TokenKind.{TokenKind}
use Rattle.qasm_lexer.specs.declared.token.TokenKind.TheVariants as kind
use Rattle.qasm_lexer.specs.Tokens.{Lexeme}
use Rattle.qasm_reader.specs.declared.expression.Function.{Function}
use Rattle.qasm_reader.specs.declared.expression.Function.TheVariants.{Sin, Cos, Tan, Exp, Ln, Sqrt}
use Rattle.qasm_reader.specs.declared.expression.Operator.{Operator}
use Rattle.qasm_reader.specs.declared.expression.Operator.TheVariants.{Add, Subtract, Multiply, Divide, Power}
use Rattle.qasm_reader.specs.declared.machine.Awaited.{Awaited}
use Rattle.qasm_reader.specs.declared.machine.Awaited.TheVariants as awaited
use Rattle.qasm_reader.specs.declared.machine.Pending.{Pending}
use Rattle.qasm_reader.specs.declared.machine.Pending.TheVariants as pending
use Rattle.qasm_reader.specs.Syntax.{Formula, Number, Pi, Name, Negate, Binary, Call}
use Rattle.qasm_reader.specs.Postfix.{Entry, NegateEntry, BinaryEntry, CallEntry, postfix}
use Rattle.qasm_reader.specs.Internal.Machine.{MachineState, Move, start, operand_of, prefix_of, function_of, operator_of, is_left, is_right, strength, bound, released, release, closed, step, step_by, run, go_on, on_operand, on_prefix, on_function, on_operator, on_left, on_right, finished, finished_by, all_out, followed_by, take_entries}
use Rattle.qasm_reader.specs.Grammar.{function_kind, IsExpression, OneTerm, Sum, Difference, IsTerm, OnePower, Product, Quotient, IsPower, OneFactor, ToThePower, IsFactor, Negative, RealNumber, WholeNumber, PiWord, Parameter, InParentheses, ValueOf}
use Rattle.qasm_reader.proofs.Completing.{operand, operator}
use Rattle.qasm_reader.proofs.Steps.{same}

-- ---- levels of the grammar

data Level : Type 0 where
  Expressions : Level
  Terms : Level
  Powers : Level
  Factors : Level

abbrev rank : Level → ℕ
rank Expressions = 1
rank Terms = 2
rank Powers = 3
rank Factors = 4

abbrev IsAt : Level → Formula → List Lexeme → Type 0
IsAt Expressions = IsExpression
IsAt Terms = IsTerm
IsAt Powers = IsPower
IsAt Factors = IsFactor

-- what is at a level is at each level that asks for no more
as_at : (l m : Level) (f : Formula) (us : List Lexeme) → rank m ≤ rank l → IsAt l f us → IsAt m f us
as_at Expressions Expressions f us le d = d
as_at Terms Expressions f us le d = OneTerm d
as_at Terms Terms f us le d = d
as_at Powers Expressions f us le d = OneTerm (OnePower d)
as_at Powers Terms f us le d = OnePower d
as_at Powers Powers f us le d = d
as_at Factors Expressions f us le d = OneTerm (OnePower (OneFactor d))
as_at Factors Terms f us le d = OnePower (OneFactor d)
as_at Factors Powers f us le d = OneFactor d
as_at Factors Factors f us le d = d
as_at _ _ f us le d = absurd (omega arith)

at_least_1 : (l : Level) → 1 ≤ rank l
at_least_1 Expressions = lit≤ tt
at_least_1 _ = lit≤ tt

below_4 : (l : Level) → rank l ≤ 4
below_4 Expressions = lit≤ tt
below_4 _ = lit≤ tt

-- the level of an operator's left operand, of its right one and of the whole
abbrev left_of : Operator → Level
left_of Add = Expressions
left_of Subtract = Expressions
left_of Multiply = Terms
left_of Divide = Terms
left_of Power = Factors

abbrev right_of : Operator → Level
right_of Add = Terms
right_of Subtract = Terms
right_of _ = Powers

abbrev whole_of : Operator → Level
whole_of Add = Expressions
whole_of Subtract = Expressions
whole_of Multiply = Terms
whole_of Divide = Terms
whole_of Power = Powers

whole_rank : (op : Operator) → rank (whole_of op) ≡ strength op
whole_rank Multiply = refl
whole_rank _ = refl

left_rank : (op : Operator) → rank (left_of op) ≡ bound op
left_rank Multiply = refl
left_rank _ = refl

abbrev operator_kind : Operator → TokenKind
operator_kind Add = kind.Plus
operator_kind Subtract = kind.Minus
operator_kind Multiply = kind.Star
operator_kind Divide = kind.Slash
operator_kind Power = kind.Caret

joined : (op : Operator) (f g : Formula) (us vs : List Lexeme) (t : Lexeme) → t.kind ≡ operator_kind op → IsAt (left_of op) f us → IsAt (right_of op) g vs → IsAt (whole_of op) (Binary op f g) (us ++ t ∷ vs)
joined Add f g us vs t is d e = Sum t d is e
joined Subtract f g us vs t is d e = Difference t d is e
joined Multiply f g us vs t is d e = Product t d is e
joined Divide f g us vs t is d e = Quotient t d is e
joined Power f g us vs t is d e = ToThePower t d is e

-- ---- kinds

operator_is : (k : TokenKind) (op : Operator) → operator_of k ≡ Some op → k ≡ operator_kind op
operator_is kind.Plus op e = ap operator_kind (same Add op e)
operator_is kind.Minus op e = ap operator_kind (same Subtract op e)
operator_is kind.Star op e = ap operator_kind (same Multiply op e)
operator_is kind.Slash op e = ap operator_kind (same Divide op e)
operator_is kind.Caret op e = ap operator_kind (same Power op e)
operator_is _ op e = absurd cc

function_is : (k : TokenKind) (f : Function) → function_of k ≡ Some f → k ≡ function_kind f
function_is kind.Sin f e = ap function_kind (same Sin f e)
function_is kind.Cos f e = ap function_kind (same Cos f e)
function_is kind.Tan f e = ap function_kind (same Tan f e)
function_is kind.Exp f e = ap function_kind (same Exp f e)
function_is kind.Ln f e = ap function_kind (same Ln f e)
function_is kind.Sqrt f e = ap function_kind (same Sqrt f e)
function_is _ f e = absurd cc

left_is : (k : TokenKind) → is_left k ≡ true → k ≡ kind.LeftParenthesis
left_is kind.LeftParenthesis e = refl
left_is _ e = absurd cc

right_is : (k : TokenKind) → is_right k ≡ true → k ≡ kind.RightParenthesis
right_is kind.RightParenthesis e = refl
right_is _ e = absurd cc

-- ---- what the stack says

-- the level of operand that the last that waits asks for
abbrev demands : List Pending → ℕ
demands (pending.Negate ∷ ps) = 4
demands (pending.Binary op ∷ ps) = rank (right_of op)
demands _ = 1

demands_4 : (ps : List Pending) → demands ps ≤ 4
demands_4 (pending.Binary op ∷ ps) = below_4 (right_of op)
demands_4 _ = lit≤ tt

-- an operand is awaited after these tokens, with these entries put out
abbrev Waits : List Pending → List Lexeme → List Entry → Type 0
Waits [] us output = (us ≡ []) × (output ≡ [])
Waits (pending.Negate ∷ ps) us output = (vs : List Lexeme) × (t : Lexeme) × (us ≡ vs ++ t ∷ []) × (t.kind ≡ kind.Minus) × Waits ps vs output
Waits (pending.Parenthesis ∷ ps) us output = (vs : List Lexeme) × (t : Lexeme) × (us ≡ vs ++ t ∷ []) × (t.kind ≡ kind.LeftParenthesis) × Waits ps vs output
Waits (pending.Call f ∷ ps) us output = (vs : List Lexeme) × (word t : Lexeme) × (us ≡ vs ++ word ∷ t ∷ []) × (word.kind ≡ function_kind f) × (t.kind ≡ kind.LeftParenthesis) × Waits ps vs output
Waits (pending.Binary op ∷ ps) us output =
    (vs ws : List Lexeme) × (t : Lexeme) × (outer : List Entry) × (f : Formula) × (us ≡ vs ++ (ws ++ t ∷ [])) × (output ≡ outer ++ postfix f) × (t.kind ≡ operator_kind op)
    × IsAt (left_of op) f ws × (demands ps ≤ strength op) × Waits ps vs outer

-- an operand of this level is there
record Holds (l : Level) (us : List Lexeme) (output : List Entry) (ps : List Pending) : Type 0 where
  before : List Lexeme
  own : List Lexeme
  outer : List Entry
  formula : Formula
  tokens : us ≡ before ++ own
  entries : output ≡ outer ++ postfix formula
  derived : IsAt l formula own
  allowed : demands ps ≤ rank l
  waits : Waits ps before outer

-- ---- what is applied

negated : (us : List Lexeme) (output : List Entry) (ps : List Pending) (l : Level) → Holds l us output (pending.Negate ∷ ps) → Holds Factors us (output ++ NegateEntry ∷ []) ps
negated us output ps l h =
    let w = h.waits in
    record {
      before = w.0;
      own = w.1 ∷ h.own;
      outer = h.outer;
      formula = Negate h.formula;
      tokens = h.tokens ∙ ap (λ (x : List Lexeme). x ++ h.own) w.2 ∙ append_assoc w.0 (w.1 ∷ []) h.own;
      entries = ap (λ (x : List Entry). x ++ NegateEntry ∷ []) h.entries ∙ append_assoc h.outer (postfix h.formula) (NegateEntry ∷ []);
      derived = Negative w.1 w.3 (as_at l Factors h.formula h.own h.allowed h.derived);
      allowed = demands_4 ps;
      waits = w.4;
    }

regroup_tokens : (a b : List Lexeme) (t : Lexeme) (c : List Lexeme) → (a ++ (b ++ t ∷ [])) ++ c ≡ a ++ (b ++ t ∷ c)
regroup_tokens a b t c = simp append_assoc

regroup_entries : (a b c : List Entry) (e : Entry) → ((a ++ b) ++ c) ++ e ∷ [] ≡ a ++ ((b ++ c) ++ e ∷ [])
regroup_entries a b c e = simp append_assoc

applied : (op : Operator) (us : List Lexeme) (output : List Entry) (ps : List Pending) (l : Level) → Holds l us output (pending.Binary op ∷ ps) → Holds (whole_of op) us (output ++ BinaryEntry op ∷ []) ps
applied op us output ps l h =
    let w = h.waits in
    record {
      before = w.0;
      own = w.1 ++ w.2 ∷ h.own;
      outer = w.3;
      formula = Binary op w.4 h.formula;
      tokens = h.tokens ∙ ap (λ (x : List Lexeme). x ++ h.own) w.5 ∙ regroup_tokens w.0 w.1 w.2 h.own;
      entries = ap (λ (x : List Entry). x ++ BinaryEntry op ∷ []) h.entries ∙ ap (λ (x : List Entry). (x ++ postfix h.formula) ++ BinaryEntry op ∷ []) w.6 ∙ regroup_entries w.3 (postfix w.4) (postfix h.formula) (BinaryEntry op);
      derived = joined op w.4 h.formula w.1 h.own w.2 w.7 w.8 (as_at l (right_of op) h.formula h.own h.allowed h.derived);
      allowed = omega (arith, whole_rank op, w.9);
      waits = w.10;
    }

-- the last that waits isn't so strong
abbrev Stops : ℕ → List Pending → Type 0
Stops b [] = Unit {0}
Stops b (p ∷ ps) = released b p ≡ None

-- after a release an operand is there that is at least so strong, and what waits is weaker
record Released (b : ℕ) (us : List Lexeme) (r : List Entry × List Pending) : Type 0 where
  level : Level
  strong : b ≤ rank level
  holds : Holds level us r.0 r.1
  stops : Stops b r.1

release_binary : (op : Operator) (b : ℕ) (us : List Lexeme) (output : List Entry) (ps : List Pending) (l : Level) → b ≤ rank l → Holds l us output (pending.Binary op ∷ ps)
    → (Holds (whole_of op) us (output ++ BinaryEntry op ∷ []) ps → b ≤ strength op → Released b us (release b (output ++ BinaryEntry op ∷ []) ps))
    → (test : Bool) → leb b (strength op) ≡ test → Released b us (release b output (pending.Binary op ∷ ps))
release_binary op b us output ps l le h go true is = rw is (go (applied op us output ps l h) (leb-true _ _ is))
release_binary op b us output ps l le h go false is = rw is (record { level = l; strong = le; holds = h; stops = rw is refl })

releases : (ps : List Pending) (b : ℕ) (us : List Lexeme) (output : List Entry) (l : Level) → b ≤ rank l → Holds l us output ps → Released b us (release b output ps)
releases [] b us output l le h = record { level = l; strong = le; holds = h; stops = tt }
releases (pending.Negate ∷ ps) b us output l le h =
    releases ps b us (output ++ NegateEntry ∷ []) Factors (omega (arith, below_4 l)) (negated us output ps l h)
releases (pending.Binary op ∷ ps) b us output l le h =
    release_binary op b us output ps l le h (λ h' le'. releases ps b us (output ++ BinaryEntry op ∷ []) (whole_of op) (omega (arith, whole_rank op)) h') (leb b (strength op)) refl
releases _ b us output l le h = record { level = l; strong = le; holds = h; stops = refl }

-- ---- states

-- an operand that is there, of any level
abbrev Whole : List Lexeme → List Entry → List Pending → Type 0
Whole us output ps = (l : Level) × Holds l us output ps

-- what the state says of the tokens so far, between two of them
abbrev Good : Awaited → List Lexeme → List Entry → List Pending → Type 0
Good awaited.Operand us output ps = Waits ps us output
Good (awaited.Parenthesis f) us output ps = (vs : List Lexeme) × (t : Lexeme) × (us ≡ vs ++ t ∷ []) × (t.kind ≡ function_kind f) × Waits ps vs output
Good awaited.Operator us output ps = Holds Factors us output ps

-- the same, where the expression ends
abbrev Ended : Awaited → List Lexeme → List Entry → List Pending → Type 0
Ended awaited.Operand us output ps = Unit {0}
Ended (awaited.Parenthesis f) us output ps = Unit {0}
Ended awaited.Operator us output ps = Whole us output ps

good_ended : (a : Awaited) (us : List Lexeme) (output : List Entry) (ps : List Pending) → Good a us output ps → Ended a us output ps
good_ended awaited.Operator us output ps g = (Factors, g)
good_ended _ us output ps g = tt

abbrev After : Move → List Lexeme → Lexeme → Type 0
After (true, s) us t = Good s.awaited (us ++ t ∷ []) s.output s.pending
After (false, s) us t = Ended s.awaited us s.output s.pending

-- ---- steps where an operand is awaited

operand_formula : (k : TokenKind) (t : Lexeme) (e : Entry) → t.kind ≡ k → operand_of k t.text ≡ Some e → (f : Formula) × IsFactor f (t ∷ []) × (e ∷ [] ≡ postfix f)
operand_formula kind.Real t e is found = (Number t.text, RealNumber t is, ap (λ (x : Entry). x ∷ []) (sym (same _ _ found)))
operand_formula kind.Natural t e is found = (Number t.text, WholeNumber t is, ap (λ (x : Entry). x ∷ []) (sym (same _ _ found)))
operand_formula kind.Pi t e is found = (Pi, PiWord t is, ap (λ (x : Entry). x ∷ []) (sym (same _ _ found)))
operand_formula kind.Identifier t e is found = (Name t.text, Parameter t is, ap (λ (x : Entry). x ∷ []) (sym (same _ _ found)))
operand_formula _ t e is found = absurd cc

prefix_waits : (k : TokenKind) (t : Lexeme) (p : Pending) (us : List Lexeme) (output : List Entry) (ps : List Pending) → t.kind ≡ k → prefix_of k ≡ Some p → Waits ps us output → Waits (p ∷ ps) (us ++ t ∷ []) output
prefix_waits kind.Minus t p us output ps is found w = subst (λ (q : Pending). Waits (q ∷ ps) (us ++ t ∷ []) output) (same pending.Negate p found) (us, t, refl, is, w)
prefix_waits kind.LeftParenthesis t p us output ps is found w = subst (λ (q : Pending). Waits (q ∷ ps) (us ++ t ∷ []) output) (same pending.Parenthesis p found) (us, t, refl, is, w)
prefix_waits _ t p us output ps is found w = absurd cc

function_reads : (o : Option Function) (t : Lexeme) (us : List Lexeme) (output : List Entry) (ps : List Pending) → function_of t.kind ≡ o → Waits ps us output → After (on_function o (operand output ps)) us t
function_reads None t us output ps is w = tt
function_reads (Some f) t us output ps is w = (us, t, refl, function_is t.kind f is, w)

prefix_reads : (o : Option Pending) (t : Lexeme) (us : List Lexeme) (output : List Entry) (ps : List Pending) → prefix_of t.kind ≡ o → Waits ps us output → After (on_prefix o t.kind (operand output ps)) us t
prefix_reads None t us output ps is w = function_reads (function_of t.kind) t us output ps refl w
prefix_reads (Some p) t us output ps is w = prefix_waits t.kind t p us output ps refl is w

operand_reads : (o : Option Entry) (t : Lexeme) (us : List Lexeme) (output : List Entry) (ps : List Pending) → operand_of t.kind t.text ≡ o → Waits ps us output → After (on_operand o t.kind (operand output ps)) us t
operand_reads None t us output ps is w = prefix_reads (prefix_of t.kind) t us output ps refl w
operand_reads (Some e) t us output ps is w =
    let f = operand_formula t.kind t e refl is in
    record {
      before = us;
      own = t ∷ [];
      outer = output;
      formula = f.0;
      tokens = refl;
      entries = ap (λ (x : List Entry). output ++ x) f.2;
      derived = f.1;
      allowed = demands_4 ps;
      waits = w;
    }

-- after the name of a function
left_reads : (b : Bool) (f : Function) (t : Lexeme) (us : List Lexeme) (output : List Entry) (ps : List Pending) → is_left t.kind ≡ b → Good (awaited.Parenthesis f) us output ps
    → After (on_left b f (record { awaited = awaited.Parenthesis f; output = output; pending = ps })) us t
left_reads false f t us output ps is g = tt
left_reads true f t us output ps is g =
    (g.0, g.1, t, ap (λ (x : List Lexeme). x ++ t ∷ []) g.2 ∙ append_assoc g.0 (g.1 ∷ []) (t ∷ []), g.3, left_is t.kind is, g.4)

-- ---- steps where an operator is awaited

stop_binary : (op o : Operator) → released (bound op) (pending.Binary o) ≡ None → rank (right_of o) ≤ strength op
stop_binary Add Power s = absurd cc
stop_binary Subtract Power s = absurd cc
stop_binary Multiply Add s = lit≤ tt
stop_binary Multiply Subtract s = lit≤ tt
stop_binary Divide Add s = lit≤ tt
stop_binary Divide Subtract s = lit≤ tt
stop_binary Power Add s = lit≤ tt
stop_binary Power Subtract s = lit≤ tt
stop_binary Power Multiply s = lit≤ tt
stop_binary Power Divide s = lit≤ tt
stop_binary Power Power s = lit≤ tt
stop_binary _ _ s = absurd cc

-- what stops a release before an operator allows the operator's whole
stop_demands : (op : Operator) (ps : List Pending) → Stops (bound op) ps → demands ps ≤ strength op
stop_demands op (pending.Negate ∷ ps) s = absurd cc
stop_demands op (pending.Binary o ∷ ps) s = stop_binary op o s
stop_demands op _ s = omega (arith, whole_rank op, at_least_1 (whole_of op))

operator_waits : (op : Operator) (t : Lexeme) (us : List Lexeme) (output : List Entry) (ps : List Pending) → operator_of t.kind ≡ Some op → Released (bound op) us (output, ps)
    → Waits (pending.Binary op ∷ ps) (us ++ t ∷ []) output
operator_waits op t us output ps is r =
    let h = r.holds in (
      h.before,
      h.own,
      t,
      h.outer,
      h.formula,
      ap (λ (x : List Lexeme). x ++ t ∷ []) h.tokens ∙ append_assoc h.before h.own (t ∷ []),
      h.entries,
      operator_is t.kind op is,
      as_at r.level (left_of op) h.formula h.own (omega (arith, left_rank op, r.strong)) h.derived,
      stop_demands op ps r.stops,
      h.waits,
    )

regroup_right : (a : List Lexeme) (l : Lexeme) (b : List Lexeme) (t : Lexeme) → ((a ++ l ∷ []) ++ b) ++ t ∷ [] ≡ a ++ (l ∷ (b ++ t ∷ []))
regroup_right a l b t = simp append_assoc

regroup_call : (a : List Lexeme) (n l : Lexeme) (b : List Lexeme) (t : Lexeme) → ((a ++ n ∷ l ∷ []) ++ b) ++ t ∷ [] ≡ a ++ (n ∷ l ∷ (b ++ t ∷ []))
regroup_call a n l b t = simp append_assoc

closed_reads : (output : List Entry) (ps : List Pending) (t : Lexeme) (us : List Lexeme) → t.kind ≡ kind.RightParenthesis → Released 1 us (output, ps) → After (closed (output, ps)) us t
closed_reads output (pending.Parenthesis ∷ ps) t us is r =
    let h = r.holds in
    let w = h.waits in
    record {
      before = w.0;
      own = w.1 ∷ (h.own ++ t ∷ []);
      outer = h.outer;
      formula = h.formula;
      tokens = ap (λ (x : List Lexeme). x ++ t ∷ []) (h.tokens ∙ ap (λ (x : List Lexeme). x ++ h.own) w.2) ∙ regroup_right w.0 w.1 h.own t;
      entries = h.entries;
      derived = InParentheses w.1 t w.3 (as_at r.level Expressions h.formula h.own (at_least_1 r.level) h.derived) is;
      allowed = demands_4 ps;
      waits = w.4;
    }
closed_reads output (pending.Call f ∷ ps) t us is r =
    let h = r.holds in
    let w = h.waits in
    record {
      before = w.0;
      own = w.1 ∷ w.2 ∷ (h.own ++ t ∷ []);
      outer = h.outer;
      formula = Call f h.formula;
      tokens = ap (λ (x : List Lexeme). x ++ t ∷ []) (h.tokens ∙ ap (λ (x : List Lexeme). x ++ h.own) w.3) ∙ regroup_call w.0 w.1 w.2 h.own t;
      entries = ap (λ (x : List Entry). x ++ CallEntry f ∷ []) h.entries ∙ append_assoc h.outer (postfix h.formula) (CallEntry f ∷ []);
      derived = ValueOf f w.1 w.2 t w.4 w.5 (as_at r.level Expressions h.formula h.own (at_least_1 r.level) h.derived) is;
      allowed = demands_4 ps;
      waits = w.6;
    }
closed_reads output _ t us is r = (r.level, r.holds)

right_reads : (b : Bool) (t : Lexeme) (us : List Lexeme) (output : List Entry) (ps : List Pending) → is_right t.kind ≡ b → Holds Factors us output ps → After (on_right b (operator output ps)) us t
right_reads false t us output ps is h = (Factors, h)
right_reads true t us output ps is h =
    let r = release 1 output ps in
    closed_reads r.0 r.1 t us (right_is t.kind is) (releases ps 1 us output Factors (lit≤ tt) h)

operator_reads : (o : Option Operator) (t : Lexeme) (us : List Lexeme) (output : List Entry) (ps : List Pending) → operator_of t.kind ≡ o → Holds Factors us output ps → After (on_operator o t.kind (operator output ps)) us t
operator_reads None t us output ps is h = right_reads (is_right t.kind) t us output ps refl h
operator_reads (Some op) t us output ps is h =
    let r = release (bound op) output ps in
    operator_waits op t us r.0 r.1 is (releases ps (bound op) us output Factors (omega (arith, left_rank op, below_4 (left_of op))) h)

-- ---- whole runs

step_reads : (a : Awaited) (t : Lexeme) (us : List Lexeme) (output : List Entry) (ps : List Pending) → Good a us output ps → After (step_by a t.kind t.text (record { awaited = a; output = output; pending = ps })) us t
step_reads awaited.Operand t us output ps g = operand_reads (operand_of t.kind t.text) t us output ps refl g
step_reads (awaited.Parenthesis f) t us output ps g = left_reads (is_left t.kind) f t us output ps refl g
step_reads awaited.Operator t us output ps g = operator_reads (operator_of t.kind) t us output ps refl g

-- the tokens before the rest, with what the last state says of them
abbrev Reads : MachineState × List Lexeme → List Lexeme → Type 0
Reads r all = (ws : List Lexeme) × (all ≡ ws ++ r.1) × Ended r.0.awaited ws r.0.output r.0.pending

goes_on : (m : Move) (t : Lexeme) (ts us : List Lexeme) (go : MachineState → MachineState × List Lexeme) → After m us t
    → ((s : MachineState) → Good s.awaited (us ++ t ∷ []) s.output s.pending → Reads (go s) ((us ++ t ∷ []) ++ ts)) → Reads (go_on m (t ∷ ts) go) (us ++ t ∷ ts)
goes_on (false, s) t ts us go after next = (us, refl, after)
goes_on (true, s) t ts us go after next =
    let r = next s after in
    (r.0, sym (append_assoc us (t ∷ []) ts) ∙ r.1, r.2)

run_reads : (ts us : List Lexeme) (s : MachineState) → Good s.awaited us s.output s.pending → Reads (run ts s) (us ++ ts)
unfolding run step
run_reads [] us s g = (us, refl, good_ended s.awaited us s.output s.pending g)
run_reads (t ∷ ts) us s g =
    goes_on (step_by s.awaited t.kind t.text s) t ts us (run ts) (step_reads s.awaited t us s.output s.pending g) (λ s' g'. run_reads ts (us ++ t ∷ []) s' g')

all_out_is : (r : List Entry × List Pending) (es : List Entry) → all_out r ≡ Some es → r ≡ (es, [])
all_out_is (output, []) es e = ap (λ (x : List Entry). (x, [])) (same output es e)
all_out_is (output, p ∷ ps) es e = absurd cc

-- an expression that ends is all that is put out
whole_is : (us : List Lexeme) (es : List Entry) → Released 1 us (es, []) → (f : Formula) × IsExpression f us × (es ≡ postfix f)
whole_is us es r =
    let h = r.holds in
    let tokens : h.own ≡ us = sym (h.tokens ∙ ap (λ (x : List Lexeme). x ++ h.own) h.waits.0) in (
      h.formula,
      subst (IsExpression h.formula) tokens (as_at r.level Expressions h.formula h.own (at_least_1 r.level) h.derived),
      h.entries ∙ ap (λ (x : List Entry). x ++ postfix h.formula) h.waits.1,
    )

finished_is : (a : Awaited) (us : List Lexeme) (output : List Entry) (ps : List Pending) (es : List Entry) → Ended a us output ps → finished_by a output ps ≡ Some es → (f : Formula) × IsExpression f us × (es ≡ postfix f)
finished_is awaited.Operator us output ps es g e =
    whole_is us es (subst (Released 1 us) (all_out_is (release 1 output ps) es e) (releases ps 1 us output g.0 (at_least_1 g.0) g.1))
finished_is _ us output ps es g e = absurd cc

followed_is : (o : Option (List Entry)) (rest : List Lexeme) (es : List Entry) (r : List Lexeme) → followed_by o rest ≡ Some (es, r) → (o ≡ Some es) × (rest ≡ r)
followed_is None rest es r e = absurd cc
followed_is (Some x) rest es r e =
    let p = same (x, rest) (es, r) e in
    (ap (λ (q : List Entry × List Lexeme). Some q.0) p, ap (λ (q : List Entry × List Lexeme). q.1) p)

-- what is read is an expression, and its entries are put out
pub entries_read : (ts : List Lexeme) (es : List Entry) (rest : List Lexeme) → take_entries ts ≡ Some (es, rest)
    → (us : List Lexeme) × (ts ≡ us ++ rest) × ((f : Formula) × IsExpression f us × (es ≡ postfix f))
unfolding take_entries finished
entries_read ts es rest e =
    let r = run ts start in
    let reads = run_reads ts [] start (refl, refl) in
    let p = followed_is (finished_by r.0.awaited r.0.output r.0.pending) r.1 es rest e in
    (reads.0, reads.1 ∙ ap (λ (x : List Lexeme). reads.0 ++ x) p.1, finished_is r.0.awaited reads.0 r.0.output r.0.pending es reads.2 p.0)
