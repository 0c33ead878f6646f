-- The parser of statements reads what stands in the grammar, and nothing else.
use Rattle.std.proofs.Common.{◌≡◌, ℕ, ◌<◌, false, List, [], ◌∷◌, ◌++◌, length, length-append, Option, None, Some, refl, sym, ap, ◌∙◌, subst, append_assoc, append-nil, arith}
use Rattle.qasm_lexer.specs.declared.token.TokenKind.{TokenKind}
use Rattle.qasm_lexer.specs.declared.token.TokenKind.TheVariants as kind
use Rattle.qasm_lexer.specs.Tokens.{Lexeme}
use Rattle.qasm_reader.specs.Syntax.{Formula, Operand, Callee, Declared, U, Cx, Apply, Action, Applied, Measured, Reset, BodyApply, BodySentence, BodyApplied, BodyBarrier, GateForm, Sentence, Version, Include, QubitRegister, BitRegister, DeclareGate, Opaque, If, Barrier, Act}
use Rattle.qasm_reader.specs.Grammar.{Sign, Word, ◌⋅◌, Repeated, IsCommaList, IsExpression, IsIdentifier, IsNatural, IsName, IsIndex, IsArgument, IsArguments, IsIdentifiers, IsAngles, IsParameters, IsQuantumOperation, IsBodyStatement, IsStatement}
use Rattle.qasm_reader.specs.Parts.{IsHeading}
use Rattle.qasm_reader.specs.Internal.Machine.{operator_of, take_expression}
use Rattle.qasm_reader.specs.Internal.Taking.{◌>>=◌, same_kind, after, text, with_prefix, on_turn, one_more, comma_list, identifier, natural, identifiers, parameters, callee_of, gate_name, index_after, argument, arguments, angles, application, measure, reset, operation_by, operation, body_application, body_by, body_statement, body_turn, body, version, include, register, qubit_register, bit_register, Heading, heading, opening, gate, opaque, condition, conditional, barrier, act, statement_by, statement, one, apply}
use Rattle.qasm_reader.proofs.Steps.{Took, took_then, deeper, Sound, Complete, Shrinks, same, bind_some, bind_is, bind_none, after_takes, after_again, after_other, text_takes, text_again, text_shrinks, sign_then, sign_last, item_then, sign_took, Opened, opened, sign_begins, word_begins, then_begins, none_some}
use Rattle.qasm_reader.proofs.Lists.{EndsList, EndsOptional, comma_list_takes, comma_list_again, optional_list_takes, optional_list_again, repeated_takes, repeated_goes_on, repeated_is, one_more_some, list_begins, TurnShrinks}
use Rattle.qasm_reader.proofs.Expressions.{expression_takes, expression_again, expression_begins, expression_shrinks, EndsExpression}

-- anything may follow
abbrev pub Anything : List Lexeme → Type 0
Anything rest = Unit {0}

text_complete : (k : TokenKind) → Complete (text k) (Word k) Anything
text_complete k a us rest w ends = text_again k a us rest w

-- ---- identifiers

abbrev pub EndsIdentifiers : List Lexeme → Type 0
EndsIdentifiers = EndsList Anything

pub identifiers_take : Sound identifiers IsIdentifiers
unfolding identifiers
identifiers_take = comma_list_takes IsIdentifier identifier (text_takes kind.Identifier)

pub identifiers_again : Complete identifiers IsIdentifiers EndsIdentifiers
unfolding identifiers
identifiers_again = comma_list_again IsIdentifier identifier Anything (text_shrinks kind.Identifier) (text_complete kind.Identifier) (λ t ts is. tt)

ends_identifiers : (k : TokenKind) (t : Lexeme) (ts : List Lexeme) → same_kind k kind.Comma ≡ false → t.kind ≡ k → EndsIdentifiers (t ∷ ts)
ends_identifiers k t ts other is = (tt, after_other kind.Comma k t ts is other)

identifier_begins : (k : TokenKind) → same_kind kind.Identifier k ≡ false → (a : List ℕ) (us rest : List Lexeme) → IsIdentifier a us → after k (us ++ rest) ≡ None
identifier_begins k other a us rest w = word_begins k kind.Identifier a us rest other w

pub parameters_take : Sound parameters IsParameters
unfolding parameters
parameters_take = optional_list_takes IsIdentifier identifier (text_takes kind.Identifier)

pub parameters_again : Complete parameters IsParameters EndsOptional
unfolding parameters identifiers same_kind
parameters_again =
    optional_list_again IsIdentifier identifier Anything identifiers_again (identifier_begins kind.RightParenthesis refl) (λ t ts is. ends_identifiers kind.RightParenthesis t ts refl is)

-- ---- names of gates

callee_takes : (k : TokenKind) (t : Lexeme) (c : Callee) → t.kind ≡ k → callee_of k t.text ≡ Some c → IsName c (t ∷ [])
callee_takes kind.Identifier t c is e = subst (λ (x : Callee). IsName x (t ∷ [])) (same (Declared t.text) c e) (t, is, refl, refl)
callee_takes kind.U t c is e = subst (λ (x : Callee). IsName x (t ∷ [])) (same U c e) (t, is, refl)
callee_takes kind.Cx t c is e = subst (λ (x : Callee). IsName x (t ∷ [])) (same Cx c e) (t, is, refl)
callee_takes _ t c is e = absurd cc

pub gate_name_takes : Sound gate_name IsName
unfolding gate_name
gate_name_takes [] c rest e = absurd cc
gate_name_takes (t ∷ ts) c rest e =
    let a = bind_some (callee_of t.kind t.text) (λ (g : Callee). Some (g, ts)) (c, rest) e in
    let p = same (a.0, ts) (c, rest) a.2 in
    subst (λ (y : Callee × List Lexeme). Took (IsName y.0) (t ∷ ts) y.1) p (t ∷ [], refl, callee_takes t.kind t a.0 refl a.1)

-- the kinds of token that a name of a gate is
abbrev pub kind_of_name : Callee → TokenKind
kind_of_name (Declared name) = kind.Identifier
kind_of_name U = kind.U
kind_of_name Cx = kind.Cx

pub name_opened : (c : Callee) (us rest : List Lexeme) → IsName c us → Opened (kind_of_name c) (us ++ rest) rest
name_opened (Declared name) us rest w = record { first = w.0; is = w.1; all = ap (λ (x : List Lexeme). x ++ rest) w.3 }
name_opened U us rest w = record { first = w.0; is = w.1; all = ap (λ (x : List Lexeme). x ++ rest) w.2 }
name_opened Cx us rest w = record { first = w.0; is = w.1; all = ap (λ (x : List Lexeme). x ++ rest) w.2 }

pub gate_name_again : Complete gate_name IsName Anything
unfolding gate_name
gate_name_again (Declared name) us rest w ends =
    ap (λ (x : List Lexeme). gate_name (x ++ rest)) w.3
    ∙ ap (λ (k : TokenKind). callee_of k w.0.text >>= λ (g : Callee). Some (g, rest)) w.1
    ∙ ap (λ (x : List ℕ). Some (Declared x, rest)) w.2
gate_name_again U us rest w ends =
    ap (λ (x : List Lexeme). gate_name (x ++ rest)) w.2 ∙ ap (λ (k : TokenKind). callee_of k w.0.text >>= λ (g : Callee). Some (g, rest)) w.1
gate_name_again Cx us rest w ends =
    ap (λ (x : List Lexeme). gate_name (x ++ rest)) w.2 ∙ ap (λ (k : TokenKind). callee_of k w.0.text >>= λ (g : Callee). Some (g, rest)) w.1

-- ---- arguments

abbrev pub EndsArgument : List Lexeme → Type 0
EndsArgument rest = after kind.LeftBracket rest ≡ None

index_takes : (o : Option (List Lexeme)) (name : List ℕ) (ts : List Lexeme) (a : Operand) (rest : List Lexeme) → after kind.LeftBracket ts ≡ o → index_after name ts o ≡ Some (a, rest)
    → (name ≡ a.register) × Took (IsIndex a.index) ts rest
index_takes None name ts a rest is e =
    let p = same (record { register = name; index = None }, ts) (a, rest) e in
    subst (λ (y : Operand × List Lexeme). (name ≡ y.0.register) × Took (IsIndex y.0.index) ts y.1) p (refl, ([], refl, refl))
index_takes (Some inside) name ts a rest is e =
    let i = bind_some (natural inside) (λ (index : List ℕ × List Lexeme). after kind.RightBracket index.1 >>= λ (end : List Lexeme). Some (record { register = name; index = Some index.0 }, end)) (a, rest) e in
    let b = bind_some (after kind.RightBracket i.0.1) (λ (end : List Lexeme). Some (record { register = name; index = Some i.0.0 }, end)) (a, rest) i.2 in
    let p = same (record { register = name; index = Some i.0.0 }, b.0) (a, rest) b.2 in
    subst (λ (y : Operand × List Lexeme). (name ≡ y.0.register) × Took (IsIndex y.0.index) ts y.1) p (
      refl,
      took_then (Sign kind.LeftBracket) (IsNatural i.0.0 ⋅ Sign kind.RightBracket) ts inside b.0 (after_takes kind.LeftBracket ts inside is)
          (took_then (IsNatural i.0.0) (Sign kind.RightBracket) inside i.0.1 b.0 (text_takes kind.Natural inside i.0.0 i.0.1 i.1) (after_takes kind.RightBracket i.0.1 b.0 b.1)),
    )

pub argument_takes : Sound argument IsArgument
unfolding argument
argument_takes ts a rest e =
    let n = bind_some (identifier ts) (λ (name : List ℕ × List Lexeme). index_after name.0 name.1 (after kind.LeftBracket name.1)) (a, rest) e in
    let i = index_takes (after kind.LeftBracket n.0.1) n.0.0 n.0.1 a rest refl n.2 in
    took_then (IsIdentifier a.register) (IsIndex a.index) ts n.0.1 rest
    (subst (λ (x : List ℕ). Took (IsIdentifier x) ts n.0.1) i.0 (text_takes kind.Identifier ts n.0.0 n.0.1 n.1)) i.1

index_again : (name : List ℕ) (index : Option (List ℕ)) (us rest : List Lexeme) → IsIndex index us → EndsArgument rest
    → index_after name (us ++ rest) (after kind.LeftBracket (us ++ rest)) ≡ Some (record { register = name; index = index }, rest)
index_again name None us rest s ends =
    ap (λ (x : List Lexeme). index_after name (x ++ rest) (after kind.LeftBracket (x ++ rest))) s ∙ ap (index_after name rest) ends
index_again name (Some index) us rest s ends =
    let o = opened kind.LeftBracket (IsNatural index ⋅ Sign kind.RightBracket) us rest s in
    ap (index_after name (us ++ rest)) (ap (after kind.LeftBracket) o.all ∙ after_again kind.LeftBracket (o.first ∷ []) (s.1 ++ rest) (o.first, o.is, refl))
    ∙ item_then natural IsNatural Anything (text_complete kind.Natural) index (Sign kind.RightBracket) s.1 rest _ _ s.4 tt (sign_last kind.RightBracket s.4.1 rest _ s.4.4)

pub argument_again : Complete argument IsArgument EndsArgument
unfolding argument
argument_again a us rest s ends =
    item_then identifier IsIdentifier Anything (text_complete kind.Identifier) a.register (IsIndex a.index) us rest _ _ s tt (index_again a.register a.index s.1 rest s.4 ends)

argument_begins : (k : TokenKind) → same_kind kind.Identifier k ≡ false → (a : Operand) (us rest : List Lexeme) → IsArgument a us → after k (us ++ rest) ≡ None
argument_begins k other a us rest s = then_begins k (IsIdentifier a.register) (IsIndex a.index) (λ vs more w. identifier_begins k other a.register vs more w) us rest s

pub argument_shrinks : Shrinks argument
argument_shrinks ts a rest e =
    let t = argument_takes ts a rest e in
    let o = t.2.3 in
    omega (arith, ap length t.1, length-append t.0 rest, ap length t.2.2, length-append t.2.0 t.2.1, ap length o.3)

pub arguments_take : Sound arguments IsArguments
unfolding arguments
arguments_take = comma_list_takes IsArgument argument argument_takes

abbrev pub EndsArguments : List Lexeme → Type 0
EndsArguments = EndsList EndsArgument

pub arguments_again : Complete arguments IsArguments EndsArguments
unfolding arguments same_kind
arguments_again = comma_list_again IsArgument argument EndsArgument argument_shrinks argument_again (λ t ts is. after_other kind.LeftBracket kind.Comma t ts is refl)

-- ---- angles

pub angles_take : Sound angles IsAngles
unfolding angles
angles_take = optional_list_takes IsExpression take_expression expression_takes

expression_ends : (k : TokenKind) (t : Lexeme) (ts : List Lexeme) → operator_of k ≡ None → t.kind ≡ k → EndsExpression (t ∷ ts)
expression_ends k t ts none is = ap operator_of is ∙ none

pub expressions_again : Complete (comma_list take_expression) (IsCommaList IsExpression) (EndsList EndsExpression)
expressions_again = comma_list_again IsExpression take_expression EndsExpression expression_shrinks expression_again (λ t ts is. expression_ends kind.Comma t ts refl is)

pub angles_again : Complete angles IsAngles EndsOptional
unfolding angles same_kind
angles_again =
    optional_list_again IsExpression take_expression EndsExpression expressions_again expression_begins
    (λ t ts is. (expression_ends kind.RightParenthesis t ts refl is, after_other kind.Comma kind.RightParenthesis t ts is refl))

-- ---- what follows a list

ends_arguments : (k : TokenKind) (t : Lexeme) (ts : List Lexeme) → same_kind k kind.LeftBracket ≡ false → same_kind k kind.Comma ≡ false → t.kind ≡ k → EndsArguments (t ∷ ts)
ends_arguments k t ts bracket comma is = (after_other kind.LeftBracket k t ts is bracket, after_other kind.Comma k t ts is comma)

-- the same, where the tokens begin with a sign
sign_ends : (Ends : List Lexeme → Type 0) (k : TokenKind) (us rest : List Lexeme) → ((t : Lexeme) (ts : List Lexeme) → t.kind ≡ k → Ends (t ∷ ts)) → Sign k us → Ends (us ++ rest)
sign_ends Ends k us rest h s = subst (λ (x : List Lexeme). Ends (x ++ rest)) (sym s.2) (h s.0 rest s.1)

then_ends : (Ends : List Lexeme → Type 0) (k : TokenKind) (Back : List Lexeme → Type 0) (us rest : List Lexeme) → ((t : Lexeme) (ts : List Lexeme) → t.kind ≡ k → Ends (t ∷ ts)) → (Sign k ⋅ Back) us → Ends (us ++ rest)
then_ends Ends k Back us rest h s = let o = opened k Back us rest s in subst Ends (sym o.all) (h o.first (s.1 ++ rest) o.is)

-- identifiers and arguments after optional parentheses
identifiers_end : (xs : List (List ℕ)) (Back : List Lexeme → Type 0) (us rest : List Lexeme) → (IsIdentifiers xs ⋅ Back) us → EndsOptional (us ++ rest)
unfolding same_kind
identifiers_end xs Back us rest s =
    then_begins kind.LeftParenthesis (IsIdentifiers xs) Back (λ vs more l. list_begins kind.LeftParenthesis IsIdentifier (identifier_begins kind.LeftParenthesis refl) xs vs more l) us rest s

arguments_end : (xs : List Operand) (Back : List Lexeme → Type 0) (us rest : List Lexeme) → (IsArguments xs ⋅ Back) us → EndsOptional (us ++ rest)
unfolding same_kind
arguments_end xs Back us rest s =
    then_begins kind.LeftParenthesis (IsArguments xs) Back (λ vs more l. list_begins kind.LeftParenthesis IsArgument (argument_begins kind.LeftParenthesis refl) xs vs more l) us rest s

-- ---- operations

-- a sign, an item and a semicolon
one_takes : {A B : Type 0} (item : List Lexeme → Option (A × List Lexeme)) (Is : A → List Lexeme → Type 0) → Sound item Is → (k : TokenKind) (make : A → B) (Whole : B → List Lexeme → Type 0)
    → ((a : A) (us : List Lexeme) → (Sign k ⋅ Is a ⋅ Sign kind.Semicolon) us → Whole (make a) us) → (before ts : List Lexeme) (b : B) (rest : List Lexeme) → Took (Sign k) before ts
    → one item make ts ≡ Some (b, rest) → Took (Whole b) before rest
one_takes {B = B} item Is sound k make Whole whole before ts b rest first e =
    let x = bind_some (item ts) _ (b, rest) e in
    let s = bind_some (after kind.Semicolon x.0.1) _ (b, rest) x.2 in
    let p = same (make x.0.0, s.0) (b, rest) s.2 in
    let t = took_then (Sign k) (Is x.0.0 ⋅ Sign kind.Semicolon) before ts s.0 first
    (took_then (Is x.0.0) (Sign kind.Semicolon) ts x.0.1 s.0 (sound ts x.0.0 x.0.1 x.1) (after_takes kind.Semicolon x.0.1 s.0 s.1)) in
    subst (λ (y : B × List Lexeme). Took (Whole y.0) before y.1) p (t.0, t.1, whole x.0.0 t.0 t.2)

-- a gate, its angles, its qubits and a semicolon
apply_takes : {Q B : Type 0} (qubits : List Lexeme → Option (Q × List Lexeme)) (AreQubits : Q → List Lexeme → Type 0) → Sound qubits AreQubits → (make : Callee → List Formula → Q → B)
    (Whole : B → List Lexeme → Type 0) → ((c : Callee) (fs : List Formula) (q : Q) (us : List Lexeme) → (IsName c ⋅ IsAngles fs ⋅ AreQubits q ⋅ Sign kind.Semicolon) us → Whole (make c fs q) us)
    → (ts : List Lexeme) (b : B) (rest : List Lexeme) → apply qubits make ts ≡ Some (b, rest) → Took (Whole b) ts rest
apply_takes {B = B} qubits AreQubits sound make Whole whole ts b rest e =
    let g = bind_some (gate_name ts) _ (b, rest) e in
    let x = bind_some (angles g.0.1) _ (b, rest) g.2 in
    let q = bind_some (qubits x.0.1) _ (b, rest) x.2 in
    let s = bind_some (after kind.Semicolon q.0.1) _ (b, rest) q.2 in
    let p = same (make g.0.0 x.0.0 q.0.0, s.0) (b, rest) s.2 in
    let t = took_then (IsName g.0.0) (IsAngles x.0.0 ⋅ AreQubits q.0.0 ⋅ Sign kind.Semicolon) ts g.0.1 s.0 (gate_name_takes ts g.0.0 g.0.1 g.1)
    (took_then (IsAngles x.0.0) (AreQubits q.0.0 ⋅ Sign kind.Semicolon) g.0.1 x.0.1 s.0 (angles_take g.0.1 x.0.0 x.0.1 x.1)
    (took_then (AreQubits q.0.0) (Sign kind.Semicolon) x.0.1 q.0.1 s.0 (sound x.0.1 q.0.0 q.0.1 q.1) (after_takes kind.Semicolon q.0.1 s.0 s.1))) in
    subst (λ (y : B × List Lexeme). Took (Whole y.0) ts y.1) p (t.0, t.1, whole g.0.0 x.0.0 q.0.0 t.0 t.2)

application_takes : (ts : List Lexeme) (a : Action) (rest : List Lexeme) → application ts ≡ Some (a, rest) → Took (IsQuantumOperation a) ts rest
unfolding application
application_takes ts a rest e =
    apply_takes arguments IsArguments arguments_take (λ c fs q. Applied (record { gate = c; angles = fs; qubits = q })) IsQuantumOperation (λ c fs q us w. w) ts a rest e

measure_takes : (t : Lexeme) (ts : List Lexeme) (a : Action) (rest : List Lexeme) → t.kind ≡ kind.Measure → measure ts ≡ Some (a, rest) → Took (IsQuantumOperation a) (t ∷ ts) rest
unfolding measure
measure_takes t ts a rest is e =
    let x = bind_some (argument ts) _ (a, rest) e in
    let r = bind_some (after kind.Arrow x.0.1) _ (a, rest) x.2 in
    let y = bind_some (argument r.0) _ (a, rest) r.2 in
    let s = bind_some (after kind.Semicolon y.0.1) _ (a, rest) y.2 in
    let p = same (Measured x.0.0 y.0.0, s.0) (a, rest) s.2 in
    subst (λ (z : Action × List Lexeme). Took (IsQuantumOperation z.0) (t ∷ ts) z.1) p
    (took_then (Sign kind.Measure) (IsArgument x.0.0 ⋅ Sign kind.Arrow ⋅ IsArgument y.0.0 ⋅ Sign kind.Semicolon) (t ∷ ts) ts s.0 (sign_took kind.Measure t ts is)
    (took_then (IsArgument x.0.0) (Sign kind.Arrow ⋅ IsArgument y.0.0 ⋅ Sign kind.Semicolon) ts x.0.1 s.0 (argument_takes ts x.0.0 x.0.1 x.1)
    (took_then (Sign kind.Arrow) (IsArgument y.0.0 ⋅ Sign kind.Semicolon) x.0.1 r.0 s.0 (after_takes kind.Arrow x.0.1 r.0 r.1)
    (took_then (IsArgument y.0.0) (Sign kind.Semicolon) r.0 y.0.1 s.0 (argument_takes r.0 y.0.0 y.0.1 y.1) (after_takes kind.Semicolon y.0.1 s.0 s.1)))))

reset_takes : (t : Lexeme) (ts : List Lexeme) (a : Action) (rest : List Lexeme) → t.kind ≡ kind.Reset → reset ts ≡ Some (a, rest) → Took (IsQuantumOperation a) (t ∷ ts) rest
unfolding reset
reset_takes t ts a rest is e =
    one_takes argument IsArgument argument_takes kind.Reset Reset IsQuantumOperation (λ a us w. w) (t ∷ ts) ts a rest (sign_took kind.Reset t ts is) e

operation_by_takes : (k : TokenKind) (t : Lexeme) (ts : List Lexeme) (a : Action) (rest : List Lexeme) → t.kind ≡ k → operation_by k ts (t ∷ ts) ≡ Some (a, rest) → Took (IsQuantumOperation a) (t ∷ ts) rest
operation_by_takes kind.Measure t ts a rest is e = measure_takes t ts a rest is e
operation_by_takes kind.Reset t ts a rest is e = reset_takes t ts a rest is e
operation_by_takes _ t ts a rest is e = application_takes (t ∷ ts) a rest e

pub operation_takes : Sound operation IsQuantumOperation
unfolding operation
operation_takes [] a rest e = absurd cc
operation_takes (t ∷ ts) a rest e = operation_by_takes t.kind t ts a rest refl e

semicolon_arguments : (t : Lexeme) (ts : List Lexeme) → t.kind ≡ kind.Semicolon → EndsArguments (t ∷ ts)
unfolding same_kind
semicolon_arguments t ts is = ends_arguments kind.Semicolon t ts refl refl is

semicolon_argument : (t : Lexeme) (ts : List Lexeme) → t.kind ≡ kind.Semicolon → EndsArgument (t ∷ ts)
unfolding same_kind
semicolon_argument t ts is = after_other kind.LeftBracket kind.Semicolon t ts is refl

arrow_argument : (t : Lexeme) (ts : List Lexeme) → t.kind ≡ kind.Arrow → EndsArgument (t ∷ ts)
unfolding same_kind
arrow_argument t ts is = after_other kind.LeftBracket kind.Arrow t ts is refl

semicolon_identifiers : (t : Lexeme) (ts : List Lexeme) → t.kind ≡ kind.Semicolon → EndsIdentifiers (t ∷ ts)
unfolding same_kind
semicolon_identifiers t ts is = ends_identifiers kind.Semicolon t ts refl is

brace_identifiers : (t : Lexeme) (ts : List Lexeme) → t.kind ≡ kind.LeftBrace → EndsIdentifiers (t ∷ ts)
unfolding same_kind
brace_identifiers t ts is = ends_identifiers kind.LeftBrace t ts refl is

application_again : (a : Apply) (us rest : List Lexeme) → IsQuantumOperation (Applied a) us → application (us ++ rest) ≡ Some (Applied a, rest)
unfolding application
application_again a us rest h =
    item_then gate_name IsName Anything gate_name_again a.gate _ us rest _ _ h tt
    (item_then angles IsAngles EndsOptional angles_again a.angles _ h.1 rest _ _ h.4 (arguments_end a.qubits (Sign kind.Semicolon) h.4.1 rest h.4.4)
    (item_then arguments IsArguments EndsArguments arguments_again a.qubits _ h.4.1 rest _ _ h.4.4 (sign_ends EndsArguments kind.Semicolon h.4.4.1 rest semicolon_arguments h.4.4.4)
    (sign_last kind.Semicolon h.4.4.1 rest _ h.4.4.4)))

measure_again : (x y : Operand) (us rest : List Lexeme) → (IsArgument x ⋅ Sign kind.Arrow ⋅ IsArgument y ⋅ Sign kind.Semicolon) us → measure (us ++ rest) ≡ Some (Measured x y, rest)
unfolding measure
measure_again x y us rest h =
    item_then argument IsArgument EndsArgument argument_again x _ us rest _ _ h (then_ends EndsArgument kind.Arrow (IsArgument y ⋅ Sign kind.Semicolon) h.1 rest arrow_argument h.4)
    (sign_then kind.Arrow _ h.1 rest _ _ h.4
    (item_then argument IsArgument EndsArgument argument_again y _ h.4.1 rest _ _ h.4.4 (sign_ends EndsArgument kind.Semicolon h.4.4.1 rest semicolon_argument h.4.4.4)
    (sign_last kind.Semicolon h.4.4.1 rest _ h.4.4.4)))

reset_again : (x : Operand) (us rest : List Lexeme) → (IsArgument x ⋅ Sign kind.Semicolon) us → reset (us ++ rest) ≡ Some (Reset x, rest)
unfolding reset
reset_again x us rest h =
    item_then argument IsArgument EndsArgument argument_again x _ us rest _ _ h (sign_ends EndsArgument kind.Semicolon h.1 rest semicolon_argument h.4)
    (sign_last kind.Semicolon h.1 rest _ h.4)

-- a name of a gate begins an application
name_operation : (c : Callee) (t : Lexeme) (ts : List Lexeme) → t.kind ≡ kind_of_name c → operation (t ∷ ts) ≡ application (t ∷ ts)
unfolding operation
name_operation (Declared name) t ts is = ap (λ (k : TokenKind). operation_by k ts (t ∷ ts)) is
name_operation _ t ts is = ap (λ (k : TokenKind). operation_by k ts (t ∷ ts)) is

-- the first token of what begins with a name
named : (c : Callee) (Back : List Lexeme → Type 0) (us rest : List Lexeme) (s : (IsName c ⋅ Back) us) → Opened (kind_of_name c) (us ++ rest) (s.1 ++ rest)
named c Back us rest s =
    let o = name_opened c s.0 (s.1 ++ rest) s.3 in
    record { first = o.first; is = o.is; all = ap (λ (x : List Lexeme). x ++ rest) s.2 ∙ append_assoc s.0 s.1 rest ∙ o.all }

operation_first : (k : TokenKind) (us rest : List Lexeme) → Opened k us rest → (f : List Lexeme → List Lexeme → Option (Action × List Lexeme)) → ((more all : List Lexeme) → operation_by k more all ≡ f more all)
    → operation us ≡ f rest us
unfolding operation
operation_first k us rest o f by =
    ap operation o.all
    ∙ ap (λ (x : TokenKind). operation_by x rest (o.first ∷ rest)) o.is
    ∙ by rest (o.first ∷ rest)
    ∙ ap (f rest) (sym o.all)

pub operation_again : Complete operation IsQuantumOperation Anything
operation_again (Applied a) us rest h ends =
    let o = named a.gate (IsAngles a.angles ⋅ IsArguments a.qubits ⋅ Sign kind.Semicolon) us rest h in
    ap operation o.all ∙ name_operation a.gate o.first (h.1 ++ rest) o.is ∙ ap application (sym o.all) ∙ application_again a us rest h
operation_again (Measured x y) us rest h ends =
    operation_first kind.Measure (us ++ rest) (h.1 ++ rest) (opened kind.Measure (IsArgument x ⋅ Sign kind.Arrow ⋅ IsArgument y ⋅ Sign kind.Semicolon) us rest h) (λ more all. measure more) (λ more all. refl)
    ∙ measure_again x y h.1 rest h.4
operation_again (Reset x) us rest h ends =
    operation_first kind.Reset (us ++ rest) (h.1 ++ rest) (opened kind.Reset (IsArgument x ⋅ Sign kind.Semicolon) us rest h) (λ more all. reset more) (λ more all. refl)
    ∙ reset_again x h.1 rest h.4

-- ---- bodies of gates

body_application_takes : (ts : List Lexeme) (a : BodySentence) (rest : List Lexeme) → body_application ts ≡ Some (a, rest) → Took (IsBodyStatement a) ts rest
unfolding body_application
body_application_takes ts a rest e =
    apply_takes identifiers IsIdentifiers identifiers_take (λ c fs q. BodyApplied (record { gate = c; angles = fs; qubits = q })) IsBodyStatement (λ c fs q us w. w) ts a rest e

body_by_takes : (o : Option (List Lexeme)) (ts : List Lexeme) (a : BodySentence) (rest : List Lexeme) → after kind.Barrier ts ≡ o → body_by o ts ≡ Some (a, rest) → Took (IsBodyStatement a) ts rest
body_by_takes None ts a rest is e = body_application_takes ts a rest e
body_by_takes (Some r) ts a rest is e =
    one_takes identifiers IsIdentifiers identifiers_take kind.Barrier BodyBarrier IsBodyStatement (λ a us w. w) ts r a rest (after_takes kind.Barrier ts r is) e

pub body_statement_takes : Sound body_statement IsBodyStatement
unfolding body_statement
body_statement_takes ts a rest e = body_by_takes (after kind.Barrier ts) ts a rest refl e

name_begins : (k : TokenKind) → ((c : Callee) → same_kind (kind_of_name c) k ≡ false) → (c : Callee) (Back : List Lexeme → Type 0) (us rest : List Lexeme) → (IsName c ⋅ Back) us → after k (us ++ rest) ≡ None
name_begins k other c Back us rest s =
    let o = named c Back us rest s in
    ap (after k) o.all ∙ after_other k (kind_of_name c) o.first (s.1 ++ rest) o.is (other c)

name_barrier : (c : Callee) → same_kind (kind_of_name c) kind.Barrier ≡ false
unfolding same_kind
name_barrier (Declared name) = refl
name_barrier _ = refl

name_brace : (c : Callee) → same_kind (kind_of_name c) kind.RightBrace ≡ false
unfolding same_kind
name_brace (Declared name) = refl
name_brace _ = refl

body_application_again : (a : BodyApply) (us rest : List Lexeme) → IsBodyStatement (BodyApplied a) us → body_application (us ++ rest) ≡ Some (BodyApplied a, rest)
unfolding body_application
body_application_again a us rest h =
    item_then gate_name IsName Anything gate_name_again a.gate _ us rest _ _ h tt
    (item_then angles IsAngles EndsOptional angles_again a.angles _ h.1 rest _ _ h.4 (identifiers_end a.qubits (Sign kind.Semicolon) h.4.1 rest h.4.4)
    (item_then identifiers IsIdentifiers EndsIdentifiers identifiers_again a.qubits _ h.4.1 rest _ _ h.4.4 (sign_ends EndsIdentifiers kind.Semicolon h.4.4.1 rest semicolon_identifiers h.4.4.4)
    (sign_last kind.Semicolon h.4.4.1 rest _ h.4.4.4)))

pub body_statement_again : Complete body_statement IsBodyStatement Anything
unfolding body_statement
body_statement_again (BodyApplied a) us rest h ends =
    ap (λ (o : Option (List Lexeme)). body_by o (us ++ rest)) (name_begins kind.Barrier name_barrier a.gate (IsAngles a.angles ⋅ IsIdentifiers a.qubits ⋅ Sign kind.Semicolon) us rest h)
    ∙ body_application_again a us rest h
body_statement_again (BodyBarrier qubits) us rest h ends =
    let o = opened kind.Barrier (IsIdentifiers qubits ⋅ Sign kind.Semicolon) us rest h in
    ap (λ (x : Option (List Lexeme)). body_by x (us ++ rest)) (ap (after kind.Barrier) o.all ∙ after_again kind.Barrier (o.first ∷ []) (h.1 ++ rest) (o.first, o.is, refl))
    ∙ item_then identifiers IsIdentifiers EndsIdentifiers identifiers_again qubits (Sign kind.Semicolon) h.1 rest _ _ h.4 (sign_ends EndsIdentifiers kind.Semicolon h.4.1 rest semicolon_identifiers h.4.4)
    (sign_last kind.Semicolon h.4.1 rest _ h.4.4)

body_begins : (a : BodySentence) (us rest : List Lexeme) → IsBodyStatement a us → after kind.RightBrace (us ++ rest) ≡ None
unfolding same_kind
body_begins (BodyApplied a) us rest h = name_begins kind.RightBrace name_brace a.gate (IsAngles a.angles ⋅ IsIdentifiers a.qubits ⋅ Sign kind.Semicolon) us rest h
body_begins (BodyBarrier qubits) us rest h =
    then_begins kind.RightBrace (Sign kind.Barrier) (IsIdentifiers qubits ⋅ Sign kind.Semicolon) (λ vs more s. sign_begins kind.RightBrace kind.Barrier vs more refl s) us rest h

some_sign : (k : TokenKind) (us : List Lexeme) → Sign k us → 0 < length us
some_sign k us s = omega (arith, ap length s.2)

some_name : (c : Callee) (us : List Lexeme) → IsName c us → 0 < length us
some_name (Declared name) us w = omega (arith, ap length w.3)
some_name _ us w = omega (arith, ap length w.2)

some_then : (Front Back : List Lexeme → Type 0) (us : List Lexeme) → ((vs : List Lexeme) → Front vs → 0 < length vs) → (Front ⋅ Back) us → 0 < length us
some_then Front Back us prefix s = omega (arith, ap length s.2, length-append s.0 s.1, prefix s.0 s.3)

pub some_body : (a : BodySentence) (us : List Lexeme) → IsBodyStatement a us → 0 < length us
some_body (BodyApplied a) us h = some_then (IsName a.gate) (IsAngles a.angles ⋅ IsIdentifiers a.qubits ⋅ Sign kind.Semicolon) us (λ vs w. some_name a.gate vs w) h
some_body (BodyBarrier qubits) us h = some_then (Sign kind.Barrier) (IsIdentifiers qubits ⋅ Sign kind.Semicolon) us (λ vs s. some_sign kind.Barrier vs s) h

pub body_statement_shrinks : Shrinks body_statement
body_statement_shrinks ts a rest e =
    let t = body_statement_takes ts a rest e in
    omega (arith, ap length t.1, length-append t.0 rest, some_body a t.0 t.2)

body_turn_some : (o : Option (List Lexeme)) (ts : List Lexeme) (x : BodySentence × List Lexeme) → body_turn ts o ≡ Some (Some x) → body_statement ts ≡ Some x
body_turn_some (Some r) ts x e = absurd (none_some x (same None (Some x) e))
body_turn_some None ts x e = one_more_some (body_statement ts) x e

body_turn_shrinks : TurnShrinks (λ ts. body_turn ts (after kind.RightBrace ts))
body_turn_shrinks ts a rest e = body_statement_shrinks ts a rest (body_turn_some (after kind.RightBrace ts) ts (a, rest) e)

pub body_is : (ts : List Lexeme) → body ts ≡ on_turn (body_turn ts (after kind.RightBrace ts)) ts body
unfolding body
body_is ts = repeated_is (λ ts. body_turn ts (after kind.RightBrace ts)) body_turn_shrinks ts

pub body_takes : Sound body (Repeated IsBodyStatement)
unfolding body
body_takes =
    repeated_takes IsBodyStatement (λ ts. body_turn ts (after kind.RightBrace ts))
    (λ ts a rest e. body_statement_takes ts a rest (body_turn_some (after kind.RightBrace ts) ts (a, rest) e))

abbrev pub EndsBody : List Lexeme → Type 0
EndsBody rest = (r : List Lexeme) × (after kind.RightBrace rest ≡ Some r)

body_goes_on : (xs : List BodySentence) (us rest : List Lexeme) → Repeated IsBodyStatement xs us → body (us ++ rest) ≡ with_prefix xs (body rest)
unfolding body
body_goes_on xs us rest h =
    repeated_goes_on IsBodyStatement (λ ts. body_turn ts (after kind.RightBrace ts)) body_turn_shrinks Anything
    (λ a vs more s _. ap (λ (o : Option (List Lexeme)). body_turn (vs ++ more) o) (body_begins a vs more s) ∙ ap one_more (body_statement_again a vs more s tt))
    (λ a vs more s. tt) xs us rest h tt

body_again : Complete body (Repeated IsBodyStatement) EndsBody
body_again xs us rest h ends =
    body_goes_on xs us rest h
    ∙ ap (with_prefix xs) (body_is rest ∙ ap (λ o. on_turn (body_turn rest o) rest body) ends.1)
    ∙ ap (λ (ys : List BodySentence). Some (ys, rest)) (append-nil xs)

ends_body : (us rest : List Lexeme) → Sign kind.RightBrace us → EndsBody (us ++ rest)
ends_body us rest s = (rest, after_again kind.RightBrace us rest s)

-- statements of a body, and then no other and no brace
body_none : (xs : List BodySentence) (us rest : List Lexeme) → Repeated IsBodyStatement xs us → after kind.RightBrace rest ≡ None → body_statement rest ≡ None → body (us ++ rest) ≡ None
body_none xs us rest h brace none =
    body_goes_on xs us rest h ∙ ap (with_prefix xs) (body_is rest ∙ ap (λ o. on_turn (body_turn rest o) rest body) brace ∙ ap (λ o. on_turn (one_more o) rest body) none)

-- ---- statements: what is read

version_takes : (t : Lexeme) (ts : List Lexeme) (a : Sentence) (rest : List Lexeme) → t.kind ≡ kind.Openqasm → version ts ≡ Some (a, rest) → Took (IsStatement a) (t ∷ ts) rest
unfolding version
version_takes t ts a rest is e =
    one_takes (text kind.Real) (Word kind.Real) (text_takes kind.Real) kind.Openqasm Version IsStatement (λ a us w. w) (t ∷ ts) ts a rest (sign_took kind.Openqasm t ts is) e

include_takes : (t : Lexeme) (ts : List Lexeme) (a : Sentence) (rest : List Lexeme) → t.kind ≡ kind.Include → include ts ≡ Some (a, rest) → Took (IsStatement a) (t ∷ ts) rest
unfolding include
include_takes t ts a rest is e =
    one_takes (text kind.Text) (Word kind.Text) (text_takes kind.Text) kind.Include Include IsStatement (λ a us w. w) (t ∷ ts) ts a rest (sign_took kind.Include t ts is) e

abbrev IsRegister : List ℕ → List ℕ → List Lexeme → Type 0
IsRegister name size = IsIdentifier name ⋅ IsIndex (Some size) ⋅ Sign kind.Semicolon

register_takes : (ts : List Lexeme) (a : List ℕ × List ℕ) (rest : List Lexeme) → register ts ≡ Some (a, rest) → Took (IsRegister a.0 a.1) ts rest
unfolding register
register_takes ts a rest e =
    let n = bind_some (identifier ts) _ (a, rest) e in
    let l = bind_some (after kind.LeftBracket n.0.1) _ (a, rest) n.2 in
    let x = bind_some (natural l.0) _ (a, rest) l.2 in
    let r = bind_some (after kind.RightBracket x.0.1) _ (a, rest) x.2 in
    let s = bind_some (after kind.Semicolon r.0) _ (a, rest) r.2 in
    let p = same ((n.0.0, x.0.0), s.0) (a, rest) s.2 in
    subst (λ (y : (List ℕ × List ℕ) × List Lexeme). Took (IsRegister y.0.0 y.0.1) ts y.1) p
    (took_then (IsIdentifier n.0.0) (IsIndex (Some x.0.0) ⋅ Sign kind.Semicolon) ts n.0.1 s.0 (text_takes kind.Identifier ts n.0.0 n.0.1 n.1)
    (took_then (IsIndex (Some x.0.0)) (Sign kind.Semicolon) n.0.1 r.0 s.0
    (took_then (Sign kind.LeftBracket) (IsNatural x.0.0 ⋅ Sign kind.RightBracket) n.0.1 l.0 r.0 (after_takes kind.LeftBracket n.0.1 l.0 l.1)
    (took_then (IsNatural x.0.0) (Sign kind.RightBracket) l.0 x.0.1 r.0 (text_takes kind.Natural l.0 x.0.0 x.0.1 x.1) (after_takes kind.RightBracket x.0.1 r.0 r.1)))
    (after_takes kind.Semicolon r.0 s.0 s.1)))

qubits_take : (t : Lexeme) (ts : List Lexeme) (a : Sentence) (rest : List Lexeme) → t.kind ≡ kind.Qreg → qubit_register ts ≡ Some (a, rest) → Took (IsStatement a) (t ∷ ts) rest
qubits_take t ts a rest is e =
    let x = bind_some (register ts) _ (a, rest) e in
    let p = same (QubitRegister x.0.0.0 x.0.0.1, x.0.1) (a, rest) x.2 in
    subst (λ (y : Sentence × List Lexeme). Took (IsStatement y.0) (t ∷ ts) y.1) p
    (took_then (Sign kind.Qreg) (IsRegister x.0.0.0 x.0.0.1) (t ∷ ts) ts x.0.1 (sign_took kind.Qreg t ts is) (register_takes ts x.0.0 x.0.1 x.1))

bits_take : (t : Lexeme) (ts : List Lexeme) (a : Sentence) (rest : List Lexeme) → t.kind ≡ kind.Creg → bit_register ts ≡ Some (a, rest) → Took (IsStatement a) (t ∷ ts) rest
bits_take t ts a rest is e =
    let x = bind_some (register ts) _ (a, rest) e in
    let p = same (BitRegister x.0.0.0 x.0.0.1, x.0.1) (a, rest) x.2 in
    subst (λ (y : Sentence × List Lexeme). Took (IsStatement y.0) (t ∷ ts) y.1) p
    (took_then (Sign kind.Creg) (IsRegister x.0.0.0 x.0.0.1) (t ∷ ts) ts x.0.1 (sign_took kind.Creg t ts is) (register_takes ts x.0.0 x.0.1 x.1))

-- what is after the same tokens
moved : {X : Type 0} (Back : List Lexeme → Type 0) (a b : X) (m n rest : List Lexeme) → ◌≡◌ {A = X × List Lexeme} (a, m) (b, n) → Took Back n rest → Took Back m rest
moved {X = X} Back a b m n rest p t = subst (λ (x : List Lexeme). Took Back x rest) (sym (ap (λ (y : X × List Lexeme). y.1) p)) t

-- a heading, and what is after it
heading_takes : (ts : List Lexeme) (a : Heading) (middle rest : List Lexeme) (Back : List Lexeme → Type 0) → heading ts ≡ Some (a, middle) → Took Back middle rest
    → Took (IsIdentifier a.0 ⋅ IsParameters a.1.0 ⋅ IsIdentifiers a.1.1 ⋅ Back) ts rest
unfolding heading
heading_takes ts a middle rest Back e back =
    let n = bind_some (identifier ts) _ (a, middle) e in
    let x = bind_some (parameters n.0.1) _ (a, middle) n.2 in
    let q = bind_some (identifiers x.0.1) _ (a, middle) x.2 in
    let p = same ((n.0.0, (x.0.0, q.0.0)), q.0.1) (a, middle) q.2 in
    let following : Took Back q.0.1 rest = moved Back _ a q.0.1 middle rest p back in
    subst (λ (y : Heading × List Lexeme). Took (IsIdentifier y.0.0 ⋅ IsParameters y.0.1.0 ⋅ IsIdentifiers y.0.1.1 ⋅ Back) ts rest) p
    (took_then (IsIdentifier n.0.0) (IsParameters x.0.0 ⋅ IsIdentifiers q.0.0 ⋅ Back) ts n.0.1 rest (text_takes kind.Identifier ts n.0.0 n.0.1 n.1)
    (took_then (IsParameters x.0.0) (IsIdentifiers q.0.0 ⋅ Back) n.0.1 x.0.1 rest (parameters_take n.0.1 x.0.0 x.0.1 x.1)
    (took_then (IsIdentifiers q.0.0) Back x.0.1 q.0.1 rest (identifiers_take x.0.1 q.0.0 q.0.1 q.1) following)))

-- what stands before the body of a gate
abbrev pub IsOpening : Heading → List Lexeme → Type 0
IsOpening a = IsIdentifier a.0 ⋅ IsParameters a.1.0 ⋅ IsIdentifiers a.1.1 ⋅ Sign kind.LeftBrace

pub opening_takes : Sound opening IsOpening
unfolding opening
opening_takes ts a rest e =
    let h = bind_some (heading ts) _ (a, rest) e in
    let l = bind_some (after kind.LeftBrace h.0.1) _ (a, rest) h.2 in
    let p = same (h.0.0, l.0) (a, rest) l.2 in
    subst (λ (y : Heading × List Lexeme). Took (IsOpening y.0) ts y.1) p (heading_takes ts h.0.0 h.0.1 l.0 (Sign kind.LeftBrace) h.1 (after_takes kind.LeftBrace h.0.1 l.0 l.1))

-- what begins as the declaration of a gate
abbrev Begun : GateForm → (List Lexeme → Type 0) → List Lexeme → Type 0
Begun gate Back = Sign kind.Gate ⋅ IsIdentifier gate.name ⋅ IsParameters gate.parameters ⋅ IsIdentifiers gate.qubits ⋅ Sign kind.LeftBrace ⋅ Back

begun : (gate : GateForm) (Back : List Lexeme → Type 0) (us : List Lexeme) → (IsHeading gate ⋅ Back) us → Begun gate Back us
begun g Back us s =
    deeper (Sign kind.Gate) (IsOpening (g.name, (g.parameters, g.qubits))) Back _
    (deeper (IsIdentifier g.name) (IsParameters g.parameters ⋅ IsIdentifiers g.qubits ⋅ Sign kind.LeftBrace) Back _
    (deeper (IsParameters g.parameters) (IsIdentifiers g.qubits ⋅ Sign kind.LeftBrace) Back _
    (deeper (IsIdentifiers g.qubits) (Sign kind.LeftBrace) Back _ (λ vs t. t)))) us s

-- a heading, the body and the brace that closes it
pub whole_gate : (gate : GateForm) (ts inside closing rest : List Lexeme) → Took (IsHeading gate) ts inside → Took (Repeated IsBodyStatement gate.body) inside closing → after kind.RightBrace closing ≡ Some rest
    → Took (IsStatement (DeclareGate gate)) ts rest
whole_gate g ts inside closing rest head statements brace =
    let end = took_then (Repeated IsBodyStatement g.body) (Sign kind.RightBrace) inside closing rest statements (after_takes kind.RightBrace closing rest brace) in
    let t = took_then (IsHeading g) (Repeated IsBodyStatement g.body ⋅ Sign kind.RightBrace) ts inside rest head end in
    (t.0, t.1, begun g (Repeated IsBodyStatement g.body ⋅ Sign kind.RightBrace) t.0 t.2)

gate_takes : (t : Lexeme) (ts : List Lexeme) (a : Sentence) (rest : List Lexeme) → t.kind ≡ kind.Gate → gate ts ≡ Some (a, rest) → Took (IsStatement a) (t ∷ ts) rest
unfolding gate
gate_takes t ts a rest is e =
    let h = bind_some (opening ts) _ (a, rest) e in
    let b = bind_some (body h.0.1) _ (a, rest) h.2 in
    let s = bind_some (after kind.RightBrace b.0.1) _ (a, rest) b.2 in
    let g : GateForm = record { name = h.0.0.0; parameters = h.0.0.1.0; qubits = h.0.0.1.1; body = b.0.0 } in
    let p = same (DeclareGate g, s.0) (a, rest) s.2 in
    subst (λ (y : Sentence × List Lexeme). Took (IsStatement y.0) (t ∷ ts) y.1) p
    (whole_gate g (t ∷ ts) h.0.1 b.0.1 s.0 (took_then (Sign kind.Gate) (IsOpening h.0.0) (t ∷ ts) ts h.0.1 (sign_took kind.Gate t ts is) (opening_takes ts h.0.0 h.0.1 h.1)) (body_takes h.0.1 b.0.0 b.0.1 b.1) s.1)

opaque_takes : (t : Lexeme) (ts : List Lexeme) (a : Sentence) (rest : List Lexeme) → t.kind ≡ kind.Opaque → opaque ts ≡ Some (a, rest) → Took (IsStatement a) (t ∷ ts) rest
unfolding opaque
opaque_takes t ts a rest is e =
    let h = bind_some (heading ts) _ (a, rest) e in
    let s = bind_some (after kind.Semicolon h.0.1) _ (a, rest) h.2 in
    let p = same (Opaque h.0.0.0 h.0.0.1.0 h.0.0.1.1, s.0) (a, rest) s.2 in
    subst (λ (y : Sentence × List Lexeme). Took (IsStatement y.0) (t ∷ ts) y.1) p
    (took_then (Sign kind.Opaque) (IsIdentifier h.0.0.0 ⋅ IsParameters h.0.0.1.0 ⋅ IsIdentifiers h.0.0.1.1 ⋅ Sign kind.Semicolon) (t ∷ ts) ts s.0 (sign_took kind.Opaque t ts is)
    (heading_takes ts h.0.0 h.0.1 s.0 (Sign kind.Semicolon) h.1 (after_takes kind.Semicolon h.0.1 s.0 s.1)))

condition_takes : (ts : List Lexeme) (a : List ℕ × List ℕ) (middle rest : List Lexeme) (Back : List Lexeme → Type 0) → condition ts ≡ Some (a, middle) → Took Back middle rest
    → Took (Sign kind.LeftParenthesis ⋅ IsIdentifier a.0 ⋅ Sign kind.Equals ⋅ IsNatural a.1 ⋅ Sign kind.RightParenthesis ⋅ Back) ts rest
unfolding condition
condition_takes ts a middle rest Back e back =
    let l = bind_some (after kind.LeftParenthesis ts) _ (a, middle) e in
    let n = bind_some (identifier l.0) _ (a, middle) l.2 in
    let q = bind_some (after kind.Equals n.0.1) _ (a, middle) n.2 in
    let x = bind_some (natural q.0) _ (a, middle) q.2 in
    let r = bind_some (after kind.RightParenthesis x.0.1) _ (a, middle) x.2 in
    let p = same ((n.0.0, x.0.0), r.0) (a, middle) r.2 in
    let following : Took Back r.0 rest = moved Back _ a r.0 middle rest p back in
    subst (λ (y : (List ℕ × List ℕ) × List Lexeme). Took (Sign kind.LeftParenthesis ⋅ IsIdentifier y.0.0 ⋅ Sign kind.Equals ⋅ IsNatural y.0.1 ⋅ Sign kind.RightParenthesis ⋅ Back) ts rest) p
    (took_then (Sign kind.LeftParenthesis) (IsIdentifier n.0.0 ⋅ Sign kind.Equals ⋅ IsNatural x.0.0 ⋅ Sign kind.RightParenthesis ⋅ Back) ts l.0 rest (after_takes kind.LeftParenthesis ts l.0 l.1)
    (took_then (IsIdentifier n.0.0) (Sign kind.Equals ⋅ IsNatural x.0.0 ⋅ Sign kind.RightParenthesis ⋅ Back) l.0 n.0.1 rest (text_takes kind.Identifier l.0 n.0.0 n.0.1 n.1)
    (took_then (Sign kind.Equals) (IsNatural x.0.0 ⋅ Sign kind.RightParenthesis ⋅ Back) n.0.1 q.0 rest (after_takes kind.Equals n.0.1 q.0 q.1)
    (took_then (IsNatural x.0.0) (Sign kind.RightParenthesis ⋅ Back) q.0 x.0.1 rest (text_takes kind.Natural q.0 x.0.0 x.0.1 x.1)
    (took_then (Sign kind.RightParenthesis) Back x.0.1 r.0 rest (after_takes kind.RightParenthesis x.0.1 r.0 r.1) following)))))

conditional_takes : (t : Lexeme) (ts : List Lexeme) (a : Sentence) (rest : List Lexeme) → t.kind ≡ kind.If → conditional ts ≡ Some (a, rest) → Took (IsStatement a) (t ∷ ts) rest
unfolding conditional
conditional_takes t ts a rest is e =
    let c = bind_some (condition ts) _ (a, rest) e in
    let o = bind_some (operation c.0.1) _ (a, rest) c.2 in
    let p = same (If c.0.0.0 c.0.0.1 o.0.0, o.0.1) (a, rest) o.2 in
    subst (λ (y : Sentence × List Lexeme). Took (IsStatement y.0) (t ∷ ts) y.1) p
    (took_then (Sign kind.If) (Sign kind.LeftParenthesis ⋅ IsIdentifier c.0.0.0 ⋅ Sign kind.Equals ⋅ IsNatural c.0.0.1 ⋅ Sign kind.RightParenthesis ⋅ IsQuantumOperation o.0.0) (t ∷ ts) ts o.0.1 (sign_took kind.If t ts is)
    (condition_takes ts c.0.0 c.0.1 o.0.1 (IsQuantumOperation o.0.0) c.1 (operation_takes c.0.1 o.0.0 o.0.1 o.1)))

barrier_takes : (t : Lexeme) (ts : List Lexeme) (a : Sentence) (rest : List Lexeme) → t.kind ≡ kind.Barrier → barrier ts ≡ Some (a, rest) → Took (IsStatement a) (t ∷ ts) rest
unfolding barrier
barrier_takes t ts a rest is e =
    one_takes arguments IsArguments arguments_take kind.Barrier Barrier IsStatement (λ a us w. w) (t ∷ ts) ts a rest (sign_took kind.Barrier t ts is) e

act_takes : (ts : List Lexeme) (a : Sentence) (rest : List Lexeme) → act ts ≡ Some (a, rest) → Took (IsStatement a) ts rest
act_takes ts a rest e =
    let x = bind_some (operation ts) _ (a, rest) e in
    let p = same (Act x.0.0, x.0.1) (a, rest) x.2 in
    subst (λ (y : Sentence × List Lexeme). Took (IsStatement y.0) ts y.1) p (operation_takes ts x.0.0 x.0.1 x.1)

statement_by_takes : (k : TokenKind) (t : Lexeme) (ts : List Lexeme) (a : Sentence) (rest : List Lexeme) → t.kind ≡ k → statement_by k ts (t ∷ ts) ≡ Some (a, rest) → Took (IsStatement a) (t ∷ ts) rest
statement_by_takes kind.Openqasm t ts a rest is e = version_takes t ts a rest is e
statement_by_takes kind.Include t ts a rest is e = include_takes t ts a rest is e
statement_by_takes kind.Qreg t ts a rest is e = qubits_take t ts a rest is e
statement_by_takes kind.Creg t ts a rest is e = bits_take t ts a rest is e
statement_by_takes kind.Gate t ts a rest is e = gate_takes t ts a rest is e
statement_by_takes kind.Opaque t ts a rest is e = opaque_takes t ts a rest is e
statement_by_takes kind.If t ts a rest is e = conditional_takes t ts a rest is e
statement_by_takes kind.Barrier t ts a rest is e = barrier_takes t ts a rest is e
statement_by_takes _ t ts a rest is e = act_takes (t ∷ ts) a rest e

pub statement_takes : Sound statement IsStatement
unfolding statement
statement_takes [] a rest e = absurd cc
statement_takes (t ∷ ts) a rest e = statement_by_takes t.kind t ts a rest refl e

-- ---- statements: what stands there is read

statement_first : (k : TokenKind) (us rest : List Lexeme) → Opened k us rest → (f : List Lexeme → List Lexeme → Option (Sentence × List Lexeme)) → ((more all : List Lexeme) → statement_by k more all ≡ f more all)
    → statement us ≡ f rest us
unfolding statement
statement_first k us rest o f by =
    ap statement o.all
    ∙ ap (λ (x : TokenKind). statement_by x rest (o.first ∷ rest)) o.is
    ∙ by rest (o.first ∷ rest)
    ∙ ap (f rest) (sym o.all)

register_again : (name size : List ℕ) (us rest : List Lexeme) → IsRegister name size us → register (us ++ rest) ≡ Some ((name, size), rest)
unfolding register
register_again name size us rest h =
    let inside : (Sign kind.LeftBracket ⋅ IsNatural size ⋅ Sign kind.RightBracket ⋅ Sign kind.Semicolon) h.1 =
    deeper (Sign kind.LeftBracket) (IsNatural size ⋅ Sign kind.RightBracket) (Sign kind.Semicolon) _
    (deeper (IsNatural size) (Sign kind.RightBracket) (Sign kind.Semicolon) _ (λ vs t. t)) h.1 h.4 in
    item_then identifier IsIdentifier Anything (text_complete kind.Identifier) name _ us rest _ _ h tt
    (sign_then kind.LeftBracket _ h.1 rest _ _ inside
    (item_then natural IsNatural Anything (text_complete kind.Natural) size _ inside.1 rest _ _ inside.4 tt
    (sign_then kind.RightBracket _ inside.4.1 rest _ _ inside.4.4
    (sign_last kind.Semicolon inside.4.4.1 rest _ inside.4.4.4))))

heading_again : (a : Heading) (Back : List Lexeme → Type 0) (us rest : List Lexeme) → (h : (IsIdentifier a.0 ⋅ IsParameters a.1.0 ⋅ IsIdentifiers a.1.1 ⋅ Back) us) → EndsIdentifiers (h.4.4.1 ++ rest)
    → heading (us ++ rest) ≡ Some (a, h.4.4.1 ++ rest)
unfolding heading
heading_again a Back us rest h ends =
    item_then identifier IsIdentifier Anything (text_complete kind.Identifier) a.0 _ us rest _ _ h tt
    (item_then parameters IsParameters EndsOptional parameters_again a.1.0 _ h.1 rest _ _ h.4 (identifiers_end a.1.1 Back h.4.1 rest h.4.4)
    (item_then identifiers IsIdentifiers EndsIdentifiers identifiers_again a.1.1 _ h.4.1 rest _ _ h.4.4 ends refl))

condition_again : (a : List ℕ × List ℕ) (Back : List Lexeme → Type 0) (us rest : List Lexeme)
    → (h : (Sign kind.LeftParenthesis ⋅ IsIdentifier a.0 ⋅ Sign kind.Equals ⋅ IsNatural a.1 ⋅ Sign kind.RightParenthesis ⋅ Back) us)
    → condition (us ++ rest) ≡ Some (a, h.4.4.4.4.1 ++ rest)
unfolding condition
condition_again a Back us rest h =
    sign_then kind.LeftParenthesis _ us rest _ _ h
    (item_then identifier IsIdentifier Anything (text_complete kind.Identifier) a.0 _ h.1 rest _ _ h.4 tt
    (sign_then kind.Equals _ h.4.1 rest _ _ h.4.4
    (item_then natural IsNatural Anything (text_complete kind.Natural) a.1 _ h.4.4.1 rest _ _ h.4.4.4 tt
    (sign_then kind.RightParenthesis _ h.4.4.4.1 rest _ _ h.4.4.4.4 refl))))

version_again : (real : List ℕ) (us rest : List Lexeme) → (Word kind.Real real ⋅ Sign kind.Semicolon) us → version (us ++ rest) ≡ Some (Version real, rest)
unfolding version
version_again real us rest h = item_then (text kind.Real) (Word kind.Real) Anything (text_complete kind.Real) real _ us rest _ _ h tt (sign_last kind.Semicolon h.1 rest _ h.4)

include_again : (name : List ℕ) (us rest : List Lexeme) → (Word kind.Text name ⋅ Sign kind.Semicolon) us → include (us ++ rest) ≡ Some (Include name, rest)
unfolding include
include_again name us rest h = item_then (text kind.Text) (Word kind.Text) Anything (text_complete kind.Text) name _ us rest _ _ h tt (sign_last kind.Semicolon h.1 rest _ h.4)

-- a heading, whatever follows
pub opening_again : (a : Heading) (us rest : List Lexeme) → IsOpening a us → opening (us ++ rest) ≡ Some (a, rest)
unfolding opening
opening_again a us rest h =
    let b = h.4.4 in
    bind_is (heading (us ++ rest)) _ _ _ (heading_again a (Sign kind.LeftBrace) us rest h (sign_ends EndsIdentifiers kind.LeftBrace b.1 rest brace_identifiers b.4))
    (sign_last kind.LeftBrace b.1 rest _ b.4)

-- no heading, no statement
pub opening_none : (t : Lexeme) (ts : List Lexeme) → t.kind ≡ kind.Gate → opening ts ≡ None → statement (t ∷ ts) ≡ None
unfolding gate
opening_none t ts is none =
    statement_first kind.Gate (t ∷ ts) ts (record { first = t; is = is; all = refl }) (λ more all. gate more) (λ more all. refl) ∙ bind_none (opening ts) _ none

-- the rest of a gate's declaration, from its body on
abbrev rest_of_gate : GateForm → List Lexeme → Option (Sentence × List Lexeme)
rest_of_gate g ts = do
  body ← body ts
  rest ← after kind.RightBrace body.1
  Some (DeclareGate (record { name = g.name; parameters = g.parameters; qubits = g.qubits; body = body.0 }), rest)

gate_first : (g : GateForm) (Back : List Lexeme → Type 0) (us rest : List Lexeme) (h : Begun g Back us) → statement (us ++ rest) ≡ rest_of_gate g (h.4.4.4.4.1 ++ rest)
unfolding gate opening
gate_first g Back us rest h =
    let b = h.4.4.4 in
    statement_first kind.Gate (us ++ rest) (h.1 ++ rest) (opened kind.Gate _ us rest h) (λ more all. gate more) (λ more all. refl)
    ∙ bind_is (opening (h.1 ++ rest)) _ _ _
    (bind_is (heading (h.1 ++ rest)) _ _ _
    (heading_again (g.name, (g.parameters, g.qubits)) (Sign kind.LeftBrace ⋅ Back) h.1 rest h.4 (then_ends EndsIdentifiers kind.LeftBrace Back b.1 rest brace_identifiers b.4))
    (sign_then kind.LeftBrace Back b.1 rest _ _ b.4 refl)) refl

gate_again : (g : GateForm) (us rest : List Lexeme) → IsStatement (DeclareGate g) us → statement (us ++ rest) ≡ Some (DeclareGate g, rest)
gate_again g us rest h =
    let b = h.4.4.4.4 in
    gate_first g (Repeated IsBodyStatement g.body ⋅ Sign kind.RightBrace) us rest h
    ∙ item_then body (Repeated IsBodyStatement) EndsBody body_again g.body (Sign kind.RightBrace) b.1 rest _ _ b.4 (ends_body b.4.1 rest b.4.4) (sign_last kind.RightBrace b.4.1 rest _ b.4.4)

-- a heading and statements of the body, and then no other and no brace
pub gate_none : (g : GateForm) (ts middle rest : List Lexeme) → Took (IsHeading g) ts middle → Took (Repeated IsBodyStatement g.body) middle rest
    → after kind.RightBrace rest ≡ None → body_statement rest ≡ None → statement ts ≡ None
gate_none g ts middle rest head statements brace none =
    let t = took_then (IsHeading g) (Repeated IsBodyStatement g.body) ts middle rest head statements in
    let h = begun g (Repeated IsBodyStatement g.body) t.0 t.2 in
    ap statement t.1 ∙ gate_first g (Repeated IsBodyStatement g.body) t.0 rest h ∙ bind_none (body (h.4.4.4.4.1 ++ rest)) _ (body_none g.body h.4.4.4.4.1 rest h.4.4.4.4.4 brace none)

opaque_again : (name : List ℕ) (xs qs : List (List ℕ)) (us rest : List Lexeme) → (IsIdentifier name ⋅ IsParameters xs ⋅ IsIdentifiers qs ⋅ Sign kind.Semicolon) us → opaque (us ++ rest) ≡ Some (Opaque name xs qs, rest)
unfolding opaque
opaque_again name xs qs us rest h =
    let b = h.4.4 in
    bind_is (heading (us ++ rest)) _ _ _
    (heading_again (name, (xs, qs)) (Sign kind.Semicolon) us rest h (sign_ends EndsIdentifiers kind.Semicolon b.1 rest semicolon_identifiers b.4))
    (sign_last kind.Semicolon b.1 rest _ b.4)

conditional_again : (r v : List ℕ) (a : Action) (us rest : List Lexeme)
    → (Sign kind.LeftParenthesis ⋅ IsIdentifier r ⋅ Sign kind.Equals ⋅ IsNatural v ⋅ Sign kind.RightParenthesis ⋅ IsQuantumOperation a) us → conditional (us ++ rest) ≡ Some (If r v a, rest)
unfolding conditional
conditional_again r v a us rest h =
    let b = h.4.4.4.4 in
    bind_is (condition (us ++ rest)) _ _ _ (condition_again (r, v) (IsQuantumOperation a) us rest h)
    (bind_is (operation (b.1 ++ rest)) _ _ _ (operation_again a b.1 rest b.4 tt) refl)

barrier_again : (xs : List Operand) (us rest : List Lexeme) → (IsArguments xs ⋅ Sign kind.Semicolon) us → barrier (us ++ rest) ≡ Some (Barrier xs, rest)
unfolding barrier
barrier_again xs us rest h =
    item_then arguments IsArguments EndsArguments arguments_again xs _ us rest _ _ h (sign_ends EndsArguments kind.Semicolon h.1 rest semicolon_arguments h.4) (sign_last kind.Semicolon h.1 rest _ h.4)

-- nor does the name of a gate
named_first : (c : Callee) (us rest : List Lexeme) → Opened (kind_of_name c) us rest → statement us ≡ act us
named_first (Declared name) us rest o = statement_first kind.Identifier us rest o (λ more all. act all) (λ more all. refl)
named_first U us rest o = statement_first kind.U us rest o (λ more all. act all) (λ more all. refl)
named_first Cx us rest o = statement_first kind.Cx us rest o (λ more all. act all) (λ more all. refl)

-- an identifier begins the application of a gate
pub identifier_first : (t : Lexeme) (ts : List Lexeme) → t.kind ≡ kind.Identifier → statement (t ∷ ts) ≡ (application (t ∷ ts) >>= λ x. Some (Act x.0, x.1))
identifier_first t ts is =
    named_first (Declared t.text) (t ∷ ts) ts (record { first = t; is = is; all = refl }) ∙ ap (λ (o : Option (Action × List Lexeme)). o >>= λ x. Some (Act x.0, x.1)) (name_operation (Declared t.text) t ts is)

-- an operation begins no other statement
act_first : (a : Action) (us rest : List Lexeme) → IsQuantumOperation a us → statement (us ++ rest) ≡ act (us ++ rest)
act_first (Applied a) us rest h = named_first a.gate (us ++ rest) (h.1 ++ rest) (named a.gate (IsAngles a.angles ⋅ IsArguments a.qubits ⋅ Sign kind.Semicolon) us rest h)
act_first (Measured x y) us rest h =
    statement_first kind.Measure (us ++ rest) (h.1 ++ rest) (opened kind.Measure (IsArgument x ⋅ Sign kind.Arrow ⋅ IsArgument y ⋅ Sign kind.Semicolon) us rest h) (λ more all. act all) (λ more all. refl)
act_first (Reset x) us rest h =
    statement_first kind.Reset (us ++ rest) (h.1 ++ rest) (opened kind.Reset (IsArgument x ⋅ Sign kind.Semicolon) us rest h) (λ more all. act all) (λ more all. refl)

pub statement_again : Complete statement IsStatement Anything
statement_again (Version real) us rest h ends =
    statement_first kind.Openqasm (us ++ rest) (h.1 ++ rest) (opened kind.Openqasm (Word kind.Real real ⋅ Sign kind.Semicolon) us rest h) (λ more all. version more) (λ more all. refl)
    ∙ version_again real h.1 rest h.4
statement_again (Include name) us rest h ends =
    statement_first kind.Include (us ++ rest) (h.1 ++ rest) (opened kind.Include (Word kind.Text name ⋅ Sign kind.Semicolon) us rest h) (λ more all. include more) (λ more all. refl)
    ∙ include_again name h.1 rest h.4
statement_again (QubitRegister name size) us rest h ends =
    statement_first kind.Qreg (us ++ rest) (h.1 ++ rest) (opened kind.Qreg (IsRegister name size) us rest h) (λ more all. qubit_register more) (λ more all. refl)
    ∙ ap (λ (o : Option ((List ℕ × List ℕ) × List Lexeme)). o >>= λ (r : (List ℕ × List ℕ) × List Lexeme). Some (QubitRegister r.0.0 r.0.1, r.1)) (register_again name size h.1 rest h.4)
statement_again (BitRegister name size) us rest h ends =
    statement_first kind.Creg (us ++ rest) (h.1 ++ rest) (opened kind.Creg (IsRegister name size) us rest h) (λ more all. bit_register more) (λ more all. refl)
    ∙ ap (λ (o : Option ((List ℕ × List ℕ) × List Lexeme)). o >>= λ (r : (List ℕ × List ℕ) × List Lexeme). Some (BitRegister r.0.0 r.0.1, r.1)) (register_again name size h.1 rest h.4)
statement_again (DeclareGate g) us rest h ends = gate_again g us rest h
statement_again (Opaque name xs qs) us rest h ends =
    statement_first kind.Opaque (us ++ rest) (h.1 ++ rest) (opened kind.Opaque (IsIdentifier name ⋅ IsParameters xs ⋅ IsIdentifiers qs ⋅ Sign kind.Semicolon) us rest h) (λ more all. opaque more) (λ more all. refl)
    ∙ opaque_again name xs qs h.1 rest h.4
statement_again (If r v a) us rest h ends =
    statement_first kind.If (us ++ rest) (h.1 ++ rest)
    (opened kind.If (Sign kind.LeftParenthesis ⋅ IsIdentifier r ⋅ Sign kind.Equals ⋅ IsNatural v ⋅ Sign kind.RightParenthesis ⋅ IsQuantumOperation a) us rest h)
    (λ more all. conditional more) (λ more all. refl)
    ∙ conditional_again r v a h.1 rest h.4
statement_again (Barrier xs) us rest h ends =
    statement_first kind.Barrier (us ++ rest) (h.1 ++ rest) (opened kind.Barrier (IsArguments xs ⋅ Sign kind.Semicolon) us rest h) (λ more all. barrier more) (λ more all. refl)
    ∙ barrier_again xs h.1 rest h.4
statement_again (Act a) us rest h ends =
    act_first a us rest h ∙ ap (λ (o : Option (Action × List Lexeme)). o >>= λ (x : Action × List Lexeme). Some (Act x.0, x.1)) (operation_again a us rest h tt)
