-- The reader of a text, batch by batch.
use Rattle.std.proofs.Common.{◌≡◌, ℕ, ◌-◌, ◌<◌, ◌≤◌, List, [], ◌∷◌, ◌++◌, length, take, drop, Option, None, Some, refl, sym, ap, ◌∙◌, subst, append_assoc, append-nil, arith, length-append, Bool, false, true}
use Rattle.std.specs.Prelude.{MatchOption}
use Rattle.std.specs.Option.{option_or}
use Rattle.std.proofs.lemmas.List.{length-map, take_rest}
use Rattle.qasm_lexer.specs.declared.token.Token.{Token}
use Rattle.qasm_lexer.specs.Tokens.{Lexeme, lexeme, lexemes}
use Rattle.qasm_reader.specs.Grammar.{BeginsAt, BeginsWithStatement, IsFirstStatement, IsProgram, IsSyntaxFault}
use Rattle.qasm_reader.specs.Parts.{BeginNone, IsBehind, IsInBody, has_end}
use Rattle.qasm_reader.specs.Syntax.{GateForm, Placed}
use Rattle.qasm_reader.proofs.PartWise.{nothing_begins}
use Rattle.qasm_reader.proofs.Programs.{prefix_first}
use Rattle.qasm_inline.proofs.TokensBehind.{behind_front, drop_behind, map_drop}
use Rattle.qasm_unroll.specs.declared.circuit.Circuit.{Circuit}
use Rattle.qasm_unroll.specs.declared.circuit.OpenGate.{OpenGate}
use Rattle.qasm_unroll.specs.Circuits.{HasBegun, HasTaken, gate_at}
use Rattle.qasm_inline.specs.Internal.Readings.{AreTaken, IsReadSoFar, open_place}

-- ---- tokens behind tokens
-- the tokens behind those that were known
pub behind_known : (old new : List Token) (more : List Lexeme) (n : ℕ) → n ≡ length old → lexemes new ≡ lexemes old ++ more
    → lexemes (take (length new - n) (drop n new)) ≡ more
behind_known old new more n e is =
    let same : n ≡ length (lexemes old) = e ∙ sym (length-map old lexeme) in
    ap lexemes (take_rest new n) ∙ map_drop lexeme n new ∙ ap (drop n) is ∙ ap (λ m. drop m (lexemes old ++ more)) same ∙ drop_behind (lexemes old) more

pub rest_is : (tokens rest : List Token) → IsBehind (lexemes rest) (lexemes tokens) → lexemes (drop (length tokens - length rest) tokens) ≡ lexemes rest
rest_is tokens rest b = behind_front tokens rest (b.0 ∷ b.1) b.2

pub some_taken : (tokens rest : List Token) → IsBehind (lexemes rest) (lexemes tokens)
    → (0 < length tokens - length rest) × (length tokens - length rest ≤ length tokens)
some_taken tokens rest b =
    let n = ap length b.2 in
    let sum = length-append b.1 (lexemes rest) in
    (omega (arith, n, sum, length-map tokens lexeme, length-map rest lexeme), omega (arith, n, sum, length-map tokens lexeme, length-map rest lexeme))

begins-more : (ts more : List Lexeme) (at : ℕ) → BeginsAt ts at → BeginsAt (ts ++ more) at
begins-more ts more at b = (b.0, b.1 ++ more, ap (λ x. x ++ more) b.2, b.3)

-- ---- what was taken in

pub nothing-taken : (circuit : Circuit) → HasTaken circuit [] → IsReadSoFar None [] None circuit []
nothing-taken circuit taken = (record { before = []; behind = []; statements = []; same = refl; program = refl; taken = (refl, taken) }, nothing_begins)

pub statement-taken : (all ts rest : List Lexeme) (gate : Option OpenGate) (circuit later : Circuit) (s : Placed) → gate ≡ None → AreTaken all gate circuit ts
    → IsFirstStatement s ts rest → ((program : List Placed) → HasTaken circuit program → HasTaken later (program ++ s ∷ [])) → AreTaken all gate later rest
statement-taken all ts rest gate circuit later s e r first step =
    let taken = rw e at r.taken in
    let p = prefix_first all ts rest r.statements s (r.before, r.same ∙ ap (λ x. r.before ++ x) taken.0, r.program) first in
    record { before = p.0; behind = rest; statements = r.statements ++ s ∷ []; same = p.1; program = p.2; taken = rw e (refl, step r.statements taken.1) }

pub end-taken : (all ts rest : List Lexeme) (circuit later : Circuit) (gate : OpenGate) (over : Option OpenGate) → over ≡ None → AreTaken all (Some gate) circuit ts
    → ((form : GateForm) (behind : List Lexeme) → IsInBody gate.place form behind ts → IsFirstStatement (gate_at gate.place form) behind rest)
    → ((program : List Placed) (form : GateForm) → HasBegun circuit gate program form → HasTaken later (program ++ gate_at gate.place form ∷ []))
    → AreTaken all over later rest
end-taken all ts rest circuit later gate over e r first step =
    let s = gate_at gate.place r.taken.0 in
    let p = prefix_first all r.behind rest r.statements s (r.before, r.same, r.program) (first r.taken.0 r.behind r.taken.1) in
    record { before = p.0; behind = rest; statements = r.statements ++ s ∷ []; same = p.1; program = p.2; taken = rw e (refl, step r.statements r.taken.0 r.taken.2) }

-- no part begins what is left
pub none-between : (all ts : List Lexeme) (gate : Option OpenGate) (circuit : Circuit) → gate ≡ None → AreTaken all gate circuit ts → BeginNone ts ts → IsReadSoFar None all gate circuit ts
none-between all ts gate circuit e r none = (r, (let taken = rw e at r.taken in subst (λ x. BeginNone x ts) (sym taken.0) none))

pub none-next : (all : List Lexeme) (gate : Option OpenGate) (circuit : Circuit) (count : Option ℕ) (tokens : List Token) → ((n : ℕ) → count ≡ Some n → ⊥)
    → MatchOption count (IsReadSoFar None all gate circuit (lexemes tokens)) (λ n. AreTaken all gate circuit (lexemes (drop n tokens))) → IsReadSoFar None all gate circuit (lexemes tokens)
none-next all gate circuit None tokens none h = h
none-next all gate circuit (Some n) tokens none h = absurd (none n refl)

-- tokens more
inside-more : (place : ℕ) (form : GateForm) (behind rest more : List Lexeme) → IsInBody place form behind rest → IsInBody place form (behind ++ more) (rest ++ more)
inside-more place form behind rest more is = record {
  heading = is.heading;
  body = is.body;
  same = ap (λ x. x ++ more) is.same ∙ append_assoc (is.heading ++ is.body) rest more;
  begins = is.begins;
  is_heading = is.is_heading;
  is_body = is.is_body;
}

more-taken : (gate : Option OpenGate) (circuit : Circuit) (statements : List Placed) (behind rest more : List Lexeme)
    → MatchOption gate ((behind ≡ rest) × HasTaken circuit statements) (λ begun. (form : GateForm) × IsInBody begun.place form behind rest × HasBegun circuit begun statements form)
    → MatchOption gate ((behind ++ more ≡ rest ++ more) × HasTaken circuit statements)
    (λ begun. (form : GateForm) × IsInBody begun.place form (behind ++ more) (rest ++ more) × HasBegun circuit begun statements form)
more-taken None circuit statements behind rest more (same, taken) = (ap (λ x. x ++ more) same, taken)
more-taken (Some gate) circuit statements behind rest more (form, is, begun) = (form, inside-more gate.place form behind rest more is, begun)

pub taken-more : (all rest more : List Lexeme) (gate : Option OpenGate) (circuit : Circuit) → IsReadSoFar None all gate circuit rest → AreTaken (all ++ more) gate circuit (rest ++ more)
taken-more all rest more gate circuit (r, none) = record {
  before = r.before;
  behind = r.behind ++ more;
  statements = r.statements;
  same = ap (λ x. x ++ more) r.same ∙ append_assoc r.before r.behind more;
  program = r.program;
  taken = more-taken gate circuit r.statements r.behind rest more r.taken;
}

-- ---- faults

-- what isn't over begins behind whole statements
open-begins : (all rest : List Lexeme) (gate : Option OpenGate) (circuit : Circuit) (at : ℕ) (r : AreTaken all gate circuit rest) → open_place gate rest ≡ Some at → BeginsAt r.behind at
open-begins all [] None circuit at r e = absurd (let h : ◌≡◌ {A = Option ℕ} None (Some at) = e in cc)
open-begins all (t ∷ ts) None circuit at r e = (t, ts, r.taken.0, (let h : ◌≡◌ {A = Option ℕ} (Some t.place) (Some at) = e in cc))
open-begins all rest (Some gate) circuit at r e =
    let same : gate.place ≡ at = (let h : ◌≡◌ {A = Option ℕ} (Some gate.place) (Some at) = e in cc) in
    let is = r.taken.1 in
    subst (λ x. BeginsAt x at) (sym (is.same ∙ append_assoc is.heading is.body rest)) (begins-more is.heading (is.body ++ rest) at (subst (BeginsAt is.heading) same is.begins))

fault-at : (all rest more : List Lexeme) (gate : Option OpenGate) (circuit : Circuit) (at : ℕ) (r : AreTaken all gate circuit rest) → open_place gate rest ≡ Some at
    → (BeginsWithStatement (r.behind ++ more) → ⊥) → IsSyntaxFault (all ++ more) at
fault-at all rest more gate circuit at r e none =
    (r.before, r.behind ++ more, r.statements, ap (λ x. x ++ more) r.same ∙ append_assoc r.before r.behind more, r.program, begins-more r.behind more at (open-begins all rest gate circuit at r e), none)

-- where one of the tokens that are left ends a part, something isn't over
open-there : (gate : Option OpenGate) (rest : List Lexeme) → has_end rest ≡ true → open_place gate rest ≡ None → ⊥
open-there None [] end none = let h : ◌≡◌ {A = Bool} false true = end in cc
open-there None (t ∷ ts) end none = let h : ◌≡◌ {A = Option ℕ} (Some t.place) None = none in cc
open-there (Some gate) rest end none = let h : ◌≡◌ {A = Option ℕ} (Some gate.place) None = none in cc

-- and the fault is certain
pub certain-kept : (all rest : List Lexeme) (gate : Option OpenGate) (circuit : Circuit) (fault : Option ℕ) → IsReadSoFar None all gate circuit rest → has_end rest ≡ true
    → fault ≡ open_place gate rest → IsReadSoFar fault all gate circuit []
certain-kept all rest gate circuit None (r, none) end e = absurd (open-there gate rest end (sym e))
certain-kept all rest gate circuit (Some at) (r, none) end e = (refl, λ more. fault-at all rest more gate circuit at r (sym e) (none.none_later end more))

pub still-certain : (all known more : List Lexeme) (gate : Option OpenGate) (circuit : Circuit) (at : ℕ) → IsReadSoFar (Some at) all gate circuit known → IsReadSoFar (Some at) (all ++ more) gate circuit []
still-certain all known more gate circuit at kept = (refl, λ later. subst (λ x. IsSyntaxFault x at) (sym (append_assoc all more later)) (kept.1 (more ++ later)))

-- where the text is over
pub kept-fault : (all kept : List Lexeme) (gate : Option OpenGate) (circuit : Circuit) (fault : Option ℕ) (at : ℕ) → IsReadSoFar fault all gate circuit kept → option_or fault (open_place gate kept) ≡ Some at
    → IsSyntaxFault all at
kept-fault all kept gate circuit None at (r, none) e =
    subst (λ x. IsSyntaxFault x at) (append-nil all) (fault-at all kept [] gate circuit at r e (λ begins. none.none (subst BeginsWithStatement (append-nil r.behind) begins)))
kept-fault all kept gate circuit (Some place) at (none, certain) e =
    let same : place ≡ at = (let h : ◌≡◌ {A = Option ℕ} (Some place) (Some at) = e in cc) in
    subst (IsSyntaxFault all) same (subst (λ x. IsSyntaxFault x place) (append-nil all) (certain []))

pub kept-whole : (all kept : List Lexeme) (gate : Option OpenGate) (circuit : Circuit) (fault : Option ℕ) → IsReadSoFar fault all gate circuit kept → option_or fault (open_place gate kept) ≡ None
    → (statements : List Placed) × IsProgram all statements × HasTaken circuit statements
kept-whole all [] None circuit None (r, none) e =
    (r.statements, subst (λ x. IsProgram x r.statements) (sym (r.same ∙ ap (λ x. r.before ++ x) r.taken.0 ∙ append-nil r.before)) r.program, r.taken.1)
kept-whole all (t ∷ ts) None circuit None r e = absurd (let h : ◌≡◌ {A = Option ℕ} (Some t.place) None = e in cc)
kept-whole all kept (Some gate) circuit None r e = absurd (let h : ◌≡◌ {A = Option ℕ} (Some gate.place) None = e in cc)
kept-whole all kept gate circuit (Some at) r e = absurd (let h : ◌≡◌ {A = Option ℕ} (Some at) None = e in cc)
