-- Plain statements that are read straight from the bytes.
use Rattle.std.proofs.Common.{◌≡◌, ℕ, ◌+◌, ◌-◌, ◌<◌, ◌≤◌, List, [], ◌∷◌, ◌++◌, length, take, drop, map, None, Some, inl, refl, sym, ap, ◌∙◌, subst, append_assoc, append-nil, arith, length-append, length-drop}
use Rattle.std.specs.List.{concat}
use Rattle.std.proofs.lemmas.List.{take-append-drop}
use Rattle.qasm_lexer.specs.Tokens.{IsCutUpTo, Lexeme, lexemes}
use Rattle.qasm_lexer.specs.Internal.Moved.{moved}
use Rattle.qasm_lexer.proofs.Cuts.{IsCutUpTo-then}
use Rattle.qasm_inline.proofs.TokensBehind.{drop_behind}
use Rattle.qasm_reader.specs.Depth.{IsDepth}
use Rattle.qasm_reader.specs.Grammar.{◌⋅◌, BeginsAt, IsAngles, IsArgument, IsName, IsQuantumOperation, Sign}
use Rattle.qasm_lexer.specs.declared.token.TokenKind.TheVariants as kind
use Rattle.qasm_reader.specs.Syntax.{Act, Applied, Apply, Callee, Declared, U, Cx, Operand, Placed}
use Rattle.qasm_reader.proofs.PartWise.{nothing_begins}
use Rattle.qasm_reader.specs.declared.program.Argument.{Argument}
use Rattle.qasm_reader.specs.Views.{callee, operand}
use Rattle.std.specs.Option.{option_to_list}
use Rattle.qasm_unroll.specs.Circuits.{HasTaken, applied_at}
use Rattle.qasm_inline.specs.declared.plain.Plain.{Plain}
use Rattle.qasm_inline.specs.declared.reading.Reader.{Reader}
use Rattle.qasm_inline.specs.Internal.Readings.{AreTaken, IsReadSoFar, ReadsOn}
use Rattle.qasm_inline.specs.Internal.Spellings.{AreMore, AreNone, IsBetween, IsReadPlain, IsReadTo, IsSpelled, ReadsApplication, application_of}
use Rattle.qasm_inline.proofs.PieceLemmas.{reads_then}
use Rattle.qasm_inline.proofs.ReadingLemmas.{none-between, statement-taken, taken-more}
use Rattle.qasm_inline.proofs.SpellLemmas.{flat-depth, spelled-as, spelled-behind, spelled-nothing, spelled-sign, spelled-then}

begins-name : (gate : Callee) (A : List Lexeme → Type 0) (ts : List Lexeme) → (IsName gate ⋅ A) ts → (place : ℕ) × BeginsAt ts place
begins-name (Declared name) A ts (us, vs, e, (t, k, s, f), a) = (t.place, (t, vs, e ∙ ap (λ u. u ++ vs) f, refl))
begins-name U A ts (us, vs, e, (t, k, f), a) = (t.place, (t, vs, e ∙ ap (λ u. u ++ vs) f, refl))
begins-name Cx A ts (us, vs, e, (t, k, f), a) = (t.place, (t, vs, e ∙ ap (λ u. u ++ vs) f, refl))

operation-begins : (a : Apply) (ts : List Lexeme) → IsQuantumOperation (Applied a) ts → (place : ℕ) × BeginsAt ts place
operation-begins a ts op = begins-name a.gate _ ts op

pub operation-some : (a : Apply) (ts : List Lexeme) → IsQuantumOperation (Applied a) ts → 0 < length ts
operation-some a ts op = let b = operation-begins a ts op in omega (arith, ap length b.1.2)

-- ---- the bytes of an application
abbrev pub plainly : Callee → Operand → List Operand → Apply
plainly gate first more = record { gate = gate; angles = []; qubits = first ∷ more }

no-angles : (text : List ℕ) → IsSpelled (IsAngles []) text text
no-angles text = spelled-as (IsAngles []) (λ ts e. inl e) (spelled-nothing text)

pub spelled-plain : {text start second third last rest : List ℕ} (gate : Callee) (first : Operand) (more : List Operand) → IsSpelled AreNone text start → IsSpelled (IsName gate) start second
    → IsSpelled (IsArgument first) second third → IsSpelled (AreMore more) third last → last ≡ 59 ∷ rest → IsSpelled (IsQuantumOperation (Applied (plainly gate first more))) text rest
spelled-plain {rest = rest} gate first more spaces name argument others ends =
    spelled-behind spaces (spelled-then name (spelled-then (no-angles _) (spelled-then (spelled-then argument others)
    (subst (λ t. IsSpelled (Sign kind.Semicolon) t rest) (sym ends) (spelled-sign 59 rest kind.Semicolon refl refl refl)))))

-- an application that was taken in is read
pub reads-application : (reader later : Reader) (a : Apply) → IsBetween reader → IsBetween later
    → ((program : List Placed) (place : ℕ) → HasTaken reader.circuit program → HasTaken later.circuit (program ++ record { place = place; sentence = Act (Applied a) } ∷ []))
    → ReadsApplication reader a later
reads-application reader later a is then step ts op flat before keeps =
    let b = operation-begins a ts op in
    let s : Placed = record { place = b.0; sentence = Act (Applied a) } in
    let start : IsReadSoFar None before None reader.circuit [] =
    subst (λ f. IsReadSoFar f before None reader.circuit []) is.no_fault
    (subst (λ g. IsReadSoFar reader.fault before g reader.circuit []) is.no_gate
    (subst (λ us. IsReadSoFar reader.fault before reader.gate reader.circuit (lexemes us)) is.no_tokens keeps.kept)) in
    let taken : AreTaken (before ++ ts) None reader.circuit ts = taken-more before [] ts None reader.circuit start in
    let next : AreTaken (before ++ ts) None later.circuit [] =
    statement-taken (before ++ ts) ts [] None reader.circuit later.circuit s refl taken (ts, sym (append-nil ts), b.1, op) (λ program. step program b.0) in
    let end : IsReadSoFar None (before ++ ts) None later.circuit [] = none-between (before ++ ts) [] None later.circuit refl next nothing_begins in
    record {
      deep = subst (λ d. IsDepth d (before ++ ts)) (sym then.shallow) (flat-depth before ts (subst (λ d. IsDepth d before) is.shallow keeps.deep) flat);
      kept = subst (λ us. IsReadSoFar later.fault (before ++ ts) later.gate later.circuit (lexemes us)) (sym then.no_tokens)
          (subst (λ g. IsReadSoFar later.fault (before ++ ts) g later.circuit []) (sym then.no_gate)
          (subst (λ f. IsReadSoFar f (before ++ ts) None later.circuit []) (sym then.no_fault) end));
    }

pub reads-one : (reader later : Reader) (plain : Plain) → IsBetween reader → IsBetween later → plain.second ≡ None
    → ((program : List Placed) (place : ℕ) → HasTaken reader.circuit program → HasTaken later.circuit (program ++ applied_at place (callee plain.gate) (operand plain.first ∷ []) ∷ []))
    → ReadsApplication reader (application_of plain) later
reads-one reader later plain is then alone step =
    reads-application reader later (application_of plain) is then (λ program place taken.
    subst (λ second. HasTaken later.circuit (program ++ applied_at place (callee plain.gate) (operand plain.first ∷ map operand (option_to_list second)) ∷ [])) (sym alone) (step program place taken))

pub reads-two : (reader later : Reader) (plain : Plain) (second : Argument) → IsBetween reader → IsBetween later → plain.second ≡ Some second
    → ((program : List Placed) (place : ℕ) → HasTaken reader.circuit program → HasTaken later.circuit (program ++ applied_at place (callee plain.gate) (operand plain.first ∷ operand second ∷ []) ∷ []))
    → ReadsApplication reader (application_of plain) later
reads-two reader later plain second is then both step =
    reads-application reader later (application_of plain) is then (λ program place taken.
    subst (λ second. HasTaken later.circuit (program ++ applied_at place (callee plain.gate) (operand plain.first ∷ map operand (option_to_list second)) ∷ [])) (sym both) (step program place taken))

-- ---- one after the other

pub read-next : (reader middle later : Reader) (text : List ℕ) (place : ℕ) (rest behind : List ℕ) (from : ℕ) → IsReadTo reader text place rest from middle
    → IsReadPlain middle rest behind later → IsReadTo reader text place behind from later
read-next reader middle later text place rest behind from r p =
    let spelled : IsSpelled (IsQuantumOperation (Applied (application_of p.plain))) rest behind = subst (IsSpelled (IsQuantumOperation (Applied (application_of p.plain))) rest) p.behind p.spelled in
    let at = place + length (drop place text) - length rest in
    let a = spelled from at in
    let there : at + length rest ≡ place + length (drop place text) = omega (arith, ap length r.cut.whole, length-append (concat r.cut.pieces) rest) in
    record {
      tokens = r.tokens ++ a.tokens;
      cut = IsCutUpTo-then place at (drop place text) rest behind r.tokens a.tokens r.cut a.cut there;
      reads = reads_then reader middle later r.tokens a.tokens from r.reads (p.reads (map (moved from) a.tokens) a.are a.flat);
    }

-- the place of the rest
pub read-rest : (reader later : Reader) (text : List ℕ) (place : ℕ) (rest : List ℕ) (from : ℕ) → place ≤ length text → IsReadTo reader text place rest from later
    → (drop (length text - length rest) text ≡ rest) × (place ≤ length text - length rest) × (length rest ≤ length text)
read-rest reader later text place rest from within r =
    let front = take place text ++ concat r.cut.pieces in
    let whole : text ≡ front ++ rest =
    sym (take-append-drop place text) ∙ ap (λ l. take place text ++ l) r.cut.whole ∙ sym (append_assoc (take place text) (concat r.cut.pieces) rest) in
    let count : length text - length rest ≡ length front = omega (arith, ap length whole, length-append front rest) in (
      ap (λ n. drop n text) count ∙ ap (drop (length front)) whole ∙ drop_behind front rest,
      omega (arith, within, ap length r.cut.whole, length-append (concat r.cut.pieces) rest, length-drop place text),
      omega (arith, ap length whole, length-append front rest),
    )

pub read-further : (reader middle later : Reader) (text : List ℕ) (before : List Lexeme) (place : ℕ) (rest : List ℕ) (from : ℕ) → place ≤ length text
    → IsCutUpTo 0 text (drop place text) before → ReadsOn reader (map (moved from) before) middle → IsReadTo middle text place rest from later
    → (tokens : List Lexeme) × IsCutUpTo 0 text rest tokens × ReadsOn reader (map (moved from) tokens) later
read-further reader middle later text before place rest from within c reads r = (
  before ++ r.tokens,
  IsCutUpTo-then 0 place text (drop place text) rest before r.tokens c r.cut (omega (arith, length-drop place text, within)),
  reads_then reader middle later before r.tokens from reads r.reads,
)
