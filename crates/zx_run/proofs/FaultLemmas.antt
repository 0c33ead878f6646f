-- A text is accepted or has a first fault, never both, and one first fault at most.
use Rattle.std.proofs.lemmas.Bool.{cases_lt}
use Rattle.std.proofs.Common.{◌≡◌, ◌≤◌, ◌⊎◌, ℕ, List, [], length, inl, inr, sym, ap, ap₂, ◌∙◌, subst, arith, Option, None, Some, refl}
use Rattle.zx_gates.specs.declared.elementary.Elementary.{Elementary}
use Rattle.zx_gates.specs.declared.elementary.ElementaryGate.{ElementaryGate}
use Rattle.zx_gates.specs.declared.elementary.Measure.{Measure}
use Rattle.qasm_lexer.specs.Tokens.{Lexeme, IsCut, IsBadByte}
use Rattle.qasm_lexer.proofs.Cuts.{same_tokens, same_byte, not_both}
use Rattle.qasm_lexer.proofs.Scan as scan
use Rattle.qasm_reader.specs.Depth.{too_deep}
use Rattle.qasm_reader.specs.Grammar.{IsProgram, IsSyntaxFault}
use Rattle.qasm_reader.specs.Syntax.{Placed}
use Rattle.qasm_reader.proofs.Programs.{one_program, one_fault, program_no_fault, program_or_fault}
use Rattle.qasm_scope.specs.declared.causes.Cause.{Cause}
use Rattle.qasm_scope.specs.Meaning.{first_fault, most_calls, scope_after, gates_after, measures_after}
use Rattle.qasm_scope.specs.Scope.{bit_count, qubit_count}
use Rattle.qasm_scope.specs.Texts.{IsProgramText}
use Rattle.zx_run.specs.declared.status.Fault.{Fault}
use Rattle.zx_run.specs.declared.status.Fault.TheVariants.{TooLong, BadByte, TooDeep, Syntax}
use Rattle.zx_run.specs.FirstFault.{most_bytes, IsFirstFault, IsShortFault, IsAccepted, IsFaultless, MeansCircuit, HasDeepParenthesis, HasSyntaxFault, HasWrongStatement, fault_of}

-- the tokens of a text can't be too deep and not
deep_or_shallow : (text : List ℕ) (ts us : List Lexeme) (at : ℕ) → IsCut 0 text ts → IsCut 0 text us → too_deep ts ≡ Some at → too_deep us ≡ None → ⊥
deep_or_shallow text ts us at a b deep shallow =
    absurd (let h : ◌≡◌ {A = Option ℕ} (Some at) None = sym deep ∙ ap too_deep (same_tokens text 0 ts us a b) ∙ shallow in cc)

bad_or_deep : (text : List ℕ) (m n : ℕ) → IsBadByte text m → HasDeepParenthesis text n → ⊥
bad_or_deep text m n bad d = not_both text d.0 m d.1 bad

bad_or_syntax : (text : List ℕ) (m n : ℕ) → IsBadByte text m → HasSyntaxFault text n → ⊥
bad_or_syntax text m n bad s = not_both text s.0 m s.1 bad

bad_or_program : (text : List ℕ) (m : ℕ) (program : List Placed) → IsBadByte text m → IsProgramText text program → ⊥
bad_or_program text m program bad p = not_both text p.tokens m p.cut bad

deep_or_syntax : (text : List ℕ) (m n : ℕ) → HasDeepParenthesis text m → HasSyntaxFault text n → ⊥
deep_or_syntax text m n d s = deep_or_shallow text d.0 s.0 m d.1 s.1 d.2 s.2

deep_or_program : (text : List ℕ) (m : ℕ) (program : List Placed) → HasDeepParenthesis text m → IsProgramText text program → ⊥
deep_or_program text m program d p = deep_or_shallow text d.0 p.tokens m d.1 p.cut d.2 p.shallow

syntax_or_program : (text : List ℕ) (m : ℕ) (program : List Placed) → HasSyntaxFault text m → IsProgramText text program → ⊥
syntax_or_program text m program s p =
    program_no_fault p.tokens program m p.grammar (subst (λ ts. IsSyntaxFault ts m) (same_tokens text 0 s.0 p.tokens s.1 p.cut) s.3)

same_program : (text : List ℕ) (a b : List Placed) → IsProgramText text a → IsProgramText text b → a ≡ b
same_program text a b p q =
    one_program q.tokens a b (subst (λ ts. IsProgram ts a) (same_tokens text 0 p.tokens q.tokens p.cut q.cut) p.grammar) q.grammar

same_deep : (text : List ℕ) (m n : ℕ) → HasDeepParenthesis text m → HasDeepParenthesis text n → m ≡ n
same_deep text m n d e =
    let h : ◌≡◌ {A = Option ℕ} (Some m) (Some n) = sym d.2 ∙ ap too_deep (same_tokens text 0 d.0 e.0 d.1 e.1) ∙ e.2 in cc

same_syntax : (text : List ℕ) (m n : ℕ) → HasSyntaxFault text m → HasSyntaxFault text n → m ≡ n
same_syntax text m n s r =
    one_fault r.0 m n (subst (λ ts. IsSyntaxFault ts m) (same_tokens text 0 s.0 r.0 s.1 r.1) s.3) r.3

same_wrong : (text : List ℕ) (c d : Cause) (m n : ℕ) → HasWrongStatement text c m → HasWrongStatement text d n → fault_of c m ≡ fault_of d n
same_wrong text c d m n w v =
    let h : ◌≡◌ {A = Option (Cause × ℕ)} (Some (c, m)) (Some (d, n)) =
    sym w.2 ∙ ap (first_fault most_calls) (same_program text w.0 v.0 w.1 v.1) ∙ v.2 in
    let pair : ◌≡◌ {A = Cause × ℕ} (c, m) (d, n) = cc in ap (λ p. fault_of p.0 p.1) pair

one_short : (text : List ℕ) (f g : Fault) → IsShortFault text f → IsShortFault text g → f ≡ g
one_short text f g (inl a) (inl b) = a.2 ∙ ap BadByte (same_byte text a.0 b.0 a.1 b.1) ∙ sym b.2
one_short text f g (inl a) (inr (inl b)) = absurd (bad_or_deep text a.0 b.0 a.1 b.1)
one_short text f g (inl a) (inr (inr (inl b))) = absurd (bad_or_syntax text a.0 b.0 a.1 b.1)
one_short text f g (inl a) (inr (inr (inr b))) = absurd (bad_or_program text a.0 b.2.0 a.1 b.2.1)
one_short text f g (inr (inl a)) (inl b) = absurd (bad_or_deep text b.0 a.0 b.1 a.1)
one_short text f g (inr (inl a)) (inr (inl b)) = a.2 ∙ ap TooDeep (same_deep text a.0 b.0 a.1 b.1) ∙ sym b.2
one_short text f g (inr (inl a)) (inr (inr (inl b))) = absurd (deep_or_syntax text a.0 b.0 a.1 b.1)
one_short text f g (inr (inl a)) (inr (inr (inr b))) = absurd (deep_or_program text a.0 b.2.0 a.1 b.2.1)
one_short text f g (inr (inr (inl a))) (inl b) = absurd (bad_or_syntax text b.0 a.0 b.1 a.1)
one_short text f g (inr (inr (inl a))) (inr (inl b)) = absurd (deep_or_syntax text b.0 a.0 b.1 a.1)
one_short text f g (inr (inr (inl a))) (inr (inr (inl b))) = a.2 ∙ ap Syntax (same_syntax text a.0 b.0 a.1 b.1) ∙ sym b.2
one_short text f g (inr (inr (inl a))) (inr (inr (inr b))) = absurd (syntax_or_program text a.0 b.2.0 a.1 b.2.1)
one_short text f g (inr (inr (inr a))) (inl b) = absurd (bad_or_program text b.0 a.2.0 b.1 a.2.1)
one_short text f g (inr (inr (inr a))) (inr (inl b)) = absurd (deep_or_program text b.0 a.2.0 b.1 a.2.1)
one_short text f g (inr (inr (inr a))) (inr (inr (inl b))) = absurd (syntax_or_program text b.0 a.2.0 b.1 a.2.1)
one_short text f g (inr (inr (inr a))) (inr (inr (inr b))) = a.3 ∙ same_wrong text a.0 b.0 a.1 b.1 a.2 b.2 ∙ sym b.3

pub one_first_fault : (text : List ℕ) (f g : Fault) → IsFirstFault text f → IsFirstFault text g → f ≡ g
one_first_fault text f g (inl a) (inl b) = a.1 ∙ sym b.1
one_first_fault text f g (inl a) (inr b) = let long = a.0 in let short = b.0 in absurd (omega (arith, long, short))
one_first_fault text f g (inr a) (inl b) = let long = b.0 in let short = a.0 in absurd (omega (arith, long, short))
one_first_fault text f g (inr a) (inr b) = one_short text f g a.1 b.1

short_not_accepted : (text : List ℕ) (f : Fault) (circuit : Elementary) → IsShortFault text f → IsAccepted text circuit → ⊥
short_not_accepted text f circuit (inl a) k = bad_or_program text a.0 k.program a.1 k.is
short_not_accepted text f circuit (inr (inl a)) k = deep_or_program text a.0 k.program a.1 k.is
short_not_accepted text f circuit (inr (inr (inl a))) k = syntax_or_program text a.0 k.program a.1 k.is
short_not_accepted text f circuit (inr (inr (inr a))) k =
    absurd (let h : ◌≡◌ {A = Option (Cause × ℕ)} (Some (a.0, a.1)) None =
    sym a.2.2 ∙ ap (first_fault most_calls) (same_program text a.2.0 k.program a.2.1 k.is) ∙ k.faultless in cc)

not_accepted : (text : List ℕ) (f : Fault) (circuit : Elementary) → IsFirstFault text f → IsAccepted text circuit → ⊥
not_accepted text f circuit (inl a) k = let long = a.0 in let short = k.short in absurd (omega (arith, long, short))
not_accepted text f circuit (inr a) k = short_not_accepted text f circuit a.1 k

pub not_faultless : (text : List ℕ) (f : Fault) → IsFirstFault text f → IsFaultless text → ⊥
not_faultless text f first (circuit, accepted) = not_accepted text f circuit first accepted

-- the circuit of a program
abbrev circuit_with : ℕ → List ElementaryGate → ℕ → List Measure → Elementary
circuit_with qubits gates bits measured = record { qubits = qubits; gates = gates; bits = bits; measured = measured }

abbrev circuit_of : List Placed → Elementary
circuit_of program =
    circuit_with (qubit_count (scope_after [] program)) (gates_after [] program) (bit_count (scope_after [] program)) (measures_after [] program)

meant : (text : List ℕ) (circuit : Elementary) (k : MeansCircuit text circuit) → circuit ≡ circuit_of k.program
meant text circuit k =
    ap₂ (λ qubits gates. circuit_with qubits gates circuit.bits circuit.measured) k.means.as_many_qubits k.means.same_gates
    ∙ ap₂ (λ bits measured. circuit_with (qubit_count (scope_after [] k.program)) (gates_after [] k.program) bits measured)
    k.means.as_many_bits k.means.same_measures

-- a text means one circuit at most, however many calls it makes
pub one_meaning : (text : List ℕ) (this that : Elementary) → MeansCircuit text this → MeansCircuit text that → this ≡ that
one_meaning text this that k l =
    meant text this k ∙ ap circuit_of (same_program text k.program l.program k.is l.is) ∙ sym (meant text that l)

-- a text that is accepted means its circuit
accepted_means : (text : List ℕ) (circuit : Elementary) → IsAccepted text circuit → MeansCircuit text circuit
accepted_means text circuit k = record { program = k.program; is = k.is; means = k.means }

pub one_circuit : (text : List ℕ) (this that : Elementary) → IsAccepted text this → IsAccepted text that → this ≡ that
one_circuit text this that k l = one_meaning text this that (accepted_means text this k) (accepted_means text that l)

-- ---- each text is one of both
abbrev pub IsDecided : List ℕ → Type 0
IsDecided text = IsFaultless text ⊎ ((fault : Fault) × IsFirstFault text fault)

program_decided : (text : List ℕ) (program : List Placed) (o : Option (Cause × ℕ)) → first_fault most_calls program ≡ o → length text ≤ most_bytes → IsProgramText text program → IsDecided text
program_decided text program None e short is =
    inl (
      circuit_of program,
      record {
        short = short;
        program = program;
        is = is;
        faultless = e;
        means = record { most = most_calls; faultless = e; as_many_qubits = refl; same_gates = refl; as_many_bits = refl; same_measures = refl };
      },
    )
program_decided text program (Some (cause, at)) e short is =
    inr (fault_of cause at, inr (short, inr (inr (inr (cause, at, (program, is, e), refl)))))

tokens_decided : (text : List ℕ) (tokens : List Lexeme) (o : Option ℕ) → too_deep tokens ≡ o → length text ≤ most_bytes → IsCut 0 text tokens → IsDecided text
tokens_decided text tokens (Some at) e short cut = inr (TooDeep at, inr (short, inr (inl (at, (tokens, cut, e), refl))))
tokens_decided text tokens None e short cut = elim (program_or_fault tokens) [
  | inl p ↦ program_decided text p.0 (first_fault most_calls p.0) refl short (record { tokens = tokens; cut = cut; shallow = e; grammar = p.1 })
  | inr f ↦ inr (Syntax f.0, inr (short, inr (inr (inl (f.0, (tokens, cut, e, f.1), refl)))))
]

short_decided : (text : List ℕ) → length text ≤ most_bytes → IsDecided text
short_decided text short = elim (scan.either text) [
  | inl c ↦ tokens_decided text c.0 (too_deep c.0) refl short c.1
  | inr b ↦ inr (BadByte b.0, inr (short, inl (b.0, b.1, refl)))
]

pub accepted_or_fault : (text : List ℕ) → IsDecided text
accepted_or_fault text = elim (cases_lt most_bytes (length text)) [
  | inl long ↦ inr (TooLong, inl (long, refl))
  | inr short ↦ short_decided text short
]
