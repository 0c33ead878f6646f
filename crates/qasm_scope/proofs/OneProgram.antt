-- A text is one program at most.
use Rattle.std.proofs.Common.{◌≡◌, ℕ, List, [], ◌∷◌, map, refl, sym, ap, ◌∙◌, subst}
use Rattle.qasm_lexer.proofs.Cuts.{same_tokens}
use Rattle.qasm_reader.specs.Grammar.{IsProgram}
use Rattle.qasm_reader.specs.Syntax.{GateForm, DeclareGate, Placed}
use Rattle.qasm_reader.proofs.Programs.{one_program}
use Rattle.qasm_scope.specs.ProgramTexts.{GatesOf, IsProgramText}

pub same_program : (text : List ℕ) (a b : List Placed) → IsProgramText text a → IsProgramText text b → a ≡ b
same_program text a b p q =
    one_program q.tokens a b (subst (λ ts. IsProgram ts a) (same_tokens text 0 p.tokens q.tokens p.cut q.cut) p.grammar) q.grammar

same_forms : (a b : List GateForm) → map DeclareGate a ≡ map DeclareGate b → a ≡ b
same_forms [] [] e = refl
same_forms (x ∷ a) (y ∷ b) e =
    let head : x ≡ y = cc in
    let tail : map DeclareGate a ≡ map DeclareGate b = cc in
    ap (λ (form : GateForm). form ∷ a) head ∙ ap (λ (forms : List GateForm). y ∷ forms) (same_forms a b tail)
same_forms _ _ e = absurd cc

pub same_gates : (text : List ℕ) (a b : GatesOf text) → a.gates ≡ b.gates
same_gates text a b =
    same_forms a.gates b.gates
    (sym a.declares ∙ ap (λ (program : List Placed). map (λ s. s.sentence) program) (same_program text a.program b.program a.is b.is) ∙ b.declares)
