-- What the answer is where no diagram was read, and that a text has one first fault as a diagram file.
use Rattle.std.proofs.Common.{◌≡◌, ◌<◌, ◌≤◌, ℕ, List, length, inl, inr, refl, sym, ap, ◌∙◌, subst, arith}
use Rattle.zx_text.specs.declared.error.TextError.{TextError}
use Rattle.zx_text.specs.declared.error.TextError.TheVariants as file
use Rattle.zx_diagram.specs.Diagram.{Diagram}
use Rattle.diagram_text.specs.Reading.{IsBadLine}
use Rattle.diagram_text.proofs.StopLemmas as stop
use Rattle.zx_run.specs.declared.status.Fault.{Fault}
use Rattle.zx_run.specs.declared.status.Fault.TheVariants.{BadLine}
use Rattle.zx_run.specs.declared.status.Status.{Status}
use Rattle.zx_run.specs.DiagramFiles.{IsDiagramFile, IsFirstDiagramFault, IsFirstSquareFault, IsSquare}
use Rattle.zx_run.specs.Internal.ErrorAnswers.{answer_to_file_error}
use Rattle.zx_run.specs.FirstFault.{most_bytes}
use Rattle.zx_run.specs.Internal.Refusals.{IsRefusalFor}

-- the reader's error tells why there is no diagram
module _ (bytes : List ℕ) (short : length bytes ≤ most_bytes) (error : TextError)
    (bad_line : (line : ℕ) → error ≡ file.BadLine line → (length bytes ≤ most_bytes) × IsBadLine bytes line)
    (too_long : error ≡ file.TooLong → most_bytes < length bytes) where
  refused : (e : TextError) → error ≡ e → IsRefusalFor (IsFirstDiagramFault bytes) (answer_to_file_error e)
  refused (file.BadLine line) is = inr (short, (line, (bad_line line is).1, refl))
  refused file.TooLong is = let long = too_long is in absurd (omega (arith, long, short))
  refused file.NoMemory is = tt

  pub file_refused : (status : Status) → status ≡ answer_to_file_error error → IsRefusalFor (IsFirstDiagramFault bytes) status
  file_refused status is = subst (IsRefusalFor (IsFirstDiagramFault bytes)) (sym is) (refused error refl)

-- ---- the laws: a text has one first fault, and none where it is a file
pub one_diagram : (text : List ℕ) (d e : Diagram) → IsDiagramFile text d → IsDiagramFile text e → d ≡ e
one_diagram text d e a b = stop.one_diagram a.spells b.spells a.short

pub one_diagram_fault : (text : List ℕ) (this that : Fault) → IsFirstDiagramFault text this → IsFirstDiagramFault text that → this ≡ that
one_diagram_fault text this that (inl a) (inl b) = a.1 ∙ sym b.1
one_diagram_fault text this that (inl a) (inr b) = let long = a.0 in let short = b.0 in absurd (omega (arith, long, short))
one_diagram_fault text this that (inr a) (inl b) = let long = b.0 in let short = a.0 in absurd (omega (arith, long, short))
one_diagram_fault text this that (inr a) (inr b) = a.1.2 ∙ ap BadLine (stop.one_bad_line a.1.1 b.1.1) ∙ sym b.1.2

pub no_diagram_fault : (text : List ℕ) (fault : Fault) (d : Diagram) → IsFirstDiagramFault text fault → IsDiagramFile text d → ⊥
no_diagram_fault text fault d (inl a) file = let long = a.0 in let short = file.short in absurd (omega (arith, long, short))
no_diagram_fault text fault d (inr a) file = stop.no_file a.1.1 d file.spells

pub one_square_fault : (text : List ℕ) (this that : Fault) → IsFirstSquareFault text this → IsFirstSquareFault text that → this ≡ that
one_square_fault text this that (inl a) (inl b) = one_diagram_fault text this that a b
one_square_fault text this that (inl a) (inr b) = absurd (no_diagram_fault text this b.0 a b.1)
one_square_fault text this that (inr a) (inl b) = absurd (no_diagram_fault text that a.0 b a.1)
one_square_fault text this that (inr a) (inr b) = a.3 ∙ sym b.3

pub no_square_fault : (text : List ℕ) (fault : Fault) (d : Diagram) → IsFirstSquareFault text fault → IsDiagramFile text d → IsSquare d → ⊥
no_square_fault text fault d (inl a) file square = no_diagram_fault text fault d a file
no_square_fault text fault d (inr a) file square = a.2 (subst IsSquare (one_diagram text d a.0 file a.1) square)
