-- A text has one first fault as a graph file with a flow, or is one file, and its table is a flow or isn't.
use Rattle.std.proofs.Common.{◌≡◌, ℕ, List, inl, inr, refl, sym, ◌∙◌, ap, subst, arith, Option, Some}
use Rattle.zx_calculus.specs.Graph.{Graph}
use Rattle.gflow_laws.specs.Flow.{Correction, IsFlow}
use Rattle.zx_text.proofs.StopLemmas.{no_file, one_bad_line, one_file}
use Rattle.zx_run.specs.declared.status.Fault.{Fault}
use Rattle.zx_run.specs.declared.status.Fault.TheVariants.{BadLine}
use Rattle.zx_run.specs.FlowFiles.{IsFirstFileFault, IsFileOf, IsFlowFile, HoldsNoFlow, IsNoText}

pub one_file_fault : (text : List ℕ) (f g : Fault) → IsFirstFileFault text f → IsFirstFileFault text g → f ≡ g
one_file_fault text f g (inl a) (inl b) = a.1 ∙ sym b.1
one_file_fault text f g (inl a) (inr b) = let long = a.0 in let short = b.0 in absurd (omega (arith, long, short))
one_file_fault text f g (inr a) (inl b) = let long = b.0 in let short = a.0 in absurd (omega (arith, long, short))
one_file_fault text f g (inr (short, (line, bad, is))) (inr (also, (other, worse, such))) =
    is ∙ ap BadLine (one_bad_line bad worse) ∙ sym such

pub file_or_fault : (text : List ℕ) (f : Fault) → IsFirstFileFault text f → IsFlowFile text → ⊥
file_or_fault text f (inl a) (graph, table, file) = let long = a.0 in let short = file.short in absurd (omega (arith, long, short))
file_or_fault text f (inr (short, (line, bad, is))) (graph, table, file) = no_file bad graph (Some table) file.spells refl

-- the flow of a file is that of its one graph
other_flow : (text : List ℕ) (graph other : Graph) (table such : List Correction) → IsFileOf text graph table → IsFileOf text other such
    → IsFlow other such → IsFlow graph table
other_flow text graph other table such file also flow =
    let same = one_file also.spells file.spells file.short in
    let table_same : such ≡ table = let e : ◌≡◌ {A = Option (List Correction)} (Some such) (Some table) = same.1 in cc in
    subst (λ g. IsFlow g table) same.0 (subst (IsFlow other) table_same flow)

pub holds_no_flow : (text bytes : List ℕ) → IsNoText text bytes → HoldsNoFlow text
holds_no_flow text bytes is = (
  (is.graph, is.table, is.file),
  λ has. is.no_flow (other_flow text is.graph has.0 is.table has.1 is.file has.2 has.3),
)
