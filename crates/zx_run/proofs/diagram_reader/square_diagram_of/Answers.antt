-- A file is refused for what it spells, or for its diagram's inputs and outputs.
use Rattle.std.proofs.Common.{IfErr, inl, sym, subst}
use Rattle.std.proofs.lemmas.Result.{err_from_is_err_and}
use Rattle.zx_run.specs.declared.status.Status.{Status}
use Rattle.zx_run.specs.DiagramFiles.{IsFirstDiagramFault, IsFirstSquareFault}
use Rattle.zx_run.specs.Internal.Refusals.{IsRefusalFor}
use Rattle.zx_run.proofs.RefusalLemmas.{refused_by}
use Rattle.zx_run.proofs.diagram_reader.square_diagram_of.Goals as goal

pub returns-in_err-diagram-clause-refusal : goal.returns-in_err-diagram-clause-refusal
returns-in_err-diagram-clause-refusal c =
    let bytes = c.args.bytes.now in
    let why : Status → Type 0 = IsRefusalFor (IsFirstSquareFault bytes) in
    let p = err_from_is_err_and c.from_residual.result c.from_residual.ensures.1 in
    subst (λ r. IfErr r why) (sym p.1)
    (subst why (sym p.2)
    (refused_by (IsFirstDiagramFault bytes) (IsFirstSquareFault bytes) (λ fault first. inl first) _ c.in_err-diagram.ensures.refusal))
