-- What fails is the reading of the bytes, or what they say.
use Rattle.std.proofs.Common.{inl}
use Rattle.zx_run.specs.DiagramFiles.{IsFirstDiagramFault}
use Rattle.zx_run.proofs.RefusalLemmas.{bytes_failed, text_refused}
use Rattle.zx_run.proofs.diagram_reader.read_diagram_file.Goals as goal

pub returns-in_err-bytes-clause-read : goal.returns-in_err-bytes-clause-read
returns-in_err-bytes-clause-read g c = bytes_failed IsFirstDiagramFault (λ text fault why. inl why) _ _ _ _ c.from_residual.ensures.1 c.in_err-bytes.ensures.failure

pub returns-clause-read : goal.returns-clause-read
returns-clause-read g c =
    let read = c.in_ok-bytes.ensures in text_refused IsFirstDiagramFault c.in_ok-bytes.bytes.items c.deref.result.now _ _ _ c.deref.ensures.value read.short read.reads_well read.text read.end c.diagram_of.ensures.refusal
