-- What fails is the reading of the bytes, or what they say.
use Rattle.std.proofs.Common.{inl}
use Rattle.zx_run.specs.TwoTexts.{IsFirstFaultOfTwo}
use Rattle.zx_run.proofs.RefusalLemmas.{bytes_failed, text_refused}
use Rattle.zx_run.proofs.two_reader.read_two_circuits.Goals as goal

pub returns-in_err-bytes-clause-read : goal.returns-in_err-bytes-clause-read
returns-in_err-bytes-clause-read g c = bytes_failed IsFirstFaultOfTwo (λ text fault why. inl why) _ _ _ _ c.from_residual.ensures.1 c.in_err-bytes.ensures.failure

pub returns-clause-read : goal.returns-clause-read
returns-clause-read g c =
    let read = c.in_ok-bytes.ensures in text_refused IsFirstFaultOfTwo c.in_ok-bytes.bytes.items c.deref.result.now _ _ _ c.deref.ensures.value read.short read.reads_well read.text read.end c.two_circuits.ensures.refusal
