-- One qubit or two.
use Rattle.std.proofs.lemmas.Result.{IfOk-weaker}
use Rattle.qasm_inline.proofs.PlainLemmas.{reads-one, reads-two}
use Rattle.qasm_inline.proofs.reading.Reader.take_plain.Goals as goal

pub returns-in-None-clause-taken : goal.returns-in-None-clause-taken
returns-in-None-clause-taken c = IfOk-weaker c.take_plain.result _ _ (λ taken h done.
    reads-one c.args.self.now _ c.args.plain.now c.requires (record { no_gate = c.requires.no_gate; no_tokens = c.requires.no_tokens; no_fault = c.requires.no_fault; shallow = c.requires.shallow }) c.in-None.is (h done)) c.take_plain.ensures.taken

pub returns-in-Some-clause-taken : goal.returns-in-Some-clause-taken
returns-in-Some-clause-taken c = IfOk-weaker c.take_plain-in-Some.result _ _ (λ taken h done.
    reads-two c.args.self.now _ c.args.plain.now c.in-Some.second c.requires (record { no_gate = c.requires.no_gate; no_tokens = c.requires.no_tokens; no_fault = c.requires.no_fault; shallow = c.requires.shallow }) c.in-Some.is (h done)) c.take_plain-in-Some.ensures.taken
