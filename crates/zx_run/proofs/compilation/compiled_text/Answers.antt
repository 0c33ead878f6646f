-- What is written of a circuit is its text.
use Rattle.std.proofs.Common.{◌∙◌, ap, subst, sym}
use Rattle.zx_gates.specs.Circuit.{IsCircuit}
use Rattle.zx_run.specs.Internal.Verdicts.{IsCompilation}
use Rattle.zx_run.proofs.CompiledLemmas.{IsCompiledText-made, none_behind}
use Rattle.zx_run.proofs.compilation.compiled_text.Goals as goal

pub write_text-requires : goal.write_text-requires
write_text-requires c = record { behind = none_behind c.in-Circuit.circuit }

pub returns-in_ok-bytes-in-Circuit : goal.returns-in_ok-bytes-in-Circuit
returns-in_ok-bytes-in-Circuit c = λ text file.
    let made = c.in_ok-circuit.ensures in
    let bytes = c.done.result.bytes.items in
    subst (IsCompilation text bytes) (sym c.done.ensures.done)
    (IsCompiledText-made text bytes c.args.diagram c.in_ok-circuit.field-0 c.in-Circuit.circuit c.in-Circuit.is file c.requires.square
    (ap (λ v. v.items) c.done.ensures.bytes ∙ c.in_ok-bytes-in-Circuit.ensures.text)
    (subst IsCircuit c.circuit.view_is c.circuit.invariant.circuit)
    made.flow made.qubits made.map made.odd made.few_gates made.tidy made.reduced)
