-- Each draw gives one gate.
use Rattle.zx_gen.specs.Generator.{seeded}
use Rattle.zx_gen.proofs.DrawLemmas.{length-next_gates}
use Rattle.zx_gen.proofs.laws.circuits_have_as_many_gates_as_asked.Goals as goal

pub returns : goal.returns
returns c = λ seed n count. length-next_gates n count (seeded seed)
