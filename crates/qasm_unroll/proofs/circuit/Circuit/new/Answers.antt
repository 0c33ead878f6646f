use Rattle.std.proofs.Common.{refl}
use Rattle.qasm_unroll.proofs.circuit.Circuit.new.Goals as goal

pub returns : goal.returns
returns c = (
  record {
    none = refl;
    represents = c.new.ensures;
    no_calls = c.new-3.ensures.calls;
    no_gates = c.new-3.ensures.gates;
    no_known = c.new-3.ensures.known;
    remembers = c.new-2.ensures.remembers;
    no_measures = c.new-2.ensures.none;
  },
  c.new-4.ensures c.new.result.symbols,
)
