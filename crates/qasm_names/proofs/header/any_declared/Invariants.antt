use Rattle.std.proofs.Common.{◌≡◌, drop, map}
use Rattle.std.specs.List.{list_any}
use Rattle.std.specs.Option.{is_some}
use Rattle.qasm_names.specs.Kept.{found}
use Rattle.qasm_names.proofs.header.any_declared.Given as goal

abbrev pub invariant-loop-gate : goal.invariant-loop-gate
invariant-loop-gate l =
    list_any (λ name. is_some (found name l.names.symbols)) (map (λ gate. gate.name.now) l.gates)
    ≡ list_any (λ name. is_some (found name l.names.symbols)) (map (λ gate. gate.name.now) (drop l.gate-index l.gates))
