use Rattle.std.proofs.Common.{lit≤}
use Rattle.qasm_reader.proofs.Depths.{some_deep, deep_some, none_shallow, shallow_is_none}
use Rattle.qasm_reader.proofs.laws.depth_by_prefixes.Goals as goal

pub returns-clause-deep : goal.returns-clause-deep
returns-clause-deep c = λ ts at. (λ e. some_deep ts 0 at (lit≤ tt) e, λ d. deep_some d.0 d.1 d.2 ts 0 at d.3 d.5 d.6 d.7)

pub returns-clause-shallow : goal.returns-clause-shallow
returns-clause-shallow c = λ ts. (λ e. none_shallow ts 0 (lit≤ tt) e, λ s. shallow_is_none ts 0 s)
