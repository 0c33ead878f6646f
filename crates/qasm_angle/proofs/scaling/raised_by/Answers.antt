use Rattle.std.proofs.Common.{inl, inr}
use Rattle.qasm_angle.proofs.DecimalLemmas.{none-raised}
use Rattle.qasm_angle.proofs.scaling.raised_by.Goals as goal

pub returns-then-leading-gt-LARGEST : goal.returns-then-leading-gt-LARGEST
returns-then-leading-gt-LARGEST c = none-raised c.args.leading c.args.tens c.requires (elim c.then-leading-gt-LARGEST.either [ inl p ↦ inl p | inr p ↦ inr p.1 ])
