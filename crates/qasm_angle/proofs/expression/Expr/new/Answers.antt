use Rattle.std.proofs.Common.{sym, ◌∙◌, ap}
use Rattle.qasm_angle.specs.Trees.{postfix, tree_of-steps}
use Rattle.qasm_angle.proofs.expression.Expr.new.Goals as goal

pub invariant_of-result : goal.invariant_of-result
invariant_of-result c = record {
  tree = ap postfix (tree_of-steps c.args.steps.items c.requires.0 c.requires.1) ∙ sym c.requires.1;
  for_all = λ angle e. absurd (cc);
}

pub returns-clause-tree : goal.returns-clause-tree
returns-clause-tree c t e = tree_of-steps c.args.steps.items t e

pub returns-clause-steps : goal.returns-clause-steps
returns-clause-steps c = ap postfix (tree_of-steps c.args.steps.items c.requires.0 c.requires.1) ∙ sym c.requires.1
