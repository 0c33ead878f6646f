use Rattle.std.proofs.Common.{sym, ◌∙◌, ap}
use Rattle.qasm_angle.specs.Trees.{tree_of, tree_of-postfix}
use Rattle.qasm_angle.proofs.laws.steps_of_trees.Goals as goal

pub returns-clause-back : goal.returns-clause-back
returns-clause-back c t = tree_of-postfix t

pub returns-clause-one_tree : goal.returns-clause-one_tree
returns-clause-one_tree c t u e = sym (tree_of-postfix t) ∙ ap tree_of e ∙ tree_of-postfix u
