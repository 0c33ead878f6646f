use Rattle.std.proofs.Common.{map, sym, ◌∙◌}
use Rattle.qasm_scope.specs.Applications.{register_sizes}
use Rattle.qasm_unroll.specs.Internal.Spans.{span_range}
use Rattle.qasm_unroll.proofs.SizeLemmas.{other-some, other-none}
use Rattle.qasm_unroll.proofs.applications.has_other_sizes.Goals as goal

pub returns-in-Some : goal.returns-in-Some
returns-in-Some c = c.any_other_size.ensures ∙ other-some (register_sizes (map span_range c.args.spans.now)) c.in-Some.size (sym c.first_size.ensures ∙ c.in-Some.is)

pub returns-in-None : goal.returns-in-None
returns-in-None c = other-none (register_sizes (map span_range c.args.spans.now)) (sym c.first_size.ensures ∙ c.in-None.is)
