-- The row that is taken.
use Rattle.std.proofs.lemmas.Result.{on_ok_weaker}
use Rattle.zx_calculus.specs.Graph.{plain}
use Rattle.circuit_laws.proofs.Places.{member-places}
use Rattle.zx_extract.specs.Internal.Frontiers.{remainder_of}
use Rattle.zx_extract.proofs.BesideRow.{row_replaced}
use Rattle.zx_extract.proofs.frontier.Frontier.replace_row.Goals as goal

pub replace_row-requires-clause-u_output : goal.replace_row-requires-clause-u_output
replace_row-requires-clause-u_output c = member-places c.args.self.now.graph.graph.outputs c.args.t (plain c.present-link.result)
    c.present-link.ensures

pub returns : goal.returns
returns c = on_ok_weaker c.replace_row.result
    (row_replaced (remainder_of c.args.self.now) c.args.v c.args.t c.present-link.result c.replace_row.new.self.graph c.present-link.ensures)
    c.replace_row.ensures
