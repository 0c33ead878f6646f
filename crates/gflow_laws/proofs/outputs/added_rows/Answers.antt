-- The laws, by their lemmas.
use Rattle.gflow_laws.proofs.OutputLaws.{Flows-row_added, Simple-row_added, row_added_flow, is_in-row_added}
use Rattle.gflow_laws.proofs.outputs.added_rows.Goals as goal

pub returns : goal.returns
returns c = record {
  flow = Flows-row_added;
  simple = Simple-row_added;
  members = is_in-row_added;
  graph = row_added_flow;
}
