-- The laws, by their lemmas.
use Rattle.gflow_laws.proofs.Corrects.{absorb, odd-xor, Corrects-alike}
use Rattle.gflow_laws.proofs.Complements.{Corrects-taken}
use Rattle.gflow_laws.proofs.Flows.{Flows-from, IsFlowOf-from}
use Rattle.gflow_laws.proofs.laws.sets_correct_their_vertices.Goals as goal

pub returns : goal.returns
returns c = record {
  as_functions = λ s table. (Flows-from s table, IsFlowOf-from s table);
  linear = odd-xor;
  absorption = absorb;
  complement = Corrects-taken;
  transport = Corrects-alike;
}
