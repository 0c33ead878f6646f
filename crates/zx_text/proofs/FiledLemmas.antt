-- What is written is a file.
use Rattle.std.proofs.Common.{◌≡◌, ℕ, ◌≤◌, true, false, not, ◌&&◌, ltb, List, length, Option, None, Some, IfSome}
use Rattle.std.specs.List.{list_all}
use Rattle.zx_model.specs.Bits.{member}
use Rattle.zx_calculus.specs.Graph.{Graph, WellFormed, ids, end_vertices, in_order}
use Rattle.zx_calculus.proofs.Ids.{and-left, and-right, not-true}
use Rattle.zx_calculus.proofs.Kept.{all_by}
use Rattle.gflow_laws.specs.Flow.{Correction, IsTableOf, order_of, set_of}
use Rattle.gflow_laws.specs.Seen.{seen}
use Rattle.zx_text.specs.Files.{Two, spelled}
use Rattle.zx_text.specs.Numbered.{numbered, numbered_flow}
use Rattle.zx_text.specs.Reading.{most_ends, IsFlowOfFile, Spells}
use Rattle.zx_text.specs.Internal.Writing.{rises}
use Rattle.zx_text.proofs.SetLemmas.{in_all}
use Rattle.zx_text.proofs.NumberedLemmas.{numbered_file}

flow_of_file : (g : Graph) (t : List Correction) → IsTableOf (seen g) t → list_all (rises g t) (ids g.vertices) ≡ true → IsFlowOfFile g t
flow_of_file g t table rising = record {
  order = table;
  rising = all_by (λ v. in_order ltb (set_of t v)) (order_of t) at;
}
  where
    at : (v : ℕ) → member v (order_of t) ≡ true → in_order ltb (set_of t v) ≡ true
    at v there =
        let is_vertex = member v (ids g.vertices) in
        let has_output = member v (end_vertices g.outputs) in
        let placed : (is_vertex && not has_output) ≡ true = in_all (λ u. member u (ids g.vertices) && not (member u (end_vertices g.outputs))) (order_of t) v table.no_others there in
        let none : has_output ≡ false = not-true has_output (and-right is_vertex (not has_output) placed) in
        let either = in_all (rises g t) (ids g.vertices) v rising (and-left is_vertex (not has_output) placed) in
        rw none at either

flows_of_file : (g : Graph) (flow : Option (List Correction)) → IfSome flow (IsTableOf (seen g)) → IfSome flow (λ t. list_all (rises g t) (ids g.vertices) ≡ true)
    → IfSome flow (IsFlowOfFile g)
flows_of_file g None table rising = tt
flows_of_file g (Some t) table rising = flow_of_file g t table rising

pub written_spells : (g : Graph) (flow : Option (List Correction)) (text : List ℕ) → WellFormed g → IfSome flow (IsTableOf (seen g))
    → IfSome flow (λ t. list_all (rises g t) (ids g.vertices) ≡ true) → text ≡ spelled Two (numbered g) (numbered_flow g flow)
    → length g.inputs ≤ most_ends → length g.outputs ≤ most_ends → Spells text (numbered g) (numbered_flow g flow)
written_spells g flow text valid table rising bytes few_inputs few_outputs = record {
  version = Two;
  file = numbered_file g flow valid few_inputs few_outputs (flows_of_file g flow table rising);
  bytes = bytes;
}
