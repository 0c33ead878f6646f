-- What `compile` writes for a diagram file.
use Rattle.std.specs.Prelude.{◌≡◌, ◌≢◌, ◌≤◌, ◌⊎◌, ℕ, List, [], ◌++◌, length, codes, decimal}
use Rattle.std.specs.List.{flat_map}
use Rattle.zx_model.specs.Proportional.{Proportional}
use Rattle.zx_calculus.specs.Counts.{odd_phases}
use Rattle.flow_find.specs.Stuck.{HasFlow, IsLargestStuck}
use Rattle.zx_diagram.specs.Diagram.{Diagram}
use Rattle.zx_diagram.specs.Sum.{diagram_sum}
use Rattle.zx_gates.specs.Circuit.{Circuit, IsCircuit}
use Rattle.zx_gates.specs.Elementary.{elementary_odd_phases}
use Rattle.zx_gates.specs.ElementaryMaps.{amp_elementary}
use Rattle.zx_peephole.specs.Tidy.{IsTidy}
use Rattle.zx_extract.specs.Simplified.{gate_bound, IsThroughReduced}
use Rattle.zx_simplify.specs.Compiled.{HasForm}
use Rattle.qasm_scope.specs.Texts.{TextMeans, program_size}
use Rattle.qasm_writer.specs.Elements.{elements_of}
use Rattle.qasm_writer.specs.Written.{written}
use Rattle.zx_run.specs.declared.status.Status.{Status}
use Rattle.zx_run.specs.declared.status.Status.TheVariants.{Done, No}
use Rattle.zx_run.specs.DiagramFiles.{IsDiagramFile, IsSquare}

-- The bytes are what `compile` may write for a text: the file of a diagram with as many outputs as inputs, whose
-- graph-like form has a flow, and they are the text of a circuit. That text means, with n inputs and t odd phases in
-- the graph-like form, the diagram's linear map up to a nonzero scalar, with at most t odd phases and no measurements.
-- Its program applies at most `gate_bound` gates for n and t.
pub record IsCompiledText (text bytes : List ℕ) : Type 0 where
  pub diagram : Diagram
  pub circuit : Circuit
  pub file : IsDiagramFile text diagram
  pub square : IsSquare diagram
  pub has_flow : HasForm diagram HasFlow
  pub spelled : bytes ≡ written circuit 0 []
  -- what the text means
  pub means : TextMeans (written circuit 0 []) (length diagram.inputs) (elements_of circuit.gates) 0 []
  pub same_map : Proportional (length diagram.inputs) (length diagram.inputs) (diagram_sum diagram)
      (amp_elementary (elements_of circuit.gates))
  pub no_more_odd : HasForm diagram (λ form. elementary_odd_phases (elements_of circuit.gates) ≤ odd_phases form)
  pub few_gates : HasForm diagram (λ form.
      program_size means.program ≤ gate_bound (length diagram.inputs) (odd_phases form))
  -- what more is known of the circuit
  pub valid : IsCircuit circuit
  pub tidy : IsTidy circuit.gates
  pub reduced : HasForm diagram (λ form. IsThroughReduced form circuit)

-- the line that names the vertices that are left, by rising id
abbrev pub no_flow_line : List ℕ → List ℕ
no_flow_line left = codes "no flow" ++ (flat_map (λ v. codes " " ++ decimal v) left ++ codes "\n")

-- The bytes are what `compile` says no by for a text: the file of a diagram with as many outputs as inputs, whose
-- graph-like form has no flow, and they name the largest set of its vertices that shows it.
pub record IsNoFlowText (text bytes : List ℕ) : Type 0 where
  pub diagram : Diagram
  pub left : List ℕ
  pub file : IsDiagramFile text diagram
  pub square : IsSquare diagram
  pub no_flow : HasForm diagram (λ form. HasFlow form → ⊥)
  pub stuck : HasForm diagram (λ form. IsLargestStuck form left)
  pub some : left ≢ []
  pub spelled : bytes ≡ no_flow_line left

-- The answer is Done where the diagram's graph-like form has a flow, and No where it has none.
abbrev pub IsFormVerdict : List ℕ → Status → Type 0
IsFormVerdict text status =
    (diagram : Diagram) × IsDiagramFile text diagram × IsSquare diagram
    × (((status ≡ Done) × HasForm diagram HasFlow) ⊎ ((status ≡ No) × HasForm diagram (λ form. HasFlow form → ⊥)))
