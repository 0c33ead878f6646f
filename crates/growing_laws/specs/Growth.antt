-- Graphs that are simplified while gates are still put behind them.
use Rattle.std.specs.Prelude.{ℕ, List}
use Rattle.std.specs.List.{fold}
use Rattle.zx_calculus.specs.Graph.{Graph, WellFormed}
use Rattle.zx_calculus.specs.Steps.{Step, IsRun}
use Rattle.zx_gates.specs.Circuit.{IsOnQubits}
use Rattle.zx_gates.specs.declared.gate.Gate.{Gate}
use Rattle.circuit_graph.specs.Translation.{wires, with_gate}
use Rattle.growing_laws.specs.Growing.{IsFree, SplitNothing, IsBasic}
use Rattle.growing_laws.specs.Renaming.{IsRenamed}

-- some run from g leads to h, but for the names of the vertices
pub record Reaches (g h : Graph) : Type 0 where
  pub steps : List Step
  pub graph : Graph
  pub run : IsRun g steps graph
  pub to : ℕ → ℕ
  pub back : ℕ → ℕ
  pub renamed : IsRenamed to back graph h

-- the graph of gates on n qubits, where Cx and Not are written out
abbrev pub graph_of_gates : ℕ → List Gate → Graph
graph_of_gates n gates = fold with_gate (wires n) gates

-- the same of the graph of these gates, by a run that splits nothing
pub record ComesFrom (n : ℕ) (gates : List Gate) (h : Graph) : Type 0 where
  pub reaches : Reaches (graph_of_gates n gates) h
  pub no_split : SplitNothing reaches.steps

-- a gate that isn't written out by others can be put behind h, with n outputs, where a new spider gets the id `new`
pub record MayCome (new n : ℕ) (h : Graph) (gate : Gate) : Type 0 where
  pub well_formed : WellFormed h
  pub fresh : IsFree new h
  pub basic : IsBasic gate
  pub on_qubits : IsOnQubits n gate
