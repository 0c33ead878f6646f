-- Inputs and outputs, by their side.
use Rattle.std.specs.Prelude.{List}
use Rattle.zx_calculus.specs.Graph.{End, Graph}
use Rattle.open_graph.specs.declared.side.Side.{Side}
use Rattle.open_graph.specs.declared.side.Side.TheVariants.{Input, Output}

-- the ends of a side
abbrev pub ends_of : Side → Graph → List End
ends_of Input g = g.inputs
ends_of Output g = g.outputs

-- the graph with these ends on a side
abbrev pub with_ends : Side → List End → Graph → Graph
with_ends Input ends g = record g { inputs = ends }
with_ends Output ends g = record g { outputs = ends }
