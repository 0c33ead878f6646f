-- What turns about the Z axis make of vertices, and the powers of z that the sum gets by them.
-- Backens and others (Quantum 5, 421, 2021), on local complementation and pivoting in all three planes.
use Rattle.std.specs.Prelude.{ℕ, if◌then◌else◌, List}
use Rattle.zx_model.specs.Bits.{member}
use Rattle.zx_calculus.specs.Graph.{Kind, Graph, kind_of}
use Rattle.zx_calculus.specs.Turns.{quarter_turned, half_turned}
use Rattle.zx_calculus.specs.Scalars.{quarter_power, half_power, sum_of_powers}
use Rattle.open_graph.specs.declared.turn.Turn.{Turn}
use Rattle.open_graph.specs.declared.turn.Turn.TheVariants.{Quarter, Half}

-- plane and phase after a turn
abbrev pub turned_by : Turn → Kind → Kind
turned_by Quarter kind = quarter_turned kind
turned_by Half kind = half_turned kind

-- those of the listed vertices turn
abbrev pub turned_in : Turn → List ℕ → ℕ → Kind → Kind
turned_in turn near p kind = if member p near then turned_by turn kind else kind

-- the power that the turn of one vertex gives
abbrev pub power_of : Turn → Kind → ℕ
power_of Quarter kind = quarter_power kind
power_of Half kind = half_power kind

-- that of the turns of these vertices
abbrev pub powers_of : Turn → Graph → List ℕ → ℕ
powers_of turn g ps = sum_of_powers (λ p. power_of turn (kind_of g.vertices p)) ps
