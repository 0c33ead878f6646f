-- Numbers behind the end have the absent value.
use Rattle.std.proofs.Common.{◌≡◌, ℕ, suc, ◌-◌, vec_len}
use Rattle.vertex_map.specs.Values.{value_at}
use Rattle.vertex_map.proofs.vertex_map.VertexMap.set.Given as goal

abbrev pub invariant-grow : goal.invariant-grow
invariant-grow g l = (w : ℕ) → value_at g.V.Values.absent l.self-inside.values.items w ≡ value_at g.V.Values.absent l.initial.self-inside.values.items w

abbrev pub decreases-grow : goal.decreases-grow
decreases-grow g l = suc l.number - vec_len l.self-inside.values
