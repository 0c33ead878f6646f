-- The steps lead from the graph of the new circuit to the same end, and so the scalar between the maps is known.
use Rattle.std.proofs.Common.{◌≡◌, sym, ◌∙◌, subst, ◌<◌, List, map}
use Rattle.zx_model.specs.Phase.{turn}
use Rattle.zx_model.specs.Scalar.{IsScaled, quotient_of_scalars}
use Rattle.zx_model.specs.declared.scalar.Scalar.{Scalar}
use Rattle.zx_calculus.specs.Graph.{Graph}
use Rattle.zx_calculus.specs.Steps.{IsRun}
use Rattle.zx_calculus.specs.StepScalars.{IsSumTimes}
use Rattle.zx_gates.specs.Circuit.{Circuit, IsCircuit}
use Rattle.zx_gates.specs.Maps.{amp}
use Rattle.zx_gates.specs.declared.gate.Gate.{Gate}
use Rattle.circuit_graph.specs.Translation.{translated}
use Rattle.teleport_circuits.specs.Teleporting.{teleported_gates, teleported_circuit}
use Rattle.teleport_circuits.proofs.Teleporting.{same_run, formed_there}
use Rattle.teleport_circuits.proofs.Quotients.{teleported_quotient}
use Rattle.graph_rewrites.specs.declared.step.Step as named
use Rattle.graph_rewrites.specs.Steps.{step_named}
use Rattle.zx_teleport.specs.Together.{IsPutTogether}
use Rattle.zx_teleport.specs.Internal.Scaling.{HaveScalar, MayRun}

-- as the steps are seen
pub put_seen : (c : Circuit) (steps seen : List named.Step) (h : Graph) (gates : List Gate) → seen ≡ steps →
    IsPutTogether c (map step_named steps) h gates → IsPutTogether c (map step_named seen) h gates
put_seen c steps seen h gates same put = subst (λ s. IsPutTogether c (map step_named s) h gates) (sym same) put

module _ (c : Circuit) (g : Graph) (steps seen : List named.Step) (h : Graph) (gates : List Gate) (start : g ≡ translated c) (same : seen ≡ steps)
    (run : IsRun g (map step_named steps) h) (are : IsPutTogether c (map step_named seen) h gates) where
  leads : IsRun (translated c) (map step_named steps) h
  leads = subst (λ k. IsRun k (map step_named steps) h) start run

  is : gates ≡ teleported_gates c (map step_named steps) h leads
  is = subst (λ s. IsPutTogether c (map step_named s) h gates) same are leads

  -- the circuit with these gates
  module _ (formed : IsCircuit c) (made : Circuit) (qubits : made.qubits ≡ c.qubits) (its_gates : made.gates ≡ gates) where
    made_is : made ≡ teleported_circuit c (map step_named steps) h leads
    made_is = λ i. record { qubits = qubits i; gates = (its_gates ∙ is) i }

    pub may_run : MayRun (translated made) (map step_named seen)
    may_run = subst (λ (d : Circuit). MayRun (translated d) (map step_named seen)) (sym made_is)
        (subst (λ s. MayRun (translated (teleported_circuit c (map step_named steps) h leads)) (map step_named s)) (sym same)
        (record { formed = formed_there c formed (map step_named steps) h leads; end = h; run = same_run c formed (map step_named steps) h leads }))

    pub scalar_kept : (s t : Scalar) → t.turn < turn → IsSumTimes g s h → HaveScalar (translated made) (map step_named seen) t →
        IsScaled c.qubits c.qubits (amp c.gates) (quotient_of_scalars s t) (amp gates)
    scalar_kept s t low p q = subst (λ gs. IsScaled c.qubits c.qubits (amp c.gates) (quotient_of_scalars s t) (amp gs)) (sym is)
        (teleported_quotient c (map step_named steps) h leads formed s t low (subst (λ k. IsSumTimes k s h) start p)
        (subst (λ (d : Circuit). HaveScalar (translated d) (map step_named steps) t) made_is (subst (λ s. HaveScalar (translated made) (map step_named s) t) same q)
        h (same_run c formed (map step_named steps) h leads)))
