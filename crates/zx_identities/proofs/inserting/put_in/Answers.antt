-- The law, with the scalar on the other side.
use Rattle.std.proofs.Common.{ap₂, ◌∙◌}
use Rattle.zx_model.specs.Scalar.{quotient_of_scalars}
use Rattle.zx_identities.proofs.Inserted.{inserted_scaled}
use Rattle.zx_identities.proofs.inserting.put_in.Goals as goal

pub returns-clause-scaled : goal.returns-clause-scaled
returns-clause-scaled c =
    inserted_scaled c.args.circuit.now c.in_ok-with_gates.field-0 c.args.insertion.now c.over.result (c.fits.ensures c.if-not-fits.false)
    (c.in_ok-is_identity.ensures.map c.if-not-branch.false) c.in_ok-with_gates.ensures.gates
    (c.over.ensures ∙ ap₂ quotient_of_scalars c.one.ensures c.undone_scalar.ensures.value)
