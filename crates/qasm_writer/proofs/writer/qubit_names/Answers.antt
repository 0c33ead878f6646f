-- One more name.
use Rattle.std.proofs.Common.{◌≡◌, ◌∙◌, ℕ, ◌++◌, length, length-append, ap, subst, sym, arith}
use Rattle.std.specs.Prelude.{Vec}
use Rattle.std.specs.Global.{Global}
use Rattle.qasm_writer.specs.Written.{qubit_name}
use Rattle.qasm_writer.specs.Internal.Names.{AreNames}
use Rattle.qasm_writer.proofs.Naming.{one_more}
use Rattle.qasm_writer.proofs.writer.qubit_names.Goals as goal

pub loop-q-preserved : goal.loop-q-preserved
loop-q-preserved c =
    let name : c.push_qubit.new.text.items ≡ qubit_name c.loop-q.q =
    c.in_ok-push_qubit.ensures ∙ ap (λ t. t ++ qubit_name c.loop-q.q) c.new-name.ensures.items in
    record {
      as_many = omega (arith, c.loop-q.invariant.as_many, simp length-append at (ap length c.in_ok-push.ensures.items));
      named = subst AreNames (sym c.in_ok-push.ensures.items)
          (one_more (λ q (n : Vec ℕ Global). n.items ≡ qubit_name q) c.loop-q.names.items c.push_qubit.new.text
          c.loop-q.invariant.named (subst (λ k. c.push_qubit.new.text.items ≡ qubit_name k) (sym c.loop-q.invariant.as_many) name));
    }
