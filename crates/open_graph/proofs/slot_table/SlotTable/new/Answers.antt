-- A row without bits.
use Rattle.std.proofs.Common.{ap, length, arith}
use Rattle.zx_model.specs.Bits.{bit}
use Rattle.open_graph.proofs.slot_table.SlotTable.new.Goals as goal

pub invariant_of-result : goal.invariant_of-result
invariant_of-result c =
    record {
      row = record {
        covers = omega (arith, ap length c.new.ensures.items);
        vacant = λ id lt. absurd (omega (arith, lt, ap length c.new.ensures.items));
        none_after = λ id le. ap (λ bits. bit bits id) c.empty.ensures;
      };
      few = omega (arith, ap length c.new.ensures.items);
    }
