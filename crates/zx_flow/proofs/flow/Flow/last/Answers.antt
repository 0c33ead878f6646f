use Rattle.std.proofs.Common.{◌∙◌, ap, ◌-◌, length}
use Rattle.std.specs.Prelude.{slice_get}
use Rattle.gflow_laws.specs.Flow.{order_of}
use Rattle.zx_flow.proofs.MemberLemmas.{last-some, last-none}
use Rattle.zx_flow.proofs.flow.Flow.last.Goals as goal

pub returns : goal.returns
returns c =
    let is = c.copied.ensures ∙ c.last.ensures.value ∙ ap (λ xs. slice_get xs (length xs - 1)) (c.order.ensures.value ∙ ap (λ f. order_of f.flow) c.self.view_is) in
    record {
      some = last-some (order_of c.args.self.now.flow) c.copied.result is;
      none = last-none (order_of c.args.self.now.flow) c.copied.result is;
    }
