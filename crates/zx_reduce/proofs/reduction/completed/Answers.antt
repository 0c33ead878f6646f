-- The graph that was given is what is begun with.
use Rattle.std.proofs.Common.{◌∙◌, sym, subst}
use Rattle.std.proofs.lemmas.Result.{IfOk-weaker}
use Rattle.zx_reduce.specs.Internal.Progress.{Begins}
use Rattle.zx_reduce.proofs.reduction.completed.Goals as goal

pub returns : goal.returns
returns c =
    IfOk-weaker c.complete.result _ _
    (λ ended done. record {
      begun = c.add_all.new.self.progress;
      begins = subst (Begins c.args.graph.graph c.args.groups) (sym (c.in_ok-add_all.ensures ∙ c.in_ok-engine.ensures)) c.of_graph-begun.ensures;
      completes = done;
    })
    c.complete.ensures
