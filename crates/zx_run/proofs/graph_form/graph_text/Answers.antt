-- The numbers in the form's file are its ids.
use Rattle.std.proofs.Common.{None, ap, ◌∙◌}
use Rattle.std.proofs.lemmas.Result.{IfOk-weaker}
use Rattle.zx_text.specs.Files.{Two, spelled}
use Rattle.zx_run.proofs.FormLemmas.{numbered_form}
use Rattle.zx_run.proofs.graph_form.graph_text.Goals as goal

pub returns : goal.returns
returns c = λ text file.
    let diagram = c.args.diagram in
    let form = c.in_ok-form.form.graph in
    IfOk-weaker c.write_graph.result _ _
    (λ output made. record {
      diagram = diagram;
      file = file;
      form = form;
      is_form = c.in_ok-form.ensures.form;
      same_map = c.in_ok-form.ensures.map;
      spelled = made ∙ ap (λ g. spelled Two g None) (numbered_form diagram form c.in_ok-form.ensures.form c.write_graph.ensures.valid);
    })
    c.write_graph.ensures.text
