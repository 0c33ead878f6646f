-- The command line that is made is the one that is stated.
use Rattle.std.proofs.Common.{◌≡◌, ◌∙◌, ap, ap₂, codes}
use Rattle.std.proofs.lemmas.Result.{IfOk-weaker}
use Rattle.clap.specs.Words.{App, Text, app_of, new_app, with_subcommand}
use Rattle.zx_words.specs.CommandLine.{zxopt_app, bare, opt_app}
use Rattle.zx_words.proofs.words.definition.Goals as goal

-- one subcommand more that has no words of its own
abbrev added : Text → App → App
added name a = with_subcommand a (new_app name).top

pub returns : goal.returns
unfolding zxopt_app
returns c =
    let with_opt : app_of c.in_ok-with_opt.with_opt ≡ with_subcommand (bare (new_app (codes "zxopt"))) opt_app.top =
    c.in_ok-with_opt.ensures.shape c.in_ok-opt.ensures.local
    ∙ ap₂ with_subcommand c.bare_definition.ensures (ap (λ (a : App). a.top) c.in_ok-opt.ensures.app) in
    let with_gen =
    c.in_ok-with_gen.ensures.shape c.in_ok-generate.ensures.local
    ∙ ap₂ with_subcommand with_opt (ap (λ (a : App). a.top) c.in_ok-generate.ensures.app) in
    IfOk-weaker c.with_alone-6.result _ _
    (λ m h. h ∙ ap (added (codes "same"))
    (c.in_ok-with_teleport.ensures ∙ ap (added (codes "teleport")) (c.in_ok-with_compile.ensures ∙ ap (added (codes "compile")) (c.in_ok-with_graph.ensures ∙ ap (added (codes "graph")) (c.in_ok-with_flow.ensures ∙ ap (added (codes "flow")) (c.in_ok-with_reduce.ensures ∙ ap (added (codes "reduce")) with_gen)))))) c.with_alone-6.ensures
