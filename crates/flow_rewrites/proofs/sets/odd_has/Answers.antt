-- Parities after local complements are sums of parities before them.
use Rattle.std.proofs.Common.{sym, ◌∙◌, ap}
use Rattle.gflow_laws.specs.Seen.{seen, in_odd_neighbourhood}
use Rattle.gflow_laws.specs.Flow.{set_of, is_in}
use Rattle.gflow_laws.proofs.Views.{Simple-seen}
use Rattle.flow_rewrites.specs.Internal.Stages.{view}
use Rattle.flow_rewrites.proofs.StageLemmas.{second_parity, third_parity}
use Rattle.flow_rewrites.proofs.sets.odd_has.Goals as goal

pub returns-in-Second : goal.returns-in-Second
returns-in-Second c =
    let g = c.args.g.now.graph in
    let beside = rw c.in-Second.is at c.requires.beside in
    second_parity (seen g) c.args.u c.in-Second.w (Simple-seen g c.requires.well_formed) c.requires.live beside.0 beside.1
    (is_in (set_of c.args.f.now.flow c.args.x)) c.odd_has-in-Second.result c.odd_has-in-Second-2.result c.has.result
    c.odd_has-in-Second.ensures c.odd_has-in-Second-2.ensures c.has.ensures
    ∙ ap (λ stage. in_odd_neighbourhood (view stage (seen g) c.args.u) (is_in (set_of c.args.f.now.flow c.args.x)) c.args.u) (sym c.in-Second.is)

pub returns-in-Third : goal.returns-in-Third
returns-in-Third c =
    let g = c.args.g.now.graph in
    let beside = rw c.in-Third.is at c.requires.beside in
    third_parity (seen g) c.args.u c.in-Third.w (Simple-seen g c.requires.well_formed) c.requires.live beside.0 beside.1
    (is_in (set_of c.args.f.now.flow c.args.x)) c.odd_has-in-Third.result c.has-in-Third.result c.has-in-Third-2.result
    c.odd_has-in-Third.ensures c.has-in-Third.ensures c.has-in-Third-2.ensures
    ∙ ap (λ stage. in_odd_neighbourhood (view stage (seen g) c.args.u) (is_in (set_of c.args.f.now.flow c.args.x)) c.args.u) (sym c.in-Third.is)
