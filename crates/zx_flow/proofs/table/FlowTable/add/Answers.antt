use Rattle.std.proofs.Common.{◌∙◌, sym, ap, subst, List, [], ◌∷◌, ◌++◌}
use Rattle.std.proofs.lemmas.Result.{on_ok_weaker}
use Rattle.zx_model.specs.Bits.{xor, member}
use Rattle.gflow_laws.specs.Flow.{Correction, SameSets}
use Rattle.zx_flow.specs.Flows.{FlowTable}
use Rattle.zx_flow.proofs.MemberLemmas.{SameSets-last}
use Rattle.zx_flow.proofs.table.FlowTable.add.Goals as goal

pub returns-clause-ok : goal.returns-clause-ok
returns-clause-ok c =
    let same = SameSets-last c.self.inside.corrections.table c.args.v c.toggle_each.new.self.ids c.args.members.now
    (λ w. c.in_ok-toggle_each.ensures w ∙ ap (λ l. xor (member w l) (member w c.args.members.now)) c.new-set.ensures) in
    on_ok_weaker c.push.result
    (λ e. subst (λ (t : FlowTable). SameSets c.push.new.self.table (t.table ++ record { vertex = c.args.v; members = c.args.members.now } ∷ [])) c.self.view_is
    (subst (λ (t : List Correction). SameSets t (c.self.inside.corrections.table ++ record { vertex = c.args.v; members = c.args.members.now } ∷ [])) (sym e) same))
    c.push.ensures.ok
