-- A row without columns is added anywhere, or nowhere.
use Rattle.std.proofs.Common.{false}
use Rattle.std.proofs.lemmas.Result.{on_ok_weaker}
use Rattle.zx_model.specs.Bits.{member}
use Rattle.flow_find.proofs.Steps.{unchanged}
use Rattle.flow_find.proofs.rows.relieve.Goals as goal

pub returns-in-Some : goal.returns-in-Some
returns-in-Some c =
    on_ok_weaker c.clear_member.result (λ each. record { empty = c.requires; test = λ o. member c.in-Some.member o.members.ids; added = each }) c.clear_member.ensures

pub returns-in-None : goal.returns-in-None
returns-in-None c = record { empty = c.requires; test = λ o. false; added = unchanged c.args.row.now c.args.rows.now }
