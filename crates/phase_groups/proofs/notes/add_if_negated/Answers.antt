-- A vertex more.
use Rattle.std.proofs.Common.{sym, ◌∙◌}
use Rattle.phase_groups.proofs.Negating.{picked_more}
use Rattle.phase_groups.proofs.notes.add_if_negated.Goals as goal

pub returns-in_ok-push : goal.returns-in_ok-push
returns-in_ok-push c = λ w.
    picked_more c.args.found.now.items c.push.new.self.items c.args.v w _ c.in_ok-push.ensures.items (sym c.is_negated.ensures ∙ c.if-is_negated.true)
