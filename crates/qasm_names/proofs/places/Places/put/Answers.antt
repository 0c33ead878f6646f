use Rattle.std.proofs.Common.{sym, ◌∙◌}
use Rattle.qasm_names.proofs.PlaceLemmas.{put-again, put-anew}
use Rattle.qasm_names.proofs.places.Places.put.Goals as goal

pub returns-in-Some : goal.returns-in-Some
returns-in-Some c = λ before e h name.
    put-again c.args.self.now c.args.name.now before c.in-Some.field-0 h (sym c.find.ensures ∙ c.in-Some.is) name

pub returns-in_ok-insert-in-None : goal.returns-in_ok-insert-in-None
returns-in_ok-insert-in-None c = λ before e h name.
    put-anew c.args.self.now (record { places = c.insert.new.self }) c.args.name.now before c.args.place c.in_ok-insert-in-None.ensures.updates (sym e) h (sym c.find.ensures ∙ c.in-None.is) name
