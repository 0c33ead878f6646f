-- The gates that are left are those that are kept.
use Rattle.std.proofs.Common.{sym, ◌∙◌, rules}
use Rattle.std.proofs.lemmas.Fn.{filter_same}
use Rattle.zx_peephole.specs.Internal.Chains.{is_left}
use Rattle.zx_peephole.proofs.SoundLemmas.{sound_ended, kept_all}
use Rattle.zx_peephole.proofs.tidying.end.Goals as goal

pub returns-clause-room : goal.returns-clause-room
returns-clause-room c =
    sound_ended c.args.work c.retain.new.self.items c.requires.sound
    (filter_same _ is_left _ (λ x b f' k. search rules) c.args.work.gates.items c.retain.new.self.items c.retain.ensures.filtered)

pub returns-clause-gates : goal.returns-clause-gates
returns-clause-gates c =
    filter_same _ is_left _ (λ x b f' k. search rules) c.args.work.gates.items c.retain.new.self.items c.retain.ensures.filtered
    ∙ sym (kept_all c.args.work c.requires.all)
