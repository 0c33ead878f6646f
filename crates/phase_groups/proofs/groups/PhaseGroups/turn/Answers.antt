-- One vertex more is negated.
use Rattle.std.proofs.Common.{◌∙◌, sym, ap, take, ◌++◌, [], ◌∷◌}
use Rattle.std.proofs.lemmas.List.{take_more}
use Rattle.phase_groups.specs.Groups.{group_of}
use Rattle.phase_groups.proofs.Following.{turned_more}
use Rattle.phase_groups.proofs.groups.PhaseGroups.turn.Goals as goal

pub loop-v-preserved : goal.loop-v-preserved
loop-v-preserved c = record {
  groups = λ w. turned_more (take c.loop-v.v-index c.args.vertices.now) _ (group_of c.args.self.now w) (group_of c.loop-v.self w) (group_of c.turn_at.new.self w) c.v-item.result w
      (take_more c.args.vertices.now c.loop-v.v-index c.v-item.result c.loop-v-test.true
      ∙ ap (λ v. take c.loop-v.v-index c.args.vertices.now ++ v ∷ []) (sym c.v-item.is))
      (c.loop-v.invariant.groups w) (c.in_ok-turn_at.ensures.groups w);
  phases = c.turn_at.ensures.phases ∙ c.loop-v.invariant.phases;
}
