use Rattle.std.proofs.Common.{◌≡◌, ◌<◌, ap, ◌∙◌, subst, suc, ◌+◌, length, arith}
use Rattle.graph_like.specs.Classes.{named_by}
use Rattle.graph_like.specs.Internal.Fusing.{near_at, IsFusing}
use Rattle.graph_like.proofs.FusingLemmas.{all_done}
use Rattle.graph_like.proofs.classes.least_spiders.Goals as goal

pub loop-u-preserved : goal.loop-u-preserved
loop-u-preserved c =
    let next : suc c.loop-u.u ≡ c.loop-u.u + 1 = omega arith in
    record {
      same = c.in_ok-take_in_all.ensures.same ∙ c.loop-u.invariant.same;
      same_least = c.in_ok-take_in_all.ensures.same_least ∙ c.loop-u.invariant.same;
      within = λ k v m. subst (λ n. v < n) c.loop-u.invariant.same (c.in_ok-take_in_all.ensures.within k v m);
      fusing = subst (λ n. IsFusing c.args.d.now (named_by c.take_in_all.new.self.least.items) (near_at c.take_in_all.new.self.near.items) n n) next
          (c.in_ok-take_in_all.ensures.fusing c.args.d.now c.loop-u.invariant.fusing);
    }

pub returns-clause-classes : goal.returns-clause-classes
returns-clause-classes c =
    let count : length c.spiders-count.result.now ≡ length c.args.d.now.spiders = ap length c.spiders-count.ensures.value in
    let all : c.loop-u.u ≡ length c.args.d.now.spiders = omega (arith, c.loop-u-test.false, c.loop-u.auto.u-end) in
    all_done c.args.d.now (named_by c.loop-u.contraction.least.items) (near_at c.loop-u.contraction.near.items) c.plain_neighbours.ensures.valid
    (subst (λ n. IsFusing c.args.d.now (named_by c.loop-u.contraction.least.items) (near_at c.loop-u.contraction.near.items) n n) all c.loop-u.invariant.fusing)
