use Rattle.std.proofs.Common.{◌≡◌, ◌∙◌, ap, sym, get_or, arith}
use Rattle.std.proofs.lemmas.List.{get_or_default}
use Rattle.graph_like.specs.Classes.{named_by}
use Rattle.graph_like.proofs.Homing.{homes-few}
use Rattle.graph_like.proofs.homes.Homes.of_classes.Goals as goal

pub add-requires-clause-low : goal.add-requires-clause-low
add-requires-clause-low c =
    let named : get_or c.args.least.now c.loop-u.u 0 ≡ named_by c.args.least.now c.loop-u.u = get_or_default _ _ _ _ c.loop-u-test.true in
    omega (arith, named, c.requires.low c.loop-u.u, c.loop-u.invariant.same)

pub add-requires-clause-few : goal.add-requires-clause-few
add-requires-clause-few c =
    homes-few (named_by c.args.least.now) c.loop-u.homes.vertices.items c.loop-u.homes.count c.loop-u.invariant.homes

pub loop-u-preserved : goal.loop-u-preserved
loop-u-preserved c =
    let named : get_or c.args.least.now c.loop-u.u 0 ≡ named_by c.args.least.now c.loop-u.u = get_or_default _ _ _ _ c.loop-u-test.true in
    record {
      same = omega (arith, c.in_ok-add.ensures.length, c.loop-u.invariant.same);
      homes = c.in_ok-add.ensures.homes (named_by c.args.least.now) c.requires
          (ap (named_by c.args.least.now) c.loop-u.invariant.same ∙ sym named) c.loop-u.invariant.homes;
    }
