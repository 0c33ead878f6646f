-- The vertices one after the other.
use Rattle.std.proofs.Common.{arith}
use Rattle.zx_calculus.specs.Graph.{ids}
use Rattle.zx_moves.specs.Internal.Searching.{NoneBefore}
use Rattle.zx_moves.proofs.SearchKinds.{NoneAnywhere, best_is_first, no_best}
use Rattle.open_graph.proofs.Walks.{next_some, next_none, next_all, next_there, next_passed, all_passed}
use Rattle.zx_moves.proofs.search.next_move.Goals.{In-None, in-Some-first_at, in_default}
use Rattle.zx_moves.proofs.search.next_move.Goals as goal

pub first_at-requires-clause-live : goal.first_at-requires-clause-live
first_at-requires-clause-live c =
    next_there c.loop-u.yielded c.loop-u.u-iterator c.next.new.self (ids c.args.g.now.graph.vertices) c.in-Some.u
    c.loop-u.invariant.all
    (next_some c.next.result c.loop-u.u-iterator c.next.new.self c.in-Some.u c.next.ensures.steps c.in-Some.is)

pub loop-u-preserved : goal.loop-u-preserved
loop-u-preserved c =
    let g = c.args.g.now.graph in
    let past = c.loop-u.invariant in
    let all =
    next_all c.loop-u.yielded c.loop-u.u-iterator c.next.new.self (ids g.vertices) c.in-Some.u past.all
    (next_some c.next.result c.loop-u.u-iterator c.next.new.self c.in-Some.u c.next.ensures.steps c.in-Some.is) in
    elim c.match-first_at.branch [
      | in-Some-first_at w ↦ let found = w.in-Some-first_at in rw (w.best-is, w.limit-is) record {
        all = all;
        few = omega (arith, found.ensures.earlier, past.few);
        best = found.ensures.found;
        nothing = tt;
        none = next_passed (NoneBefore g found.place) c.loop-u.yielded c.in-Some.u
            (λ p m i k lt. past.none p m i k (omega (arith, lt, found.ensures.earlier))) found.ensures.none;
      }
      | in_default w ↦ rw (w.best-is, w.limit-is) record {
        all = all;
        few = past.few;
        best = past.best;
        nothing = past.nothing;
        none = next_passed (NoneBefore g c.loop-u.limit) c.loop-u.yielded c.in-Some.u past.none w.in_default.ensures.stuck;
      }
    ]

-- all vertices were passed
none_anywhere : (c : In-None) → NoneAnywhere c.args.g.now.graph c.loop-u.limit
none_anywhere c =
    let g = c.args.g.now.graph in
    let past = c.loop-u.invariant in
    all_passed (NoneBefore g c.loop-u.limit) c.loop-u.yielded c.loop-u.u-iterator (ids g.vertices) past.all
    (next_none c.next.result c.loop-u.u-iterator c.next.new.self c.next.ensures.steps c.in-None.is) past.none

pub returns-in-None-clause-first : goal.returns-in-None-clause-first
returns-in-None-clause-first c =
    best_is_first c.args.g.now.graph c.loop-u.limit c.loop-u.best (none_anywhere (goal.at.returns-in-None-clause-first c).In-None)
    c.loop-u.invariant.best

pub returns-in-None-clause-none : goal.returns-in-None-clause-none
returns-in-None-clause-none c =
    no_best c.args.g.now.graph c.loop-u.limit c.loop-u.best (none_anywhere (goal.at.returns-in-None-clause-none c).In-None)
    c.loop-u.invariant.nothing

-- no kind comes before the first
pub returns-then-limit-eq0-clause-first : goal.returns-then-limit-eq0-clause-first
returns-then-limit-eq0-clause-first c =
    let g = c.args.g.now.graph in
    best_is_first g c.match-first_at.limit c.match-first_at.best
    (λ u there i k lt. absurd (omega (arith, lt, c.if-limit-eq0.true)))
    (elim c.match-first_at.branch [
      | in-Some-first_at w ↦ rw (w.best-is, w.limit-is) w.in-Some-first_at.ensures.found
      | in_default w ↦ rw (w.best-is, w.limit-is) c.loop-u.invariant.best
    ])
