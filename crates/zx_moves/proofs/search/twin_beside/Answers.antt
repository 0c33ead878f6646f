-- What is found is the first that is a twin.
use Rattle.std.proofs.Common.{◌≡◌, sym, ◌∙◌, ap, subst, ◌^◌, ◌-◌, ◌/◌, ◌++◌, ◌∷◌, false, true≢false}
use Rattle.std.specs.List.{find}
use Rattle.zx_calculus.specs.Graph.{neighbours}
use Rattle.open_graph.proofs.Walks.{next_some, next_none, next_all, next_passed, all_passed}
use Rattle.zx_moves.specs.Internal.Searching.{is_twin, TellsTwins}
use Rattle.zx_moves.proofs.SearchTests.{find_at, find_nowhere}
use Rattle.zx_moves.proofs.SearchPairs.{twins_anywhere}
use Rattle.zx_moves.proofs.search.twin_beside.Goals as goal

pub loop-v-init : goal.loop-v-init
loop-v-init c = record {
  all = c.into_iter-v-iterator.ensures.into_iter_gives ∙ c.neighbours-v-items.ensures.value;
  passed = λ w m. absurd (true≢false (sym m));
  tells = twins_anywhere c.args.g.now.graph c.args.u (2 ^ 64 - 1);
}

pub is_twin-requires-clause-told : goal.is_twin-requires-clause-told
is_twin-requires-clause-told c =
    subst (λ n. TellsTwins c.args.g.now.graph c.args.u (n / 64) c.beside_all_at-beside.result) c.get-next.ensures c.beside_all_at-beside.ensures

pub loop-v-preserved : goal.loop-v-preserved
loop-v-preserved c =
    let g = c.args.g.now.graph in
    let rest = next_some c.next.result c.loop-v.v-iterator c.next.new.self c.in-Some.v c.next.ensures.steps c.in-Some.is in
    record {
      all = next_all c.loop-v.yielded c.loop-v.v-iterator c.next.new.self (neighbours g c.args.near) c.in-Some.v c.loop-v.invariant.all rest;
      passed = next_passed (λ p. is_twin g c.args.u p ≡ false) c.loop-v.yielded c.in-Some.v c.loop-v.invariant.passed (sym c.is_twin.ensures ∙ c.if-is_twin.false);
      tells = c.beside_all_at-beside.ensures;
    }

pub returns-then-is_twin : goal.returns-then-is_twin
returns-then-is_twin c =
    let g = c.args.g.now.graph in
    let rest = next_some c.next.result c.loop-v.v-iterator c.next.new.self c.in-Some.v c.next.ensures.steps c.in-Some.is in
    let whole : c.loop-v.yielded ++ c.in-Some.v ∷ c.next.new.self ≡ neighbours g c.args.near =
    sym (ap (λ xs. c.loop-v.yielded ++ xs) rest) ∙ c.loop-v.invariant.all in
    sym (ap (find (is_twin g c.args.u)) (sym whole)
    ∙ find_at (is_twin g c.args.u) c.loop-v.yielded c.next.new.self c.in-Some.v c.loop-v.invariant.passed (sym c.is_twin.ensures ∙ c.if-is_twin.true))

pub returns : goal.returns
returns c =
    let g = c.args.g.now.graph in
    let none = next_none c.next.result c.loop-v.v-iterator c.next.new.self c.next.ensures.steps c.in-None.is in
    sym (find_nowhere (is_twin g c.args.u) (neighbours g c.args.near)
    (all_passed (λ p. is_twin g c.args.u p ≡ false) c.loop-v.yielded c.loop-v.v-iterator (neighbours g c.args.near) c.loop-v.invariant.all none c.loop-v.invariant.passed))
