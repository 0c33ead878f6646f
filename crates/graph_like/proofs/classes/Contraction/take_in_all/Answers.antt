use Rattle.std.proofs.Common.{◌≡◌, ◌<◌, ◌≤◌, sym, ◌∙◌, ap, subst, length, get_or, take_all, arith}
use Rattle.std.proofs.lemmas.List.{get_or_default}
use Rattle.zx_model.specs.Bits.{member}
use Rattle.graph_like.specs.Classes.{named_by}
use Rattle.graph_like.specs.Internal.Fusing.{near_at}
use Rattle.graph_like.proofs.FusingLemmas.{all_taken_in}
use Rattle.graph_like.proofs.TakingIn.{next_within}
use Rattle.graph_like.proofs.classes.Contraction.take_in_all.Goals as goal

pub visit-requires-clause-v_there : goal.visit-requires-clause-v_there
visit-requires-clause-v_there c =
    let there : c.args.u < length c.loop-i.self.near.items = omega (arith, c.loop-i.invariant.same) in
    let row : c.index-in-loop-i.result.now ≡ near_at c.loop-i.self.near.items c.args.u = c.index-in-loop-i.ensures ∙ get_or_default _ _ _ _ there in
    let again : c.index-in-loop-i-2.result.now ≡ near_at c.loop-i.self.near.items c.args.u = c.index-in-loop-i-2.ensures ∙ get_or_default _ _ _ _ there in
    let long : length c.index-in-loop-i.result.now ≡ length (near_at c.loop-i.self.near.items c.args.u) = ap length row in
    let low : c.loop-i.i < length (near_at c.loop-i.self.near.items c.args.u) = omega (arith, c.len.ensures, c.loop-i-test.true) in
    subst (λ n. c.at-v.result < n) (sym c.loop-i.invariant.same)
    (next_within c.loop-i.self.near.items c.args.u c.loop-i.i c.at-v.result (length c.args.self.now.near.items) c.loop-i.invariant.within low
    (ap (λ r. get_or r c.loop-i.i 0) (sym again) ∙ sym c.at-v.ensures))

pub loop-i-preserved : goal.loop-i-preserved
loop-i-preserved c =
    let there : c.args.u < length c.loop-i.self.near.items = omega (arith, c.loop-i.invariant.same) in
    let row : c.index-in-loop-i.result.now ≡ near_at c.loop-i.self.near.items c.args.u = c.index-in-loop-i.ensures ∙ get_or_default _ _ _ _ there in
    let again : c.index-in-loop-i-2.result.now ≡ near_at c.loop-i.self.near.items c.args.u = c.index-in-loop-i-2.ensures ∙ get_or_default _ _ _ _ there in
    let long : length c.index-in-loop-i.result.now ≡ length (near_at c.loop-i.self.near.items c.args.u) = ap length row in
    let low : c.loop-i.i < length (near_at c.loop-i.self.near.items c.args.u) = omega (arith, c.len.ensures, c.loop-i-test.true) in
    record {
      same = c.in_ok-visit.ensures.same ∙ c.loop-i.invariant.same;
      same_least = c.in_ok-visit.ensures.same_least ∙ c.loop-i.invariant.same;
      within = λ k x m. subst (λ n. x < n) c.loop-i.invariant.same (c.in_ok-visit.ensures.within k x m);
      own = c.in_ok-visit.ensures.own;
      reached = omega (arith, c.in_ok-visit.ensures.longer);
      stage = λ d f. c.in_ok-visit.ensures.stage d c.loop-i.i low (ap (λ r. get_or r c.loop-i.i 0) (sym again) ∙ sym c.at-v.ensures) (c.loop-i.invariant.stage d f);
    }

pub returns-clause-fusing : goal.returns-clause-fusing
returns-clause-fusing c = λ d f.
    let there : c.args.u < length c.loop-i.self.near.items = omega (arith, c.loop-i.invariant.same) in
    let row : c.index-in-loop-i.result.now ≡ near_at c.loop-i.self.near.items c.args.u = c.index-in-loop-i.ensures ∙ get_or_default _ _ _ _ there in
    let long : length c.index-in-loop-i.result.now ≡ length (near_at c.loop-i.self.near.items c.args.u) = ap length row in
    let all : length (near_at c.loop-i.self.near.items c.args.u) ≤ c.loop-i.i = omega (arith, c.len.ensures, c.loop-i-test.false) in
    all_taken_in d (named_by c.loop-i.self.least.items) (near_at c.loop-i.self.near.items) c.args.u (c.loop-i.invariant.stage d f).fusing
    (λ x m. (c.loop-i.invariant.stage d f).done x (ap (member x) (take_all c.loop-i.i (near_at c.loop-i.self.near.items c.args.u) all) ∙ m))
