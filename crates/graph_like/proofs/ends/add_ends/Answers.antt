use Rattle.std.proofs.Common.{◌<◌, ◌≤◌, ◌∙◌, sym, ap₂, ℕ, Bool, false, length, get_or, arith}
use Rattle.std.proofs.lemmas.List.{get_or_default}
use Rattle.zx_calculus.specs.Graph.{End}
use Rattle.zx_diagram.specs.declared.wire.Leg.{Leg}
use Rattle.graph_like.specs.LikeForm.{ends_at}
use Rattle.graph_like.specs.Internal.Homes.{home_of}
use Rattle.graph_like.proofs.LikeSum.{AreBelow-ends, length-ends_at}
use Rattle.graph_like.proofs.Ending.{adding_more, adding_ends, end_at}
use Rattle.graph_like.proofs.ends.add_ends.Goals as goal

pub loop-i-preserved : goal.loop-i-preserved
loop-i-preserved c =
    let home : ℕ → ℕ = home_of c.args.homes.now in
    let end : End = record { vertex = c.new-v.result; hadamard = c.leg_mark.result } in
    let low : c.loop-i.i < length c.args.legs.now = c.loop-i-test.true in
    let leg : Leg = get_or c.args.legs.now c.loop-i.i (record { spider = 0; hadamard = false }) in
    adding_more c.args.side (ends_at c.args.spiders.now home c.args.legs.now) c.loop-i.i c.args.graph.now.graph c.loop-i.graph.graph c.add_end.new.graph.graph
    end (omega (arith, length-ends_at c.args.spiders.now home c.args.legs.now))
    (λ o. end_at c.args.spiders.now home c.args.legs.now c.loop-i.i leg low (λ other. get_or_default c.args.legs.now c.loop-i.i other _ low) o
    ∙ ap₂ (λ (v : ℕ) (h : Bool). let e : End = record { vertex = v; hadamard = h } in e) (sym (c.new-v.ensures ∙ c.of.ensures)) (sym c.leg_mark.ensures))
    (AreBelow-ends c.args.spiders.now home (length c.args.spiders.now) (length c.args.graph.now.graph.vertices) c.args.legs.now c.requires.legs c.requires.homes.within)
    c.in_ok-add_end.ensures.ends c.in_ok-add_end.ensures.numbered c.loop-i.invariant

pub returns-clause-ends : goal.returns-clause-ends
returns-clause-ends c =
    let all : length (ends_at c.args.spiders.now (home_of c.args.homes.now) c.args.legs.now) ≤ c.loop-i.i =
    omega (arith, length-ends_at c.args.spiders.now (home_of c.args.homes.now) c.args.legs.now, c.loop-i-test.false) in
    adding_ends c.args.side (ends_at c.args.spiders.now (home_of c.args.homes.now) c.args.legs.now) c.loop-i.i c.args.graph.now.graph c.loop-i.graph.graph
    all c.loop-i.invariant
