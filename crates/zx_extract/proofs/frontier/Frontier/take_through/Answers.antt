-- A gadget through an output, or a vertex that takes its place.
use Rattle.std.proofs.Common.{◌≡◌, subst}
use Rattle.std.proofs.lemmas.Result.{on_ok_weaker}
use Rattle.zx_calculus.specs.Graph.{plane_of}
use Rattle.zx_calculus.specs.Graph as zx
use Rattle.zx_extract.specs.Internal.Frontiers.{remainder_of}
use Rattle.zx_extract.specs.Internal.Steps.{IsSettling}
use Rattle.zx_extract.proofs.LastVertex.{last_live}
use Rattle.zx_extract.proofs.Taking.{named_XY, named_YZ, still_last, one_left, one_free, still_YZ, legs_last, legs_one, legs_plane}
use Rattle.zx_extract.proofs.Taking.{linked_taken, spider_ready, spider_taken}
use Rattle.zx_extract.proofs.frontier.Frontier.take_through.Goals as goal
use Rattle.zx_extract.proofs.frontier.Frontier.take_through.Goals.{In-YZ, In_default}

pub weight-plane-requires : goal.weight-plane-requires
weight-plane-requires c = last_live c.requires.ready c.requires.frontier c.requires.last

-- ---- a gadget
is_YZ : (c : In-YZ) → plane_of c.args.self.now.graph.graph c.args.v ≡ zx.YZ
is_YZ c = named_YZ c.args.self.now.graph.graph c.args.v c.weight-plane.ensures.value c.in-YZ.is

pub take_legs-requires-clause-last : goal.take_legs-requires-clause-last
take_legs-requires-clause-last c = still_last c.requires.last c.in_ok-gather-in-YZ.ensures

pub take_legs-requires-clause-free : goal.take_legs-requires-clause-free
take_legs-requires-clause-free c =
    one_free c.requires.last c.in_ok-gather-in-YZ.ensures (is_YZ (goal.at.take_legs-requires-clause-free c).In-YZ)

pub take_linked_gadget-requires-clause-last : goal.take_linked_gadget-requires-clause-last
take_linked_gadget-requires-clause-last c =
    legs_last (still_last c.requires.last c.in_ok-gather-in-YZ.ensures) c.in_ok-take_legs-in-YZ.ensures.taken

pub take_linked_gadget-requires-clause-plane : goal.take_linked_gadget-requires-clause-plane
take_linked_gadget-requires-clause-plane c =
    legs_plane (still_last c.requires.last c.in_ok-gather-in-YZ.ensures) c.in_ok-take_legs-in-YZ.ensures.taken zx.YZ
    (still_YZ c.requires.last c.in_ok-gather-in-YZ.ensures
    (is_YZ (goal.at.take_linked_gadget-requires-clause-plane c).In-YZ))

pub take_linked_gadget-requires-clause-gathered : goal.take_linked_gadget-requires-clause-gathered
take_linked_gadget-requires-clause-gathered c =
    legs_one (still_last c.requires.last c.in_ok-gather-in-YZ.ensures) c.in_ok-take_legs-in-YZ.ensures.taken c.args.q
    (one_left c.requires.last c.in_ok-gather-in-YZ.ensures)

pub returns-in_ok-take_legs-in-YZ : goal.returns-in_ok-take_legs-in-YZ
returns-in_ok-take_legs-in-YZ c =
    let both = on_ok_weaker c.take_linked_gadget.result (linked_taken c.requires.last c.in_ok-gather-in-YZ.ensures
    (is_YZ (goal.at.returns-in_ok-take_legs-in-YZ c).In-YZ) c.requires.picked.within
    c.in_ok-take_legs-in-YZ.ensures.taken) c.take_linked_gadget.ensures in
    record {
      taken = on_ok_weaker c.take_linked_gadget.result (λ b. b.0) both;
      shorter = on_ok_weaker c.take_linked_gadget.result (λ b. b.1) both;
    }

-- ---- a vertex that takes the output's place
is_XY : (c : In_default) → plane_of c.args.self.now.graph.graph c.args.v ≡ zx.XY
is_XY c = named_XY c.args.v c.requires.ready (last_live c.requires.ready c.requires.frontier c.requires.last)
    c.weight-plane.ensures.value c.in_default.not-YZ

pub advance-requires-clause-plane : goal.advance-requires-clause-plane
advance-requires-clause-plane c = is_XY (goal.at.advance-requires-clause-plane c).In_default

pub qubits-requires : goal.qubits-requires
qubits-requires c = (spider_ready c.requires.last c.in_ok-advance-in_default.ensures.1
    (is_XY (goal.at.qubits-requires c).In_default) c.in_ok-advance-in_default.ensures.2).given.few

pub settle-requires-clause-ready : goal.settle-requires-clause-ready
settle-requires-clause-ready c = spider_ready c.requires.last c.in_ok-advance-in_default.ensures.1
    (is_XY (goal.at.settle-requires-clause-ready c).In_default) c.in_ok-advance-in_default.ensures.2

pub returns-in_ok-advance-in_default : goal.returns-in_ok-advance-in_default
returns-in_ok-advance-in_default c =
    let both = on_ok_weaker c.settle.result (λ settled. spider_taken c.requires.last c.in_ok-advance-in_default.ensures.1
    (is_XY (goal.at.returns-in_ok-advance-in_default c).In_default) c.in_ok-advance-in_default.ensures.2
    c.requires.picked.within (subst (λ n. IsSettling (remainder_of c.advance.new.self) c.args.q n
    (remainder_of c.settle.new.self)) c.qubits.ensures.value settled)) c.settle.ensures in
    record {
      taken = on_ok_weaker c.settle.result (λ b. b.0) both;
      shorter = on_ok_weaker c.settle.result (λ b. b.1) both;
    }
