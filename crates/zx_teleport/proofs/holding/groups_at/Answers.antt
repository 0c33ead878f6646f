-- One gate more.
use Rattle.std.proofs.Common.{◌≡◌, ◌<◌, ◌∙◌, refl, ap, subst, List, length, get_or, None, arith}
use Rattle.zx_gates.specs.Circuit.{is_odd_phase}
use Rattle.zx_gates.specs.declared.gate.Gate.{Gate}
use Rattle.phase_groups.specs.Groups.{AreNone, IsAdded}
use Rattle.teleport_circuits.specs.Circuits.{phase_in}
use Rattle.teleport_circuits.specs.Teleporting.{gate_at}
use Rattle.zx_teleport.specs.Internal.Held.{AreHeldBelow}
use Rattle.zx_teleport.proofs.HeldGates.{gate_there, none_held, next_held}
use Rattle.zx_teleport.proofs.holding.groups_at.Goals as goal

pub loop-i-init : goal.loop-i-init
loop-i-init c =
    let none = subst (λ (gates : List Gate). AreNone (length gates) c.in_ok-groups.groups) c.gates-gates.ensures.value c.in_ok-groups.ensures in
    record { held = none_held c.args.read.now c.in_ok-groups.groups none; count = none.count }

pub loop-i-preserved : goal.loop-i-preserved
loop-i-preserved c =
    let read = c.args.read.now in
    let i = c.loop-i.i in
    let before = c.loop-i.groups in
    let after = c.hold.new.groups in
    let within : i < length read.gates = subst (λ (gates : List Gate). i < length gates) c.gates-gates.ensures.value c.loop-i-test.true in
    let here : c.index-gates-i.result ≡ gate_at read i = gate_there read c.gates-gates.result.now i i c.index-gates-i.result c.gates-gates.ensures.value refl within c.index-gates-i.is in
    let next = next_held read i before after within c.loop-i.invariant.held c.gates-gates.ensures.valid c.loop-i.invariant.count
    (λ odd v is. subst (λ gate. IsAdded i v (phase_in gate) before after) here
    (c.in_ok-hold.ensures.odd (ap is_odd_phase here ∙ odd) v (c.place_at.ensures ∙ ap (λ places. get_or places i None) c.requires ∙ is)))
    (λ even. c.in_ok-hold.ensures.even (ap is_odd_phase here ∙ even)) in
    record { held = next.0; count = next.1 }

pub returns : goal.returns
returns c =
    let most = c.loop-i.auto.i-end in
    let least = c.loop-i-test.false in
    let all : c.loop-i.i ≡ length c.args.read.now.gates = omega (arith, most, least, ap length c.gates-gates.ensures.value) in
    subst (λ n. AreHeldBelow c.args.read.now n c.loop-i.groups) all c.loop-i.invariant.held
