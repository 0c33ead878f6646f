use Rattle.std.proofs.Common.{sym, ◌∙◌, ap, ap₂, ◌≤◌, subst, arith}
use Rattle.std.proofs.lemmas.Result.{on_ok_weaker}
use Rattle.zx_model.specs.Bits.{xor}
use Rattle.zx_bits.specs.Internal.Windows.{end_of, room_of}
use Rattle.zx_bits.proofs.WindowLemmas.{unset_past}
use Rattle.zx_bits.proofs.SetLemmas.{member_places, members_are, rising_places, bounded_xor, room_ends, room_serves, room_kept}
use Rattle.zx_bits.proofs.bit_set.BitSet.xor.Goals as goal

pub invariant_of-self : goal.invariant_of-self
invariant_of-self c =
    bounded_xor c.self.inside.window c.other.inside.window c.xor.new.self c.xor.result c.self.invariant c.other.invariant
    (c.xor.ensures.end (end_of c.other.inside.window) (unset_past c.other.inside.window)) c.xor.ensures.err

pub returns-clause-ok : goal.returns-clause-ok
returns-clause-ok c =
    let ours = members_are c.self.inside.window c.args.self.now c.self.view_is in
    let theirs = members_are c.other.inside.window c.args.other.now c.other.view_is in
    on_ok_weaker c.xor.result
    (λ is number. member_places c.xor.new.self number ∙ is number ∙ ap₂ (λ f g. xor (f number) (g number)) (sym ours) (sym theirs))
    c.xor.ensures.ok

pub returns-clause-rising : goal.returns-clause-rising
returns-clause-rising c = rising_places c.xor.new.self

pub returns-clause-has_room : goal.returns-clause-has_room
returns-clause-has_room c below =
    room_serves c.self.inside.window c.other.inside.window c.args.other.now c.args.self.now.room _ (ap (λ s. s.room) c.self.view_is) c.other.view_is below
    c.xor.ensures.room c.xor.ensures.nothing

pub returns-clause-keeps_room : goal.returns-clause-keeps_room
returns-clause-keeps_room c below =
    let is = ap (λ s. s.room) c.self.view_is in
    let ends = room_ends c.self.inside.window c.other.inside.window c.args.other.now c.args.self.now.room is c.other.view_is below in
    subst (λ room. room ≤ room_of c.xor.new.self) is
    (room_kept c.self.inside.window c.xor.new.self c.self.inside.window.words.capacity c.xor.result (λ some. omega arith)
    (c.xor.ensures.end c.self.inside.window.words.capacity ends) c.xor.ensures.capacity c.xor.ensures.err)
