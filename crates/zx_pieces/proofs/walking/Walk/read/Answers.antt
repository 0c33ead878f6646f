-- A gate more is seen.
use Rattle.std.proofs.Common.{rules, ◌≡◌, ◌<◌, ◌++◌, [], ◌∷◌, length, refl, subst, sym}
use Rattle.std.proofs.lemmas.Result.{on_ok_weaker}
use Rattle.zx_pieces.specs.Internal.Walking.{IsBlocking}
use Rattle.zx_pieces.proofs.Walks.{after_taken, after_passed, on_both, walked_same}
use Rattle.zx_pieces.proofs.walking.Walk.read.Goals as goal

pub returns-then-may_take-clause-walk : goal.returns-then-may_take-clause-walk
returns-then-may_take-clause-walk c = λ seen w.
    let walk = c.args.self.now in
    let gate = c.args.gate.now in
    on_ok_weaker c.take.result
    (λ piece. walked_same (seen ++ gate ∷ []) _ _ _ _ _ _ (sym piece) (search rules) (search rules)
    (after_taken seen walk.piece.gates walk.passed.items walk.blocked.items gate w (c.may_take.ensures.apart seen w c.if-may_take.true)))
    c.take.ensures.piece

pub returns-else-may_take-clause-walk : goal.returns-else-may_take-clause-walk
returns-else-may_take-clause-walk c = λ seen w.
    let walk = c.args.self.now in
    let gate = c.args.gate.now in
    let some : 0 < length walk.piece.gates = c.may_take.ensures.some c.if-may_take.false in
    on_ok_weaker {P = (c.pass.new.self.passed.items ≡ walk.passed.items ++ gate ∷ []) × IsBlocking c.pass.new.self.blocked.items c.pass.new.self.passed.items}
    c.pass.result
    (λ both. walked_same (seen ++ gate ∷ []) walk.piece.gates _ (walk.passed.items ++ gate ∷ []) _ c.pass.new.self.blocked.items _ (search rules) (sym both.0) refl
    (after_passed seen walk.piece.gates walk.passed.items walk.blocked.items c.pass.new.self.blocked.items gate w some
    (subst (IsBlocking c.pass.new.self.blocked.items) both.0 both.1)))
    (on_both _ _ c.pass.result c.pass.ensures.passed (c.pass.ensures.blocking w.blocking))
