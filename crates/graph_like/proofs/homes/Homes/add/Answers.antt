use Rattle.std.proofs.Common.{◌∙◌, sym, subst, ℕ, ◌<◌, ◌≤◌, ◌+◌, List, length, arith}
use Rattle.std.proofs.lemmas.List.{get_or_default}
use Rattle.graph_like.specs.Internal.Homes.{AreHomes}
use Rattle.graph_like.proofs.Homing.{homes-led, homes-joined}
use Rattle.graph_like.proofs.homes.Homes.add.Goals as goal

pub returns-then-least-len-clause-homes : goal.returns-then-least-len-clause-homes
returns-then-least-len-clause-homes c = λ name is at a.
    let homes : List ℕ = c.args.self.now.vertices.items in
    let low : c.args.least < length homes = omega (arith, c.len.ensures, c.if-least-len.true) in
    subst (λ items. AreHomes name items c.args.self.now.count) (sym c.in_ok-push.ensures.items)
    (homes-joined name homes c.args.self.now.count c.args.least c.index-home.result.now is at low
    (λ o. get_or_default homes c.args.least o c.index-home.result.now low ∙ sym c.index-home.ensures) a)

pub returns-clause-homes : goal.returns-clause-homes
returns-clause-homes c = λ name is at a.
    let homes : List ℕ = c.args.self.now.vertices.items in
    let far : length homes ≤ c.args.least = omega (arith, c.len.ensures, c.if-least-len.false) in
    subst (λ items. AreHomes name items (c.args.self.now.count + 1)) (sym c.in_ok-push-2.ensures.items)
    (homes-led name homes c.args.self.now.count c.args.least is at far c.requires.low a)
