use Rattle.std.proofs.Common.{◌≡◌, ◌<◌, ap, ◌∙◌, sym, ℕ, List, [], ◌∷◌, ◌++◌, length, ◌||◌, ◌&&◌, eqb, set, length-set, arith, true≢false}
use Rattle.std.proofs.lemmas.List.{get_or_default}
use Rattle.zx_model.specs.Bits.{member}
use Rattle.graph_like.specs.Internal.Fusing.{near_at}
use Rattle.graph_like.proofs.FusingLemmas.{member_pushed, or_assoc}
use Rattle.graph_like.proofs.classes.join_if_plain.Goals as goal

pub returns-clause-plain : goal.returns-clause-plain
returns-clause-plain c = λ plain k x.
    let a_there : c.args.edge.a < length c.args.near.now.items = c.requires.there.0 in
    let between : List (List ℕ) = set c.args.near.now.items c.args.edge.a c.push.new.self in
    let b_there : c.args.edge.b < length between = omega (arith, length-set {A = List ℕ}, c.requires.there.1) in
    let first : c.push.new.self ≡ near_at c.args.near.now.items c.args.edge.a ++ c.args.edge.b ∷ [] =
    c.in_ok-push.ensures ∙ ap (λ r. r ++ c.args.edge.b ∷ []) (c.index_mut.ensures.value ∙ get_or_default _ _ _ _ a_there) in
    let second : c.push-2.new.self ≡ near_at between c.args.edge.b ++ c.args.edge.a ∷ [] =
    c.in_ok-push-2.ensures ∙ ap (λ r. r ++ c.args.edge.a ∷ []) (c.index_mut-2.ensures.value ∙ get_or_default _ _ _ _ b_there) in
    ap (λ r. member x (near_at (set between c.args.edge.b r) k)) second
    ∙ member_pushed between c.args.edge.b c.args.edge.a b_there k x
    ∙ ap (λ m. m || (eqb k c.args.edge.b && eqb x c.args.edge.a))
    (ap (λ r. member x (near_at (set c.args.near.now.items c.args.edge.a r) k)) first ∙ member_pushed c.args.near.now.items c.args.edge.a c.args.edge.b a_there k x)
    ∙ or_assoc (member x (near_at c.args.near.now.items k)) (eqb k c.args.edge.a && eqb x c.args.edge.b) (eqb k c.args.edge.b && eqb x c.args.edge.a)

pub returns-clause-marked : goal.returns-clause-marked
returns-clause-marked c = λ marked. absurd (true≢false (sym marked ∙ sym c.edge_mark.ensures ∙ c.if-edge_mark.false))
