-- The ends at one place after the other.
use Rattle.std.proofs.Common.{◌≡◌, ◌<◌, ◌≤◌, length, get_or, sym, ◌∙◌, subst}
use Rattle.zx_calculus.specs.Graph.{ids}
use Rattle.zx_same.specs.Bare.{is_bare_wire}
use Rattle.zx_same.proofs.WireWalks.{end_there, fails_at, holds_more, holds_all}
use Rattle.zx_same.proofs.bare.are_bare_wires.Goals as goal

pub is_wire-requires-clause-input : goal.is_wire-requires-clause-input
is_wire-requires-clause-input c =
    let g = c.args.g.now.graph in
    end_there (ids g.vertices) g.inputs c.loop-i.i c.index-inputs-i.result c.inputs-inputs.ensures.valid.inputs.there
    (subst (λ xs. c.loop-i.i < length xs) c.inputs-inputs.ensures.value c.loop-i-test.true)
    (subst (λ xs. c.index-inputs-i.result ≡ get_or xs c.loop-i.i c.index-inputs-i.result) c.inputs-inputs.ensures.value c.index-inputs-i.is)

pub is_wire-requires-clause-output : goal.is_wire-requires-clause-output
is_wire-requires-clause-output c =
    let g = c.args.g.now.graph in
    end_there (ids g.vertices) g.outputs c.loop-i.i c.index-outputs-i.result c.inputs-inputs.ensures.valid.outputs.there
    (subst (λ n. c.loop-i.i < n) c.requires (subst (λ xs. c.loop-i.i < length xs) c.inputs-inputs.ensures.value c.loop-i-test.true))
    (subst (λ xs. c.index-outputs-i.result ≡ get_or xs c.loop-i.i c.index-outputs-i.result) c.outputs-outputs.ensures.value c.index-outputs-i.is)

pub returns-then-not-is_wire : goal.returns-then-not-is_wire
returns-then-not-is_wire c =
    let g = c.args.g.now.graph in
    sym (fails_at (is_bare_wire g) g.inputs g.outputs c.requires c.loop-i.i
    (subst (λ xs. c.loop-i.i < length xs) c.inputs-inputs.ensures.value c.loop-i-test.true)
    c.index-inputs-i.result c.index-outputs-i.result
    (subst (λ xs. c.index-inputs-i.result ≡ get_or xs c.loop-i.i c.index-inputs-i.result) c.inputs-inputs.ensures.value c.index-inputs-i.is)
    (subst (λ xs. c.index-outputs-i.result ≡ get_or xs c.loop-i.i c.index-outputs-i.result) c.outputs-outputs.ensures.value c.index-outputs-i.is)
    (sym c.is_wire.ensures ∙ c.if-not-is_wire.true))

pub loop-i-preserved : goal.loop-i-preserved
loop-i-preserved c =
    let g = c.args.g.now.graph in
    holds_more (is_bare_wire g) g.inputs g.outputs c.requires c.loop-i.i
    (subst (λ xs. c.loop-i.i < length xs) c.inputs-inputs.ensures.value c.loop-i-test.true)
    c.index-inputs-i.result c.index-outputs-i.result
    (subst (λ xs. c.index-inputs-i.result ≡ get_or xs c.loop-i.i c.index-inputs-i.result) c.inputs-inputs.ensures.value c.index-inputs-i.is)
    (subst (λ xs. c.index-outputs-i.result ≡ get_or xs c.loop-i.i c.index-outputs-i.result) c.outputs-outputs.ensures.value c.index-outputs-i.is)
    c.loop-i.invariant (sym c.is_wire.ensures ∙ c.if-not-is_wire.false)

pub returns : goal.returns
returns c =
    let g = c.args.g.now.graph in
    sym (holds_all (is_bare_wire g) g.inputs g.outputs c.requires c.loop-i.i
    (subst (λ xs. length xs ≤ c.loop-i.i) c.inputs-inputs.ensures.value c.loop-i-test.false) c.loop-i.invariant)
