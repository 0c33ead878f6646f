-- One byte more of white space.
use Rattle.std.proofs.Common.{subst, sym}
use Rattle.qasm_inline.specs.Internal.Spellings.{AreNone, IsSpelled}
use Rattle.qasm_inline.proofs.SpellLemmas.{spelled-behind, spelled-nothing, spelled-space}
use Rattle.qasm_inline.proofs.plain.behind_spaces.Goals as goal

pub loop-behind-init : goal.loop-behind-init
loop-behind-init c = spelled-nothing c.args.text.now

pub loop-behind-preserved : goal.loop-behind-preserved
loop-behind-preserved c =
    let b = c.in-Some.ensures in
    spelled-behind c.loop-behind.invariant (subst (λ t. IsSpelled AreNone t c.in-Some.behind.now) (sym b.1) (spelled-space b.0 c.in-Some.behind.now b.2))
