use Rattle.std.proofs.Common.{◌∙◌, arith}
use Rattle.std.proofs.lemmas.Nat.{one_shl}
use Rattle.zx_bits.proofs.WindowLemmas.{flipped_bits, same_places}
use Rattle.zx_bits.proofs.window.Window.flip.Goals as goal

pub returns-clause-ok : goal.returns-clause-ok
returns-clause-ok c other =
    same_places c.add_to.new.self c.trim.new.self c.trim.ensures.words other ∙
    flipped_bits c.args.self.now c.cover.new.self c.add_to.new.self c.args.place _ c.in_ok-cover.ensures.ok.words (one_shl _ 64 (omega arith)) c.add_to.ensures.words other
