-- What has its bit unset is no twin.
use Rattle.std.proofs.Common.{sym, ◌∙◌, ap, ◌==◌, ◌%◌}
use Rattle.std.specs.Int.{bit_at}
use Rattle.zx_moves.proofs.SearchPairs.{untold}
use Rattle.zx_moves.proofs.search.is_twin.Goals as goal

pub returns-then-not-has_bit : goal.returns-then-not-has_bit
returns-then-not-has_bit c =
    sym (untold c.args.g.now.graph c.args.u c.args.v c.args.beside c.requires.told
    (ap (λ n. bit_at c.args.beside (n % 64) == 1) (sym c.get.ensures) ∙ sym c.has_bit.ensures ∙ c.if-not-has_bit.true))
