use Rattle.std.proofs.Common.{sym, ◌∙◌, ap}
use Rattle.zx_model.specs.Bits.{member}
use Rattle.zx_bits.proofs.SetLemmas.{members_are, places_same}
use Rattle.zx_bits.proofs.bit_set.BitSet.is_same.Goals as goal

pub returns : goal.returns
returns c =
    let ours = members_are c.self.inside.window c.args.self.now c.self.view_is in
    let theirs = members_are c.other.inside.window c.args.other.now c.other.view_is in (
      λ e. ap (λ s. s.numbers) (sym c.self.view_is) ∙ places_same c.self.inside.window c.other.inside.window (c.is_same.ensures.0 e) ∙ ap (λ s. s.numbers) c.other.view_is,
      λ same. c.is_same.ensures.1 (λ place. ap (λ f. f place) (sym ours ∙ ap (λ set p. member p set) same ∙ theirs)),
    )
