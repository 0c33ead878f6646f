use Rattle.std.proofs.Common.{◌≡◌, refl, sym, ◌∙◌, ap, Bool, true, false, not, ◌&&◌, eqb, true≢false, arith}
use Rattle.std.proofs.lemmas.Bool.{eqb-true}
use Rattle.std.proofs.lemmas.Nat.{one_shl}
use Rattle.zx_model.specs.Bits.{xor}
use Rattle.zx_bits.specs.Internal.Windows.{is_set}
use Rattle.zx_bits.proofs.WindowLemmas.{flipped_bits, same_places}
use Rattle.zx_bits.proofs.window.Window.unset.Goals as goal

-- what is taken out of where it is
without : (b e : Bool) → (e ≡ true → b ≡ true) → xor b e ≡ (b && not e)
without true true is = refl
without true false is = refl
without false true is = absurd (true≢false (sym (is refl)))
without false false is = refl

pub returns-then-is_set-clause-places : goal.returns-then-is_set-clause-places
returns-then-is_set-clause-places c other =
    same_places c.add_to.new.self c.trim.new.self c.trim.ensures.words other
    ∙ flipped_bits c.args.self.now c.args.self.now c.add_to.new.self c.args.place _ (λ number. refl) (one_shl _ 64 (omega arith)) c.add_to.ensures.words other
    ∙ without (is_set c.args.self.now other) (eqb other c.args.place) (λ e. ap (is_set c.args.self.now) (eqb-true other c.args.place e) ∙ sym c.is_set.ensures ∙ c.if-is_set.true)
