use Rattle.std.proofs.Common.{◌≡◌, refl, sym, ◌∙◌, subst, ℕ, ◌<◌, ◌^◌, List, length, arith}
use Rattle.std.proofs.lemmas.Nat.{one_shl}
use Rattle.zx_bits.specs.Internal.Windows.{left_of}
use Rattle.zx_bits.specs.declared.numbers.Numbers.TheInside.{Inside}
use Rattle.zx_bits.proofs.WindowLemmas.{lowest}
use Rattle.zx_bits.proofs.Reading.{left_skips, none_left, first_left}
use Rattle.zx_bits.proofs.numbers.NumbersIterator.next.Goals as goal
use Rattle.zx_bits.proofs.numbers.NumbersIterator.next.Goals.{then-self-eq0+else-index-self, else-self-eq0}

pub returns-then-index-self-clause-steps : goal.returns-then-index-self-clause-steps
returns-then-index-self-clause-steps c =
    let none =
    sym c.self.view_is
    ∙ none_left c.self.inside.offset c.self.inside.words.now c.self.inside.index c.self.inside.rest (omega (arith, c.if-self-eq0.true))
    (λ i behind before. c.next_used-index.ensures.zeros i behind (omega (arith, before, c.if-index-self.true))) in (none, none)

-- the word that is read has a bit left, and these places are left
abbrev Reads : List ℕ → Inside → Type 0
Reads left it = (left ≡ left_of it.offset it.words.now it.index it.rest) × (0 < it.rest) × (it.index < length it.words.now)

pub returns-clause-steps : goal.returns-clause-steps
returns-clause-steps c =
    let it = c.if-self-eq0.self-inside in
    let reads : Reads c.args.self.now it =
    elim c.if-self-eq0.branch [
      | then-self-eq0+else-index-self w ↦
          let before : w.next_used-index.result < length c.self.inside.words.now = omega (arith, w.if-index-self.false) in
          subst (Reads c.args.self.now) (sym w.self-inside-is) (
            sym c.self.view_is
                ∙ left_skips c.self.inside.offset c.self.inside.words.now c.self.inside.index c.self.inside.rest w.next_used-index.result _ (omega (arith, w.if-self-eq0.true))
                (w.next_used-index.ensures.behind before) refl w.next_used-index.ensures.zeros,
            w.next_used-index.ensures.some before,
            before,
          )
      | else-self-eq0 w ↦
          let some : 0 < c.self.inside.rest = omega (arith, w.if-self-eq0.false) in
          subst (Reads c.args.self.now) (sym w.self-inside-is) (sym c.self.view_is, some, c.self.invariant.2 some)
    ] in
    let fits : it.rest < 2 ^ 64 = omega arith in
    let within = (lowest it.rest reads.1 fits).0 in
    reads.0 ∙ first_left it.offset it.words.now it.index it.rest _ reads.1 fits reads.2 (one_shl _ 64 (omega (arith, within)))

pub returns-clause-goes : goal.returns-clause-goes
returns-clause-goes c = rw (returns-clause-steps c) (record { on = λ f. (tt, tt, omega arith); keeps = tt; rests = λ f. tt })
