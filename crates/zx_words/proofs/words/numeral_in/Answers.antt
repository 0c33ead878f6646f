-- The number that a text spells.
use Rattle.std.proofs.Common.{◌≡◌, ◌<◌, ◌^◌, ◌∙◌, Ok, true, bytes_eq, sym, rules, arith}
use Rattle.std.proofs.lemmas.Slice.Eq.{bytes_eq-Decides}
use Rattle.zx_words.proofs.WordLemmas.{number_passes, unparsed, otherwise}
use Rattle.zx_words.proofs.words.numeral_in.Goals as goal
use Rattle.zx_words.proofs.words.numeral_in.Goals.{else-number-most-via-then-number-most+else-eq}
use Rattle.zx_words.proofs.words.numeral_in.Goals.{else-number-most-via-else-number-most}

pub returns-in-Err-clause-value : goal.returns-in-Err-clause-value
returns-in-Err-clause-value c =
    let small : c.args.most < 2 ^ 64 = search rules in
    unparsed c.args.most c.args.text.now c.parse.result small c.parse.ensures.value.0 (λ n ok. cc)

pub returns-then-eq-clause-value : goal.returns-then-eq-clause-value
returns-then-eq-clause-value c =
    let same : true ≡ bytes_eq c.format.result.now c.args.text.now = c.if-eq.ensures in
    let equal : c.format.result.now ≡ c.args.text.now =
    (bytes_eq-Decides c.format.result.now c.args.text.now).0 (sym same) in
    let small : c.in-Ok.number < 2 ^ 64 = omega (arith, c.in-Ok.ensures.value.0) in
    number_passes c.args.most c.in-Ok.number c.args.text.now c.if-number-most.true small
    (sym c.format.ensures.text ∙ equal)

pub returns-else-number-most-clause-value : goal.returns-else-number-most-clause-value
returns-else-number-most-clause-value c =
    let small : c.args.most < 2 ^ 64 = search rules in
    let is : c.parse.result ≡ Ok c.in-Ok.number = cc in
    otherwise c.args.most c.in-Ok.number c.args.text.now c.parse.result small c.parse.ensures.value.0 is
    (λ le e. elim c.else-number-most.branch [
      | else-number-most-via-then-number-most+else-eq w ↦
          (let passes : true ≡ bytes_eq w.format.result.now c.args.text.now =
          sym ((bytes_eq-Decides w.format.result.now c.args.text.now).1 (w.format.ensures.text ∙ e)) in
          cc (passes, w.if-eq.ensures))
      | else-number-most-via-else-number-most w ↦ absurd (omega arith)
    ])
