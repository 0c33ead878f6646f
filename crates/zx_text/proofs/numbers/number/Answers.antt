-- What isn't UTF-8 is no number.
use Rattle.std.proofs.Common.{◌^◌, ltb, ltb-true, ltb-false, sym, subst}
use Rattle.std.specs.Str.{IsUtf8}
use Rattle.std.proofs.lemmas.Str.{IsUtf8-from_ascii}
use Rattle.std.proofs.lemmas.Fmt.{IsAscii-decimal}
use Rattle.zx_calculus.proofs.Ids.{by_test}
use Rattle.zx_text.proofs.numbers.number.Goals as goal

pub returns-in-Err-clause-none : goal.returns-in-Err-clause-none
returns-in-Err-clause-none c =
    λ n same. by_test (ltb n (2 ^ 64))
    (λ t. absurd (c.in-Err.ensures.cases.0
    (subst IsUtf8 (sym same) (IsUtf8-from_ascii _ (IsAscii-decimal n (ltb-true n (2 ^ 64) t))))))
    (λ f. ltb-false n (2 ^ 64) f)
