-- The tokens that were left and the new ones come next.
use Rattle.std.proofs.Common.{◌≡◌, ◌-◌, List, ◌++◌, arith, length, take, drop, map, ap, ◌∙◌, subst}
use Rattle.qasm_lexer.specs.Tokens.{Lexeme, lexemes}
use Rattle.qasm_lexer.specs.Internal.Moved.{moved}
use Rattle.qasm_reader.specs.Depth.{IsDepth}
use Rattle.qasm_inline.proofs.ReadingLemmas.{behind_known}
use Rattle.qasm_inline.proofs.reading.Reader.read_tokens.Goals as goal

pub returns : goal.returns
returns c = λ before is.
    let self = c.args.self.now in
    let old = c.replace-kept.result in
    let new = c.keep_all.new.kept.items in
    let next = map (moved c.args.from) (lexemes c.args.tokens.now) in
    let n = c.len-known.result in
    let known : n ≡ length old.items = (let k = c.len-known.ensures in omega (arith, k, old.ok.0)) in
    let behind : lexemes (take (length new - n) (drop n new)) ≡ next = behind_known old.items new next n known c.in_ok-keep_all.ensures in
    let after : (seen : List Lexeme) → IsDepth self.depth seen → IsDepth c.after-depth.result (seen ++ next) =
    subst (λ ts. (seen : List Lexeme) → IsDepth self.depth seen → IsDepth c.after-depth.result (seen ++ ts)) behind
    (subst (λ ts. (seen : List Lexeme) → IsDepth self.depth seen → IsDepth c.after-depth.result (seen ++ lexemes (take (length ts - n) (drop n ts)))) c.deref.ensures.value c.after-depth.ensures) in
    record {
      deep = after before is.deep;
      kept = c.in_ok-fault.ensures before (lexemes self.tokens.items) next
          (c.in_ok-keep_all.ensures ∙ ap (λ kept. lexemes kept.items ++ next) c.replace-kept.ensures.value) is.kept;
    }
