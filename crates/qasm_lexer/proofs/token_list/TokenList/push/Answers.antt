use Rattle.std.proofs.Common.{◌∷◌, [], ◌++◌, ap, ◌∙◌, refl, length, arith, length-append}
use Rattle.qasm_lexer.specs.declared.token_list.Entry.{Entry}
use Rattle.qasm_lexer.proofs.Listed.{listed-append, count_of-append}
use Rattle.qasm_lexer.proofs.token_list.TokenList.push.Goals as goal

pub invariant_of-self-2 : goal.invariant_of-self-2
invariant_of-self-2 c =
    let entry : Entry = record { kind = c.args.kind; count = length c.args.text.now; place = c.args.place } in
    rw (c.in_ok-push.ensures.items, c.in_ok-extend_from_slice.ensures.items, c.in_ok-reserve.ensures.items)
    (omega (arith, count_of-append c.self.inside.entries.items entry, length-append c.self.inside.pool.items c.args.text.now, c.self.invariant))

pub returns : goal.returns
returns c = rw (c.in_ok-push.ensures.items, c.in_ok-extend_from_slice.ensures.items, c.in_ok-reserve.ensures.items)
    (listed-append c.self.inside.pool.items c.args.text.now c.self.inside.entries.items _ c.self.invariant refl
    ∙ ap (λ tokens. tokens ++ record { kind = c.args.kind; text = c.args.text.now; place = c.args.place } ∷ []) c.self.view_is)
