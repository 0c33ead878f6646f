-- The tokens so far and those of the entries that are left are those of all entries.
use Rattle.std.proofs.Common.{◌≡◌, ◌+◌, ◌++◌, length, drop}
use Rattle.qasm_lexer.specs.Tokens.{lexemes}
use Rattle.qasm_lexer.specs.Internal.Entries.{listed, count_of}
use Rattle.qasm_lexer.proofs.token_list.TokenList.tokens.Given as goal

abbrev pub invariant-loop-entry : goal.invariant-loop-entry
invariant-loop-entry l = record {
  tokens : lexemes l.tokens.items ++ listed (drop l.start l.self-inside.pool.items) (drop l.entry-index l.entry-items)
      ≡ listed l.self-inside.pool.items l.entry-items;
  count : l.start + count_of (drop l.entry-index l.entry-items) ≡ length l.self-inside.pool.items;
}
