use Rattle.std.proofs.Common.{◌≡◌, sym, ◌∙◌, ap, ap₂, subst, List, get_or, map, length, arith}
use Rattle.std.specs.List.{All}
use Rattle.std.proofs.lemmas.List.{set-set}
use Rattle.std.proofs.lemmas.List.Elements.{All-set}
use Rattle.zx_bits.specs.Rows.{BitRow, BitMatrix, row_at, xor_lists}
use Rattle.zx_bits.specs.Solving.{zeros}
use Rattle.zx_bits.proofs.Vectors.{length-xor, xor_lists-same}
use Rattle.zx_bits.proofs.MatrixLemmas.{count_is, row_is, row_size, view_set, other_row, read_as}
use Rattle.zx_bits.proofs.bit_matrix.BitMatrix.add_row.Goals as goal

pub returns-then-from-to : goal.returns-then-from-to
returns-then-from-to c =
    let m = c.args.self.now in
    view_set c.self.inside.columns c.self.inside.rows.items m c.self.view_is c.args.to c.clear.new.self (xor_lists (row_at m c.args.to) (row_at m c.args.from))
    (c.clear.ensures ∙ ap (λ xs. zeros (length xs)) (row_is c.self.inside.columns c.self.inside.rows.items m c.self.view_is c.args.to c.index_mut.result.now c.requires.to c.index_mut.ensures.value)
    ∙ ap zeros (row_size c.self.inside.columns c.self.inside.rows.items m c.self.view_is c.self.invariant c.args.to c.requires.to) ∙ sym (ap (λ r. xor_lists (row_at m c.args.to) (row_at m r)) c.if-from-to.true
    ∙ xor_lists-same (row_at m c.args.to) c.self.inside.columns (row_size c.self.inside.columns c.self.inside.rows.items m c.self.view_is c.self.invariant c.args.to c.requires.to)))

pub invariant_of-self-2 : goal.invariant_of-self-2
invariant_of-self-2 c =
    let items = c.self.inside.rows.items in
    let count = count_is c.self.inside.columns items c.args.self.now c.self.view_is in
    let HasColumns : BitRow → Type 0 = λ row. length row.bits ≡ c.self.inside.columns in
    let old = c.replace-row.result in
    let other = c.index.result.now in
    let read : old ≡ get_or items c.args.to old = read_as items c.args.to c.index_mut-2.result.now old c.replace-row.ensures.value c.index_mut-2.ensures.value in
    let also : other ≡ get_or items c.args.from other = other_row items c.args.from c.args.to c.replace-row.new.dest other c.if-from-to.false c.index.ensures in
    let size : length old.bits ≡ c.self.inside.columns = ap (λ b. length b.bits) read ∙ c.self.invariant c.args.to old (omega (arith, count, c.requires.to)) in
    let other_size : length other.bits ≡ c.self.inside.columns = ap (λ b. length b.bits) also ∙ c.self.invariant c.args.from other (omega (arith, count, c.requires.from)) in
    subst (All HasColumns) (sym (set-set items c.args.to c.replace-row.new.dest c.xor.new.self))
    (All-set HasColumns items c.args.to c.xor.new.self
    (ap length c.xor.ensures ∙ length-xor old.bits other.bits (other_size ∙ sym size) ∙ size) c.self.invariant)

pub returns : goal.returns
returns c =
    let items = c.self.inside.rows.items in
    let m = c.args.self.now in
    let old = c.replace-row.result in
    let other = c.index.result.now in
    let seen : List BitRow → BitMatrix = λ l. record { columns = c.self.inside.columns; rows = map (λ b. b.bits) l } in
    let read : old ≡ get_or items c.args.to old = read_as items c.args.to c.index_mut-2.result.now old c.replace-row.ensures.value c.index_mut-2.ensures.value in
    let also : other ≡ get_or items c.args.from other = other_row items c.args.from c.args.to c.replace-row.new.dest other c.if-from-to.false c.index.ensures in
    ap seen (set-set items c.args.to c.replace-row.new.dest c.xor.new.self)
    ∙ view_set c.self.inside.columns items m c.self.view_is c.args.to c.xor.new.self (xor_lists (row_at m c.args.to) (row_at m c.args.from))
    (c.xor.ensures ∙ ap₂ xor_lists (row_is c.self.inside.columns items m c.self.view_is c.args.to old c.requires.to read) (row_is c.self.inside.columns items m c.self.view_is c.args.from other c.requires.from also))
