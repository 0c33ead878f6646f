-- One vertex more is taken.
use Rattle.std.proofs.Common.{◌∙◌, sym, ap, subst, ℕ, Bool, not, ◌&&◌, List, [], ◌∷◌, reverse}
use Rattle.std.proofs.lemmas.List.{reverse-append}
use Rattle.zx_calculus.specs.Graph.{Graph}
use Rattle.zx_calculus.proofs.Ids.{eqb-self}
use Rattle.gflow_laws.specs.Seen.{seen}
use Rattle.gflow_laws.specs.Flow.{Correction, is_in}
use Rattle.flow_find.specs.declared.row.Row.{Row}
use Rattle.flow_find.specs.Internal.Searching.{IsSearch, IsUnderWay}
use Rattle.flow_find.proofs.Searching.{lives, listed_left, next_passable, next_taken, one_less_left}
use Rattle.flow_find.proofs.search.Search.take.Goals as goal

pub set-requires : goal.set-requires
set-requires c =
    listed_left c.args.g.now.graph (reverse c.args.self.now.order.items) (is_in c.args.self.now.left.ids) c.args.self.now.table.table
    c.requires.under_way.taken c.args.found.vertex c.requires.next.there

pub pass-requires-clause-live : goal.pass-requires-clause-live
pass-requires-clause-live c =
    lives c.args.g.now.graph (reverse c.args.self.now.order.items) (is_in c.args.self.now.left.ids) c.args.self.now.table.table
    c.requires.under_way.taken c.args.found.vertex c.requires.next.there

pub pass-requires-clause-gone : goal.pass-requires-clause-gone
pass-requires-clause-gone c =
    c.in_ok-take_out.ensures c.args.found.vertex
    ∙ ap (λ b. not b && is_in c.args.self.now.left.ids c.args.found.vertex) (eqb-self c.args.found.vertex)

pub note_neighbours-requires : goal.note_neighbours-requires
note_neighbours-requires c =
    lives c.args.g.now.graph (reverse c.args.self.now.order.items) (is_in c.args.self.now.left.ids) c.args.self.now.table.table
    c.requires.under_way.taken c.args.found.vertex c.requires.next.there

pub returns-clause-under_way : goal.returns-clause-under_way
returns-clause-under_way c =
    let g : Graph = c.args.g.now.graph in
    let items : List ℕ = c.args.self.now.order.items in
    let left : ℕ → Bool = is_in c.args.self.now.left.ids in
    let rows : List Row = c.args.self.now.rows.items in
    let table : List Correction = c.args.self.now.table.table in
    let v : ℕ = c.args.found.vertex in
    let now : ℕ → Bool = is_in c.take_out.new.set.ids in
    let before : IsUnderWay g c.args.self.now = c.requires.under_way in
    record {
      valid = before.valid;
      taken = subst (λ (o : List ℕ). IsSearch g o now c.set.new.self.table) (sym (ap (λ (l : List ℕ). reverse l) c.in_ok-push.ensures.items ∙ reverse-append items (v ∷ [])))
          (subst (λ (t : List Correction). IsSearch g (v ∷ reverse items) now t) (sym c.set.ensures)
          (next_taken g before.valid (reverse items) left rows table before.taken before.frontier c.args.found c.requires.next now c.in_ok-take_out.ensures));
      frontier = c.in_ok-pass.ensures.rows
          (next_passable g before.valid (reverse items) left rows table before.taken before.frontier c.args.found c.requires.next now c.in_ok-take_out.ensures);
    }

pub returns-clause-fewer : goal.returns-clause-fewer
returns-clause-fewer c =
    let g : Graph = c.args.g.now.graph in
    let left : ℕ → Bool = is_in c.args.self.now.left.ids in
    one_less_left c.args.found.vertex left (is_in c.take_out.new.set.ids) c.requires.next.there c.in_ok-take_out.ensures (seen g).ids
    (lives g (reverse c.args.self.now.order.items) left c.args.self.now.table.table c.requires.under_way.taken c.args.found.vertex c.requires.next.there)
