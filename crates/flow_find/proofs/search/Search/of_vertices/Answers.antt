-- Before any vertex is taken all that have no output are left.
use Rattle.std.proofs.Common.{◌∙◌, sym, ap, subst, ℕ, not, List, reverse}
use Rattle.zx_model.specs.Bits.{member}
use Rattle.zx_calculus.specs.Graph.{Distinct}
use Rattle.zx_calculus.proofs.Ids.{member-filter}
use Rattle.gflow_laws.specs.Seen.{seen}
use Rattle.gflow_laws.specs.Flow.{is_in}
use Rattle.flow_find.specs.Internal.Searching.{IsSearch}
use Rattle.flow_find.proofs.Searching.{measured_once, begun}
use Rattle.flow_find.proofs.search.Search.of_vertices.Goals as goal

pub set_of-requires : goal.set_of-requires
set_of-requires c = subst Distinct (sym c.requires.all) (measured_once c.args.g.now.graph c.requires.valid)

pub first_rows-requires : goal.first_rows-requires
first_rows-requires c = λ w.
    c.in_ok-left.ensures w ∙ ap (member w) c.requires.all
    ∙ member-filter (λ v. not ((seen c.args.g.now.graph).output v)) (seen c.args.g.now.graph).ids w

pub table_of-requires : goal.table_of-requires
table_of-requires c = subst Distinct (sym c.requires.all) (measured_once c.args.g.now.graph c.requires.valid)

pub returns : goal.returns
returns c = record {
  valid = c.requires.valid;
  taken = subst (λ (o : List ℕ). IsSearch c.args.g.now.graph (reverse o) (is_in c.in_ok-left.left.ids) c.in_ok-table.table.table) (sym c.new.ensures.items)
      (begun c.args.g.now.graph c.args.all.now (is_in c.in_ok-left.left.ids) c.in_ok-table.table.table
      (λ w. ap (member w) c.requires.all ∙ member-filter (λ v. not ((seen c.args.g.now.graph).output v)) (seen c.args.g.now.graph).ids w)
      c.in_ok-left.ensures c.in_ok-table.ensures);
  frontier = c.in_ok-rows.ensures.rows;
}
