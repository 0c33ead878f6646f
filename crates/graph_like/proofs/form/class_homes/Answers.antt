use Rattle.std.proofs.Common.{sym, subst}
use Rattle.graph_like.specs.Classes.{named_by}
use Rattle.graph_like.specs.Internal.Homes.{IsNaming}
use Rattle.graph_like.proofs.Forming.{naming, table_of, homes_within}
use Rattle.graph_like.proofs.form.class_homes.Goals as goal

pub of_classes-requires : goal.of_classes-requires
of_classes-requires c =
    subst (λ xs. IsNaming (named_by xs)) (sym c.deref.ensures.value) (naming c.args.d.now (named_by c.in_ok-least.least.items) c.in_ok-least.ensures.classes)

pub returns-clause-classes : goal.returns-clause-classes
returns-clause-classes c =
    table_of c.args.d.now c.in_ok-least.least.items c.deref.result.now c.in_ok-homes.homes c.in_ok-least.ensures.classes c.in_ok-least.ensures.length
    c.deref.ensures.value c.in_ok-homes.ensures.length c.in_ok-homes.ensures.homes

pub returns-clause-within : goal.returns-clause-within
returns-clause-within c = homes_within c.args.d.now c.in_ok-homes.homes (returns-clause-classes c)
