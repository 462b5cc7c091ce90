-- `sheet_rules::names::owner_parameters` meets its contract; a record before the nodes stands for node 0, as the definition's difference does.
use borrow.Author.Rules.{rules}
use Rattle.sheet_rules.proofs.SheetTables.{node_narrow, owner_parameters}
use Rattle.sheet_rules.proofs.names.owner_parameters.Goals as goal

pub bounds-owners-r : goal.bounds-owners-r
bounds-owners-r c = search node_narrow

pub returns-then-r-first : goal.returns-then-r-first
returns-then-r-first c = search (rules, owner_parameters)

pub returns-else-r-first : goal.returns-else-r-first
returns-else-r-first c = search (rules, owner_parameters)
