-- `sheet_types::result_typed` meets its contract.
use borrow.Author.Rules.{rules}
use Rattle.sheet_rules.proofs.TreeSteps.{node_in_table}
use Rattle.sheet_types.proofs.TypeSteps.{result_compared}
use Rattle.sheet_types.proofs.result_typed.Goals as goal

pub bounds-owners-k : goal.bounds-owners-k
bounds-owners-k c = search node_in_table

pub returns : goal.returns
returns c = search (rules, result_compared)
