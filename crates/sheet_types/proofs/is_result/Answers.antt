-- `sheet_types::is_result` meets its contract: a clause's node is a child of a case, and not its scrutinee.
use borrow.Author.Rules.{rules}
use Rattle.sheet_rules.proofs.TreeSteps.{node_in_table}
use Rattle.sheet_types.proofs.TypeSteps.{result_no_case, result_clause}
use Rattle.sheet_types.proofs.is_result.Goals as goal

pub bounds-parents-k : goal.bounds-parents-k
bounds-parents-k c = search node_in_table

pub returns-then-kind-ne-CASE : goal.returns-then-kind-ne-CASE
returns-then-kind-ne-CASE c = search (rules, result_no_case)

pub returns : goal.returns
returns c = search (rules, result_clause)
