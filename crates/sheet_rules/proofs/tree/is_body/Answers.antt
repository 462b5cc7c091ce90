-- `sheet_rules::tree::is_body` meets its contract: a body is the last node before the end of its run.
use Rattle.sheet_rules.proofs.TreeSteps.{node_in_table, owner_in_table, body_test}
use Rattle.sheet_rules.proofs.tree.is_body.Goals as goal

pub bounds-owners-k : goal.bounds-owners-k
bounds-owners-k c = search node_in_table

pub bounds-ends-from : goal.bounds-ends-from
bounds-ends-from c = owner_in_table c.requires c.from.ensures

pub returns : goal.returns
returns c = body_test c.requires c.from.ensures c.from-2.ensures
