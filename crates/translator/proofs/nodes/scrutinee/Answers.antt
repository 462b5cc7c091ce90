-- `translator::nodes::scrutinee` meets its contract: the tables reach the body of the function that owns the node.
use native.Mathlib.Omega.{arith}
use Rattle.translator.proofs.SheetTables.{scrutinee_narrow, scrutinee_owner, scrutinee_end, scrutinee_read}
use Rattle.translator.proofs.nodes.scrutinee.Goals as goal

pub bounds-owners-k : goal.bounds-owners-k
bounds-owners-k c =
    let pre = c.requires in
    scrutinee_narrow pre.0 pre.1

pub bounds-ends-from : goal.bounds-ends-from
bounds-ends-from c =
    let pre = c.requires in
    scrutinee_owner pre.0 pre.1 c.from.ensures

pub overflow_sub-end : goal.overflow_sub-end
overflow_sub-end c =
    let pre = c.requires in
    omega (arith, scrutinee_end pre.0 pre.1 _ _ c.from.ensures c.from-end.ensures)

pub returns : goal.returns
returns c =
    let pre = c.requires in
    scrutinee_read pre.0 pre.1 c.from.ensures c.from-end.ensures
    c.first_node.ensures.0 c.indexed.ensures c.field.ensures
