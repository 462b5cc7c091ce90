-- `translator::nodes::formal` meets its contract.
use native.Mathlib.Omega.{arith}
use Rattle.translator.proofs.SheetTables.{formal_narrow, formal_owner, formal_is}
use Rattle.translator.proofs.nodes.formal.Goals as goal

pub bounds-owners-k : goal.bounds-owners-k
bounds-owners-k c = formal_narrow c.requires

pub bounds-formals-from : goal.bounds-formals-from
bounds-formals-from c =
    let pre = c.requires in
    omega (arith, formal_owner (pre) c.from.ensures)

pub returns : goal.returns
returns c =
    let pre = c.requires in
    formal_is pre c.from.ensures c.from-2.ensures c.from-3.ensures
