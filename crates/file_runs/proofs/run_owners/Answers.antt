-- `file_runs::run_owners` meets its contract. The loop's invariant: the owners of the nodes passed are in the table.
use Rattle.file_runs.proofs.RunTables.{owning_begins, owner_small, owning_goes_on, owning_done}
use native.Mathlib.Omega.{arith}
use Rattle.file_runs.proofs.run_owners.Goals as goal

pub loop-k-init : goal.loop-k-init
loop-k-init c =
    let pre = c.requires in
    owning_begins pre.0 pre.1 c.nodes-count.ensures pre.2

pub overflow_cast-owners : goal.overflow_cast-owners
overflow_cast-owners c =
    let loop = c.loop-k in
    let owner_after = c.owner_after-f in
    record { fits = omega (arith, owner_small loop.invariant owner_after.result c.loop-k-test.true owner_after.ensures) }

pub loop-k-preserved : goal.loop-k-preserved
loop-k-preserved c =
    let loop = c.loop-k in
    let owner_after = c.owner_after-f in
    owning_goes_on loop.invariant owner_after.result c.loop-k-test.true owner_after.ensures

pub returns : goal.returns
returns c = owning_done c.loop-k.invariant c.loop-k-test.false
