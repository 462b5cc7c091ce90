-- `batch::rows::run_each` meets its contract: the rows passed were run.
use Rattle.batch.proofs.InTurn.{Running}
use Rattle.batch.proofs.rows.run_each.Given as goal

abbrev pub invariant-loop-row : goal.invariant-loop-row
invariant-loop-row l =
    Running l.file l.table l.rows l.readings l.allowances.steps l.allowances.nesting l.allowances.cells l.initial.cells l.initial.records l.cells l.records l.row
