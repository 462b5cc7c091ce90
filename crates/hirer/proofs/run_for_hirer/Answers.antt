-- `hirer::run_for_hirer` meets its contract: the refusals in their order, or the owner's run.
use mathlib.Core.Path.{refl}
use Rattle.hirer.proofs.Refusals.{refused_in_order, ran}
use Rattle.hirer.proofs.run_for_hirer.Goals as goal

pub run_table-requires : goal.run_table-requires
run_table-requires c = c.in-Ok.ensures.readable refl

pub returns-in-Err : goal.returns-in-Err
returns-in-Err c = (refused_in_order c.in-Err.ensures refl c.from.ensures, refl)

pub returns-in-Ok : goal.returns-in-Ok
returns-in-Ok c = (ran c.in-Ok.ensures refl c.run_table.ensures.0, c.run_table.ensures.1)
