-- `run::going_on::operated` meets its contract.
use mir.Syntax.{w32}
use mir.ValLaws.{to_z-of_z}
use Rattle.run.proofs.NumberSteps.{operator_ends}
use Rattle.run.proofs.going_on.operated.Goals as goal

pub returns : goal.returns
returns c =
    operator_ends _ (to_z-of_z w32 c.args.x c.ranges.x) (to_z-of_z w32 c.args.y c.ranges.y)
    c.compute.ensures c.packed.ensures c.given.ensures
