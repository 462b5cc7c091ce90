-- `run::look_up::branch` meets its contract.
use Rattle.run.proofs.LookUps.{branch_zero, branch_other}
use Rattle.operators.proofs.Division.{zero_bits, not_zero}
use mir.Syntax.{w32}
use Rattle.run.proofs.look_up.branch.Goals as goal

pub returns-then-z-eq0 : goal.returns-then-z-eq0
returns-then-z-eq0 c = branch_zero _ _ _ (zero_bits w32 _ c.ranges.z c.if-z-eq0.true)

pub returns-else-z-eq0 : goal.returns-else-z-eq0
returns-else-z-eq0 c = branch_other _ _ _ (not_zero w32 _ c.if-z-eq0.false)
