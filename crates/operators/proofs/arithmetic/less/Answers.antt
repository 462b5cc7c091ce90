-- `operators::arithmetic::less` meets its contract.
use Rattle.operators.proofs.Answers.{less_true, less_false}
use Rattle.std.proofs.Common.{w32}
use Rattle.operators.proofs.arithmetic.less.Goals as goal

pub returns-then-x-y : goal.returns-then-x-y
returns-then-x-y c =
    let fits = c.ranges in
    less_true w32 _ _ fits.x fits.y c.if-x-y.true

pub returns-else-x-y : goal.returns-else-x-y
returns-else-x-y c =
    let fits = c.ranges in
    less_false w32 _ _ fits.x fits.y c.if-x-y.false
