-- `operators::arithmetic::in_signed_range` meets its contract: the range by its two ends.
use Rattle.operators.proofs.Products.{out_below, by_highest}
use Rattle.std.proofs.Common.{w32, w64}
use Rattle.operators.proofs.arithmetic.in_signed_range.Goals as goal

pub returns-then-z-ltminus2147483648 : goal.returns-then-z-ltminus2147483648
returns-then-z-ltminus2147483648 c = out_below w32 w64 _ c.ranges.z c.if-z-ltminus2147483648.true

pub returns : goal.returns
returns c = by_highest w32 w64 _ c.ranges.z c.if-z-ltminus2147483648.false
