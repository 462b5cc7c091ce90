-- `operators::arithmetic::divide` meets its contract: the quotient is held unless the lowest number is divided by -1.
use Rattle.operators.proofs.Division.{zero_quotient, lowest_quotient, nonzero_divisor, quotient_fits, plain_quotient}
use Rattle.operators.specs.Results.{computed_of}
use Rattle.std.proofs.Common.{w32}
use Rattle.operators.proofs.arithmetic.divide.Goals as goal
use Rattle.operators.proofs.arithmetic.divide.Goals.{then-y-eqminus1+else-x-eqminus2147483648, else-y-eqminus1}

pub returns-then-y-eq0 : goal.returns-then-y-eq0
unfolding computed_of
returns-then-y-eq0 c =
    let fits = c.ranges in
    zero_quotient w32 _ _ fits.x fits.y c.if-y-eq0.true

pub returns-then-x-eqminus2147483648 : goal.returns-then-x-eqminus2147483648
unfolding computed_of
returns-then-x-eqminus2147483648 c =
    let fits = c.ranges in
    lowest_quotient w32 _ _ fits.x fits.y c.if-y-eqminus1.true c.if-x-eqminus2147483648.true

pub nonzero_div-result : goal.nonzero_div-result
nonzero_div-result c =
    let fits = c.ranges in (
      nonzero_divisor w32 _ _ fits.x fits.y c.if-y-eq0.false,
      quotient_fits w32 _ _ fits.x fits.y (λ ex ey.
          elim c.if-y-eqminus1.branch [ then-y-eqminus1+else-x-eqminus2147483648 w ↦ w.if-x-eqminus2147483648.false ex | else-y-eqminus1 w ↦ w.if-y-eqminus1.false ey ]),
    )

pub returns : goal.returns
unfolding computed_of
returns c =
    let fits = c.ranges in
    plain_quotient w32 _ _ fits.x fits.y (λ ex ey.
    elim c.if-y-eqminus1.branch [ then-y-eqminus1+else-x-eqminus2147483648 w ↦ w.if-x-eqminus2147483648.false ex | else-y-eqminus1 w ↦ w.if-y-eqminus1.false ey ]) c.if-y-eq0.false
