-- `Allowances::fit` meets its contract.
use Rattle.allowances.proofs.Limits.{past_a_ceiling, cells_lent}
use Rattle.allowances.proofs.Allowances.fit.Goals as goal

pub returns-then-self-lt1 : goal.returns-then-self-lt1
returns-then-self-lt1 c = past_a_ceiling _ _ _ c.then-self-lt1.either

pub returns : goal.returns
returns c = cells_lent _ _ _ c.if-self-lt1.false c.if-self-gt-MOST_NESTING.false c.if-self-gt-MOST_CELLS.false
