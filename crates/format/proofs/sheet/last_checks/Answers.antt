-- `format::sheet::last_checks` meets its contract: the pattern rules, then the types.
use Rattle.format.proofs.Readings.{patterns_refused, types_none, types_last}
use mathlib.Core.Path.{refl}
use Rattle.laws.proofs.Refusals.{passed_on}
use Rattle.format.proofs.sheet.last_checks.Goals as goal

pub returns-in_err-patterns : goal.returns-in_err-patterns
returns-in_err-patterns c = rw (passed_on c.from_residual.result c.in_err-patterns.field-0.0 c.from_residual.ensures.1) (patterns_refused _ c.in_err-patterns.ensures refl)

pub returns-then-not-is_typed : goal.returns-then-not-is_typed
returns-then-not-is_typed c = types_none _ c.in_ok-patterns.ensures refl c.is_typed.ensures c.if-not-is_typed.true

pub returns : goal.returns
returns c =
    let is_typed = c.is_typed in
    let if1 = c.if-not-is_typed in
    types_last _ c.in_ok-patterns.ensures refl is_typed.ensures if1.false c.types.ensures
