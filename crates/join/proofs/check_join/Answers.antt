-- `join::check_join` meets its contract: the refusals in their order, or the length.
use Rattle.std.proofs.Common.{◌∙◌}
use Rattle.join.proofs.Joining.{not_translated, readings_refused, allowance_refused, all_checked}
use Rattle.join.proofs.check_join.Goals as goal

pub returns-in_err-size : goal.returns-in_err-size
returns-in_err-size c =
    let refusal = c.in_err-size in
    not_translated _ _ _ _ _ _ c.from_residual.result refusal.field-0.0 c.from_residual.ensures.1 refusal.ensures

pub returns-in_err-require : goal.returns-in_err-require
returns-in_err-require c =
    let test = c.in_err-require in
    let passed = c.from_residual-in_err-require in
    readings_refused _ _ _ _ _ _ c.in_ok-size.ensures (c.from-width.ensures ∙ c.readings.ensures) passed.result test.field-0.0 passed.ensures.1 test.ensures

pub returns-in_err-require-2 : goal.returns-in_err-require-2
returns-in_err-require-2 c =
    let test = c.in_err-require-2 in
    let passed = c.from_residual-in_err-require-2 in
    allowance_refused _ _ _ _ _ _ c.in_ok-size.ensures (c.from-width.ensures ∙ c.readings.ensures) c.in_ok-require.ensures c.fit.ensures
    passed.result test.field-0.0 passed.ensures.1 test.ensures

pub returns : goal.returns
returns c =
    all_checked _ _ _ _ _ _ c.in_ok-size.ensures (c.from-width.ensures ∙ c.readings.ensures) c.in_ok-require.ensures c.fit.ensures c.in_ok-require-2.ensures
