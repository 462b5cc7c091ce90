-- `sheet_rules::names::names` meets its contract. The loop's invariant: the records passed are accepted.
use mathlib.Core.Path.{ap, ◌∙◌}
use Rattle.definitions.specs.Refusals.{as_verdict}
use Rattle.laws.proofs.Refusals.{passed_on}
use Rattle.laws.proofs.Verdicts.{passed_none, passed_more, passed_refused}
use native.Mathlib.Omega.{arith}
use borrow.Author.Rules.{rules}
use Rattle.sheet_rules.proofs.names.names.Goals as goal

pub loop-r-init : goal.loop-r-init
loop-r-init c = (search rules, c.due-count.ensures.0, c.requires.0, c.requires.1, passed_none _)

pub returns-in_err-names_at : goal.returns-in_err-names_at
returns-in_err-names_at c =
    let loop = c.loop-r in
    let passed = passed_on c.from_residual.result c.in_err-names_at.field-0.0 c.from_residual.ensures.1 in
    passed_refused _ _ _ _ _ _ _ loop.invariant.1 c.loop-r-test.true loop.invariant.4 (passed ∙ c.in_err-names_at.ensures) passed

pub loop-r-preserved : goal.loop-r-preserved
loop-r-preserved c =
    let loop = c.loop-r in
    (omega arith, loop.invariant.1, loop.invariant.2, loop.invariant.3, passed_more _ _ _ loop.invariant.4 c.names_at.ensures (ap as_verdict c.in_ok-names_at.was))
