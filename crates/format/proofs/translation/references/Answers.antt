-- `format::translation::references` meets its contract. The loop's invariant: the rules of the records passed are accepted.
use native.Mathlib.Omega.{arith}
use Rattle.laws.proofs.Verdicts.{passed_none, passed_more, passed_refused, passed_all}
use borrow.Author.Rules.{rules}
use mathlib.Core.Path.{refl}
use Rattle.laws.proofs.Refusals.{passed_on}
use Rattle.format.proofs.translation.references.Goals as goal

pub loop-r-init : goal.loop-r-init
loop-r-init c = (search rules, c.due-count.ensures.0, c.requires, passed_none _)

pub references_at-requires : goal.references_at-requires
references_at-requires c = (c.loop-r.invariant.2, omega arith)

pub returns-in_err-references_at : goal.returns-in_err-references_at
returns-in_err-references_at c =
    let loop = c.loop-r in
    let refusal = c.in_err-references_at in
    rw (passed_on c.from_residual.result refusal.field-0.0 c.from_residual.ensures.1)
    (passed_refused _ _ _ _ _ _ _ loop.invariant.1 c.loop-r-test.true loop.invariant.3 refusal.ensures refl)

pub loop-r-preserved : goal.loop-r-preserved
loop-r-preserved c =
    let loop = c.loop-r in
    (omega arith, loop.invariant.1, loop.invariant.2, passed_more _ _ _ loop.invariant.3 c.in_ok-references_at.ensures refl)

pub returns : goal.returns
returns c =
    let loop = c.loop-r in
    passed_all _ _ _ _ loop.invariant.1 loop.invariant.0 c.loop-r-test.false loop.invariant.3
