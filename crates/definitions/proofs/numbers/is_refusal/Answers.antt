-- `definitions::numbers::is_refusal` meets its contract.
use mathlib.Core.Path.{refl}
use native.Mathlib.Omega.{arith}
use borrow.Author.Tests.{lt-leb, le-leb}
use Rattle.definitions.specs.Ranges.{within}
use Rattle.definitions.specs.Numbers.{truncated, bad_allowance, closed_reading, is_refusal}
use Rattle.definitions.proofs.numbers.is_refusal.Goals as goal

pub returns-then-n-lt-TRUNCATED : goal.returns-then-n-lt-TRUNCATED
unfolding is_refusal within
returns-then-n-lt-TRUNCATED c =
    let n = c.args.n in
    let low = c.if-n-lt-TRUNCATED.true in
    rw (lt-leb truncated n low, lt-leb closed_reading n (omega (arith, low))) refl

pub returns-then-n-le-BAD_ALLOWANCE : goal.returns-then-n-le-BAD_ALLOWANCE
unfolding is_refusal within
returns-then-n-le-BAD_ALLOWANCE c =
    let n = c.args.n in
    rw (le-leb truncated n c.if-n-lt-TRUNCATED.false, le-leb n bad_allowance c.if-n-le-BAD_ALLOWANCE.true) refl

pub returns-then-n-lt-CLOSED_READING : goal.returns-then-n-lt-CLOSED_READING
unfolding is_refusal within
returns-then-n-lt-CLOSED_READING c =
    let n = c.args.n in
    rw (le-leb truncated n c.if-n-lt-TRUNCATED.false, lt-leb n bad_allowance c.if-n-le-BAD_ALLOWANCE.false, lt-leb closed_reading n c.if-n-lt-CLOSED_READING.true) refl

pub returns : goal.returns
unfolding is_refusal within
returns c =
    let n = c.args.n in
    rw (le-leb truncated n c.if-n-lt-TRUNCATED.false, lt-leb n bad_allowance c.if-n-le-BAD_ALLOWANCE.false, le-leb closed_reading n c.if-n-lt-CLOSED_READING.false) refl
