-- `driver_view::put_view` meets its contract, by whether the record's outcome is a number's.
use native.Mathlib.Omega.{arith}
use Rattle.driver_view.proofs.Views.{number_shown, nothing_shown}
use Rattle.driver_view.proofs.put_view.Goals as goal

pub returns-then-outcome-eq-NUMBER : goal.returns-then-outcome-eq-NUMBER
returns-then-outcome-eq-NUMBER c =
    let word32 = c.word32-value in
    let word = c.word-outcome in
    number_shown _ _ word.ensures word32.ensures (record { fits = omega (arith, word32.type_inv) }) c.if-outcome-eq-NUMBER.true c.put_fields.ensures

pub returns-else-outcome-eq-NUMBER : goal.returns-else-outcome-eq-NUMBER
returns-else-outcome-eq-NUMBER c =
    let word32 = c.word32-value in
    let word = c.word-outcome in
    nothing_shown _ _ word.ensures word32.ensures c.if-outcome-eq-NUMBER.false c.put_fields-else-outcome-eq-NUMBER.ensures
