-- `translator::tables::sums` meets its contract. The loop's invariant: the sums over the functions passed are in the table.
use mathlib.Core.Path.{refl}
use native.Mathlib.Omega.{arith}
use Rattle.accepted.proofs.Sums.{sum_term}
use Rattle.translator.proofs.SheetTables.{summing_begins, summing_goes_on}
use Rattle.translator.proofs.tables.sums.Goals as goal

pub loop-f-init : goal.loop-f-init
loop-f-init g c = λ at e. summing_begins c.requires.few refl refl

pub overflow_add-total : goal.overflow_add-total
overflow_add-total g c =
    let pre = c.requires in
    let taken = c.loop-f-test.true in
    let summed = (c.loop-f.invariant pre.at pre.given).summed in
    record { fits = omega (arith, summed, pre.given _ _ taken c.number-total.ensures, sum_term _ _ pre.at taken, pre.small) }

pub loop-f-preserved : goal.loop-f-preserved
loop-f-preserved g c = λ at e. summing_goes_on (c.loop-f.invariant at e) c.loop-f-test.true (e _ _ c.loop-f-test.true c.number-total.ensures)

pub returns : goal.returns
returns g c = λ at e. let w = c.loop-f.invariant at e in record { entry = λ i l. w.entry i (omega (arith, c.loop-f-test.false, l)) }
