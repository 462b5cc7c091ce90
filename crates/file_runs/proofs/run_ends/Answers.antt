-- `file_runs::run_ends` meets its contract. The loop's invariant: the ends of the runs passed are in the table, and the total is the last of them.
use Rattle.file_runs.proofs.RunTables.{ending_begins, next_fits, ending_goes_on, ending_done}
use Rattle.file_records.proofs.Indices.{indexed_field}
use native.Mathlib.Omega.{arith}
use mathlib.Core.Path.{◌∙◌}
use Rattle.file_runs.proofs.run_ends.Goals as goal

pub loop-f-init : goal.loop-f-init
loop-f-init c =
    let pre = c.requires in
    let first_function = c.first_function-first in
    ending_begins pre.0 first_function.ensures.0 c.functions-count.ensures c.count_field-j.ensures pre.1

pub overflow_cast-ends : goal.overflow_cast-ends
overflow_cast-ends c =
    let loop = c.loop-f in
    let loop_test = c.loop-f-test in
    let indexed = c.indexed in
    let from = c.from-total in
    record {
      fits = omega (
        arith,
        next_fits loop.invariant from.result loop_test.true
            (from.ensures ∙ indexed_field _ _ _ _ _ _ _ loop.invariant.index (omega arith) indexed.ensures c.field.ensures),
      );
    }

pub loop-f-preserved : goal.loop-f-preserved
loop-f-preserved c =
    let loop = c.loop-f in
    let loop_test = c.loop-f-test in
    let indexed = c.indexed in
    let from = c.from-total in
    ending_goes_on loop.invariant from.result loop_test.true
    (from.ensures ∙ indexed_field _ _ _ _ _ _ _ loop.invariant.index (omega arith) indexed.ensures c.field.ensures)

pub returns : goal.returns
returns c =
    let first_function = c.first_function-first in
    let functions = c.functions-count in
    let count_field = c.count_field-j in
    ending_done c.loop-f.invariant first_function.ensures.0 functions.ensures count_field.ensures c.loop-f-test.false
