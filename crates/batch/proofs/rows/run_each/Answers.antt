-- `batch::rows::run_each` meets its contract: the rows passed were run.
use mathlib.Core.Path.{refl, ◌∙◌}
use Rattle.batch.proofs.InTurn.{ran_none, ran_more, row_fits, running_kept, all_ran}
use native.Mathlib.Omega.{arith}
use borrow.Author.Rules.{rules}
use Rattle.batch.proofs.rows.run_each.Goals as goal

pub loop-row-init : goal.loop-row-init
loop-row-init c =
    let pre = c.requires in
    record { reached = search rules; fit = pre.1; readable = pre.0; ran = ran_none; stays = refl }

pub run_row-requires : goal.run_row-requires
run_row-requires c =
    let loop = c.loop-row in
    let loop_test = c.loop-row-test in
    (loop.invariant.readable, row_fits loop.invariant.fit loop.invariant.ran loop_test.true)

pub loop-row-preserved : goal.loop-row-preserved
loop-row-preserved c =
    let run_row = c.run_row in
    let loop_test = c.loop-row-test in
    let inv = c.loop-row.invariant in
    record {
      reached = omega (arith, loop_test.true);
      fit = inv.fit;
      readable = run_row.ensures.2;
      ran = ran_more inv.ran run_row.ensures.0;
      stays = run_row.ensures.1 ∙ inv.stays;
    }

pub shape_of-records : goal.shape_of-records
shape_of-records c = running_kept c.loop-row.invariant

pub returns : goal.returns
returns c = all_ran c.loop-row.invariant c.loop-row-test.false
