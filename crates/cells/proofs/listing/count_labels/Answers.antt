-- `cells::listing::count_labels` meets its contract. The invariant: the labels counted and those of the walk
-- from `at` are all; the measure is the cell's number, since each previous number is smaller.
use Rattle.cells.proofs.Walks.{count_none, counted_damaged, count_more, counted_all}
use Rattle.cells.proofs.listing.count_labels.Goals as goal

pub loop-at-init : goal.loop-at-init
loop-at-init c = count_none _ _

pub returns-then-made-at : goal.returns-then-made-at
returns-then-made-at c =
    counted_damaged c.loop-at.invariant c.loop-at-test.true c.previous_at.ensures c.from-previous.ensures c.then-made-at.either

pub loop-at-preserved : goal.loop-at-preserved
loop-at-preserved c =
    count_more c.loop-at.invariant c.loop-at-test.true c.previous_at.ensures c.from-previous.ensures c.if-made-at.false c.if-at-previous.false

pub returns : goal.returns
returns c = counted_all c.loop-at.invariant c.loop-at-test.false
