-- `cells::listing::count_labels` meets its contract. The invariant: the labels counted and those of the walk
-- from `at` are all; the measure is the cell's number, since each previous number is smaller.
use Rattle.cells.proofs.Walks.{CountedSo}
use Rattle.cells.proofs.listing.count_labels.Given as goal

abbrev pub invariant-loop-at : goal.invariant-loop-at
invariant-loop-at l = CountedSo l.cells l.c l.made l.at l.n

abbrev pub decreases-loop-at : goal.decreases-loop-at
decreases-loop-at l = l.at
