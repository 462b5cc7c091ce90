-- `cells::listing::write_labels` meets its contract. The invariant: what is to be written from here on gives the whole output.
use Rattle.cells.proofs.Walks.{WrittenSo}
use Rattle.cells.proofs.listing.write_labels.Given as goal

abbrev pub invariant-loop-i : goal.invariant-loop-i
invariant-loop-i l = WrittenSo l.cells l.c l.count l.initial.out l.out l.at l.i
