-- `cells::listing::write_labels` meets its contract. The invariant: what is to be written from here on gives the whole output.
use Rattle.cells.proofs.Walks.{write_none, write_more, written_all}
use Rattle.cells.proofs.listing.write_labels.Goals as goal

pub loop-i-init : goal.loop-i-init
loop-i-init c = write_none c.requires

pub loop-i-preserved : goal.loop-i-preserved
loop-i-preserved c =
    write_more c.loop-i.invariant c.loop-i-test.true c.label_at.ensures c.previous_at.ensures c.from-at.ensures c.put_word.ensures

pub returns : goal.returns
returns c = written_all c.loop-i.invariant c.loop-i-test.false
