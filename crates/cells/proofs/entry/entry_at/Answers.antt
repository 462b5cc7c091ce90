-- `cells::entry::entry_at` meets its contract: an entry by its bytes, where they are there.
use Rattle.cells.proofs.Entries.{entry_read, entry_past}
use Rattle.cells.proofs.entry.entry_at.Goals as goal

pub returns-then-at-cells : goal.returns-then-at-cells
returns-then-at-cells c =
    entry_read _ _ _ c.entry_place-at.ensures c.if-at-cells.true c.field_of-kind.ensures c.field_of-first.ensures
    c.field_of-second.ensures

pub returns : goal.returns
returns c = entry_past _ _ _ c.entry_place-at.ensures c.if-at-cells.false
