-- `cells::entry::write_entry` meets its contract: six bytes of an entry, where they fit.
use Rattle.cells.proofs.Entries.{entry_written_law, entry_kept}
use Rattle.cells.proofs.entry.write_entry.Goals as goal

pub returns-then-at-cells : goal.returns-then-at-cells
returns-then-at-cells c =
    entry_written_law _ _ _ c.entry_place-at.ensures _ _ _ c.if-at-cells.true c.set_word.ensures c.set_word-then-at-cells.ensures
    c.set_word-then-at-cells-2.ensures

pub returns-else-at-cells : goal.returns-else-at-cells
returns-else-at-cells c = entry_kept _ _ _ c.entry_place-at.ensures _ c.if-at-cells.false
