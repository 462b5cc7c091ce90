-- `cells::cell::add_cell` meets its contract: label, previous number, empty entries and callee, where the cell fits.
use Rattle.cells.proofs.Entries.{cell_added_law, cell_past}
use Rattle.cells.proofs.cell.add_cell.Goals as goal

pub returns-then-live-cells : goal.returns-then-live-cells
returns-then-live-cells c =
    cell_added_law _ _ _ _ c.if-live-cells.true c.set_word.ensures c.set_word-then-live-cells.ensures c.clear_entries.ensures
    c.set_word-then-live-cells-2.ensures

pub returns-else-live-cells : goal.returns-else-live-cells
returns-else-live-cells c = cell_past _ _ _ _ _ c.if-live-cells.false
