-- `cells::cell::label_at` meets its contract: a cell far past the end has no byte.
use Rattle.cells.proofs.Places.{label_read, label_past}
use Rattle.cells.proofs.cell.label_at.Goals as goal

pub returns-then-i-cells : goal.returns-then-i-cells
returns-then-i-cells c =
    let index = c.index-i in
    label_read _ _ _ index.ensures _ c.word.ensures

pub returns-else-i-cells : goal.returns-else-i-cells
returns-else-i-cells c = label_past _ _ _ c.index-i.ensures c.if-i-cells.false
