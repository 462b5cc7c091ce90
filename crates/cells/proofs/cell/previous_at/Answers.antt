-- `cells::cell::previous_at` meets its contract: a field past the end is 0.
use Rattle.cells.proofs.Places.{previous_read, previous_past}
use borrow.Author.Rules.{rules}
use Rattle.cells.proofs.cell.previous_at.Goals as goal

pub returns-then-cells-at-gt1 : goal.returns-then-cells-at-gt1
returns-then-cells-at-gt1 c =
    let index = c.index-i in
    previous_read _ _ _ index.ensures _ c.word.ensures

pub returns-else-cells-at-gt1 : goal.returns-else-cells-at-gt1
returns-else-cells-at-gt1 c = previous_past _ _ _ c.index-i.ensures (search rules)

pub returns-else-i-cells : goal.returns-else-i-cells
returns-else-i-cells c = previous_past _ _ _ c.index-i.ensures (search rules)
