-- `cells::cell::cell_at` meets its contract: by its bytes where they are there, else by its fields.
use Rattle.cells.proofs.Places.{cell_by_fields, cell_by_bytes}
use Rattle.cells.proofs.cell.cell_at.Goals as goal

pub returns-then-end-cells : goal.returns-then-end-cells
returns-then-end-cells c = cell_by_bytes _ _ c.from-end.ensures c.if-c-gt0.true c.field_of-label.ensures c.field_of-previous.ensures c.pair_of.ensures

pub returns : goal.returns
returns c = cell_by_fields _ _ c.from.ensures c.from-2.ensures c.label_at.ensures c.previous_at.ensures c.pair_of-2.ensures
