-- `cells::cell::clear_entries` meets its contract: the part that was filled is the entries.
use Rattle.std.proofs.Common.{arith}
use Rattle.cells.proofs.Entries.{cleared}
use Rattle.cells.proofs.cell.clear_entries.Goals as goal

pub returns : goal.returns
returns c =
    cleared _ _ _ _ 62 (omega arith) (omega (arith, c.requires)) (c.fill.ensures.after (λ y e. e))
