-- `sheet_rules::seen::note_sheet` meets its contract. The loop's invariant: the children of the nodes passed are noted.
use borrow.Author.Rules.{rules}
use Rattle.sheet_rules.proofs.SeenTables.{seeing_goes_on}
use Rattle.sheet_rules.proofs.seen.note_sheet.Goals as goal

pub loop-p-preserved : goal.loop-p-preserved
loop-p-preserved c = search (rules, seeing_goes_on)
