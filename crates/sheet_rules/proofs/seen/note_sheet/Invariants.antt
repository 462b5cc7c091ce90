-- `sheet_rules::seen::note_sheet` meets its contract. The loop's invariant: the children of the nodes passed are noted.
use Rattle.sheet_rules.proofs.SeenTables.{Seeing}
use Rattle.sheet_rules.proofs.seen.note_sheet.Given as goal

abbrev pub invariant-loop-p : goal.invariant-loop-p
invariant-loop-p l = Seeing l.b l.starts l.first l.count l.times l.parents l.p
