-- The loop has written the first bytes of the word.
use Rattle.std.proofs.Common.{take}
use Rattle.report.specs.Writing.{Appends}
use Rattle.report.proofs.line_writer.LineWriter.word.Given as goal

abbrev pub invariant-loop-x : goal.invariant-loop-x
invariant-loop-x l = Appends l.initial.self (take l.x-index l.word) l.self
