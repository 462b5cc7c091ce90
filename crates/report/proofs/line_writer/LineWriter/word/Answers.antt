-- One byte more of the word is written.
use Rattle.report.proofs.Writing.{wrote_more}
use Rattle.report.proofs.line_writer.LineWriter.word.Goals as goal

pub loop-x-preserved : goal.loop-x-preserved
loop-x-preserved c = wrote_more _ c.loop-x.invariant c.loop-x-test.true c.byte.ensures
