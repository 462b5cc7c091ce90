-- Three words with two numbers between them.
use Rattle.report.specs.Lines.{counts, steps_word, cells_word, line_end}
use Rattle.report.proofs.Writing.{wrote_five}
use Rattle.report.proofs.line_writer.LineWriter.counts.Goals as goal

pub returns : goal.returns
unfolding counts steps_word cells_word line_end
returns c = wrote_five c.word.ensures c.decimal.ensures c.word-2.ensures c.decimal-2.ensures c.word-3.ensures
