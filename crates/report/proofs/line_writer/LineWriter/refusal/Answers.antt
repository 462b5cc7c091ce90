-- Three words with two numbers between them.
use Rattle.report.specs.Lines.{refusal_line, refused_word, place_word, line_end}
use Rattle.report.proofs.Writing.{wrote_five}
use Rattle.report.proofs.line_writer.LineWriter.refusal.Goals as goal

pub returns : goal.returns
unfolding refusal_line refused_word place_word line_end
returns c = wrote_five c.word.ensures (rw c.from.ensures at c.decimal.ensures) c.word-2.ensures c.signed.ensures c.word-3.ensures
