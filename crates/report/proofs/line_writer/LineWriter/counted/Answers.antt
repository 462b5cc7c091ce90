-- The word, the number, the counts.
use Rattle.report.specs.Lines.{counted_line}
use Rattle.report.proofs.Writing.{wrote_then}
use Rattle.report.proofs.line_writer.LineWriter.counted.Goals as goal

pub returns : goal.returns
unfolding counted_line
returns c = wrote_then (wrote_then c.word.ensures c.signed.ensures) c.counts.ensures
