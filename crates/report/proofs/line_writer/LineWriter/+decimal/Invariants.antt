-- The number falls.
use Rattle.report.proofs.line_writer.LineWriter.+decimal.Given as goal

abbrev pub decreases-decimal : goal.decreases-decimal
decreases-decimal l = l.n
