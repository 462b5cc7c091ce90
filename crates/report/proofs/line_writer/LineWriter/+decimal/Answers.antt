-- The digits of the tenth, where there are more than one, then the last digit.
use Rattle.report.proofs.Digits.{wrote_digit, wrote_last}
use Rattle.report.proofs.line_writer.LineWriter.+decimal.Goals.{then-n-ge10, else-n-ge10}
use Rattle.report.proofs.line_writer.LineWriter.+decimal.Goals as goal

pub returns : goal.returns
returns t c =
    elim c.if-n-ge10.branch [
      | then-n-ge10 w ↦ wrote_last w.if-n-ge10.true w.decimal.ensures (rw w.self-is at c.byte.ensures)
      | else-n-ge10 w ↦ wrote_digit w.if-n-ge10.false (rw w.self-is at c.byte.ensures)
    ]
