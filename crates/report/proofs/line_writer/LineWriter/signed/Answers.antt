-- A minus before the size where there is one.
use Rattle.report.proofs.Digits.{wrote_minus, wrote_plain}
use Rattle.report.proofs.line_writer.LineWriter.signed.Goals.{then-x, else-x}
use Rattle.report.proofs.line_writer.LineWriter.signed.Goals as goal

pub returns : goal.returns
returns c =
    elim c.if-x.branch [
      | then-x w ↦ wrote_minus _ w.if-x.true w.byte.ensures (rw w.self-is at c.decimal.ensures)
      | else-x w ↦ wrote_plain _ w.if-x.false (rw w.self-is at c.decimal.ensures)
    ]
