-- The space has room for every line.
use Rattle.std.proofs.Common.{rules}
use Rattle.report.proofs.Lines.{line_written}
use Rattle.report.proofs.write_line.Goals as goal

pub returns : goal.returns
returns c = line_written (search rules) c.answer.ensures
