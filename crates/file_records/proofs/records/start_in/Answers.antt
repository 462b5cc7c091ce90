-- `file_records::records::start_in` meets its contract.
use Rattle.file_records.proofs.Indices.{start_inside, start_past}
use borrow.Author.Rules.{rules}
use native.Mathlib.Omega.{arith}
use Rattle.file_records.proofs.records.start_in.Goals as goal

pub returns-then-r-lt-MOST_RECORDS : goal.returns-then-r-lt-MOST_RECORDS
returns-then-r-lt-MOST_RECORDS c = (start_inside _ _ _ (search rules) c.from.ensures, omega (arith, c.from.ensures, c.fits-starts c.args.r))

pub returns-else-r-lt-MOST_RECORDS : goal.returns-else-r-lt-MOST_RECORDS
returns-else-r-lt-MOST_RECORDS c = (start_past _ _ c.if-r-lt-MOST_RECORDS.false, search rules)
