-- `file_records::records::indexed_from` meets its contract: where the sum is not formed, it is past the index.
use Rattle.file_records.proofs.Indices.{record_past}
use native.Mathlib.Omega.{arith}
use Rattle.file_records.proofs.records.indexed_from.Goals as goal

pub returns-else-first-lt-MOST_RECORDS : goal.returns-else-first-lt-MOST_RECORDS
returns-else-first-lt-MOST_RECORDS c = record_past _ _ _ _ (omega (arith, c.else-first-lt-MOST_RECORDS.either)) c.record_at.ensures
