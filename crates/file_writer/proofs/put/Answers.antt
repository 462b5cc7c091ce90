-- A word fits at every place but the last of the space, and its two bytes are stored there; at any other place it does not fit,
-- and nothing is stored. Assumes nothing.
use native.Mathlib.Omega.{arith}
use Rattle.file_writer.proofs.Laws.{word_written, word_unwritten}
use Rattle.file_writer.proofs.put.Goals as goal

pub returns-then-at-lt-WORD_PLACES : goal.returns-then-at-lt-WORD_PLACES
returns-then-at-lt-WORD_PLACES c = word_written _ _ _ (omega arith)

pub returns-else-at-lt-WORD_PLACES : goal.returns-else-at-lt-WORD_PLACES
returns-else-at-lt-WORD_PLACES c = word_unwritten _ _ _ (omega arith)
