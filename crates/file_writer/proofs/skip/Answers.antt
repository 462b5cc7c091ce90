-- The two bytes at a place are the length of the record there. Assumes nothing.
use borrow.Author.Rules.{rules}
use Prim.Native.Nat.{◌+◌}
use native.Mathlib.Omega.{arith}
use Rattle.file_writer.proofs.Laws.{skip_moves, skip_stays}
use Rattle.file_writer.proofs.skip.Goals as goal

pub returns-then-at-lt-WORD_PLACES : goal.returns-then-at-lt-WORD_PLACES
returns-then-at-lt-WORD_PLACES c =
    let at = c.args.at in
    let high = c.from-then-at-lt-WORD_PLACES.ensures in
    (skip_moves _ (omega arith) c.from.ensures high, omega (arith, c.from.ensures, high, c.fits-file at, c.fits-file (at + 1)))

pub returns-else-at-lt-WORD_PLACES : goal.returns-else-at-lt-WORD_PLACES
returns-else-at-lt-WORD_PLACES c = (skip_stays _ _ (omega arith), search rules)
