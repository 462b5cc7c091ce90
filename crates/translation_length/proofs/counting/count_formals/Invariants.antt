-- `translation_length::counting::count_formals` meets its contract. The loop's invariant: the words of the formals of the functions passed are
-- summed.
use Rattle.translation_length.specs.Words.{formal_length}
use Rattle.translation_length.proofs.WordCounts.{Summed}
use Rattle.translation_length.proofs.counting.count_formals.Given as goal

abbrev pub invariant-loop-f : goal.invariant-loop-f
invariant-loop-f l = Summed (formal_length l.b) l.count l.total l.f
