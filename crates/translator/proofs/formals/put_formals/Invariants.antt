-- `translator::formals::put_formals` meets its contract. The loop's invariant: the formals of the functions passed are written.
use Rattle.definitions.specs.Trees.{equal_trees}
use Rattle.definitions.specs.Translate.{formal_words}
use Rattle.translation_words.proofs.Writing.{PartsWritten}
use Rattle.translator.proofs.formals.put_formals.Given as goal

abbrev pub invariant-loop-f : goal.invariant-loop-f
invariant-loop-f l = PartsWritten l.initial.out l.at (formal_words (equal_trees l.b) l.b) l.count l.f l.next l.out
