-- `translator::formals::put_function_formals` meets its contract. The loop's invariant: the formals of the positions passed are written.
use Rattle.definitions.specs.TranslationKinds.{formal_list}
use Rattle.definitions.specs.Trees.{equal_trees}
use Rattle.definitions.specs.Labels.{actuals}
use Rattle.definitions.specs.Translate.{record_words}
use Rattle.translation_words.proofs.Writing.{PartsWritten}
use Rattle.translator.proofs.formals.put_function_formals.Given as goal

abbrev pub invariant-loop-i : goal.invariant-loop-i
invariant-loop-i l = PartsWritten l.initial.out l.at (λ n. record_words formal_list (actuals (equal_trees l.b) l.b l.f n)) l.positions l.i l.next l.out
