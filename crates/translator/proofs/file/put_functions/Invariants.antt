-- `translator::file::put_functions` meets its contract. The loop's invariant: the records of the functions passed are written.
use Rattle.translation_words.proofs.Writing.{PartsWritten}
use Rattle.definitions.specs.Translate.{function_words}
use Rattle.translator.proofs.file.put_functions.Given as goal

abbrev pub invariant-loop-f : goal.invariant-loop-f
invariant-loop-f l = PartsWritten l.initial.out l.at (function_words l.b) l.count l.f l.next l.out
