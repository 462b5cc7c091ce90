-- `translator::formals::put_actuals` meets its contract. The loop's invariant: the arguments of the calls passed are written.
use Prim.Native.Nat.{◌+◌}
use Rattle.translation_words.proofs.Writing.{PartsWritten}
use Rattle.translator.proofs.FormalSteps.{argument_of}
use Rattle.translator.proofs.formals.put_actuals.Given as goal

abbrev pub invariant-loop-j : goal.invariant-loop-j
invariant-loop-j l = PartsWritten l.initial.out l.at (λ n. argument_of l.b l.order l.i (l.first + n)) l.count l.j l.next l.out
