-- `translation_words::put_fields` meets its contract. The loop's invariant: the fields passed are written.
use Rattle.translation_words.proofs.Writing.{PartsWritten}
use mathlib.Core.List.{[], ◌∷◌}
use Rattle.definitions.specs.Records.{field}
use Rattle.translation_words.proofs.put_fields.Given as goal

abbrev pub invariant-loop-j : goal.invariant-loop-j
invariant-loop-j l = PartsWritten l.initial.out l.at (λ i. field l.rec i ∷ []) l.count l.j l.next l.out
