-- `translation_length::translated_length` meets its contract: the reader's refusal, or what is counted of an accepted sheet.
use mathlib.Core.Path.{refl}
use Rattle.definitions.specs.Output.{written_of}
use Rattle.definitions.specs.Translate.{translation_answer}
use Rattle.call_labels.proofs.CallLabels.{reader_accepts}
use Rattle.translation_length.proofs.WordCounts.{reader_refuses}
use Rattle.translation_length.proofs.translated_length.Goals as goal

pub returns-in-Err : goal.returns-in-Err
unfolding translation_answer written_of
returns-in-Err c = rw (← reader_refuses _ c.args.room c.in-Err.ensures.verdict) refl

pub length_accepted-requires : goal.length_accepted-requires
length_accepted-requires c = reader_accepts c.in-Ok.ensures refl
