-- `translator::translate` meets its contract: the reader's refusal, or what the translation of an accepted sheet gives.
use mathlib.Core.Path.{refl}
use Rattle.call_labels.proofs.CallLabels.{reader_accepts}
use Rattle.translation_length.proofs.WordCounts.{reader_refuses}
use Rattle.translator.proofs.Promises.{refused_output}
use Rattle.translator.proofs.translate.Goals as goal

pub returns-in_err-fill_sheet : goal.returns-in_err-fill_sheet
returns-in_err-fill_sheet c =
    let error = c.in_err-fill_sheet in
    refused_output c.from_residual.result error.field-0.0 c.from_residual.ensures.1 (reader_refuses _ _ error.ensures.verdict)

pub translate_accepted-requires : goal.translate_accepted-requires
translate_accepted-requires c = reader_accepts c.in_ok-fill_sheet.ensures refl
