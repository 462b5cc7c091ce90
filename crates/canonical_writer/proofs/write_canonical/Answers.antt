-- `canonical_writer::write_canonical` meets its contract: the reader's refusal, or what an accepted sheet gives.
use Rattle.canonical_writer.proofs.Promises.{reader_accepts, refused_output, reader_refuses}
use Rattle.canonical_writer.proofs.write_canonical.Goals as goal

pub returns-in_err-fill_sheet : goal.returns-in_err-fill_sheet
returns-in_err-fill_sheet c =
    let error = c.in_err-fill_sheet in
    refused_output c.from_residual.result error.field-0.0 c.from_residual.ensures.1 (reader_refuses _ _ error.ensures.verdict)

pub write_accepted-requires : goal.write_accepted-requires
write_accepted-requires c = reader_accepts c.in_ok-fill_sheet.ensures
