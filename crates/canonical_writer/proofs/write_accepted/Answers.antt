-- `canonical_writer::write_accepted` meets its contract: an output that is shorter than the sheet, or the canonical form written.
use mathlib.Core.Path.{sym}
use borrow.Author.Tests.{leb-true}
use Rattle.definitions.specs.Numbers.{short_output}
use Rattle.laws.proofs.Verdicts.{required}
use Rattle.canonical_writer.proofs.Promises.{refused_output, room_decides, output_written}
use Rattle.canonical_writer.proofs.write_accepted.Goals as goal

pub returns-in_err-require : goal.returns-in_err-require
returns-in_err-require c =
    let error = c.in_err-require in
    refused_output c.from_residual.result error.field-0.0 c.from_residual.ensures.1 (room_decides _ _ c.requires.sheet.accepted error.ensures)

pub write-length-requires : goal.write-length-requires
write-length-requires c =
    let pre = c.requires in
    record {
      tables = record { sheet = record { sheet = pre.sheet; sized = c.fill_sizes.ensures }; ordered = c.fill_order.ensures };
      room = leb-true _ _ (required _ short_output 0 (sym c.in_ok-require.ensures));
    }

pub returns : goal.returns
returns c = output_written c.requires.sheet.accepted c.in_ok-require.ensures c.write-length.ensures
