-- `translator::file::fits` meets its contract: the greatest length, or the length that is counted.
use mathlib.Core.Path.{◌∙◌}
use borrow.Author.Tests.{le-leb}
use Rattle.translator.proofs.Promises.{greatest_fits, counted_fits}
use Rattle.translator.proofs.file.fits.Goals as goal

pub returns-then-room-ge-TRANSLATION_BYTES : goal.returns-then-room-ge-TRANSLATION_BYTES
returns-then-room-ge-TRANSLATION_BYTES c =
    let pre = c.requires in
    le-leb _ _ c.if-room-ge-TRANSLATION_BYTES.true ∙ greatest_fits _ pre.sheet.accepted _ c.if-room-ge-TRANSLATION_BYTES.true

pub returns-else-room-ge-TRANSLATION_BYTES : goal.returns-else-room-ge-TRANSLATION_BYTES
returns-else-room-ge-TRANSLATION_BYTES c = counted_fits _ c.count_bytes.ensures
