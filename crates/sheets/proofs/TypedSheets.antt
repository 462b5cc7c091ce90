-- Typed sheets tried: one statement over the list, by one computation.
use mathlib.Core.Path.{◌≡◌, refl}
use mathlib.Core.List.{map}
use Rattle.definitions.specs.Checks.{sheet_verdict}
use Rattle.sheets.specs.Orders.{ReaderTrial}
use Rattle.sheets.specs.TypedSheets.{typed_sheets}
use Rattle.sheets.proofs.Opened.{opened}

-- the reader's verdict on each sheet is the one that the rules of types, in their order, give
pub typed_sheets_hold : map (λ (o : ReaderTrial). sheet_verdict o.sheet) typed_sheets ≡ map (λ (o : ReaderTrial). o.verdict) typed_sheets
unfolding opened typed_sheets
typed_sheets_hold = refl
