-- The order of refusals, tried on files with several faults: one statement over the list, by one computation.
use mathlib.Core.Path.{◌≡◌, refl}
use mathlib.Core.List.{map}
use Rattle.definitions.specs.Checks.{sheet_verdict}
use Rattle.sheets.specs.Orders.{ReaderTrial, orders}
use Rattle.sheets.proofs.Opened.{opened}

-- the reader's verdict on each file is the one that the order picks
pub orders_hold : map (λ (o : ReaderTrial). sheet_verdict o.sheet) orders ≡ map (λ (o : ReaderTrial). o.verdict) orders
unfolding opened orders
orders_hold = refl
