-- A number that is not negative is its own size.
use Rattle.std.proofs.Common.{refl}
use Rattle.report.specs.Decimals.{integer}
use Rattle.report.proofs.shown.SignedFromUsize.from.Goals as goal

pub returns : goal.returns
unfolding integer
returns c = refl
