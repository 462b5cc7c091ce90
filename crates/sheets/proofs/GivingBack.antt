-- What is given back and what is kept: one statement over a list of trials, and runs that keep all cells beside it, by computation.
use mathlib.Core.Path.{◌≡◌, refl}
use mathlib.Core.List.{map}
use Rattle.sheets.specs.EqualCalls.{num, first, sum, of}
use Rattle.sheets.specs.Remembering.{five_times}
use Rattle.sheets.specs.GivingBack.{older_cell, inner_call, newer_cell, giving_back, GivingBack}
use Rattle.sheets.proofs.Opened.{opened}
use Rattle.sheets.proofs.Observed.{observed, expected, endless, all_hold}

trials_agree : map observed giving_back ≡ map expected giving_back
unfolding opened observed expected endless num first sum of five_times older_cell inner_call newer_cell giving_back
trials_agree = refl

pub giving_back_holds : GivingBack
unfolding opened num first sum of five_times newer_cell
giving_back_holds = record { hold = all_hold giving_back trials_agree; kept_one = refl; kept_newer = refl; kept_two = refl; kept_all = refl }
