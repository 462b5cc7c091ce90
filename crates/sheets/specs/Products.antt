-- Products at the ends of the range (document 02, request 2), in the style of the starred lines, and the statement over the list.
use Rattle.std.specs.Prelude.{ℕ, ℤ, pos, negsuc}
use mathlib.Core.List.{List, [], ◌∷◌, Memᴰ}
use Rattle.std.proofs.Math.Option.{some}
use Rattle.definitions.specs.Numbers.{number_wanted, overflow}
use Rattle.definitions.specs.OperatorCodes.{add, subtract, multiply}
use Rattle.definitions.specs.Outcomes.{Outcome, number_outcome, end_outcome}
use Rattle.sheets.specs.Sheets.{on_readings, constructor_factor}
use Rattle.sheets.specs.Trial.{Trial, Holds}
use Rattle.sheets.specs.Starred.{answering, trial_with, trial}

-- an operator on two readings: the run and the sheet's own answer have one outcome
unfoldable pub on_numbers : ℕ → ℤ → ℤ → Outcome → Trial
on_numbers code x y o = trial_with (x ∷ y ∷ []) (on_readings code) 1000 100 100 (answering o 3 0) [] (some o)

unfoldable pub products : List Trial
products =
    -- just inside and just outside at the top: 2,147,483,647 and 2,147,483,648
    on_numbers multiply (pos 2147483647) (pos 1) (number_outcome (pos 2147483647))
    ∷ on_numbers multiply (pos 65536) (pos 32768) (end_outcome overflow)
    -- -2,147,483,648 times -1 is 20
    ∷ on_numbers multiply (negsuc 2147483647) (negsuc 0) (end_outcome overflow)
    -- just inside and just outside at the bottom: -65,536 times 32,768 is -2,147,483,648, 715,827,883 times -3 is -2,147,483,649
    ∷ on_numbers multiply (negsuc 65535) (pos 32768) (number_outcome (negsuc 2147483647))
    ∷ on_numbers multiply (pos 715827883) (negsuc 2) (end_outcome overflow)
    -- 46,340 times 46,340 is a number, 46,341 times 46,341 is 20
    ∷ on_numbers multiply (pos 46340) (pos 46340) (number_outcome (pos 2147395600))
    ∷ on_numbers multiply (pos 46341) (pos 46341) (end_outcome overflow)
    -- the greatest product: -2,147,483,648 times itself
    ∷ on_numbers multiply (negsuc 2147483647) (negsuc 2147483647) (end_outcome overflow)
    -- "Add and subtract still reduce": 2,147,483,647 + 2,147,483,647 = -2, -2,147,483,648 - 1 = 2,147,483,647
    ∷ on_numbers add (pos 2147483647) (pos 2147483647) (number_outcome (negsuc 1))
    ∷ on_numbers subtract (negsuc 2147483647) (pos 1) (number_outcome (pos 2147483647))
    -- a constructor on the right is 14
    ∷ trial constructor_factor 1000 100 100 (answering (end_outcome number_wanted) 3 0) [] (some (end_outcome number_wanted))
    ∷ []

pub record Products : Type 0 where
  pub hold : (t : Trial) → Memᴰ t products → Holds t
