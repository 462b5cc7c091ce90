-- The starred lines of document 01, "Sheets to try", as a list of trials, and the statement over the list; then further trials,
-- under the same statement.
use Rattle.std.specs.Prelude.{◌≡◌, ℕ, suc, ◌*◌, ℤ, pos, negsuc, length, replicate}
use mathlib.Core.List.{List, [], ◌∷◌, ◌++◌, Memᴰ}
use Rattle.std.proofs.Math.Option.{Option, none, some}
use Rattle.definitions.specs.Sizes.{cell_size}
use Rattle.definitions.specs.Numbers.{bad_readings, bad_allowance, no_step, no_nesting, no_cell, zero_divisor}
use Rattle.definitions.specs.Layouts.{item_record}
use Rattle.definitions.specs.NodeFields.{fields_from}
use Rattle.definitions.specs.Outcomes.{Outcome, number_outcome, end_outcome}
use Rattle.definitions.specs.Translate.{translation}
use Rattle.definitions.specs.Run.{Answer}
use Rattle.definitions.specs.declared.Layout.TheVariants.{Translation}
use Rattle.sheets.specs.Sheets.{S, unused_division, division_by_zero, head_of_ones, negative_division, reduced_sum, loop, nested_calls, boxes, caller_argument, built_field}
use Rattle.sheets.specs.Sheets.{bytes_of_s, translation_of_s, cells_of_s}
use Rattle.sheets.specs.MadeCells.{nothing, numbered, built, cell}
use Rattle.sheets.specs.Trial.{Trial, Holds}

-- an outcome with its value after a number of steps, with the most cells alive together; it is no constructor
unfoldable pub answering : Outcome → ℕ → ℕ → Answer
answering o steps cells =
    record { outcome = o.outcome; value = o.value; steps = steps; node = 0; context = 0; cells = cells }

-- a trial with readings, and steps, nesting and cells allowed; lent are 68 bytes for each cell and 68 more, all 170
unfoldable pub trial_with : List ℤ → List ℕ → ℕ → ℕ → ℕ → Answer → List ℕ → Option Outcome → Trial
trial_with readings sheet steps nesting cells answer made own =
    record {
      sheet = sheet;
      readings = readings;
      steps = steps;
      nesting = nesting;
      cells = cells;
      before = replicate (cell_size * suc cells) 170;
      answer = answer;
      made = made;
      own = own;
    }

-- a trial without readings
unfoldable pub trial : List ℕ → ℕ → ℕ → ℕ → Answer → List ℕ → Option Outcome → Trial
trial = trial_with []

-- the starred lines in the document's order, with its words above each, and with the figures of document 02, requests 7 and 9
unfoldable pub starred : List Trial
starred =
    -- S: 10, 11 steps, 1 cell
    trial S 1000 100 100
    (answering (number_outcome (pos 10)) 11 1) cells_of_s (some (number_outcome (pos 10)))
    -- S with 10 steps: 11
    ∷ trial S 10 100 100
    (answering (end_outcome no_step) 10 1) (cell 1 0 1 (numbered 2 0)) (some (number_outcome (pos 10)))
    -- S with nesting 4: 12 after 4 steps, 1 cell
    ∷ trial S 1000 4 100
    (answering (end_outcome no_nesting) 4 1) (cell 0 0 1 []) (some (number_outcome (pos 10)))
    -- nesting 5 answers
    ∷ trial S 1000 5 100
    (answering (number_outcome (pos 10)) 11 1) (cell 1 0 1 (numbered 2 0)) (some (number_outcome (pos 10)))
    -- S with one cell answers; with none: 13 after 2 steps
    ∷ trial S 1000 100 1
    (answering (number_outcome (pos 10)) 11 1) (cell 1 0 1 (numbered 2 0)) (some (number_outcome (pos 10)))
    ∷ trial S 1000 100 0
    (answering (end_outcome no_cell) 2 0) [] (some (number_outcome (pos 10)))
    -- k(1, 1/0): 1
    ∷ trial unused_division 1000 100 100
    (answering (number_outcome (pos 1)) 3 1) (cell 0 0 1 (numbered 1 0)) (some (number_outcome (pos 1)))
    -- 1/0: 17
    ∷ trial division_by_zero 1000 100 100
    (answering (end_outcome zero_divisor) 3 0) [] (some (end_outcome zero_divisor))
    -- head(ones): 1, 8 steps, 2 cells; the first remembers the list, which is node 4 under cell 2
    ∷ trial head_of_ones 1000 100 100
    (answering (number_outcome (pos 1)) 8 2) (cell 0 0 2 (built 4 2) ++ cell 0 0 1 []) (some (number_outcome (pos 1)))
    -- -7 / 2 = -3
    ∷ trial negative_division 1000 100 100
    (answering (number_outcome (negsuc 2)) 3 0) [] (some (number_outcome (negsuc 2)))
    -- 2,147,483,647 + 1 = -2,147,483,648
    ∷ trial reduced_sum 1000 100 100
    (answering (number_outcome (negsuc 2147483647)) 3 0) [] (some (number_outcome (negsuc 2147483647)))
    -- loop with 3 steps, nesting 9, 9 cells: 11; its two calls of `loop`, without arguments, share label 0 (document 02, request 4)
    ∷ trial loop 3 9 9
    (answering (end_outcome no_step) 3 3) (cell 0 0 1 [] ++ cell 0 1 1 [] ++ cell 0 2 1 []) none
    ∷ []

-- trials that it does not ask for
unfoldable pub further : List Trial
further =
    -- S with 11 steps, which are just enough
    trial S 11 100 100
    (answering (number_outcome (pos 10)) 11 1) cells_of_s (some (number_outcome (pos 10)))
    -- loop with nesting 1: 12 after 1 step, 1 cell
    ∷ trial loop 3 1 9
    (answering (end_outcome no_nesting) 1 1) (cell 0 0 1 []) none
    -- f(h(2), 7): -12
    ∷ trial nested_calls 1000 100 100
    (answering (number_outcome (negsuc 11)) 18 4)
    (cell 0 0 2 (numbered 65531 65535 ++ numbered 7 0) ++ cell 0 0 1 (numbered 2 0) ++ cell 2 2 2 (numbered 65533 65535 ++ numbered 2 0)
    ++ cell 1 2 2 (numbered 2 0 ++ numbered 5 0)) (some (number_outcome (negsuc 11)))
    -- open(wrap(9)) - open(wrap(4)): 5
    ∷ trial boxes 1000 100 100
    (answering (number_outcome (pos 5)) 19 2) (cell 1 0 2 (built 8 2) ++ cell 0 0 1 (numbered 4 0)) (some (number_outcome (pos 5)))
    -- f(5), f(a) = g(9, a), g(p, q) = q: 5
    ∷ trial caller_argument 1000 100 100
    (answering (number_outcome (pos 5)) 5 2) (cell 0 0 1 (numbered 5 0) ++ cell 0 1 2 (nothing ++ numbered 5 0)) (some (number_outcome (pos 5)))
    -- f(5), f(a) = h(9, C(a)), h(p, l) = case l of C(x) -> x: 5
    ∷ trial built_field 1000 100 100
    (answering (number_outcome (pos 5)) 9 2) (cell 0 0 1 (numbered 5 0) ++ cell 0 1 2 (nothing ++ built 4 1)) (some (number_outcome (pos 5)))
    -- S with a reading too many and nesting 0: 9, which comes before 10
    ∷ trial_with (pos 1 ∷ []) S 1000 0 100
    (answering (end_outcome bad_readings) 0 0) [] (some (number_outcome (pos 10)))
    -- S with nesting 0: 10
    ∷ trial S 1000 0 100
    (answering (end_outcome bad_allowance) 0 0) [] (some (number_outcome (pos 10)))
    ∷ []

-- "The starred sheets are to be proved of the rules by one statement over a list"; "S: .. 92 bytes; .. the formal lists nodes 0,
-- 2", and 100 translated (document 02, request 7)
pub record Starred : Type 0 where
  pub hold : (t : Trial) → Memᴰ t starred → Holds t
  pub bytes : S ≡ bytes_of_s
  pub byte_count : length S ≡ 92
  pub translated : translation S ≡ translation_of_s
  pub translated_count : length (translation S) ≡ 100
  pub cell_count : length cells_of_s ≡ 68
  pub formal : fields_from (item_record Translation (translation S) 0) 0 ≡ 0 ∷ 2 ∷ []

pub record Further : Type 0 where
  pub hold : (t : Trial) → Memᴰ t further → Holds t
