-- Which value of a reading gives a number (document 02, request 12): "Given readings, one position, a lowest and highest value and a wanted
-- number, find the smallest value for that reading with which the run, at the given allowances, ends in that number."
use Rattle.std.specs.Prelude.{ℕ, suc, List, Bool, false, cond, ◌&&◌, ℤ, pos, negsuc, ◌+ℤ◌, ◌-ℤ◌, length, set, ltb}
use Rattle.definitions.specs.Sizes.{most_values}
use Rattle.definitions.specs.Numbers.{bad_range, no_value}
use Rattle.definitions.specs.Lists.{first_passing}
use Rattle.definitions.specs.Ranges.{within}
use Rattle.definitions.specs.Verdicts.{◌and_then◌, require}
use Rattle.definitions.specs.Layouts.{readings}
use Rattle.definitions.specs.Operators.{equal}
use Rattle.definitions.specs.Outcomes.{Outcome, number_outcome, end_outcome}
use Rattle.definitions.specs.Rule.{integer, constructor, Ending, value, ended}
use Rattle.definitions.specs.Run.{rule_end, run_verdict, bytes_after}
use Rattle.definitions.specs.RunsInTurn.{cells_in_turn}
use Rattle.definitions.specs.Verdict.{Verdict, Accepted, Refused}
use Rattle.definitions.specs.Searched.{Searched}
use Rattle.definitions.specs.Searched as searched

-- "one position, a lowest and highest value and a wanted number"
pub record Query : Type 0 where
  pub position : ℕ
  pub lowest : ℤ
  pub highest : ℤ
  pub wanted : ℤ

-- the same, as the call takes it
abbrev pub query : ℕ → ℤ → ℤ → ℤ → Query
query position lowest highest wanted = record { position = position; lowest = lowest; highest = highest; wanted = wanted }

-- the values from the lowest to the highest: value i, and how many there are, none where the lowest is above the highest
unfoldable pub value_at : ℤ → ℕ → ℤ
value_at lowest i = lowest +ℤ pos i

unfoldable pub count_to : ℤ → ℕ
count_to (pos n) = suc n
count_to (negsuc n) = 0

unfoldable pub value_count : ℤ → ℤ → ℕ
value_count lowest highest = count_to (highest -ℤ lowest)

-- "23 (bad range: lowest above highest, more than 1,024 values, or position not below I)"
unfoldable pub range_fits : List ℕ → ℕ → ℤ → ℤ → Bool
range_fits b position lowest highest = within 1 most_values (value_count lowest highest) && ltb position (readings b)

-- "Checks: 23 .., after 10, place 0"
unfoldable pub search_verdict : List ℕ → List ℤ → Query → ℕ → ℕ → ℕ → Verdict
search_verdict b rs q nesting cells lent =
    run_verdict b rs nesting cells lent and_then require (range_fits b q.position q.lowest q.highest) bad_range 0

-- the readings of run i, which has value i for "that reading"
unfoldable pub readings_tried : List ℤ → Query → ℕ → List ℤ
readings_tried rs q i = set rs q.position (value_at q.lowest i)

-- whether a run "ends in that number. A stopped or faulted run doesn't count", nor does one that ends with a constructor
unfoldable pub ends_in : ℤ → Ending ℕ → Bool
ends_in wanted (value (integer z)) = equal z wanted
ends_in wanted (value (constructor k w)) = false
ends_in wanted (ended n) = false

unfoldable pub run_finds : List ℕ → List ℤ → Query → ℕ → ℕ → ℕ → ℕ → Bool
run_finds b rs q steps nesting cells i = ends_in q.wanted (rule_end b (readings_tried rs q i) steps nesting cells).ending

-- the first run, from the lowest value on, that does; where none does, the number of values
unfoldable pub first_finding : List ℕ → List ℤ → Query → ℕ → ℕ → ℕ → ℕ
first_finding b rs q steps nesting cells = first_passing (value_count q.lowest q.highest) (run_finds b rs q steps nesting cells)

-- "find the smallest value"; "'None' is said only if no value in the range does it"
unfoldable pub searched_by : Query → ℕ → Searched
searched_by q i = cond (ltb i (value_count q.lowest q.highest)) (searched.Found (value_at q.lowest i)) searched.NoValue

unfoldable pub searched_after : Verdict → Searched → Searched
searched_after Accepted s = s
searched_after (Refused n p) s = searched.Refused n p

unfoldable pub search_answer : List ℕ → List ℤ → Query → ℕ → ℕ → ℕ → ℕ → Searched
search_answer b rs q steps nesting cells lent =
    searched_after (search_verdict b rs q nesting cells lent) (searched_by q (first_finding b rs q steps nesting cells))

-- how many runs there are: "to the one found or the highest"
unfoldable pub runs_made : Query → ℕ → ℕ
runs_made q i = cond (ltb i (value_count q.lowest q.highest)) (suc i) i

-- "the cells are left as by the runs from the lowest on, in turn"
unfoldable pub search_cells : List ℕ → List ℤ → Query → ℕ → ℕ → ℕ → List ℕ → List ℕ
search_cells b rs q steps nesting cells before =
    bytes_after (search_verdict b rs q nesting cells (length before)) before
    (cells_in_turn b (readings_tried rs q) steps nesting cells (runs_made q (first_finding b rs q steps nesting cells)) before)

-- the number and the value of each answer: "24 (none) is an outcome and no refusal"
unfoldable pub searched_outcome : Searched → Outcome
searched_outcome (searched.Found z) = number_outcome z
searched_outcome searched.NoValue = end_outcome no_value
searched_outcome (searched.Refused n p) = record { outcome = n; value = pos p }
