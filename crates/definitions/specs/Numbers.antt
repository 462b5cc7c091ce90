-- The numbers of document 01's table "What the repeater reports" and those that document 02 adds, each with the paper's word, the two
-- outcomes that are values, and the classes of these numbers.
use Rattle.std.specs.Prelude.{ℕ, Bool, ◌||◌, eqb}
use Rattle.definitions.specs.Ranges.{within}

-- "cut"
abbrev pub truncated : ℕ
truncated = 1

-- "oversize"
abbrev pub oversize : ℕ
oversize = 2

-- "bad record"
abbrev pub bad_record : ℕ
bad_record = 3

-- "bad count"
abbrev pub bad_count : ℕ
bad_count = 4

-- "dangling"
abbrev pub out_of_range : ℕ
out_of_range = 5

-- "misgrown"
abbrev pub bad_tree : ℕ
bad_tree = 6

-- "misfit"
abbrev pub bad_arguments : ℕ
bad_arguments = 7

-- "short tray"
abbrev pub short_output : ℕ
short_output = 8

-- "sensor count"
abbrev pub bad_readings : ℕ
bad_readings = 9

-- "bad allowance"
abbrev pub bad_allowance : ℕ
bad_allowance = 10

-- stop "steps"
abbrev pub no_step : ℕ
no_step = 11

-- stop "nesting"
abbrev pub no_nesting : ℕ
no_nesting = 12

-- stop "cells"
abbrev pub no_cell : ℕ
no_cell = 13

-- "number wanted"
abbrev pub number_wanted : ℕ
number_wanted = 14

-- "constructor wanted"
abbrev pub constructor_wanted : ℕ
constructor_wanted = 15

-- "no clause"
abbrev pub no_clause : ℕ
no_clause = 16

-- "zero divisor"
abbrev pub zero_divisor : ℕ
zero_divisor = 17

-- "no actual"
abbrev pub no_actual : ℕ
no_actual = 18

-- "no field"
abbrev pub no_field : ℕ
no_field = 19

-- "overflow" (document 02, request 2)
abbrev pub overflow : ℕ
overflow = 20

-- "closed" (document 02, request 5)
abbrev pub closed_reading : ℕ
closed_reading = 21

-- "ill typed" (document 02, request 11)
abbrev pub ill_typed : ℕ
ill_typed = 22

-- "bad range" (document 02, request 12)
abbrev pub bad_range : ℕ
bad_range = 23

-- "none" (document 02, request 12): "an outcome and no refusal"
abbrev pub no_value : ℕ
no_value = 24

-- the outcome of a number
abbrev pub is_number : ℕ
is_number = 0

-- the outcome of a constructor
abbrev pub is_constructor : ℕ
is_constructor = 100

-- whether a number is a refusal's, "numbered refusal"
unfoldable pub is_refusal : ℕ → Bool
is_refusal n = within truncated bad_allowance n || within closed_reading bad_range n

-- whether it is a stop's
unfoldable pub is_stop : ℕ → Bool
is_stop n = within no_step no_cell n

-- whether it is a run fault's: "Run faults are 14 to 19"; "20 (overflow), a run fault"
unfoldable pub is_fault : ℕ → Bool
is_fault n = within number_wanted overflow n

-- whether it is a number's, a constructor's or a run fault's, as demand 3 speaks of an answer
unfoldable pub is_answer : ℕ → Bool
is_answer n = eqb n is_number || eqb n is_constructor || is_fault n
