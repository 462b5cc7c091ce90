-- Sheets that ask for two readings, and what a hirer's run answers to them (document 02, request 5): on each of them a run that tests its
-- set in another way, or in another order, answers something else. Above each sheet stand its functions, whose nodes follow in that order.
use Rattle.std.specs.Prelude.{ℕ, List, [], ◌∷◌, ◌++◌, ℤ, pos}
use Rattle.definitions.specs.Numbers.{bad_readings, bad_allowance, closed_reading}
use Rattle.definitions.specs.Bytes.{bytes_of}
use Rattle.definitions.specs.SheetKinds.{head, function, number, reading, conditional}
use Rattle.definitions.specs.Translate.{record_words}
use Rattle.definitions.specs.Outcomes.{number_outcome}
use Rattle.definitions.specs.Run.{Answer, refusal}
use Rattle.sheets.specs.Starred.{answering}

-- a sheet, the set, the readings and the nesting allowance of a hirer's run of its translation, and the answer
pub record HirerTrial : Type 0 where
  pub sheet : List ℕ
  pub set : ℕ
  pub readings : List ℤ
  pub nesting : ℕ
  pub answer : Answer

-- result = reading 0
-- other = reading 1, which no function calls
unfoldable pub never_called : List ℕ
never_called =
    bytes_of
    (record_words head (2 ∷ 0 ∷ 2 ∷ 2 ∷ []) ++ record_words function (0 ∷ 1 ∷ []) ++ record_words function (0 ∷ 1 ∷ [])
    ++ record_words reading (0 ∷ []) ++ record_words reading (1 ∷ []))

-- result = if 0 then reading 0 else reading 1
unfoldable pub not_taken : List ℕ
not_taken =
    bytes_of
    (record_words head (2 ∷ 0 ∷ 1 ∷ 4 ∷ []) ++ record_words function (0 ∷ 4 ∷ [])
    ++ record_words number (0 ∷ 0 ∷ []) ++ record_words reading (0 ∷ []) ++ record_words reading (1 ∷ []) ++ record_words conditional (0 ∷ 1 ∷ 2 ∷ []))

-- result = reading 0
unfoldable pub one_read : List ℕ
one_read = bytes_of (record_words head (2 ∷ 0 ∷ 1 ∷ 1 ∷ []) ++ record_words function (0 ∷ 1 ∷ []) ++ record_words reading (0 ∷ []))

unfoldable pub hirer_trials : List HirerTrial
hirer_trials =
    -- "reached or not": reading 1 stands in a function that is never called, and is record 4
    record { sheet = never_called; set = 1; readings = pos 5 ∷ pos 7 ∷ []; nesting = 9; answer = refusal closed_reading 4 }
    -- and under an if that is not taken
    ∷ record { sheet = not_taken; set = 2; readings = pos 5 ∷ pos 7 ∷ []; nesting = 9; answer = refusal closed_reading 3 }
    -- "Else the hirer's run is the owner's": the full set, and bits past the readings
    ∷ record { sheet = never_called; set = 3; readings = pos 5 ∷ pos 7 ∷ []; nesting = 9; answer = answering (number_outcome (pos 5)) 1 0 }
    ∷ record { sheet = never_called; set = 4294967295; readings = pos 5 ∷ pos 7 ∷ []; nesting = 9; answer = answering (number_outcome (pos 5)) 1 0 }
    ∷ record { sheet = not_taken; set = 3; readings = pos 5 ∷ pos 7 ∷ []; nesting = 9; answer = answering (number_outcome (pos 7)) 3 0 }
    -- "place of the first such node's record": of both nodes, by the empty set
    ∷ record { sheet = never_called; set = 0; readings = pos 5 ∷ pos 7 ∷ []; nesting = 9; answer = refusal closed_reading 3 }
    -- "before 9", and before 10; 9 and 10 where the set is open
    ∷ record { sheet = never_called; set = 1; readings = pos 5 ∷ []; nesting = 0; answer = refusal closed_reading 4 }
    ∷ record { sheet = never_called; set = 3; readings = pos 5 ∷ []; nesting = 0; answer = refusal bad_readings 0 }
    ∷ record { sheet = never_called; set = 3; readings = pos 5 ∷ pos 7 ∷ []; nesting = 0; answer = refusal bad_allowance 0 }
    -- lists that agree on the allowed reading
    ∷ record { sheet = one_read; set = 1; readings = pos 5 ∷ pos 7 ∷ []; nesting = 9; answer = answering (number_outcome (pos 5)) 1 0 }
    ∷ record { sheet = one_read; set = 1; readings = pos 5 ∷ pos 8 ∷ []; nesting = 9; answer = answering (number_outcome (pos 5)) 1 0 }
    ∷ []
