-- A sheet that asks for a reading, and what searches for its value answer (document 02, request 12): on each a search that counts other runs, goes
-- another way through the range, or tests in another order, answers something else.
use Rattle.std.specs.Prelude.{ℕ, List, [], ◌∷◌, ◌++◌, ℤ, pos, negsuc}
use Rattle.definitions.specs.Numbers.{bad_readings, bad_allowance, bad_range}
use Rattle.definitions.specs.Bytes.{bytes_of}
use Rattle.definitions.specs.SheetKinds as kinds
use Rattle.definitions.specs.OperatorCodes.{subtract, divide}
use Rattle.definitions.specs.Translate.{record_words}
use Rattle.definitions.specs.ReadingSearch.{Query, query}
use Rattle.definitions.specs.Searched.{Searched, Found, NoValue, Refused}

-- what is asked for, the readings, the steps and the nesting of a search, and the answer
pub record SearchTrial : Type 0 where
  pub asked : Query
  pub readings : List ℤ
  pub steps : ℕ
  pub nesting : ℕ
  pub answer : Searched

-- result = if reading 0 then 12 / (reading 0 - 1) else C, whose tag is 0
-- A number takes 7 steps. 0 ends with the constructor, 1 with a fault, 3 gives 6, 6 and 7 give 2, and 14 is the first that gives 0
unfoldable pub quotients : List ℕ
quotients =
    bytes_of
    (record_words kinds.head (1 ∷ 1 ∷ 1 ∷ 8 ∷ []) ++ record_words kinds.constructor (0 ∷ []) ++ record_words kinds.function (0 ∷ 8 ∷ [])
    ++ record_words kinds.reading (0 ∷ []) ++ record_words kinds.number (12 ∷ 0 ∷ []) ++ record_words kinds.reading (0 ∷ []) ++ record_words kinds.number (1 ∷ 0 ∷ [])
    ++ record_words kinds.operator (subtract ∷ 2 ∷ 3 ∷ []) ++ record_words kinds.operator (divide ∷ 1 ∷ 4 ∷ []) ++ record_words kinds.build (0 ∷ [])
    ++ record_words kinds.conditional (0 ∷ 5 ∷ 6 ∷ []))

-- a search of readings of which the one is 9
unfoldable pub search : Query → Searched → SearchTrial
search q answer = record { asked = q; readings = pos 9 ∷ []; steps = 7; nesting = 9; answer = answer }

unfoldable pub search_trials : List SearchTrial
search_trials =
    search (query 0 (pos 0) (pos 9) (pos 6)) (Found (pos 3))
    -- the smallest of two, and the highest of the range
    ∷ search (query 0 (pos 0) (pos 9) (pos 2)) (Found (pos 6))
    ∷ search (query 0 (pos 0) (pos 6) (pos 2)) (Found (pos 6))
    ∷ search (query 0 (pos 0) (pos 5) (pos 2)) NoValue
    -- a range of one value, and one of 1,024
    ∷ search (query 0 (pos 7) (pos 7) (pos 2)) (Found (pos 7))
    ∷ search (query 0 (pos 14) (pos 1037) (pos 0)) (Found (pos 14))
    -- neither the constructor, whose tag is 0, nor the fault, whose value is 0, counts
    ∷ search (query 0 (pos 0) (pos 13) (pos 0)) NoValue
    ∷ search (query 0 (pos 0) (pos 14) (pos 0)) (Found (pos 14))
    -- nor a stop, whose value is 0
    ∷ record { asked = query 0 (pos 2) (pos 9) (pos 0); readings = pos 9 ∷ []; steps = 6; nesting = 9; answer = NoValue }
    -- the ends of the numbers' range
    ∷ search (query 0 (pos 2147483647) (pos 2147483647) (pos 0)) (Found (pos 2147483647))
    ∷ search (query 0 (negsuc 2147483647) (negsuc 2147483646) (pos 0)) (Found (negsuc 2147483647))
    -- 23: lowest above highest, 1,025 values, 2^32 values, no such position
    ∷ search (query 0 (pos 3) (pos 2) (pos 6)) (Refused bad_range 0)
    ∷ search (query 0 (pos 14) (pos 1038) (pos 0)) (Refused bad_range 0)
    ∷ search (query 0 (negsuc 2147483647) (pos 2147483647) (pos 6)) (Refused bad_range 0)
    ∷ search (query 1 (pos 3) (pos 3) (pos 6)) (Refused bad_range 0)
    -- 10 before 23, and 9 before 10
    ∷ record { asked = query 1 (pos 3) (pos 2) (pos 6); readings = pos 9 ∷ []; steps = 7; nesting = 0; answer = Refused bad_allowance 0 }
    ∷ record { asked = query 1 (pos 3) (pos 2) (pos 6); readings = []; steps = 7; nesting = 0; answer = Refused bad_readings 0 }
    ∷ []
