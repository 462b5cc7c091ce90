-- Cells given back (document 02, request 9): sheets on which it tells which are kept, beside the rule of request 7, which keeps them all. Above
-- each sheet stand its functions, whose nodes follow in that order.
use Rattle.std.specs.Prelude.{◌≡◌, ℕ, pos}
use mathlib.Core.List.{List, [], ◌∷◌, ◌++◌, Memᴰ}
use Rattle.std.proofs.Math.Option.{some}
use Rattle.definitions.specs.Numbers.{no_step, no_cell}
use Rattle.definitions.specs.Bytes.{bytes_of}
use Rattle.definitions.specs.OperatorCodes.{subtract}
use Rattle.definitions.specs.SheetKinds.{head, constructor, function, parameter, pattern_variable, operator, call, build, case_of}
use Rattle.definitions.specs.Outcomes.{number_outcome, end_outcome}
use Rattle.definitions.specs.Translate.{record_words, translation}
use Rattle.definitions.specs.Run.{kept_answer}
use Rattle.sheets.specs.Sheets.{S}
use Rattle.sheets.specs.MadeCells.{numbered, built, cell}
use Rattle.sheets.specs.EqualCalls.{num, first, of}
use Rattle.sheets.specs.Remembering.{five_times}
use Rattle.sheets.specs.Starred.{answering, trial}
use Rattle.sheets.specs.Trial.{Trial, Holds}

-- result = f(make(7))
-- make(a) = Box(a)
-- open(b) = case b of Box(x) -> x
-- f(l) = open(l) - later(make(2), l)
-- later(m, n) = open(m) - open(n)
-- the first call of open has the box of 7 made, in cell 3, and f's cell remembers it. Were the cells given back, a call of open inside later
-- would use cell 3, and the box's field would be looked for under that cell
unfoldable pub older_cell : List ℕ
older_cell =
    bytes_of
    (record_words head (0 ∷ 1 ∷ 5 ∷ 20 ∷ []) ++ record_words constructor (1 ∷ [])
    ++ record_words function (0 ∷ 3 ∷ []) ++ record_words function (1 ∷ 2 ∷ []) ++ record_words function (1 ∷ 3 ∷ []) ++ record_words function (1 ∷ 7 ∷ [])
    ++ record_words function (2 ∷ 5 ∷ [])
    ++ num 7 ++ of 1 0 ++ of 3 1
    ++ first ++ record_words build (0 ∷ 3 ∷ [])
    ++ first ++ record_words pattern_variable (0 ∷ []) ++ record_words case_of (5 ∷ 0 ∷ 6 ∷ [])
    ++ first ++ of 2 8 ++ num 2 ++ of 1 10 ++ first ++ record_words call (4 ∷ 11 ∷ 12 ∷ []) ++ record_words operator (subtract ∷ 9 ∷ 13 ∷ [])
    ++ first ++ of 2 15 ++ record_words parameter (1 ∷ []) ++ of 2 17 ++ record_words operator (subtract ∷ 16 ∷ 18 ∷ []))

-- the same with f(l) = through(l) - later(make(2), l) and
-- through(x) = open(x)
-- f's cell comes to remember the box of 7, made in cell 4, during the call of open inside that of through, and so during that of through. Were
-- this forgotten, make(2) would use cell 4, and the box of 7 would be read as that of 2
unfoldable pub inner_call : List ℕ
inner_call =
    bytes_of
    (record_words head (0 ∷ 1 ∷ 6 ∷ 22 ∷ []) ++ record_words constructor (1 ∷ [])
    ++ record_words function (0 ∷ 3 ∷ []) ++ record_words function (1 ∷ 2 ∷ []) ++ record_words function (1 ∷ 3 ∷ []) ++ record_words function (1 ∷ 7 ∷ [])
    ++ record_words function (2 ∷ 5 ∷ []) ++ record_words function (1 ∷ 2 ∷ [])
    ++ num 7 ++ of 1 0 ++ of 3 1
    ++ first ++ record_words build (0 ∷ 3 ∷ [])
    ++ first ++ record_words pattern_variable (0 ∷ []) ++ record_words case_of (5 ∷ 0 ∷ 6 ∷ [])
    ++ first ++ of 5 8 ++ num 2 ++ of 1 10 ++ first ++ record_words call (4 ∷ 11 ∷ 12 ∷ []) ++ record_words operator (subtract ∷ 9 ∷ 13 ∷ [])
    ++ first ++ of 2 15 ++ record_words parameter (1 ∷ []) ++ of 2 17 ++ record_words operator (subtract ∷ 16 ∷ 18 ∷ [])
    ++ first ++ of 2 20)

-- result = g(9) - g(4)
-- make(a) = Box(a)
-- open(b) = case b of Box(x) -> x
-- g(x) = open(make(x))
-- the boxes are remembered in the cells of open's calls, which are newer than those of g's
unfoldable pub newer_cell : List ℕ
newer_cell =
    bytes_of
    (record_words head (0 ∷ 1 ∷ 4 ∷ 13 ∷ []) ++ record_words constructor (1 ∷ [])
    ++ record_words function (0 ∷ 5 ∷ []) ++ record_words function (1 ∷ 2 ∷ []) ++ record_words function (1 ∷ 3 ∷ []) ++ record_words function (1 ∷ 3 ∷ [])
    ++ num 9 ++ of 3 0 ++ num 4 ++ of 3 2 ++ record_words operator (subtract ∷ 1 ∷ 3 ∷ [])
    ++ first ++ record_words build (0 ∷ 5 ∷ [])
    ++ first ++ record_words pattern_variable (0 ∷ []) ++ record_words case_of (7 ∷ 0 ∷ 8 ∷ [])
    ++ first ++ of 1 10 ++ of 2 11)

unfoldable pub giving_back : List Trial
giving_back =
    -- the three calls of open keep the cells, since a constructor was remembered in a cell older than each: all are alive together. The call
    -- of later gives its four back, since during it only its own cell and newer ones came to remember one
    trial older_cell 1000 100 100
    (answering (number_outcome (pos 12)) 32 7)
    (cell 0 0 3 (built 4 3) ++ cell 0 1 2 (built 4 3) ++ cell 0 0 1 (numbered 7 0) ++ cell 0 1 4 (built 4 6 ++ built 4 3) ++ cell 1 4 2 (built 4 6)
    ++ cell 1 1 1 (numbered 2 0) ++ cell 2 4 2 (built 4 3)) (some (number_outcome (pos 12)))
    ∷ trial older_cell 1000 100 6
    (answering (end_outcome no_cell) 25 6)
    (cell 0 0 3 (built 4 3) ++ cell 0 1 2 (built 4 3) ++ cell 0 0 1 (numbered 7 0) ++ cell 0 1 4 (built 4 6) ++ cell 1 4 2 (built 4 6)
    ++ cell 1 1 1 (numbered 2 0)) (some (number_outcome (pos 12)))
    -- the call of through keeps its cells too
    ∷ trial inner_call 1000 100 100
    (answering (number_outcome (pos 12)) 34 8)
    (cell 0 0 3 (built 4 4) ++ cell 0 1 5 (built 4 4) ++ cell 2 2 2 (built 4 4) ++ cell 0 0 1 (numbered 7 0) ++ cell 0 1 4 (built 4 7 ++ built 4 4)
    ++ cell 0 5 2 (built 4 7) ++ cell 1 1 1 (numbered 2 0) ++ cell 1 5 2 (built 4 4)) (some (number_outcome (pos 12)))
    -- the first call of g gives its three back, and the second uses them
    ∷ trial newer_cell 1000 100 3
    (answering (number_outcome (pos 5)) 23 3) (cell 1 0 3 (numbered 4 0) ++ cell 0 1 2 (built 6 3) ++ cell 0 1 1 (numbered 4 0)) (some (number_outcome (pos 5)))
    -- stopped in the second call, which has written cell 1: the bytes of cells 2 and 3 are those of the first
    ∷ trial newer_cell 13 100 3
    (answering (end_outcome no_step) 13 3) (cell 1 0 3 [] ++ cell 0 1 2 (built 6 3) ++ cell 0 1 1 (numbered 9 0)) (some (number_outcome (pos 5)))
    -- ten calls, one after the other in cell 2
    ∷ trial five_times 1000 100 2
    (answering (number_outcome (pos 50)) 39 2) (cell 0 0 1 (numbered 10 0) ++ cell 0 0 2 []) (some (number_outcome (pos 50)))
    ∷ []

-- the rule of request 7 stops with 13 on two of them, and takes more cells where it answers
pub record GivingBack : Type 0 where
  pub hold : (t : Trial) → Memᴰ t giving_back → Holds t
  pub kept_one : kept_answer (translation S) [] 1000 100 1 ≡ answering (end_outcome no_cell) 7 1
  pub kept_newer : kept_answer (translation newer_cell) [] 1000 100 3 ≡ answering (end_outcome no_cell) 13 3
  pub kept_two : kept_answer (translation five_times) [] 1000 100 2 ≡ answering (end_outcome no_cell) 18 2
  pub kept_all : kept_answer (translation five_times) [] 1000 100 100 ≡ answering (number_outcome (pos 50)) 39 11
