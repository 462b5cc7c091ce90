-- Sheets, and a translation that no translator writes, on which remembering tells (document 02, request 7): what it saves, that a formal
-- neither uses nor remembers anything under another function's cell, and that faults and stops are not remembered.
use Rattle.std.specs.Prelude.{◌≡◌, ℕ, ◌+◌, ◌*◌, ◌-◌, pos, length, drop, replicate}
use mathlib.Core.List.{List, [], ◌∷◌, ◌++◌, Memᴰ}
use Rattle.std.proofs.Math.Option.{some}
use Rattle.definitions.specs.Sizes.{cell_size}
use Rattle.definitions.specs.Numbers.{no_step, no_nesting, no_cell, zero_divisor}
use Rattle.definitions.specs.Lists.{joined}
use Rattle.definitions.specs.Bytes.{bytes_of}
use Rattle.definitions.specs.OperatorCodes.{add, divide}
use Rattle.definitions.specs.SheetKinds.{head, function, operator, call}
use Rattle.definitions.specs.TranslationKinds as translated
use Rattle.definitions.specs.Translate.{record_words, translation}
use Rattle.definitions.specs.Outcomes.{Outcome, number_outcome, end_outcome}
use Rattle.definitions.specs.Checks.{translation_verdict}
use Rattle.definitions.specs.Rule.{Reached}
use Rattle.definitions.specs.PlainCells.{plain_evaluation}
use Rattle.definitions.specs.Run.{ending_outcome, kept_end, run_answer, run_cells}
use Rattle.definitions.specs.Verdict.{Accepted}
use Rattle.sheets.specs.EqualCalls.{num, first, sum, of}
use Rattle.sheets.specs.MadeCells.{numbered, cell}
use Rattle.sheets.specs.Trial.{Trial, Holds}
use Rattle.sheets.specs.Starred.{answering, trial}

-- result = five(one + one + one + one + one + one + one + one + one + one)
-- five(a) = a + a + a + a + a
-- one = 1
unfoldable pub five_times : List ℕ
five_times =
    bytes_of
    (record_words head (0 ∷ 0 ∷ 3 ∷ 30 ∷ []) ++ record_words function (0 ∷ 20 ∷ []) ++ record_words function (1 ∷ 9 ∷ []) ++ record_words function (0 ∷ 1 ∷ [])
    ++ joined 10 (λ i. record_words call (2 ∷ [])) ++ sum 0 1 ++ joined 8 (λ i. sum (10 + i) (2 + i)) ++ of 1 18
    ++ joined 5 (λ i. first) ++ sum 20 21 ++ joined 3 (λ i. sum (25 + i) (22 + i))
    ++ num 1)

-- result = twice(an operator of a code, on 1 and n)
-- twice(a) = a + a
unfoldable pub twice : ℕ → ℕ → List ℕ
twice code n =
    bytes_of
    (record_words head (0 ∷ 0 ∷ 2 ∷ 7 ∷ []) ++ record_words function (0 ∷ 4 ∷ []) ++ record_words function (1 ∷ 3 ∷ [])
    ++ num 1 ++ num n ++ record_words operator (code ∷ 0 ∷ 1 ∷ []) ++ of 1 2
    ++ first ++ first ++ sum 4 5)

unfoldable pub remembering : List Trial
remembering =
    -- the argument is worked out once, with its ten calls, one after the other in cell 2
    trial five_times 1000 100 100
    (answering (number_outcome (pos 50)) 39 2) (cell 0 0 1 (numbered 10 0) ++ cell 0 0 2 []) (some (number_outcome (pos 50)))
    -- 1 / 0 is no value
    ∷ trial (twice divide 0) 1000 100 100
    (answering (end_outcome zero_divisor) 6 1) (cell 0 0 1 []) (some (end_outcome zero_divisor))
    -- 1 + 2 is stopped before it has its value, for steps and for nesting; with one step more it has it
    ∷ trial (twice add 2) 5 100 100
    (answering (end_outcome no_step) 5 1) (cell 0 0 1 []) (some (number_outcome (pos 6)))
    ∷ trial (twice add 2) 1000 4 100
    (answering (end_outcome no_nesting) 4 1) (cell 0 0 1 []) (some (number_outcome (pos 6)))
    ∷ trial (twice add 2) 6 100 100
    (answering (end_outcome no_step) 6 1) (cell 0 0 1 (numbered 3 0)) (some (number_outcome (pos 6)))
    -- an argument stopped for cells
    ∷ trial five_times 1000 100 1
    (answering (end_outcome no_cell) 16 1) (cell 0 0 1 []) (some (number_outcome (pos 50)))
    ∷ []

-- what an evaluation took that keeps all cells, of the rule that remembers and of the one that does not
pub record Took : Type 0 where
  pub outcome : Outcome
  pub steps : ℕ
  pub cells : ℕ

unfoldable pub took : {C : Type 0} → List ℕ → ℕ → Reached ℕ (List C) → Took
took t steps r = record { outcome = ending_outcome t r.ending; steps = steps - r.state.left; cells = length r.state.store }

-- a translation in which function 1, called with label 0, has function 2's formal in its body, before and after its own; 7 is the actual
-- of its own formal 0, and 10 + 20 that of formal 1. Both formals have position 0
unfoldable pub foreign_formal : List ℕ
foreign_formal =
    bytes_of
    (record_words translated.head (0 ∷ 2 ∷ 3 ∷ 11 ∷ [])
    ++ record_words translated.function (5 ∷ 0 ∷ []) ++ record_words translated.function (5 ∷ 1 ∷ []) ++ record_words translated.function (1 ∷ 1 ∷ [])
    ++ record_words translated.formal_list (0 ∷ []) ++ record_words translated.formal_list (3 ∷ [])
    ++ record_words translated.number (7 ∷ 0 ∷ []) ++ record_words translated.number (10 ∷ 0 ∷ []) ++ record_words translated.number (20 ∷ 0 ∷ [])
    ++ record_words translated.operator (0 ∷ 1 ∷ 2 ∷ []) ++ record_words translated.call (0 ∷ 1 ∷ [])
    ++ record_words translated.formal (1 ∷ []) ++ record_words translated.formal (0 ∷ []) ++ record_words translated.operator (0 ∷ 5 ∷ 6 ∷ [])
    ++ record_words translated.formal (1 ∷ []) ++ record_words translated.operator (0 ∷ 7 ∷ 8 ∷ [])
    ++ record_words translated.number (0 ∷ 0 ∷ []))

-- the lent cells of its run, three
unfoldable pub lent : List ℕ
lent = replicate (cell_size * 3) 170

pub record Remembering : Type 0 where
  pub hold : (t : Trial) → Memᴰ t remembering → Holds t
  -- 39 steps and 11 cells with remembering, 155 and 51 without
  pub with_memory_law : took (translation five_times) 1000 (kept_end (translation five_times) [] 1000 100 100) ≡ record { outcome = number_outcome (pos 50); steps = 39; cells = 11 }
  pub without : took (translation five_times) 1000 (plain_evaluation (translation five_times) [] 1000 100 100) ≡ record { outcome = number_outcome (pos 50); steps = 155; cells = 51 }
  -- 30 + 7 + 30: 10 + 20 is worked out twice, and the cell remembers 7
  pub foreign_accepted : translation_verdict foreign_formal ≡ Accepted
  pub foreign_answer : run_answer foreign_formal [] 100 9 3 (length lent) ≡ answering (number_outcome (pos 67)) 13 1
  pub foreign_cells : run_cells foreign_formal [] 100 9 3 lent ≡ cell 0 0 1 (numbered 7 0) ++ drop cell_size lent
