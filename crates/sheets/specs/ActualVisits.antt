-- Visits to actuals (document 02, request 8): what the run's rule lists on some sheets, stopped or not, and what rules that remember less
-- list, and the rule on a translation that no translator writes. Above each sheet stand its functions, whose nodes follow in that order.
use Rattle.std.specs.Prelude.{◌≡◌, ℕ, suc, ◌+◌, ◌*◌, ◌<◌, List, [], ◌∷◌, ◌++◌, Bool, not, pos, length, eqb}
use Rattle.definitions.specs.Sizes.{most_fields}
use Rattle.definitions.specs.Numbers.{no_step, no_cell, zero_divisor}
use Rattle.definitions.specs.Lists.{joined}
use Rattle.definitions.specs.Bytes.{bytes_of}
use Rattle.definitions.specs.OperatorCodes.{add, divide}
use Rattle.definitions.specs.SheetKinds.{head, function, parameter, call}
use Rattle.definitions.specs.Translate.{record_words, translation}
use Rattle.definitions.specs.Outcomes.{Outcome, number_outcome, end_outcome}
use Rattle.actual_visits.specs.Distinct.{Distinct}
use Rattle.given_back.specs.SerialCells.{ActualVisit}
use Rattle.given_back.specs.ListedVisits.{no_position, listed_evaluation, actual_visits}
use Rattle.sheets.specs.Sheets.{S, head_of_ones}
use Rattle.sheets.specs.EqualCalls.{num, first, sum, of}
use Rattle.sheets.specs.Remembering.{five_times, twice, foreign_formal}

-- a visit for the cell with this serial number, at this position
abbrev pub for : ℕ → ℕ → ActualVisit
for serial position = record { serial = serial; position = position }

-- an accepted sheet without readings, the steps and cells of a run of nesting 100, and what the run ends with and lists, the latest visit
-- first
pub record VisitTrial : Type 0 where
  pub sheet : List ℕ
  pub steps : ℕ
  pub cells : ℕ
  pub outcome : Outcome
  pub visits : List ActualVisit

-- result = nine(1)
-- nine(a) = a + a + a + a + a + a + a + a + a
unfoldable pub nine_times : List ℕ
nine_times =
    bytes_of
    (record_words head (0 ∷ 0 ∷ 2 ∷ 19 ∷ []) ++ record_words function (0 ∷ 2 ∷ []) ++ record_words function (1 ∷ 17 ∷ [])
    ++ num 1 ++ of 1 0
    ++ joined 9 (λ i. first) ++ sum 2 3 ++ joined 7 (λ i. sum (11 + i) (4 + i)))

-- result = each(1, 2, 3, 4, 5, 6, 7, 8)
-- each(a, b, c, d, e, f, g, h) = a + a + b + b + c + c + d + d + e + e + f + f + g + g + h + h
unfoldable pub each_twice : List ℕ
each_twice =
    bytes_of
    (record_words head (0 ∷ 0 ∷ 2 ∷ 40 ∷ []) ++ record_words function (0 ∷ 9 ∷ []) ++ record_words function (8 ∷ 31 ∷ [])
    ++ joined 8 (λ i. num (suc i)) ++ record_words call (1 ∷ 0 ∷ 1 ∷ 2 ∷ 3 ∷ 4 ∷ 5 ∷ 6 ∷ 7 ∷ [])
    ++ joined 8 (λ i. record_words parameter (i ∷ []) ++ record_words parameter (i ∷ [])) ++ sum 9 10 ++ joined 14 (λ i. sum (25 + i) (11 + i)))

unfoldable pub visit_trials : List VisitTrial
visit_trials =
    -- one visit for each call of g
    record { sheet = S; steps = 1000; cells = 100; outcome = number_outcome (pos 10); visits = for 2 0 ∷ for 1 0 ∷ [] }
    -- a parameter used five times, nine times, and as a scrutinee and for its field
    ∷ record { sheet = five_times; steps = 1000; cells = 100; outcome = number_outcome (pos 50); visits = for 1 0 ∷ [] }
    ∷ record { sheet = nine_times; steps = 1000; cells = 100; outcome = number_outcome (pos 9); visits = for 1 0 ∷ [] }
    ∷ record { sheet = head_of_ones; steps = 1000; cells = 100; outcome = number_outcome (pos 1); visits = for 1 0 ∷ [] }
    -- eight parameters, each used twice
    ∷ record {
      sheet = each_twice;
      steps = 1000;
      cells = 100;
      outcome = number_outcome (pos 72);
      visits = for 1 7 ∷ for 1 6 ∷ for 1 5 ∷ for 1 4 ∷ for 1 3 ∷ for 1 2 ∷ for 1 1 ∷ for 1 0 ∷ [];
    }
    -- an actual that ends with a fault, one that is stopped for steps and one that is stopped for cells: none is visited again
    ∷ record { sheet = twice divide 0; steps = 1000; cells = 100; outcome = end_outcome zero_divisor; visits = for 1 0 ∷ [] }
    ∷ record { sheet = twice add 2; steps = 5; cells = 100; outcome = end_outcome no_step; visits = for 1 0 ∷ [] }
    ∷ record { sheet = five_times; steps = 1000; cells = 1; outcome = end_outcome no_cell; visits = for 1 0 ∷ [] }
    ∷ []

-- what a rule that remembers at some positions lists on a sheet, and in how many cells
abbrev pub visits_with : (ℕ → Bool) → List ℕ → List ActualVisit
visits_with remembers sheet = (listed_evaluation (translation sheet) remembers [] 1000 100 100).state.store.visits

abbrev pub made_with : (ℕ → Bool) → List ℕ → ℕ
made_with remembers sheet = (listed_evaluation (translation sheet) remembers [] 1000 100 100).state.store.made

-- all positions but one
abbrev pub all_but : ℕ → ℕ → Bool
all_but i j = not (eqb j i)

pub record RuledOut : Type 0 where
  -- the rule without remembering visits the actual nine times for one cell, and so breaks both bounds
  pub without : visits_with no_position nine_times ≡ joined 9 (λ i. for 1 0 ∷ [])
  pub repeated : ¬ (Distinct (visits_with no_position nine_times))
  pub many : made_with no_position nine_times * most_fields < length (visits_with no_position nine_times)
  -- a rule that forgets one position, whichever it is, visits the actual there twice
  pub forgotten : (i : ℕ) → i < most_fields → ¬ (Distinct (visits_with (all_but i) each_twice))
  -- and where a formal is visited under a foreign cell, as no translator has it, the run's own rule visits its actual each time
  pub foreign : actual_visits foreign_formal [] 100 9 3 ≡ for 1 0 ∷ for 1 0 ∷ for 1 0 ∷ []
