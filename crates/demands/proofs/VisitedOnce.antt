-- Request 8 of document 02, in its words, over what the public calls promise: `Translates` of `translator::translate` and `Runs` of
-- `run::run`. The visits to actuals are listed by the rule of `given_back/specs/ListedVisits.antt`, each by the cell that it is made
-- for, which has a serial number, and the formal's position.
use mathlib.Core.Path.{◌≡◌, sym, ap, ◌∙◌}
use Prim.Native.Nat.{ℕ, ◌*◌, ◌-◌, ◌≤◌}
use mathlib.Core.List.{List}
use mathlib.Core.Bool.{true}
use lib.IntN.{ℤ}
use lib.ListN.{length, take}
use Rattle.definitions.specs.Numbers.{is_answer}
use Rattle.definitions.specs.PlainCells.{plain_evaluation}
use Rattle.definitions.specs.Run.{reached_answer, rule_end, rule_answer}
use Rattle.definitions.specs.Written.{Length}
use Rattle.actual_visits.specs.Distinct.{Distinct}
use Rattle.given_back.specs.SerialCells.{ActualVisit}
use Rattle.given_back.specs.ListedVisits.{forgetting, listed_end, actual_visits, cells_made}
use Rattle.given_back.proofs.Forgetting.{list_forgotten}
use Rattle.given_back.proofs.Evaluations.{most_made}
use Rattle.actual_visits.proofs.AtMostOnce.{visits_distinct, visits_eightfold}
use Rattle.agreement.specs.Answers.{plain_outcome, PlainGives, answer_outcome}
use Rattle.translator.specs.Promise.{Translates}
use Rattle.answer.specs.declared.Answer.{Answer}
use Rattle.answer.specs.Answers.{answer_of}
use Rattle.run.specs.Promise.{Runs}
use Rattle.demands.specs.Demands.{Handed}
use Rattle.demands.proofs.Handing.{handed}
use Rattle.demands.proofs.EndedRuns.{ended_rule, ended_cells, ended_steps, ended_plain}

-- "The visits to actuals" are those of the rule that a run follows: with the list forgotten, the rule that lists them is that rule, of
-- every translation file
pub request_8_listed : (b : List ℕ) (rs : List ℤ) (steps nesting cells_allowed : ℕ) → forgetting (listed_end b rs steps nesting cells_allowed) ≡ rule_end b rs steps nesting cells_allowed
request_8_listed = list_forgotten

-- A translated sheet: the bytes that the translator wrote, unchanged
module _ (sheet out : List ℕ) (n : ℕ) (out' : List ℕ) (translated : Translates sheet out (Length n) out') (rs : List ℤ) (steps nesting cells_allowed : ℕ) where
  h : Handed sheet n out'
  h = handed sheet out n out' translated

  abbrev visits : List ActualVisit
  visits = actual_visits (take n out') rs steps nesting cells_allowed

  abbrev made : ℕ
  made = cells_made (take n out') rs steps nesting cells_allowed

  -- "Runs that a stop ended are not covered." Both bounds hold of them too: at all allowances, whatever ends the rule there
  pub request_8_any : Distinct visits × (length visits ≤ made * 8)
  request_8_any =
      rw h.is (visits_distinct sheet h.accepted rs steps nesting cells_allowed, visits_eightfold sheet h.accepted rs steps nesting cells_allowed)

  -- "For a translated sheet whose run ends with a number, constructor or fault": such a run was not refused, so it had as many readings
  -- as the sheet asks for
  module _ (before : List ℕ) (r : Answer) (after : List ℕ) (run : Runs (take n out') rs steps nesting cells_allowed before r after)
      (ended : is_answer (answer_of r).outcome ≡ true) where
    -- the list is that of this run: the rule that lists gives its answer, outcome and value, steps and cells
    pub request_8_run : answer_of r ≡ reached_answer (take n out') steps (forgetting (listed_end (take n out') rs steps nesting cells_allowed))
    unfolding rule_answer
    request_8_run =
        ended_rule (take n out') rs steps nesting cells_allowed before r after run ended
        ∙ ap (reached_answer (take n out') steps) (sym (list_forgotten (take n out') rs steps nesting cells_allowed))

    -- "each formal of each cell has its actual visited at most once."
    pub request_8_once : Distinct visits
    request_8_once = request_8_any.0

    -- "So the visits to actuals are at most the cells times eight.": "The eightfold bound .. counts cells made, given back or not" (request 9),
    -- which are at least those that the run's answer counts
    pub request_8_eightfold : (length visits ≤ made * 8) × ((answer_of r).cells ≤ made)
    request_8_eightfold = (
      request_8_any.1,
      rw (ended_cells (take n out') rs steps nesting cells_allowed before r after run ended) (most_made (take n out') rs steps nesting cells_allowed),
    )

    -- "And such a run never takes more steps than the rule without remembering and without ceilings takes, at allowances that suffice, to
    -- reach that outcome."
    pub request_8_steps : (steps' nesting' cells_allowed' : ℕ) → plain_outcome (take n out') rs steps' nesting' cells_allowed' ≡ answer_outcome (answer_of r)
        → (answer_of r).steps ≤ steps' - (plain_evaluation (take n out') rs steps' nesting' cells_allowed').state.left
    request_8_steps = ended_steps (take n out') rs steps nesting cells_allowed before r after run ended

    -- and there are such allowances
    pub request_8_reached : PlainGives (take n out') rs (answer_outcome (answer_of r))
    request_8_reached = ended_plain (take n out') rs steps nesting cells_allowed before r after run ended
