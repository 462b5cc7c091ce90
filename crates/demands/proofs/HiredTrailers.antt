-- Request 5 of document 02, in its words, over what the public calls promise: `RunsForHirer` of `hirer::run_for_hirer`, `Runs` of `run::run`
-- and `Translates` of `translator::translate`, and for callers in C `RunsForHirerC` and `TranslatesC`. No call has a `requires`. `set` is the
-- set of allowed readings, reading i in its bit i (`reading_allowed`).
use mathlib.Core.Path.{◌≡◌, refl, sym, ◌∙◌}
use Prim.Native.Nat.{ℕ, ◌+◌, ◌<◌}
use mathlib.Core.List.{List}
use mathlib.Core.Bool.{true}
use lib.IntN.{ℤ}
use lib.ListN.{length, take}
use Rattle.definitions.specs.Numbers.{closed_reading, is_answer}
use Rattle.definitions.specs.Layouts.{readings, first_node}
use Rattle.definitions.specs.Checks.{translation_verdict}
use Rattle.definitions.specs.Outcomes.{Outcome}
use Rattle.definitions.specs.Run.{rule_answer, rule_cells, refusal, answer_after, bytes_after}
use Rattle.definitions.specs.AnswerRecord.{answer_bytes, recorded}
use Rattle.definitions.specs.Hirer.{reading_allowed, hirer_answer, hirer_cells}
use Rattle.definitions.specs.Verdict.{Accepted}
use Rattle.definitions.specs.Written.{Length}
use Rattle.agreement.specs.Meaning.{OwnAnswer}
use Rattle.agreement.specs.Answers.{answer_outcome}
use Rattle.translator.specs.Promise.{Translates}
use Rattle.answer.specs.declared.Answer.{Answer}
use Rattle.answer.specs.Answers.{answer_of}
use Rattle.run.specs.Promise.{Runs}
use Rattle.hirer.specs.Promise.{RunsForHirer}
use Rattle.zifnora_c.specs.Codes.{code_number, code_value}
use Rattle.zifnora_c.specs.Promise.{TranslatesC, RunsForHirerC}
use Rattle.demands.specs.Demands.{Met, StoppedOrRefused}
use Rattle.demands.specs.InC.{SignedReadings, MetInC, StoppedOrRefusedInC}
use Rattle.demands.specs.Hirer.{Outside, FirstOutside, hirer_refusals, AgreeOn}
use Rattle.demands.proofs.HirerRuns.{answer_in_order, cells_in_order, hirer_met, hirer_own, hirer_else, hirer_first, hirer_any, answers_alike, cells_alike, sets_alike}
use Rattle.demands.proofs.Own.{unanswered}
use Rattle.demands.proofs.Handing.{handed}
use Rattle.demands.proofs.RunningInC.{hiring_met_in_C}
use Rattle.demands.proofs.OwnInC.{hirer_faithful_in_C}

-- "A run for a hirer carries a set of allowed readings.": any bytes, any set, any readings and allowances, any cells
module _ (b : List ℕ) (set : ℕ) (rs : List ℤ) (steps nesting cells_allowed : ℕ) (before : List ℕ) (r : Answer) (after : List ℕ)
    (run : RunsForHirer b set rs steps nesting cells_allowed before r after) where
  -- demand 1 for the hirer
  pub request_5_met : Met (answer_of r) (after ≡ before)
  request_5_met = rw (run.answer, run.cells) (hirer_met b set rs steps nesting cells_allowed before)

  -- "It is refused if the translation holds any reading node outside the set, reached or not.", and nothing is written
  pub request_5_refused : translation_verdict b ≡ Accepted → (k : ℕ) → Outside b set k → ((answer_of r).outcome ≡ closed_reading) × (after ≡ before)
  request_5_refused = hirer_any b set rs steps nesting cells_allowed before r after run

  -- "place of the first such node's record"
  pub request_5_place : translation_verdict b ≡ Accepted → (k : ℕ) → FirstOutside b set k → answer_of r ≡ refusal closed_reading (first_node b + k)
  request_5_place accepted k o = (hirer_first b set rs steps nesting cells_allowed before r after run accepted k o).0

  -- "Else the hirer's run is the owner's, which is as before."
  pub request_5_else : ((k : ℕ) → ¬ Outside b set k) → Runs b rs steps nesting cells_allowed before r after
  request_5_else = hirer_else b set rs steps nesting cells_allowed before r after run

  -- "Checks: 21 (closed), after 5 and before 9": the file's own, 21, 9, 10, and then exactly the rule (demand 2 for the hirer)
  pub request_5_order : (answer_of r ≡ answer_after (hirer_refusals b set rs nesting cells_allowed (length before)) (rule_answer b rs steps nesting cells_allowed))
      × (after ≡ bytes_after (hirer_refusals b set rs nesting cells_allowed (length before)) before (rule_cells b rs steps nesting cells_allowed before))
  request_5_order =
      (run.answer ∙ answer_in_order b set rs steps nesting cells_allowed (length before), run.cells ∙ cells_in_order b set rs steps nesting cells_allowed before)

-- "With one translation, set, allowances and earlier cell bytes, two reading lists of length I that agree on the allowed readings give a
-- hirer the same answer record and the same cell bytes, refusals included."
module _ (b : List ℕ) (set : ℕ) (steps nesting cells_allowed : ℕ) (before : List ℕ) (rs qs : List ℤ) (asked : length rs ≡ readings b) (asked' : length qs ≡ readings b)
    (same : AgreeOn set (readings b) rs qs) where
  lengths : length rs ≡ length qs
  lengths = asked ∙ sym asked'

  pub request_5_same : (r q : Answer) (after after' : List ℕ)
      → RunsForHirer b set rs steps nesting cells_allowed before r after → RunsForHirer b set qs steps nesting cells_allowed before q after'
      → (answer_bytes (answer_of r) ≡ answer_bytes (answer_of q)) × (after ≡ after')
  request_5_same r q after after' run run' = (
    rw (run.answer, run'.answer, answers_alike b set rs qs lengths same steps nesting cells_allowed (length before)) refl,
    run.cells ∙ cells_alike b set rs qs lengths same steps nesting cells_allowed before ∙ sym run'.cells,
  )

  -- and for a caller in C, also the code and every byte of the lent record
  pub request_5_same_in_C : (room : List ℕ) (code code' : ℕ) (after after' room' room'' : List ℕ)
      → RunsForHirerC b set rs steps nesting cells_allowed before room code after room' → RunsForHirerC b set qs steps nesting cells_allowed before room code' after' room''
      → (code ≡ code') × (room' ≡ room'') × (after ≡ after')
  request_5_same_in_C room code code' after after' room' room'' run run' =
      let a = answers_alike b set rs qs lengths same steps nesting cells_allowed (length before) in
      let c = cells_alike b set rs qs lengths same steps nesting cells_allowed before in
      (run.answer ∙ sym run'.answer, rw (run.written, run'.written, a) refl, rw (run.cells, run'.cells, c) refl)

-- bits from I on say nothing: sets that allow the same of the readings that the file asks for give the same
pub request_5_bits : (b : List ℕ) (set other : ℕ) → ((i : ℕ) → i < readings b → reading_allowed set i ≡ reading_allowed other i)
    → (rs : List ℤ) (steps nesting cells_allowed : ℕ) (before : List ℕ) (r q : Answer) (after after' : List ℕ)
    → RunsForHirer b set rs steps nesting cells_allowed before r after → RunsForHirer b other rs steps nesting cells_allowed before q after'
    → (answer_of r ≡ answer_of q) × (after ≡ after')
unfolding hirer_answer hirer_cells
request_5_bits b set other s rs steps nesting cells_allowed before r q after after' run run' =
    let v = sets_alike b set other s in
    (run.answer ∙ rw v refl ∙ sym run'.answer, run.cells ∙ rw v refl ∙ sym run'.cells)

-- demand 3 for the hirer: anyone who calls the translator and hands the bytes that it wrote, unchanged, to the hirer's run
module _ (sheet out : List ℕ) (n : ℕ) (out' : List ℕ) (translated : Translates sheet out (Length n) out')
    (set : ℕ) (rs : List ℤ) (steps nesting cells_allowed : ℕ) (before : List ℕ) (r : Answer) (after : List ℕ)
    (run : RunsForHirer (take n out') set rs steps nesting cells_allowed before r after) where
  -- a number, constructor or run fault is the sheet's own
  pub request_5_own : is_answer (answer_of r).outcome ≡ true → OwnAnswer sheet rs (answer_outcome (answer_of r))
  request_5_own i =
      let h = handed sheet out n out' translated in
      let runs = rw h.is at run in
      rw runs.answer (hirer_own sheet h.accepted set rs steps nesting cells_allowed (length before) (rw runs.answer at i))

  -- where the sheet has none, every run is stopped or refused
  pub request_5_none : ((a : Outcome) → ¬ OwnAnswer sheet rs a) → StoppedOrRefused (answer_of r) (after ≡ before)
  request_5_none none =
      unanswered (answer_of r) (after ≡ before) (λ i. none _ (request_5_own i)) (request_5_met (take n out') set rs steps nesting cells_allowed before r after run)

-- the same for a caller in C
pub request_5_met_in_C : (b : List ℕ) (set : ℕ) (rs : List ℤ) (steps nesting cells_allowed : ℕ) (before room : List ℕ) (code : ℕ) (after room' : List ℕ)
    → RunsForHirerC b set rs steps nesting cells_allowed before room code after room' → MetInC code room room' (after ≡ before)
request_5_met_in_C = hiring_met_in_C

module _ (sheet out : List ℕ) (code : ℕ) (out' : List ℕ) (translated : TranslatesC sheet out code out') (not_refused : code_number code ≡ 0)
    (set : ℕ) (rs : List ℤ) (steps nesting cells_allowed : ℕ) (before room : List ℕ) (code' : ℕ) (after room' : List ℕ)
    (run : RunsForHirerC (take (code_value code) out') set rs steps nesting cells_allowed before room code' after room') (recording : code' ≡ 0) where
  pub request_5_own_in_C : SignedReadings rs → is_answer (recorded room').outcome ≡ true → OwnAnswer sheet rs (recorded room')
  request_5_own_in_C = (hirer_faithful_in_C sheet out code out' translated not_refused rs steps nesting cells_allowed before room code' after room' set run recording).own

  pub request_5_none_in_C : ((a : Outcome) → ¬ OwnAnswer sheet rs a) → StoppedOrRefusedInC room' (after ≡ before)
  request_5_none_in_C = (hirer_faithful_in_C sheet out code out' translated not_refused rs steps nesting cells_allowed before room code' after room' set run recording).none
