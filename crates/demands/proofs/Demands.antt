-- The owner's three demands, over what the public calls promise: `Translates` of `translator::translate`, `Runs` of `run::run`,
-- `Joins` of `join::translate_and_run`, and at the end what `zifnora_c` promises to callers in C. None of the calls has a `requires`,
-- so each promise holds of every call. The pages beside it, `Requests`, `SharedLabels`, `HiredTrailers`, `RememberedValues`, `VisitedOnce`,
-- `GivenBack`, `DriverView`, `TypedSheets`, `FoundReadings` and `CanonicalSheets`, have what document 02 asks for, with the demands for its calls. Since its request 7 the evaluation
-- rule remembers the values of formals, and since its request 9 it gives cells back.
use mathlib.Core.Path.{◌≡◌}
use mathlib.Core.Logic.{◌↔◌}
use Prim.Native.Nat.{ℕ, ◌≤◌, ◌<◌}
use mathlib.Core.List.{List}
use mathlib.Core.Bool.{true}
use lib.IntN.{ℤ}
use lib.ListN.{length, take}
use Rattle.definitions.specs.Numbers.{short_output, bad_allowance, no_actual, no_field, is_answer}
use Rattle.definitions.specs.Verdicts.{require}
use Rattle.definitions.specs.Layouts.{readings, nodes}
use Rattle.definitions.specs.Checks.{sheet_verdict}
use Rattle.definitions.specs.Outcomes.{Outcome}
use Rattle.definitions.specs.SheetNodes.{call, sheet_node_of}
use Rattle.definitions.specs.Trees.{equal_trees}
use Rattle.definitions.specs.Labels.{label_of}
use Rattle.definitions.specs.Translate.{translation}
use Rattle.agreement.specs.Meaning.{OwnAnswer}
use Rattle.definitions.specs.Run.{rule_answer, allowances_fit, run_verdict, answer_after}
use Rattle.definitions.specs.AnswerRecord.{recorded}
use Rattle.definitions.specs.Verdict.{Accepted}
use Rattle.shared_runs.specs.Reads.{EqualArguments}
use Rattle.shared_runs.proofs.OneLabel.{one_label}
use Rattle.translator.specs.Promise.{Translates}
use Rattle.definitions.specs.Written.{Written, Length, Refused}
use Rattle.run.specs.Promise.{Runs}
use Rattle.answer.specs.declared.Answer.{Answer}
use Rattle.answer.specs.Answers.{answer_of}
use Rattle.agreement.specs.Answers.{rule_outcome, RuleGives, answer_outcome}
use Rattle.evaluator.proofs.Own.{own_unique}
use Rattle.agreement.proofs.Demand3.{rule_gives_exactly_own, rule_gives_from_there}
use Rattle.join.specs.Promise.{Joins}
use Rattle.zifnora_c.specs.Codes.{code_number, code_value}
use Rattle.zifnora_c.specs.Promise.{TranslatesC, RunsC, JoinsC}
use Rattle.demands.specs.Demands.{Handed, TranslatingMet, Met, StoppedOrRefused, RunExact}
use Rattle.demands.specs.InC.{SignedReadings, TranslatingMetInC, MetInC, StoppedOrRefusedInC}
use Rattle.demands.proofs.Meeting.{translating_met, running_met, joining_met, run_exact}
use Rattle.demands.proofs.Handing.{handed, only_short, handed_own, handed_listed, handed_none, handed_answer}
use Rattle.demands.proofs.HandingInC.{translating_met_in_C, handed_in_C}
use Rattle.demands.proofs.RunningInC.{running_met_in_C, joining_met_in_C}
use Rattle.demands.proofs.OwnInC.{run_faithful_in_C, join_faithful_in_C}

-- Demand 1. "Every file, reading list, buffer and allowance is met, with nothing undefined, by one of: an answer, a stop, a run
-- fault, a numbered refusal with its place. A refusal writes to no lent buffer."
-- "Nothing undefined" is the toolchain's own theorem: a function that is proved returns, whatever its arguments, and does nothing
-- that its machine leaves undefined. Which number and which place a refusal has is fixed by the promises: they are equations with
-- `translation_refusal` (the verdict of the sheet, then 8) and `run_verdict` (that of the translation, then 9, then 10), which give
-- both together.
pub demand_1_translating : (sheet out : List ℕ) (r : Written) (out' : List ℕ) → Translates sheet out r out' → TranslatingMet sheet out r out'
demand_1_translating = translating_met

pub demand_1_running : (b : List ℕ) (rs : List ℤ) (steps nesting cells_allowed : ℕ) (before : List ℕ) (r : Answer) (after : List ℕ)
    → Runs b rs steps nesting cells_allowed before r after → Met (answer_of r) (after ≡ before)
demand_1_running = running_met

pub demand_1_both : (sheet out : List ℕ) (rs : List ℤ) (steps nesting cells_allowed : ℕ) (before : List ℕ) (r : Answer) (out' after : List ℕ)
    → Joins sheet out rs steps nesting cells_allowed before r out' after → Met (answer_of r) ((out' ≡ out) × (after ≡ before))
demand_1_both = joining_met

-- Demand 2. "The translation is exactly the published one with document 01's labels, ..": the bytes handed over are the
-- definition's, and of an accepted sheet only 8 withholds them
pub demand_2_translation : (sheet out : List ℕ) (n : ℕ) (out' : List ℕ) → Translates sheet out (Length n) out' → take n out' ≡ translation sheet
demand_2_translation sheet out n out' t = (handed sheet out n out' t).is

pub demand_2_withheld : (sheet out : List ℕ) (n p : ℕ) (out' : List ℕ) → Translates sheet out (Refused n p) out' → sheet_verdict sheet ≡ Accepted → n ≡ short_output
demand_2_withheld = only_short

-- ".. with document 01's labels, ..", which document 02 changes: "From now on labels follow section 3.4 of document 002." One label is
-- given to two calls of one function exactly if their arguments are equal trees, so that no call gets actuals of other trees than its own
pub demand_2_labels : (sheet : List ℕ) → sheet_verdict sheet ≡ Accepted → (f k m : ℕ) {ns ms : List ℕ} → k < nodes sheet → m < nodes sheet
    → sheet_node_of sheet k ≡ call f ns → sheet_node_of sheet m ≡ call f ms
    → (label_of (equal_trees sheet) sheet f k ≡ label_of (equal_trees sheet) sheet f m) ↔ EqualArguments sheet ns ms
demand_2_labels = one_label

-- ".. and a run is exactly the published evaluation under contexts with lazy tuples: outcome, steps and cells."
pub demand_2_run : (b : List ℕ) (rs : List ℤ) (steps nesting cells_allowed : ℕ) (before : List ℕ) (r : Answer) (after : List ℕ)
    → Runs b rs steps nesting cells_allowed before r after → run_verdict b rs nesting cells_allowed (length before) ≡ Accepted
    → RunExact b rs steps nesting cells_allowed before (answer_of r) after
demand_2_run = run_exact

-- Demand 3 speaks of "the sheet's own" answer: a sheet has at most one
pub demand_3_one : (sheet : List ℕ) (rs : List ℤ) (a a' : Outcome) → OwnAnswer sheet rs a → OwnAnswer sheet rs a' → a ≡ a'
demand_3_one sheet rs a a' = own_unique

-- Demand 3. "Whatever the accepted sheet, the readings (as many as it asks for), the allowances and the bytes that the lent cells
-- held before": anyone who calls the translator and hands the bytes that it wrote, unchanged, to the run
module _ (sheet out : List ℕ) (n : ℕ) (out' : List ℕ) (translated : Translates sheet out (Length n) out') (rs : List ℤ) (asked : length rs ≡ readings sheet) where
  -- "nobody who translates the sheet and runs it can get a number, constructor or run fault other than the sheet's own by call by
  -- name, outcome and value alike."
  pub demand_3_own : (steps nesting cells_allowed : ℕ) (before : List ℕ) (r : Answer) (after : List ℕ) → Runs (take n out') rs steps nesting cells_allowed before r after
      → is_answer (answer_of r).outcome ≡ true → OwnAnswer sheet rs (answer_outcome (answer_of r))
  demand_3_own = handed_own sheet out n out' translated rs

  -- so the faults 18 and 19, which the meaning does not have, never come out
  pub demand_3_listed : (steps nesting cells_allowed : ℕ) (before : List ℕ) (r : Answer) (after : List ℕ) → Runs (take n out') rs steps nesting cells_allowed before r after
      → ((answer_of r).outcome ≡ no_actual → ⊥) × ((answer_of r).outcome ≡ no_field → ⊥)
  demand_3_listed = handed_listed sheet out n out' translated rs

  -- "Where the sheet has none, every run is stopped or refused."
  pub demand_3_none : ((a : Outcome) → ¬ OwnAnswer sheet rs a)
      → (steps nesting cells_allowed : ℕ) (before : List ℕ) (r : Answer) (after : List ℕ) → Runs (take n out') rs steps nesting cells_allowed before r after
      → StoppedOrRefused (answer_of r) (after ≡ before)
  demand_3_none none steps nesting cells_allowed before r after run = handed_none sheet out n out' translated rs steps nesting cells_allowed before r after run none

  -- "The evaluation rule taken without ceilings gives a number, constructor or run fault at some allowances exactly when it is the
  -- sheet's own, ..
  pub demand_3_exactly : (a : Outcome) → (RuleGives (take n out') rs a × (is_answer a.outcome ≡ true)) ↔ OwnAnswer sheet rs a
  demand_3_exactly a = rw (handed sheet out n out' translated).is (rule_gives_exactly_own sheet rs (handed sheet out n out' translated).accepted a)

  -- .. and then at all allowances each at least as large."
  pub demand_3_from_there : (steps nesting cells_allowed steps' nesting' cells_allowed' : ℕ)
      → is_answer (rule_outcome (take n out') rs steps nesting cells_allowed).outcome ≡ true
      → steps ≤ steps' → nesting ≤ nesting' → cells_allowed ≤ cells_allowed'
      → rule_outcome (take n out') rs steps' nesting' cells_allowed' ≡ rule_outcome (take n out') rs steps nesting cells_allowed
  demand_3_from_there = rw (handed sheet out n out' translated).is (rule_gives_from_there sheet rs (handed sheet out n out' translated).accepted)

  -- document 01, "Meaning": "a run is refused only where the table says so, and else has the rule's answer at its own allowances"
  pub demand_3_run : (steps nesting cells_allowed : ℕ) (before : List ℕ) (r : Answer) (after : List ℕ) → Runs (take n out') rs steps nesting cells_allowed before r after
      → answer_of r ≡ answer_after (require (allowances_fit nesting cells_allowed (length before)) bad_allowance 0) (rule_answer (take n out') rs steps nesting cells_allowed)
  demand_3_run steps nesting cells_allowed before r after run = handed_answer sheet out n out' translated rs steps nesting cells_allowed before r after run asked

-- The calls for C. The caller sees a code and the bytes of the record: `code_number` and `code_value` of the code, `recorded` of the
-- record. "Every file, reading list, buffer and allowance is met .."
pub demand_1_translating_in_C : (sheet out : List ℕ) (code : ℕ) (out' : List ℕ) → TranslatesC sheet out code out' → TranslatingMetInC sheet out code out'
demand_1_translating_in_C = translating_met_in_C

pub demand_1_running_in_C : (b : List ℕ) (rs : List ℤ) (steps nesting cells_allowed : ℕ) (before room : List ℕ) (code : ℕ) (after room' : List ℕ)
    → RunsC b rs steps nesting cells_allowed before room code after room' → MetInC code room room' (after ≡ before)
demand_1_running_in_C = running_met_in_C

pub demand_1_both_in_C : (sheet out : List ℕ) (rs : List ℤ) (steps nesting cells_allowed : ℕ) (before room : List ℕ) (code : ℕ) (out' after room' : List ℕ)
    → JoinsC sheet out rs steps nesting cells_allowed before room code out' after room' → MetInC code room room' ((out' ≡ out) × (after ≡ before))
demand_1_both_in_C = joining_met_in_C

-- "The translation is exactly the published one": number 0 in the code, and the value says how many bytes were handed over
pub demand_2_translation_in_C : (sheet out : List ℕ) (code : ℕ) (out' : List ℕ) → TranslatesC sheet out code out' → code_number code ≡ 0 → Handed sheet (code_value code) out'
demand_2_translation_in_C = handed_in_C

-- "Nobody who translates the sheet and runs it ..": these bytes, unchanged, any list of readings, and a run that wrote its record; an
-- answer's value is read back where "Readings are signed 32-bit numbers."
module _ (sheet out : List ℕ) (code : ℕ) (out' : List ℕ) (translated : TranslatesC sheet out code out') (not_refused : code_number code ≡ 0)
    (rs : List ℤ) (steps nesting cells_allowed : ℕ) (before room : List ℕ) (code' : ℕ) (after room' : List ℕ)
    (run : RunsC (take (code_value code) out') rs steps nesting cells_allowed before room code' after room') (recording : code' ≡ 0) where
  -- ".. can get a number, constructor or run fault other than the sheet's own by call by name, outcome and value alike."
  pub demand_3_own_in_C : SignedReadings rs → is_answer (recorded room').outcome ≡ true → OwnAnswer sheet rs (recorded room')
  demand_3_own_in_C = (run_faithful_in_C sheet out code out' translated not_refused rs steps nesting cells_allowed before room code' after room' run recording).own

  -- "Where the sheet has none, every run is stopped or refused."
  pub demand_3_none_in_C : ((a : Outcome) → ¬ OwnAnswer sheet rs a) → StoppedOrRefusedInC room' (after ≡ before)
  demand_3_none_in_C = (run_faithful_in_C sheet out code out' translated not_refused rs steps nesting cells_allowed before room code' after room' run recording).none

-- the same of an accepted sheet in one call
module _ (sheet out : List ℕ) (rs : List ℤ) (steps nesting cells_allowed : ℕ) (before room : List ℕ) (code : ℕ) (out' after room' : List ℕ)
    (both : JoinsC sheet out rs steps nesting cells_allowed before room code out' after room') (accepted : sheet_verdict sheet ≡ Accepted) (recording : code ≡ 0) where
  pub demand_3_both_own_in_C : SignedReadings rs → is_answer (recorded room').outcome ≡ true → OwnAnswer sheet rs (recorded room')
  demand_3_both_own_in_C = (join_faithful_in_C sheet out rs steps nesting cells_allowed before room code out' after room' both accepted recording).own

  pub demand_3_both_none_in_C : ((a : Outcome) → ¬ OwnAnswer sheet rs a) → StoppedOrRefusedInC room' ((out' ≡ out) × (after ≡ before))
  demand_3_both_none_in_C = (join_faithful_in_C sheet out rs steps nesting cells_allowed before room code out' after room' both accepted recording).none
