-- An accepted sheet's own answer for a caller in C, as the record holds it.
use mathlib.Core.Path.{◌≡◌, sym, ◌∙◌}
use Prim.Native.Nat.{ℕ}
use mathlib.Core.List.{List, ◌++◌}
use mathlib.Core.Bool.{true}
use lib.IntN.{ℤ}
use lib.ListN.{length, take, drop}
use Rattle.definitions.specs.Sizes.{answer_size}
use Rattle.definitions.specs.Numbers.{is_answer}
use Rattle.definitions.specs.Checks.{sheet_verdict}
use Rattle.definitions.specs.Outcomes.{Outcome}
use Rattle.definitions.specs.Trees.{equal_trees}
use Rattle.definitions.specs.Translate.{translation_words, translation_by, translation}
use Rattle.definitions.specs.Run.{answer_after, rule_answer, run_answer}
use Rattle.definitions.specs.AnswerRecord.{answer_bytes, recorded}
use Rattle.definitions.specs.Verdict.{Verdict, Accepted}
use Rattle.laws.proofs.ByteFiles.{Bytes, bytes_below}
use Rattle.agreement.specs.Meaning.{OwnAnswer}
use Rattle.agreement.specs.Answers.{answer_outcome}
use Rattle.join.specs.Promise.{join_answer}
use Rattle.zifnora_c.specs.Codes.{code_number, code_value}
use Rattle.zifnora_c.specs.Promise.{TranslatesC, RunsInto, RunsC, RunsForHirerC, JoinsC}
use Rattle.zifnora_c.proofs.Coding.{fits}
use Rattle.demands.specs.Demands.{Handed, Met}
use Rattle.demands.specs.InC.{SignedReadings, StoppedOrRefusedInC}
use Rattle.demands.proofs.Refusals.{NumberedIn, running_numbered, joining_numbered, hiring_numbered}
use Rattle.demands.proofs.Meeting.{run_met}
use Rattle.demands.proofs.HirerRuns.{answer_in_order, hirer_met}
use Rattle.demands.proofs.Own.{after_own, unanswered}
use Rattle.demands.proofs.Values.{after_fits}
use Rattle.demands.proofs.HandingInC.{handed_in_C}
use Rattle.demands.proofs.RunningInC.{outcome_is, answer_is, recorded_unanswered, record_where_fits, run_met_where_fits, join_met_where_fits}

pub translation_bytes_law : (sheet : List ℕ) → Bytes (translation sheet)
unfolding translation translation_by
translation_bytes_law sheet = bytes_below (translation_words (equal_trees sheet) sheet)

-- this outcome is that of the sheet's own answer
pub record OwnOutcome (sheet : List ℕ) (rs : List ℤ) (n : ℕ) : Type 0 where
  pub answer : Outcome
  pub own : OwnAnswer sheet rs answer
  pub is : answer.outcome ≡ n

-- demand 3 of a record; the outcome is read back whatever the readings
pub record FaithfulInC (sheet : List ℕ) (rs : List ℤ) (room' : List ℕ) (untouched : Type 0) : Type 0 where
  pub own : SignedReadings rs → is_answer (recorded room').outcome ≡ true → OwnAnswer sheet rs (recorded room')
  pub outcome : is_answer (recorded room').outcome ≡ true → OwnOutcome sheet rs (recorded room').outcome
  pub none : ((a : Outcome) → ¬ OwnAnswer sheet rs a) → StoppedOrRefusedInC room' untouched

-- the record of an answer that comes after a verdict
module _ (sheet : List ℕ) (accepted : sheet_verdict sheet ≡ Accepted) (rs : List ℤ) (steps nesting cells_allowed : ℕ) (v : Verdict) (numbered : NumberedIn v) (untouched : Type 0)
    (met : Met (answer_after v (rule_answer (translation sheet) rs steps nesting cells_allowed)) untouched)
    (room' rest : List ℕ) (written : room' ≡ answer_bytes (answer_after v (rule_answer (translation sheet) rs steps nesting cells_allowed)) ++ rest) where
  own_recorded : SignedReadings rs → is_answer (recorded room').outcome ≡ true → OwnAnswer sheet rs (recorded room')
  own_recorded signed i =
      let h = rw (outcome_is _ untouched met room' rest written) at i in
      let f = after_fits (translation sheet) rs (translation_bytes_law sheet) signed steps nesting cells_allowed v numbered h in
      rw (answer_is _ untouched met room' rest written f) (after_own sheet accepted rs steps nesting cells_allowed v numbered h)

  outcome_recorded : is_answer (recorded room').outcome ≡ true → OwnOutcome sheet rs (recorded room').outcome
  unfolding answer_outcome
  outcome_recorded i =
      let e = outcome_is _ untouched met room' rest written in
      record { answer = _; own = after_own sheet accepted rs steps nesting cells_allowed v numbered (rw e at i); is = sym e }

  none_recorded : ((a : Outcome) → ¬ OwnAnswer sheet rs a) → StoppedOrRefusedInC room' untouched
  none_recorded none =
      recorded_unanswered _ untouched met room' rest written
      (unanswered _ untouched (λ h. none _ (after_own sheet accepted rs steps nesting cells_allowed v numbered h)) met)

  pub faithful_recorded : FaithfulInC sheet rs room' untouched
  faithful_recorded = record { own = own_recorded; outcome = outcome_recorded; none = none_recorded }

-- a run of the bytes that were handed over
module _ (sheet : List ℕ) (accepted : sheet_verdict sheet ≡ Accepted) (rs : List ℤ) (steps nesting cells_allowed : ℕ) (v : Verdict) (numbered : NumberedIn v)
    (ran before room : List ℕ) (met : Met (answer_after v (rule_answer (translation sheet) rs steps nesting cells_allowed)) (ran ≡ before)) where
  after_faithful : (c : ℕ) (after room' : List ℕ) → RunsInto (answer_after v (rule_answer (translation sheet) rs steps nesting cells_allowed)) ran before room c after room'
      → c ≡ 0 → FaithfulInC sheet rs room' (after ≡ before)
  after_faithful c after room' runs recording =
      let roomy = fits room c runs.answer recording in
      faithful_recorded sheet accepted rs steps nesting cells_allowed v numbered (after ≡ before) (run_met_where_fits _ ran before room c after room' runs met roomy)
      room' (drop answer_size room) (runs.written ∙ record_where_fits room roomy _)

module _ (sheet out : List ℕ) (r : ℕ) (out' : List ℕ) (translated : TranslatesC sheet out r out') (not_refused : code_number r ≡ 0)
    (rs : List ℤ) (steps nesting cells_allowed : ℕ) (before room : List ℕ) (c : ℕ) (after room' : List ℕ) where
  h : Handed sheet (code_value r) out'
  h = handed_in_C sheet out r out' translated not_refused

  pub run_faithful_in_C : RunsC (take (code_value r) out') rs steps nesting cells_allowed before room c after room' → c ≡ 0 → FaithfulInC sheet rs room' (after ≡ before)
  unfolding run_answer
  run_faithful_in_C run recording =
      after_faithful sheet h.accepted rs steps nesting cells_allowed _ (running_numbered (translation sheet) rs nesting cells_allowed (length before)) _ before room
      (run_met (translation sheet) rs steps nesting cells_allowed before) c after room' (rw h.is at run) recording

  pub hirer_faithful_in_C : (set : ℕ) → RunsForHirerC (take (code_value r) out') set rs steps nesting cells_allowed before room c after room' → c ≡ 0
      → FaithfulInC sheet rs room' (after ≡ before)
  hirer_faithful_in_C set run recording =
      let t = translation sheet in
      let e = answer_in_order t set rs steps nesting cells_allowed (length before) in
      after_faithful sheet h.accepted rs steps nesting cells_allowed _ (hiring_numbered t set rs nesting cells_allowed (length before)) _ before room
      (rw e at (hirer_met t set rs steps nesting cells_allowed before)) c after room' (rw (h.is, e) at run) recording

-- the joined call
pub join_faithful_in_C : (sheet out : List ℕ) (rs : List ℤ) (steps nesting cells_allowed : ℕ) (before room : List ℕ) (c : ℕ) (out' after room' : List ℕ)
    → JoinsC sheet out rs steps nesting cells_allowed before room c out' after room' → sheet_verdict sheet ≡ Accepted → c ≡ 0
    → FaithfulInC sheet rs room' ((out' ≡ out) × (after ≡ before))
unfolding join_answer
join_faithful_in_C sheet out rs steps nesting cells_allowed before room c out' after room' joins accepted recording =
    let roomy = fits room c joins.answer recording in
    faithful_recorded sheet accepted rs steps nesting cells_allowed _ (joining_numbered sheet (length out) rs nesting cells_allowed (length before)) ((out' ≡ out) × (after ≡ before))
    (join_met_where_fits sheet out rs steps nesting cells_allowed before room c out' after room' joins roomy)
    room' (drop answer_size room) (joins.written ∙ record_where_fits room roomy _)
