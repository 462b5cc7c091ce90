-- The requests of document 02, each in its words, over what the public calls promise: `RunsRows` of `batch::run_rows`, `Translates` of
-- `translator::translate`, `translation_answer` of `translation_length::translated_length`, `Runs` of `run::run`, and for callers in C
-- `RunsRowsC`, `TranslatesC`, `translation_code` and `RunsC`. Requests 4, 5 and 7 to 13 have pages of their own beside it.
use mathlib.Core.Path.{◌≡◌, refl, sym, ap, ◌∙◌}
use mathlib.Core.Logic.{◌↔◌}
use Prim.Native.Nat.{ℕ, suc, ◌*◌, ◌≤◌, ◌<◌}
use mathlib.Core.List.{List, [], ◌++◌}
use mathlib.Core.Bool.{true, false}
use lib.IntN.{ℤ, ◌+ℤ◌, ◌-ℤ◌, ◌*ℤ◌}
use lib.ListN.{length, take, drop}
use mir.Syntax.{w32}
use borrow.Author.Tests.{le-leb, lt-leb}
use Rattle.definitions.specs.Sizes.{answer_size}
use Rattle.definitions.specs.Numbers.{short_output, overflow, is_fault, is_answer, is_stop}
use Rattle.definitions.specs.Verdicts.{◌and_then◌, require}
use Rattle.definitions.specs.Output.{written_of}
use Rattle.definitions.specs.Ranges.{within}
use Rattle.definitions.specs.Layouts.{readings}
use Rattle.definitions.specs.OperatorCodes.{add, subtract, multiply}
use Rattle.definitions.specs.Operators.{gives, faults, reduced, in_signed_range, product, computed}
use Rattle.definitions.specs.Lists.{joined}
use Rattle.definitions.specs.Checks.{sheet_verdict, translation_verdict}
use Rattle.definitions.specs.Translate.{translation, translation_refusal, translation_answer}
use Rattle.definitions.specs.Outcomes.{Outcome, end_outcome}
use Rattle.definitions.specs.Run.{allowances_fit}
use Rattle.definitions.specs.AnswerRecord.{answer_bytes, recorded}
use Rattle.definitions.specs.RunsInTurn.{row_of}
use Rattle.definitions.specs.Verdict as verdicts
use Rattle.definitions.specs.Verdict.{Accepted}
use Rattle.definitions.specs.Written.{Written, Length, Refused}
use Rattle.agreement.specs.Meaning.{OwnAnswer}
use Rattle.agreement.specs.Overflows.{SheetOverflows}
use Rattle.agreement.specs.Answers.{RuleGives, answer_outcome}
use Rattle.agreement.proofs.Overflows.{computed_overflow, own_overflows, overflow_own}
use Rattle.evaluator.proofs.Own.{own_unique}
use Rattle.translator.specs.Promise.{Translates}
use Rattle.answer.specs.declared.Answer.{Answer}
use Rattle.answer.specs.Answers.{answer_of}
use Rattle.run.specs.Promise.{Runs}
use Rattle.batch.specs.Promise.{RunsRows}
use Rattle.zifnora_c.specs.Codes.{code_number, code_value}
use Rattle.zifnora_c.specs.Promise.{translation_code, TranslatesC, RunsC, RunsRowsC}
use Rattle.demands.specs.Demands.{TranslatingMet}
use Rattle.demands.specs.InC.{SignedReadings}
use Rattle.demands.specs.Rows.{row_recorded, RowsMet, RowsMetInC, RowExact}
use Rattle.demands.proofs.Meeting.{length_met}
use Rattle.demands.proofs.Handing.{not_refused_by}
use Rattle.demands.proofs.RunningRows.{row_exact}
use Rattle.demands.proofs.MeetingRows.{batch_met, batch_met_in_C, no_rows}
use Rattle.demands.proofs.OwnRows.{FaithfulRow, batch_faithful, batch_faithful_in_C}
use Rattle.demands.proofs.SingleRuns.{cells_of_runs, records_of_runs}
use Rattle.demands.proofs.Demands.{demand_3_own, demand_3_exactly, demand_3_own_in_C}

-- Request 1. "One call shall take 0 to 16 reading rows, each of I readings, one set of allowances, and write one answer record per row."
-- "A refused batch runs no row." Demand 1 for rows; the numbers, their order and their place are `rows_verdict`
pub request_1_met : (b : List ℕ) (rows : ℕ) (rs : List ℤ) (steps nesting cells_allowed : ℕ) (before room : List ℕ) (r : Written) (after room' : List ℕ)
    → RunsRows b rows rs steps nesting cells_allowed before room r after room' → RowsMet rows r room' ((after ≡ before) × (room' ≡ room))
request_1_met = batch_met

pub request_1_met_in_C : (b : List ℕ) (rows : ℕ) (rs : List ℤ) (steps nesting cells_allowed : ℕ) (before room : List ℕ) (code : ℕ) (after room' : List ℕ)
    → RunsRowsC b rows rs steps nesting cells_allowed before room code after room' → RowsMetInC rows code room' ((after ≡ before) × (room' ≡ room))
request_1_met_in_C = batch_met_in_C

-- "0 to 16 reading rows": no rows on an accepted file with allowances that fit answer 0, and nothing is written
pub request_1_no_rows : (b : List ℕ) (steps nesting cells_allowed : ℕ) (before room : List ℕ) → translation_verdict b ≡ Accepted → allowances_fit nesting cells_allowed (length before) ≡ true
    → {r : Written} {after room' : List ℕ} → RunsRows b 0 [] steps nesting cells_allowed before room r after room' → (r ≡ Length 0) × (after ≡ before) × (room' ≡ room)
request_1_no_rows = no_rows

-- a batch that wrote its records
module _ (b : List ℕ) (rows : ℕ) (rs : List ℤ) (steps nesting cells_allowed : ℕ) (before room : List ℕ) (n : ℕ) (after room' : List ℕ)
    (batch : RunsRows b rows rs steps nesting cells_allowed before room (Length n) after room') where
  -- "The records and the cell bytes are what the single runs leave when done in turn in the same buffer. .. output bytes past those written stay
  -- as they were.": whoever runs row 0, row 1, .. by `run::run`, each in the cells that the run before it left
  pub request_1_in_turn : (answers : ℕ → Answer) (cells : ℕ → List ℕ) → cells 0 ≡ before
      → ((i : ℕ) → i < rows → Runs b (row_of b rs i) steps nesting cells_allowed (cells i) (answers i) (cells (suc i)))
      → (after ≡ cells rows) × (room' ≡ joined rows (λ i. answer_bytes (answer_of (answers i))) ++ drop (rows * answer_size) room)
  request_1_in_turn answers cells first runs =
      let accepted = not_refused_by _ _ batch.answer in (
        batch.cells ∙ cells_of_runs b rows rs steps nesting cells_allowed before room answers cells first runs accepted,
        batch.records ∙ records_of_runs b rows rs steps nesting cells_allowed before room answers cells first runs accepted,
      )

  -- demand 2 for rows: each row is exactly the rule
  pub request_1_exact : (i : ℕ) → i < rows → RowExact b rs steps nesting cells_allowed before room' i
  request_1_exact i h = row_exact b rows rs steps nesting cells_allowed before room (not_refused_by _ _ batch.answer) i h room' batch.records

-- demand 3 for rows: anyone who hands the bytes that the translator wrote, unchanged, to a batch that wrote its records
module _ (sheet out : List ℕ) (n : ℕ) (out' : List ℕ) (translated : Translates sheet out (Length n) out')
    (rows : ℕ) (rs : List ℤ) (steps nesting cells_allowed : ℕ) (before room : List ℕ) (m : ℕ) (after room' : List ℕ)
    (batch : RunsRows (take n out') rows rs steps nesting cells_allowed before room (Length m) after room') (i : ℕ) (h : i < rows) where
  faithful : FaithfulRow sheet rs room' i
  faithful = batch_faithful sheet out n out' translated rows rs steps nesting cells_allowed before room m after room' batch i h

  -- each row's number, constructor or run fault is the sheet's own on that row's readings; a value is read back where "Readings are signed
  -- 32-bit numbers."
  pub request_1_own : SignedReadings rs → is_answer (row_recorded room' i).outcome ≡ true → OwnAnswer sheet (row_of sheet rs i) (row_recorded room' i)
  request_1_own = faithful.own

  -- where the sheet has none on a row, that row is stopped
  pub request_1_none : ((a : Outcome) → ¬ OwnAnswer sheet (row_of sheet rs i) a) → is_stop (row_recorded room' i).outcome ≡ true
  request_1_none = faithful.none

-- the same for a caller in C
module _ (sheet out : List ℕ) (code : ℕ) (out' : List ℕ) (translated : TranslatesC sheet out code out') (not_refused : code_number code ≡ 0)
    (rows : ℕ) (rs : List ℤ) (steps nesting cells_allowed : ℕ) (before room : List ℕ) (code' : ℕ) (after room' : List ℕ)
    (batch : RunsRowsC (take (code_value code) out') rows rs steps nesting cells_allowed before room code' after room') (written : code_number code' ≡ 0)
    (i : ℕ) (h : i < rows) where
  faithful_in_C : FaithfulRow sheet rs room' i
  faithful_in_C =
      batch_faithful_in_C sheet out code out' translated not_refused rows rs steps nesting cells_allowed before room code' after room' batch written i h

  pub request_1_own_in_C : SignedReadings rs → is_answer (row_recorded room' i).outcome ≡ true → OwnAnswer sheet (row_of sheet rs i) (row_recorded room' i)
  request_1_own_in_C = faithful_in_C.own

  pub request_1_none_in_C : ((a : Outcome) → ¬ OwnAnswer sheet (row_of sheet rs i) a) → is_stop (row_recorded room' i).outcome ≡ true
  request_1_none_in_C = faithful_in_C.none

-- Request 2. "Multiplication whose exact product is outside signed 32 bits shall end the run." What the operators give, as
-- `operators::compute` promises it: 20 for such a product, and for nothing else
pub request_2_overflow : (code : ℕ) (x y : ℤ) → (computed code x y ≡ faults overflow) ↔ ((code ≡ multiply) × (in_signed_range w32 (x *ℤ y) ≡ false))
request_2_overflow = computed_overflow

-- any other product is exact
pub request_2_product : (x y : ℤ) → in_signed_range w32 (x *ℤ y) ≡ true → computed multiply x y ≡ gives (x *ℤ y)
unfolding computed product
request_2_product x y h = rw h refl

-- "Add and subtract still reduce, since dealers subtract running counters."
pub request_2_reduce : (x y : ℤ) → (computed add x y ≡ gives (reduced w32 (x +ℤ y))) × (computed subtract x y ≡ gives (reduced w32 (x -ℤ y)))
unfolding computed
request_2_reduce x y = (refl, refl)

-- "The sheet's own meaning gains the same fault": the sheet's own answer is 20 exactly where working it out by call by name works out a
-- multiplication of such numbers; "20 (overflow), a run fault, found once both operands are numbers"
pub request_2_own : (sheet : List ℕ) (rs : List ℤ) → OwnAnswer sheet rs (end_outcome overflow) ↔ SheetOverflows sheet rs
unfolding end_outcome
request_2_own sheet rs = (λ o. own_overflows o refl, overflow_own)

-- "so a translated sheet must agree there too": what demand 3 says is the sheet's own, of any call, is 20 exactly there
pub request_2_answer : (sheet : List ℕ) (rs : List ℤ) (a : Outcome) → OwnAnswer sheet rs a → (a.outcome ≡ overflow) ↔ SheetOverflows sheet rs
unfolding end_outcome
request_2_answer sheet rs a o = (own_overflows o, λ s. ap (λ (u : Outcome). u.outcome) (own_unique o (overflow_own s)))

-- anyone who hands the bytes that the translator wrote, unchanged, to the run: an answer is 20 exactly there, and the rule without
-- ceilings gives 20 at some allowances exactly there
module _ (sheet out : List ℕ) (n : ℕ) (out' : List ℕ) (translated : Translates sheet out (Length n) out') (rs : List ℤ) (asked : length rs ≡ readings sheet) where
  pub request_2_run : (steps nesting cells_allowed : ℕ) (before : List ℕ) (r : Answer) (after : List ℕ) → Runs (take n out') rs steps nesting cells_allowed before r after
      → is_answer (answer_of r).outcome ≡ true → ((answer_of r).outcome ≡ overflow) ↔ SheetOverflows sheet rs
  unfolding answer_outcome
  request_2_run steps nesting cells_allowed before r after run h =
      request_2_answer sheet rs _ (demand_3_own sheet out n out' translated rs asked steps nesting cells_allowed before r after run h)

  pub request_2_rule : RuleGives (take n out') rs (end_outcome overflow) ↔ SheetOverflows sheet rs
  unfolding is_answer is_fault within end_outcome
  request_2_rule =
      let exactly = demand_3_exactly sheet out n out' translated rs asked (end_outcome overflow) in
      (λ g. (request_2_own sheet rs).0 (exactly.0 (g, refl)), λ s. (exactly.1 ((request_2_own sheet rs).1 s)).0)

-- and for a caller in C, who reads the record
module _ (sheet out : List ℕ) (code : ℕ) (out' : List ℕ) (translated : TranslatesC sheet out code out') (not_refused : code_number code ≡ 0)
    (rs : List ℤ) (signed : SignedReadings rs) where
  pub request_2_run_in_C : (steps nesting cells_allowed : ℕ) (before room : List ℕ) (code' : ℕ) (after room' : List ℕ)
      → RunsC (take (code_value code) out') rs steps nesting cells_allowed before room code' after room' → code' ≡ 0
      → is_answer (recorded room').outcome ≡ true → ((recorded room').outcome ≡ overflow) ↔ SheetOverflows sheet rs
  request_2_run_in_C steps nesting cells_allowed before room code' after room' run recording h =
      request_2_answer sheet rs _
      (demand_3_own_in_C sheet out code out' translated not_refused rs steps nesting cells_allowed before room code' after room' run recording signed h)

-- Request 3. "It wants to hear what translating would answer, length or refusal with place, for a stated buffer length, with no buffer lent."
-- `translation_length::translated_length` promises `translation_answer`
module _ (sheet : List ℕ) (room : ℕ) (r : Written) (asked : r ≡ translation_answer sheet room) where
  -- "The answer equals that of translating into a buffer so long.": of every sheet and every length
  pub request_3_equal : (out : List ℕ) → length out ≡ room → (t : Written) (out' : List ℕ) → Translates sheet out t out' → r ≡ t
  request_3_equal out long t out' translated = asked ∙ rw (← long) (sym translated.answer)

  -- demand 1 for this call: the length, or a numbered refusal; nothing is lent
  pub request_3_met : TranslatingMet sheet [] r []
  request_3_met = length_met sheet room r asked

  -- the reader's refusal, with its place, whatever the length
  pub request_3_refused : {n p : ℕ} → sheet_verdict sheet ≡ verdicts.Refused n p → r ≡ Refused n p
  unfolding translation_answer translation_refusal ◌and_then◌ written_of
  request_3_refused v = asked ∙ rw v refl

  module _ (accepted : sheet_verdict sheet ≡ Accepted) where
    -- the length for every buffer from it on, however long, also where no buffer is so long
    pub request_3_length : length (translation sheet) ≤ room → r ≡ Length (length (translation sheet))
    unfolding translation_answer translation_refusal ◌and_then◌ require written_of
    request_3_length h = asked ∙ rw (accepted, le-leb (length (translation sheet)) room h) refl

    -- and 8, place 0, for every shorter one, 0 included
    pub request_3_short : room < length (translation sheet) → r ≡ Refused short_output 0
    unfolding translation_answer translation_refusal ◌and_then◌ require written_of
    request_3_short h = asked ∙ rw (accepted, lt-leb (length (translation sheet)) room h) refl

-- and for a caller in C
pub request_3_equal_in_C : (sheet : List ℕ) (room code : ℕ) → code ≡ translation_code sheet room
    → (out : List ℕ) → length out ≡ room → (code' : ℕ) (out' : List ℕ) → TranslatesC sheet out code' out' → code ≡ code'
request_3_equal_in_C sheet room code asked out long code' out' translated = asked ∙ rw (← long) (sym translated.answer)
