-- Request 11 of document 02, in its words, over what the public calls promise: `ReadSheet`, which `ReadsSheet` of
-- `format::sheet::read_sheet` gives (`read_refused`, `read_accepted`), `Translates` of `translator::translate`, `Runs` of `run::run`,
-- `RunsForHirer` of `hirer::run_for_hirer`, `RunsRows` of `batch::run_rows` and `Joins` of `join::translate_and_run`, and for callers in C
-- `TranslatesC`, `RunsC`, `RunsForHirerC`, `RunsRowsC` and `JoinsC`. None of these calls has a `requires`. The demands hold of typed sheets as they stand, since
-- acceptance is the reader's.
use mathlib.Core.Path.{◌≡◌, refl, sym, ◌∙◌}
use Prim.Native.Nat.{ℕ, ◌+◌, ◌<◌}
use mathlib.Core.List.{List}
use mathlib.Core.Bool.{true, false}
use lib.IntN.{ℤ}
use lib.ListN.{length, take}
use Rattle.std.specs.Prelude.{Ok, Err}
use Rattle.definitions.specs.Numbers.{ill_typed}
use Rattle.definitions.specs.Layouts.{is_typed, readings, first_node}
use Rattle.definitions.specs.Checks.{checks_to_six, sheet_verdict}
use Rattle.definitions.specs.Translate.{translation}
use Rattle.definitions.specs.TypesRemoved.{types_removed}
use Rattle.definitions.specs.Outcomes.{Outcome}
use Rattle.definitions.specs.AnswerRecord.{recorded}
use Rattle.definitions.specs.Verdict.{Verdict, Accepted, Refused}
use Rattle.definitions.specs.Written.{Written, Length}
use Rattle.agreement.specs.Meaning.{OwnAnswer}
use Rattle.agreement.specs.Answers.{RuleGives}
use Rattle.agreement.proofs.Demand3.{rule_gives_exactly_own}
use Rattle.typed_sheets.specs.TypeErrors.{NoTypeError}
use Rattle.typed_sheets.specs.ReaderBefore.{sheet_verdict_before}
use Rattle.typed_sheets.proofs.Own.{own_sound}
use Rattle.typed_sheets.proofs.Removed.{removed_accepted, removed_untyped, removed_translation, removed_readings}
use Rattle.typed_sheets.proofs.Unchanged.{untyped_unchanged}
use Rattle.typed_sheets.proofs.ReadBefore.{read_as_before, accepted_before}
use Rattle.definitions.specs.Refusals.{number_of}
use Rattle.definitions.specs.declared.refusals.Refusal.{Refusal}
use Rattle.format.specs.Readers.{ReadSheet}
use Rattle.format.specs.Tables.{ReadsSheet}
use Rattle.format.specs.declared.sheet.SheetTables.{SheetTables}
use Rattle.translator.specs.Promise.{Translates}
use Rattle.answer.specs.declared.Answer.{Answer}
use Rattle.answer.specs.Answers.{answer_of}
use Rattle.run.specs.Promise.{Runs}
use Rattle.hirer.specs.Promise.{RunsForHirer}
use Rattle.batch.specs.Promise.{RunsRows}
use Rattle.join.specs.Promise.{Joins}
use Rattle.zifnora_c.specs.Codes.{code_number, code_value}
use Rattle.zifnora_c.specs.Promise.{TranslatesC, RunsC, RunsForHirerC, RunsRowsC, JoinsC}
use Rattle.demands.specs.Rows.{row_recorded}
use Rattle.demands.specs.TypedSheets.{FirstIllTyped}
use Rattle.demands.proofs.Handing.{handed, handed_own}
use Rattle.demands.proofs.HandingInC.{handed_in_C}
use Rattle.demands.proofs.OwnInC.{run_faithful_in_C, hirer_faithful_in_C, join_faithful_in_C}
use Rattle.demands.proofs.OwnRows.{batch_faithful, batch_faithful_in_C}
use Rattle.demands.proofs.HiredTrailers.{request_5_own}
use Rattle.demands.proofs.Typed.{no_type_error, outcome_sound, answer_sound, joined_own, first_ill_typed, same_refusal, same_answer}

-- what `read_sheet` answers, as the reader that fills lent tables says it: a refusal, whatever tables are beside it, and the tables of an accepted sheet
pub read_refused : {b : List ℕ} {e : Refusal} → ReadsSheet b (Err e) → (starts ends owners : List ℕ)
    → ReadSheet b (Refused (number_of e.reason) e.place) starts ends owners
read_refused q starts ends owners = record { verdict = q.verdict; index = λ a. cc; runs = λ a. cc; owned = λ a. cc }

pub read_accepted : {b : List ℕ} {t : SheetTables} → ReadsSheet b (Ok t) → ReadSheet b Accepted t.starts t.ends t.owners
read_accepted q = q.tables

-- "22 (ill typed), after 6, at the first node in order that breaks a rule"
pub request_11_refused : (sheet : List ℕ) (v : Verdict) (starts ends owners : List ℕ) → ReadSheet sheet v starts ends owners
    → is_typed sheet ≡ true → checks_to_six sheet ≡ Accepted → (k : ℕ) → FirstIllTyped sheet k → v ≡ Refused ill_typed (first_node sheet + k)
request_11_refused sheet v starts ends owners r typed passed k first = r.verdict ∙ first_ill_typed sheet typed passed k first

-- the own answer of an accepted typed sheet is neither 14 nor 15, nor is what the evaluation rule taken without ceilings gives
module _ (sheet : List ℕ) (accepted : sheet_verdict sheet ≡ Accepted) (typed : is_typed sheet ≡ true) (rs : List ℤ) (a : Outcome) where
  pub request_11_own : OwnAnswer sheet rs a → NoTypeError a.outcome
  request_11_own = own_sound sheet rs accepted typed a

  pub request_11_rule : RuleGives (translation sheet) rs a → NoTypeError a.outcome
  request_11_rule gives = no_type_error a.outcome (λ i. request_11_own ((rule_gives_exactly_own sheet rs accepted a).0 (gives, i)))

-- "The run of an accepted typed sheet never ends with 14 or 15": anyone who calls the translator and hands the bytes that it wrote, unchanged,
-- to a run; any readings, any allowances, any cells
module _ (sheet out : List ℕ) (n : ℕ) (out' : List ℕ) (translated : Translates sheet out (Length n) out') (typed : is_typed sheet ≡ true)
    (rs : List ℤ) (steps nesting cells_allowed : ℕ) (before : List ℕ) where
  accepted : sheet_verdict sheet ≡ Accepted
  accepted = (handed sheet out n out' translated).accepted

  pub request_11_run : (r : Answer) (after : List ℕ) → Runs (take n out') rs steps nesting cells_allowed before r after → NoTypeError (answer_of r).outcome
  request_11_run r after run =
      answer_sound sheet rs accepted typed r (handed_own sheet out n out' translated rs steps nesting cells_allowed before r after run)

  pub request_11_hirer : (set : ℕ) (r : Answer) (after : List ℕ) → RunsForHirer (take n out') set rs steps nesting cells_allowed before r after
      → NoTypeError (answer_of r).outcome
  request_11_hirer set r after run =
      answer_sound sheet rs accepted typed r (request_5_own sheet out n out' translated set rs steps nesting cells_allowed before r after run)

  pub request_11_row : (rows : ℕ) (room : List ℕ) (m : ℕ) (after room' : List ℕ)
      → RunsRows (take n out') rows rs steps nesting cells_allowed before room (Length m) after room' → (i : ℕ) → i < rows
      → NoTypeError (row_recorded room' i).outcome
  request_11_row rows room m after room' batch i h =
      outcome_sound sheet _ accepted typed _
      (batch_faithful sheet out n out' translated rows rs steps nesting cells_allowed before room m after room' batch i h).outcome

pub request_11_joined : (sheet out : List ℕ) (rs : List ℤ) (steps nesting cells_allowed : ℕ) (before : List ℕ) (r : Answer) (out' after : List ℕ)
    → Joins sheet out rs steps nesting cells_allowed before r out' after → sheet_verdict sheet ≡ Accepted → is_typed sheet ≡ true → NoTypeError (answer_of r).outcome
request_11_joined sheet out rs steps nesting cells_allowed before r out' after joins accepted typed =
    answer_sound sheet rs accepted typed r (joined_own sheet out rs steps nesting cells_allowed before r out' after accepted joins)

-- "and it translates like the sheet with its types removed", byte for byte: equal answers, and equal bytes over the same output
module _ (sheet : List ℕ) (accepted : sheet_verdict sheet ≡ Accepted) (typed : is_typed sheet ≡ true) where
  -- that sheet is accepted, it has no types, and it asks for as many readings
  pub request_11_removed : (sheet_verdict (types_removed sheet) ≡ Accepted) × (is_typed (types_removed sheet) ≡ false) × (readings (types_removed sheet) ≡ readings sheet)
  request_11_removed = (removed_accepted sheet accepted typed, removed_untyped sheet accepted, removed_readings sheet accepted typed)

  pub request_11_translation : translation (types_removed sheet) ≡ translation sheet
  request_11_translation = removed_translation sheet accepted typed

  pub request_11_translates : (out : List ℕ) (r q : Written) (out' out'' : List ℕ) → Translates sheet out r out' → Translates (types_removed sheet) out q out''
      → (r ≡ q) × (out' ≡ out'')
  request_11_translates out r q out' out'' t u = (
    t.answer ∙ sym (same_answer sheet accepted typed (length out)) ∙ sym u.answer,
    t.output ∙ sym (u.output ∙ rw (same_refusal sheet accepted typed (length out), request_11_translation) refl),
  )

  pub request_11_translates_in_C : (out : List ℕ) (code code' : ℕ) (out' out'' : List ℕ) → TranslatesC sheet out code out'
      → TranslatesC (types_removed sheet) out code' out'' → (code ≡ code') × (out' ≡ out'')
  request_11_translates_in_C out code code' out' out'' t u = (
    t.answer ∙ sym (u.answer ∙ rw (same_refusal sheet accepted typed (length out), request_11_translation) refl),
    t.output ∙ sym (u.output ∙ rw (same_refusal sheet accepted typed (length out), request_11_translation) refl),
  )

-- sheets without types are read as before this request, whatever their bytes: what was accepted still is
pub request_11_before : (b : List ℕ) (v : Verdict) (starts ends owners : List ℕ) → ReadSheet b v starts ends owners → is_typed b ≡ false → v ≡ sheet_verdict_before b
request_11_before b v starts ends owners r untyped = r.verdict ∙ read_as_before b untyped

pub request_11_still : (b : List ℕ) → sheet_verdict_before b ≡ Accepted → (is_typed b ≡ false) × (sheet_verdict b ≡ Accepted)
request_11_still = accepted_before

-- and removing types leaves them as they are
pub request_11_unchanged : (b : List ℕ) → sheet_verdict b ≡ Accepted → is_typed b ≡ false → types_removed b ≡ b
request_11_unchanged = untyped_unchanged

-- the runs for a caller in C, who reads the record
module _ (sheet out : List ℕ) (code : ℕ) (out' : List ℕ) (translated : TranslatesC sheet out code out') (not_refused : code_number code ≡ 0)
    (typed : is_typed sheet ≡ true) (rs : List ℤ) (steps nesting cells_allowed : ℕ) (before room : List ℕ) (code' : ℕ) (after room' : List ℕ) where
  accepted_in_C : sheet_verdict sheet ≡ Accepted
  accepted_in_C = (handed_in_C sheet out code out' translated not_refused).accepted

  pub request_11_run_in_C : RunsC (take (code_value code) out') rs steps nesting cells_allowed before room code' after room' → code' ≡ 0
      → NoTypeError (recorded room').outcome
  request_11_run_in_C run recording =
      outcome_sound sheet rs accepted_in_C typed _
      (run_faithful_in_C sheet out code out' translated not_refused rs steps nesting cells_allowed before room code' after room' run recording).outcome

  pub request_11_hirer_in_C : (set : ℕ) → RunsForHirerC (take (code_value code) out') set rs steps nesting cells_allowed before room code' after room' → code' ≡ 0
      → NoTypeError (recorded room').outcome
  request_11_hirer_in_C set run recording =
      outcome_sound sheet rs accepted_in_C typed _
      (hirer_faithful_in_C sheet out code out' translated not_refused rs steps nesting cells_allowed before room code' after room' set run recording).outcome

  pub request_11_row_in_C : (rows : ℕ) → RunsRowsC (take (code_value code) out') rows rs steps nesting cells_allowed before room code' after room' → code_number code' ≡ 0
      → (i : ℕ) → i < rows → NoTypeError (row_recorded room' i).outcome
  request_11_row_in_C rows batch written i h =
      outcome_sound sheet _ accepted_in_C typed _
      (batch_faithful_in_C sheet out code out' translated not_refused rows rs steps nesting cells_allowed before room code' after room' batch written i h).outcome

pub request_11_joined_in_C : (sheet out : List ℕ) (rs : List ℤ) (steps nesting cells_allowed : ℕ) (before room : List ℕ) (code : ℕ) (out' after room' : List ℕ)
    → JoinsC sheet out rs steps nesting cells_allowed before room code out' after room' → sheet_verdict sheet ≡ Accepted → is_typed sheet ≡ true → code ≡ 0
    → NoTypeError (recorded room').outcome
request_11_joined_in_C sheet out rs steps nesting cells_allowed before room code out' after room' joins accepted typed recording =
    outcome_sound sheet rs accepted typed _
    (join_faithful_in_C sheet out rs steps nesting cells_allowed before room code out' after room' joins accepted recording).outcome
