-- Request 10 of document 02, in its words, over what the public calls promise: `WritesView` of `driver_view::write_view`, `Translates` of
-- `translator::translate`, `Runs` of `run::run`, `RunsForHirer` of `hirer::run_for_hirer` and `Joins` of `join::translate_and_run`, and for callers in C
-- `WritesViewC`, `TranslatesC` and `RunsC`. No call has a `requires`. "The cab shows 6 bytes": these are the first `view_size` bytes of the output.
use mathlib.Core.Path.{◌≡◌, refl, sym, ap, ◌∙◌}
use mathlib.Core.Logic.{◌↔◌}
use Prim.Native.Nat.{ℕ, ◌≤◌, ◌<◌}
use mathlib.Core.List.{List, [], ◌∷◌}
use lib.IntN.{ℤ}
use lib.ListN.{length, take, drop}
use Rattle.definitions.specs.Sizes.{answer_size, view_size}
use Rattle.definitions.specs.Numbers.{bad_record, short_output, is_number, is_answer}
use Rattle.definitions.specs.Outcomes.{Outcome, number_outcome}
use Rattle.definitions.specs.Run as Run
use Rattle.definitions.specs.Run.{rule_answer, answer_after, run_answer}
use Rattle.definitions.specs.RunsInTurn.{row_of}
use Rattle.definitions.specs.AnswerRecord.{answer_bytes, recorded}
use Rattle.definitions.specs.DriverView.{view_bytes}
use Rattle.definitions.specs.Verdict.{Accepted}
use Rattle.definitions.specs.Written.{Written, Length, Refused}
use Rattle.laws.proofs.ByteFiles.{Bytes}
use Rattle.agreement.specs.Meaning.{OwnAnswer}
use Rattle.agreement.specs.Answers.{answer_outcome}
use Rattle.translator.specs.Promise.{Translates}
use Rattle.answer.specs.declared.Answer.{Answer}
use Rattle.answer.specs.Answers.{answer_of}
use Rattle.driver_view.specs.Promise.{WritesView}
use Rattle.run.specs.Promise.{Runs}
use Rattle.hirer.specs.Promise.{RunsForHirer}
use Rattle.join.specs.Promise.{join_answer, Joins}
use Rattle.zifnora_c.specs.Codes.{code_number, code_value}
use Rattle.zifnora_c.specs.Promise.{TranslatesC, RunsC, WritesViewC}
use Rattle.demands.specs.InC.{SignedReadings}
use Rattle.demands.specs.DriverView.{SameToDriver, RecordLent, Shown, ShowsNumber, Recordable, ViewMet, ViewMetInC}
use Rattle.demands.proofs.Refusals.{running_numbered, hiring_numbered, joining_numbered}
use Rattle.demands.proofs.HirerRuns.{answer_in_order}
use Rattle.demands.proofs.Handing.{handed, handed_own}
use Rattle.demands.proofs.OwnInC.{translation_bytes_law}
use Rattle.demands.proofs.OwnRows.{row_signed}
use Rattle.demands.proofs.Viewed.{nothing_shown, records_exactly, answers_exactly, number_recorded, answers_alike, shows_exactly, recorded_front}
use Rattle.demands.proofs.Viewing.{view_met, view_met_in_C, shown_by, shown_in_C, view_taken, rest_kept}
use Rattle.demands.proofs.Viewing.{no_record_refused, short_refused, record_shown, answer_lent, run_recordable}
use Rattle.demands.proofs.Demands.{demand_3_own_in_C}

-- any lent bytes, any output
module _ (b out : List ℕ) (r : Written) (out' : List ℕ) (view : WritesView b out r out') where
  -- demand 1 for this call: the six bytes, or a numbered refusal that writes nothing
  pub request_10_met : ViewMet b out r out'
  request_10_met = view_met view

  -- "Lent bytes that aren't 20, or whose length or kind field isn't document 01's, are 3 .. with place 0", whatever the output
  pub request_10_refused : ¬ RecordLent b → (r ≡ Refused bad_record 0) × (out' ≡ out)
  request_10_refused = no_record_refused view

  -- "then an output below 6 bytes is 8 .. with place 0"
  pub request_10_short : RecordLent b → length out < view_size → (r ≡ Refused short_output 0) × (out' ≡ out)
  request_10_short = short_refused view

  -- and nothing else is refused
  pub request_10_shown : RecordLent b → view_size ≤ length out → (r ≡ Length view_size) × Shown b out out'
  request_10_shown = record_shown view

-- a view that was written
module _ (b out out' : List ℕ) (shown : Shown b out out') where
  -- "0 in two bytes and the number": the cab shows a number exactly if the record is a number, and it is that number
  pub request_10_number : (z : ℤ) → ShowsNumber out' z ↔ (((recorded b).outcome ≡ is_number) × ((recorded b).value ≡ z))
  request_10_number = shows_exactly b (drop view_size out) out' shown.is

  -- "or 1 in two bytes and four zero bytes for anything else"
  pub request_10_else : ¬ ((recorded b).outcome ≡ is_number) → take view_size out' ≡ 1 ∷ 0 ∷ 0 ∷ 0 ∷ 0 ∷ 0 ∷ []
  unfolding view_bytes
  request_10_else h = view_taken shown ∙ nothing_shown (recorded b) h

  -- bytes past the 6 stay as they were
  pub request_10_rest : drop view_size out' ≡ drop view_size out
  request_10_rest = rest_kept shown

-- "Two records have the same cab bytes exactly if both are the same number or neither is a number.": all that the call accepts
cab_bytes : {b c out room out' room' : List ℕ} → Shown b out out' → Shown c room room'
    → (take view_size out' ≡ take view_size room') ↔ SameToDriver (recorded b) (recorded c)
cab_bytes {b} {c} s t = rw (view_taken s, view_taken t) (records_exactly b c)

pub request_10_exactly : (b c out room : List ℕ) (n m : ℕ) (out' room' : List ℕ) → WritesView b out (Length n) out' → WritesView c room (Length m) room'
    → (take view_size out' ≡ take view_size room') ↔ SameToDriver (recorded b) (recorded c)
request_10_exactly b c out room n m out' room' view view' = cab_bytes (shown_by view) (shown_by view')

-- the records of any two answers: the call accepts them
pub request_10_accepts : (a : Run.Answer) → RecordLent (answer_bytes a)
request_10_accepts = answer_lent

module _ (a c : Run.Answer) (out room : List ℕ) (n m : ℕ) (out' room' : List ℕ)
    (view : WritesView (answer_bytes a) out (Length n) out') (view' : WritesView (answer_bytes c) room (Length m) room') where
  -- the same of the answers themselves, where their records hold them
  pub request_10_answers : Recordable a → Recordable c → (take view_size out' ≡ take view_size room') ↔ SameToDriver (answer_outcome a) (answer_outcome c)
  request_10_answers h k = rw (view_taken (shown_by view), view_taken (shown_by view')) (answers_exactly a c h k)

  -- so steps, node, context and cells never reach the cab
  pub request_10_hidden : a.outcome ≡ c.outcome → a.value ≡ c.value → take view_size out' ≡ take view_size room'
  request_10_hidden e f = view_taken (shown_by view) ∙ answers_alike a c e f ∙ sym (view_taken (shown_by view'))

-- the record of a run's answer holds it: "Readings are signed 32-bit numbers."
module _ (rs : List ℤ) (signed : SignedReadings rs) (steps nesting cells_allowed : ℕ) (before : List ℕ) (r : Answer) (after : List ℕ) where
  pub request_10_run : (b : List ℕ) → Bytes b → Runs b rs steps nesting cells_allowed before r after → Recordable (answer_of r)
  unfolding run_answer
  request_10_run b bytes run =
      run_recordable b rs bytes signed steps nesting cells_allowed _ (running_numbered b rs nesting cells_allowed (length before)) _ run.answer

  pub request_10_hirer : (b : List ℕ) (set : ℕ) → Bytes b → RunsForHirer b set rs steps nesting cells_allowed before r after → Recordable (answer_of r)
  request_10_hirer b set bytes run =
      run_recordable b rs bytes signed steps nesting cells_allowed _ (hiring_numbered b set rs nesting cells_allowed (length before)) _
      (run.answer ∙ answer_in_order b set rs steps nesting cells_allowed (length before))

  pub request_10_joined : (sheet out out' : List ℕ) → Joins sheet out rs steps nesting cells_allowed before r out' after → Recordable (answer_of r)
  unfolding join_answer
  request_10_joined sheet out out' run =
      run_recordable _ rs (translation_bytes_law sheet) signed steps nesting cells_allowed _
      (joining_numbered sheet (length out) rs nesting cells_allowed (length before)) _ run.answer

-- and that of row i of a batch, which is the rule's (`request_1_exact`)
pub request_10_row : (b : List ℕ) → Bytes b → (rs : List ℤ) → SignedReadings rs → (steps nesting cells_allowed i : ℕ)
    → Recordable (rule_answer b (row_of b rs i) steps nesting cells_allowed)
unfolding answer_after
request_10_row b bytes rs signed steps nesting cells_allowed i =
    run_recordable b (row_of b rs i) bytes (row_signed b rs i signed) steps nesting cells_allowed Accepted tt _ refl

-- demand 3 for the cab: anyone who hands the bytes that the translator wrote, unchanged, to the run, and the record of its answer to this
-- call: a number that the cab shows is the sheet's own
module _ (sheet out : List ℕ) (n : ℕ) (out' : List ℕ) (translated : Translates sheet out (Length n) out')
    (rs : List ℤ) (signed : SignedReadings rs) (steps nesting cells_allowed : ℕ) (before : List ℕ) (r : Answer) (after : List ℕ)
    (run : Runs (take n out') rs steps nesting cells_allowed before r after)
    (cab : List ℕ) (m : ℕ) (cab' : List ℕ) (view : WritesView (answer_bytes (answer_of r)) cab (Length m) cab') where
  held : Recordable (answer_of r)
  held = request_10_run rs signed steps nesting cells_allowed before r after (take n out') (rw (handed sheet out n out' translated).is (translation_bytes_law sheet)) run

  pub request_10_own : (z : ℤ) → ShowsNumber cab' z → OwnAnswer sheet rs (number_outcome z)
  unfolding is_answer number_outcome answer_outcome
  request_10_own z s =
      let is = (request_10_number (answer_bytes (answer_of r)) cab cab' (shown_by view) z).0 s in
      let whole = number_recorded (answer_of r) held is.0 in
      let number : (answer_of r).outcome ≡ is_number = sym (ap (λ (o : Outcome). o.outcome) whole) ∙ is.0 in
      rw (← is.0, ← is.1)
      (rw whole (handed_own sheet out n out' translated rs steps nesting cells_allowed before r after run (rw number refl)))

-- for a caller in C
pub request_10_met_in_C : (b out : List ℕ) (code : ℕ) (out' : List ℕ) → WritesViewC b out code out' → ViewMetInC b out code out'
request_10_met_in_C b out code out' = view_met_in_C

pub request_10_exactly_in_C : (b c out room : List ℕ) (code code' : ℕ) (out' room' : List ℕ)
    → WritesViewC b out code out' → code_number code ≡ 0 → WritesViewC c room code' room' → code_number code' ≡ 0
    → (take view_size out' ≡ take view_size room') ↔ SameToDriver (recorded b) (recorded c)
request_10_exactly_in_C b c out room code code' out' room' view e view' e' = cab_bytes (shown_in_C view e) (shown_in_C view' e')

-- demand 3 for the cab in C, with the record that the run wrote
module _ (sheet out : List ℕ) (code : ℕ) (out' : List ℕ) (translated : TranslatesC sheet out code out') (not_refused : code_number code ≡ 0)
    (rs : List ℤ) (signed : SignedReadings rs) (steps nesting cells_allowed : ℕ) (before room : List ℕ) (code' : ℕ) (after room' : List ℕ)
    (run : RunsC (take (code_value code) out') rs steps nesting cells_allowed before room code' after room') (recording : code' ≡ 0)
    (cab : List ℕ) (code'' : ℕ) (cab' : List ℕ) (view : WritesViewC (take answer_size room') cab code'' cab') (viewing : code_number code'' ≡ 0) where
  pub request_10_own_in_C : (z : ℤ) → ShowsNumber cab' z → OwnAnswer sheet rs (number_outcome z)
  unfolding is_answer number_outcome
  request_10_own_in_C z s =
      let is = rw (recorded_front room') at ((request_10_number (take answer_size room') cab cab' (shown_in_C view viewing) z).0 s) in
      rw (← is.0, ← is.1)
      (demand_3_own_in_C sheet out code out' translated not_refused rs steps nesting cells_allowed before room code' after room' run recording signed (rw is.0 refl))
