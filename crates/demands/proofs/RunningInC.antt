-- Runs for a caller in C: the record of an answer, a stop or a refusal, or 8 where there is no room for it.
use mathlib.Core.Path.{◌≡◌, refl, ◌∙◌}
use Prim.Native.Nat.{ℕ, ◌≤◌}
use mathlib.Core.List.{List, ◌++◌}
use mathlib.Core.Bool.{Bool, true, false}
use native.Mathlib.Omega.{arith}
use lib.IntN.{ℤ}
use lib.ListN.{length, drop}
use lib.Dec.{leb}
use mir.Syntax.{w32}
use mir.Val.{SFits}
use Rattle.definitions.specs.Sizes.{answer_size}
use Rattle.definitions.specs.Numbers.{short_output, is_constructor}
use Rattle.definitions.specs.Verdicts.{require}
use Rattle.definitions.specs.Run.{Answer, refusal}
use Rattle.definitions.specs.AnswerRecord.{answer_bytes, recorded}
use Rattle.laws.proofs.Classes.{answer_limit, stop_limit, refusal_range}
use Rattle.agreement.specs.Answers.{answer_outcome}
use Rattle.join.specs.Promise.{join_answer, join_output, join_cells}
use Rattle.zifnora_c.specs.Codes.{code, code_of, code_number}
use Rattle.zifnora_c.specs.Promise.{record_verdict, where_fits, record_over, RunsInto, RunsC, RunsForHirerC, JoinsC}
use Rattle.demands.specs.Demands as Demands
use Rattle.demands.specs.Demands.{Met, StoppedOrRefused}
use Rattle.demands.specs.InC as InC
use Rattle.demands.specs.InC.{MetInC, StoppedOrRefusedInC}
use Rattle.demands.proofs.Meeting.{run_met, join_met}
use Rattle.demands.proofs.HirerRuns.{hirer_met}
use Rattle.demands.proofs.Recorded.{number_of_code, outcome_read, answer_read}

-- an answer that is met has a number that the record holds
pub met_limit : {a : Answer} {untouched : Type 0} → Met a untouched → a.outcome ≤ is_constructor
unfolding refusal
met_limit (Demands.Met.answers h) = answer_limit _ h
met_limit (Demands.Met.stops h) = stop_limit _ h
met_limit (Demands.Met.refuses n p e k u) = rw e (refusal_range n k).1

-- the record of an answer that is met
module _ (a : Answer) (untouched : Type 0) (met : Met a untouched) (room' rest : List ℕ) (written : room' ≡ answer_bytes a ++ rest) where
  pub outcome_is : (recorded room').outcome ≡ a.outcome
  outcome_is = rw written (outcome_read a rest (omega (arith, met_limit met)))

  pub answer_is : SFits w32 a.value → recorded room' ≡ answer_outcome a
  answer_is f = rw written (answer_read a rest (omega (arith, met_limit met)) f)

  recorded_met : (c : ℕ) (room : List ℕ) → c ≡ 0 → Met a untouched → MetInC c room room' untouched
  unfolding refusal
  recorded_met c room z (Demands.Met.answers h) = InC.MetInC.answers z (rw outcome_is h)
  recorded_met c room z (Demands.Met.stops h) = InC.MetInC.stops z (rw outcome_is h)
  recorded_met c room z (Demands.Met.refuses n p e k u) = InC.MetInC.refuses z (rw (outcome_is, e) k) u

  pub recorded_unanswered : StoppedOrRefused a untouched → StoppedOrRefusedInC room' untouched
  unfolding refusal
  recorded_unanswered (Demands.StoppedOrRefused.stops h) = InC.StoppedOrRefusedInC.stops (rw outcome_is h)
  recorded_unanswered (Demands.StoppedOrRefused.refuses n p e k u) = InC.StoppedOrRefusedInC.refuses (rw (outcome_is, e) k) u

-- a call with a buffer for the record: there is room for it, or there is none
module _ (room : List ℕ) where
  module _ (roomy : leb answer_size (length room) ≡ true) where
    where_fits_law : (x y : List ℕ) → where_fits room x y ≡ x
    unfolding where_fits
    where_fits_law x y = rw roomy refl

    pub record_where_fits : (a : Answer) → record_over room a ≡ answer_bytes a ++ drop answer_size room
    unfolding record_over
    record_where_fits a = where_fits_law _ room

    code_where_fits : code_of (record_verdict room) 0 ≡ 0
    unfolding record_verdict require code_of code
    code_where_fits = rw roomy refl

  module _ (short : leb answer_size (length room) ≡ false) where
    where_short : (x y : List ℕ) → where_fits room x y ≡ y
    unfolding where_fits
    where_short x y = rw short refl

    record_where_short : (a : Answer) → record_over room a ≡ room
    unfolding record_over
    record_where_short a = where_short _ room

    code_where_short : code_number (code_of (record_verdict room) 0) ≡ short_output
    unfolding record_verdict require code_of
    code_where_short = rw short (number_of_code short_output 0)

-- a call that writes the record of an answer
module _ (room : List ℕ) (c : ℕ) (room' : List ℕ) (a : Answer) (untouched : Type 0)
    (coded : c ≡ code_of (record_verdict room) 0) (written : room' ≡ record_over room a) where
  met_by : (t : Bool) → leb answer_size (length room) ≡ t → (t ≡ true → Met a untouched) → (t ≡ false → untouched) → MetInC c room room' untouched
  met_by true e met u =
      let m = met refl in
      recorded_met a untouched m room' (drop answer_size room) (written ∙ record_where_fits room e a) c room (coded ∙ code_where_fits room e) m
  met_by false e met u =
      let n : code_number c ≡ short_output = rw coded (code_where_short room e) in
      InC.MetInC.no_room n (written ∙ record_where_short room e a) (u refl)

  call_met : (leb answer_size (length room) ≡ true → Met a untouched) → (leb answer_size (length room) ≡ false → untouched) → MetInC c room room' untouched
  call_met met u = met_by (leb answer_size (length room)) refl met u

module _ (a : Answer) (ran before room : List ℕ) (c : ℕ) (after room' : List ℕ) (t : RunsInto a ran before room c after room') (met : Met a (ran ≡ before)) where
  pub run_met_where_fits : leb answer_size (length room) ≡ true → Met a (after ≡ before)
  run_met_where_fits e = rw (t.cells, where_fits_law room e ran before) met

  run_met_in_C : MetInC c room room' (after ≡ before)
  run_met_in_C = call_met room c room' a (after ≡ before) t.answer t.written run_met_where_fits (λ e. t.cells ∙ where_short room e _ before)

pub running_met_in_C : (b : List ℕ) (rs : List ℤ) (steps nesting cells_allowed : ℕ) (before room : List ℕ) (c : ℕ) (after room' : List ℕ)
    → RunsC b rs steps nesting cells_allowed before room c after room' → MetInC c room room' (after ≡ before)
running_met_in_C b rs steps nesting cells_allowed before room c after room' t =
    run_met_in_C _ _ before room c after room' t (run_met b rs steps nesting cells_allowed before)

pub hiring_met_in_C : (b : List ℕ) (set : ℕ) (rs : List ℤ) (steps nesting cells_allowed : ℕ) (before room : List ℕ) (c : ℕ) (after room' : List ℕ)
    → RunsForHirerC b set rs steps nesting cells_allowed before room c after room' → MetInC c room room' (after ≡ before)
hiring_met_in_C b set rs steps nesting cells_allowed before room c after room' t =
    run_met_in_C _ _ before room c after room' t (hirer_met b set rs steps nesting cells_allowed before)

module _ (sheet out : List ℕ) (rs : List ℤ) (steps nesting cells_allowed : ℕ) (before room : List ℕ) (c : ℕ) (out' after room' : List ℕ)
    (t : JoinsC sheet out rs steps nesting cells_allowed before room c out' after room') where
  pub join_met_where_fits : leb answer_size (length room) ≡ true
      → Met (join_answer sheet (length out) rs steps nesting cells_allowed (length before)) ((out' ≡ out) × (after ≡ before))
  join_met_where_fits e =
      let o = where_fits_law room e (join_output sheet out rs nesting cells_allowed (length before)) out in
      let s = where_fits_law room e (join_cells sheet (length out) rs steps nesting cells_allowed before) before in
      rw (t.output, t.cells, o, s) (join_met sheet out rs steps nesting cells_allowed before)

  pub joining_met_in_C : MetInC c room room' ((out' ≡ out) × (after ≡ before))
  joining_met_in_C =
      call_met room c room' _ ((out' ≡ out) × (after ≡ before)) t.answer t.written join_met_where_fits
      (λ e. (t.output ∙ where_short room e _ out, t.cells ∙ where_short room e _ before))
