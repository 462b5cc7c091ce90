-- Laws of what rows are refused for, and of the promise where they are refused and where they are run.
use mathlib.Core.Path.{◌≡◌, refl, sym, ◌∙◌}
use Prim.Native.Nat.{ℕ, ◌*◌, ◌≤◌, ◌<◌}
use mathlib.Core.List.{List}
use mathlib.Core.Bool.{Bool, true, ◌&&◌, and-eq-true_iff}
use native.Mathlib.Omega.{arith}
use native.Mathlib.Nat.{mul-le-mul}
use lib.IntN.{ℤ}
use lib.ListN.{length}
use lib.Dec.{leb, eqb}
use borrow.Author.Tests.{leb-true, eqb-true}
use Rattle.std.proofs.Common.{Result}
use Rattle.std.specs.Result.{IsErrAnd, result_and}
use Rattle.std.proofs.lemmas.Result.{err_from_is_err_and}
use Rattle.definitions.specs.Sizes.{most_rows, answer_size}
use Rattle.definitions.specs.Numbers.{short_output, bad_readings, bad_allowance}
use Rattle.definitions.specs.Layouts.{readings}
use Rattle.definitions.specs.Checks.{translation_verdict}
use Rattle.definitions.specs.Verdicts.{require}
use Rattle.definitions.specs.Output.{written_of, output_of}
use Rattle.definitions.specs.Run.{allowances_fit, bytes_after}
use Rattle.definitions.specs.Verdict.{Accepted, Refused}
use Rattle.definitions.specs.Refusals.{number_of, as_verdict, as_written}
use Rattle.definitions.specs.declared.refusals.Refusal.{Refusal}
use Rattle.answer.proofs.Refusals.{first_of_two}
use Rattle.laws.proofs.Verdicts.{then_accepted, then_refused, both_accepted, required}
use Rattle.run.specs.NodeTable.{FileRead}
use Rattle.definitions.specs.Written as answers
use Rattle.batch.specs.Promise.{rows_checks, rows_verdict, rows_cells, rows_records, RunsRows}
use Rattle.batch.specs.Rows.{RowsFit, records_over, RanRows}
use Rattle.batch.proofs.InTurn.{records_length}

-- 32 bits times 16 bits are below 64 bits
pub product_fits : {x y : ℕ} → x ≤ 4294967295 → y ≤ 65535 → x * y < 18446744073709551616
product_fits h k = omega (arith, mul-le-mul h k)

-- the three tests in their order
pub checked : (b : List ℕ) (rows given nesting cells_allowed lent room : ℕ) {width : ℕ} {t : Bool} {T : Type 0}
    (v w u : Result T Refusal) {vw r : Result T Refusal}
    → width ≡ readings b → t ≡ (leb rows most_rows && allowances_fit nesting cells_allowed lent)
    → as_verdict v ≡ require (eqb given (rows * width)) bad_readings 0 → as_verdict w ≡ require t bad_allowance 0
    → as_verdict u ≡ require (leb (rows * answer_size) room) short_output 0
    → vw ≡ result_and v w → r ≡ result_and vw u → as_verdict r ≡ rows_checks b rows given nesting cells_allowed lent room
unfolding rows_checks
checked b rows given nesting cells_allowed lent room v w u {vw} width_is t_is v_is w_is u_is vw_is e =
    rw (e, first_of_two vw u, vw_is, first_of_two v w, v_is, w_is, u_is, t_is, width_is) refl

-- what their acceptance says
pub record ChecksHold (b : List ℕ) (rows given nesting cells_allowed lent room : ℕ) : Type 0 where
  pub readings_given : given ≡ rows * readings b
  pub rows_within : rows ≤ most_rows
  pub allowances_fit_law : allowances_fit nesting cells_allowed lent ≡ true
  pub records_fit : rows * answer_size ≤ room

pub checks_hold : (b : List ℕ) (rows given nesting cells_allowed lent room : ℕ) → rows_checks b rows given nesting cells_allowed lent room ≡ Accepted
    → ChecksHold b rows given nesting cells_allowed lent room
unfolding rows_checks
checks_hold b rows given nesting cells_allowed lent room e =
    let all = both_accepted _ _ e in
    let two = both_accepted _ _ all.0 in
    let within = (and-eq-true_iff (leb rows most_rows) (allowances_fit nesting cells_allowed lent)).0 (required _ bad_allowance 0 two.1) in
    record {
      readings_given = eqb-true given (rows * readings b) (required _ bad_readings 0 two.0);
      rows_within = leb-true rows most_rows within.0;
      allowances_fit_law = within.1;
      records_fit = leb-true (rows * answer_size) room (required _ short_output 0 all.1);
    }

-- as many readings as the rows ask for, and room for their records
pub rows_fit : {b : List ℕ} {rows : ℕ} {rs : List ℤ} (nesting cells_allowed lent : ℕ) {room : ℕ} → Accepted ≡ rows_checks b rows (length rs) nesting cells_allowed lent room
    → RowsFit b rs room rows
rows_fit nesting cells_allowed lent is =
    let h = checks_hold _ _ _ _ _ _ _ (sym is) in
    record { given = h.readings_given; roomy = h.records_fit }

module _ {b : List ℕ} {rows : ℕ} {rs : List ℤ} {steps nesting cells_allowed : ℕ} {before room : List ℕ} where
  -- a refusal that is passed on
  refused_by : (r : Result ℕ Refusal) (e : Refusal) → IsErrAnd r (λ d. d ≡ e)
      → rows_verdict b rows rs nesting cells_allowed (length before) (length room) ≡ Refused (number_of e.reason) e.place
      → RunsRows b rows rs steps nesting cells_allowed before room (as_written r) before room
  unfolding written_of output_of rows_cells rows_records bytes_after
  refused_by r e h v = let p = err_from_is_err_and r h in rw (p.1, p.2) (record { answer = rw v refl; cells = rw v refl; records = rw v refl })

  pub file_refused : (r : Result ℕ Refusal) (e : Refusal) → IsErrAnd r (λ d. d ≡ e) → {tab : List ℕ} → FileRead b (Refused (number_of e.reason) e.place) tab
      → RunsRows b rows rs steps nesting cells_allowed before room (as_written r) before room
  unfolding rows_verdict
  file_refused r e h t = refused_by r e h (then_refused _ _ _ _ (sym t.verdict))

  module _ (accepted : Accepted ≡ translation_verdict b) where
    pub checks_refused : (r : Result ℕ Refusal) (e : Refusal) → IsErrAnd r (λ d. d ≡ e)
        → Refused (number_of e.reason) e.place ≡ rows_checks b rows (length rs) nesting cells_allowed (length before) (length room)
        → RunsRows b rows rs steps nesting cells_allowed before room (as_written r) before room
    unfolding rows_verdict
    checks_refused r e h is = refused_by r e h (then_accepted _ _ (sym accepted) ∙ sym is)

    -- the rows were run
    pub rows_ran : {after room' : List ℕ} → Accepted ≡ rows_checks b rows (length rs) nesting cells_allowed (length before) (length room)
        → RanRows b rows rs steps nesting cells_allowed before room after room'
        → RunsRows b rows rs steps nesting cells_allowed before room (answers.Length (rows * answer_size)) after room'
    unfolding rows_verdict written_of output_of records_over rows_cells rows_records bytes_after
    rows_ran is ran =
        let e : rows_verdict b rows rs nesting cells_allowed (length before) (length room) ≡ Accepted = then_accepted _ _ (sym accepted) ∙ sym is in
        let size = records_length b rs steps nesting cells_allowed before rows in
        record { answer = rw e refl; cells = ran.cells ∙ rw e refl; records = ran.written ∙ rw (e, size) refl }
