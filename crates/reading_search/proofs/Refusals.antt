-- Laws of what a search is refused for, and of the promise where it is refused and where the range is searched.
use mathlib.Core.Path.{◌≡◌, refl, sym, ◌∙◌}
use Prim.Native.Nat.{ℕ, ◌≤◌, ◌<◌}
use mathlib.Core.List.{List}
use mathlib.Core.Bool.{Bool, false, and-eq-true_iff}
use lib.IntN.{ℤ}
use lib.ListN.{length}
use lib.Dec.{ltb, eqb}
use borrow.Author.Tests.{le-leb, ltb-true, eqb-true}
use Rattle.std.proofs.Common.{Option, Result}
use Rattle.std.specs.Result.{IsErrAnd, result_and}
use Rattle.std.proofs.lemmas.Result.{err_from_is_err_and}
use Rattle.definitions.specs.Sizes.{most_values}
use Rattle.definitions.specs.Numbers.{bad_readings, bad_allowance, bad_range}
use Rattle.definitions.specs.Ranges.{within}
use Rattle.definitions.specs.Layouts.{readings}
use Rattle.definitions.specs.Checks.{translation_verdict}
use Rattle.definitions.specs.Verdicts.{◌and_then◌, require}
use Rattle.definitions.specs.Run.{allowances_fit, run_verdict, bytes_after}
use Rattle.definitions.specs.ReadingSearch.{Query, value_count, range_fits, search_verdict, searched_after, search_answer, search_cells}
use Rattle.definitions.specs.Verdict.{Accepted, Refused}
use Rattle.definitions.specs.Refusals.{number_of, as_verdict, as_searched}
use Rattle.definitions.specs.declared.refusals.Refusal.{Refusal}
use Rattle.definitions.specs.Searched.{Searched}
use Rattle.answer.proofs.Refusals.{first_of_two}
use Rattle.laws.proofs.Verdicts.{both_accepted, required}
use Rattle.laws.proofs.Ranges.{within_by, within_below, within_above}
use Rattle.run.specs.NodeTable.{FileRead}
use Rattle.reading_search.specs.Promise.{search_checks, FindsReading}
use Rattle.reading_search.specs.Search.{SearchFits, Searches}

-- the range
module _ (b : List ℕ) (position : ℕ) (lowest highest : ℤ) where
  pub no_values : value_count lowest highest < 1 → false ≡ range_fits b position lowest highest
  unfolding range_fits
  no_values h = rw (within_below 1 most_values (value_count lowest highest) h) refl

  pub many_values : most_values < value_count lowest highest → false ≡ range_fits b position lowest highest
  unfolding range_fits
  many_values h = rw (within_above 1 most_values (value_count lowest highest) h) refl

  pub by_position : {n : ℕ} → 1 ≤ value_count lowest highest → value_count lowest highest ≤ most_values → n ≡ readings b → ltb position n ≡ range_fits b position lowest highest
  unfolding range_fits within
  by_position h k e = rw (e, le-leb 1 (value_count lowest highest) h, le-leb (value_count lowest highest) most_values k) refl

-- the three tests in their order
pub checked : (b : List ℕ) (given : ℕ) (q : Query) (nesting cells_allowed lent : ℕ) {width : ℕ} {s t : Bool} {T : Type 0}
    (v w u : Result T Refusal) {vw r : Result T Refusal}
    → width ≡ readings b → s ≡ allowances_fit nesting cells_allowed lent → t ≡ range_fits b q.position q.lowest q.highest
    → as_verdict v ≡ require (eqb given width) bad_readings 0 → as_verdict w ≡ require s bad_allowance 0 → as_verdict u ≡ require t bad_range 0
    → vw ≡ result_and v w → r ≡ result_and vw u → as_verdict r ≡ search_checks b given q.position q.lowest q.highest nesting cells_allowed lent
unfolding search_checks
checked b given q nesting cells_allowed lent v w u {vw} width_is s_is t_is v_is w_is u_is vw_is e =
    rw (e, first_of_two vw u, vw_is, first_of_two v w, v_is, w_is, u_is, s_is, t_is, width_is) refl

checks_verdict : (b : List ℕ) (rs : List ℤ) (q : Query) (nesting cells_allowed lent : ℕ) → translation_verdict b ≡ Accepted
    → search_verdict b rs q nesting cells_allowed lent ≡ search_checks b (length rs) q.position q.lowest q.highest nesting cells_allowed lent
unfolding search_verdict search_checks run_verdict ◌and_then◌
checks_verdict b rs q nesting cells_allowed lent accepted = rw accepted refl

-- what their acceptance says
pub search_fits : {b : List ℕ} {rs : List ℤ} {q : Query} {nesting cells_allowed lent : ℕ}
    → Accepted ≡ search_checks b (length rs) q.position q.lowest q.highest nesting cells_allowed lent → SearchFits b rs q nesting cells_allowed lent
unfolding search_checks range_fits
search_fits {b} {rs} {q} is =
    let all = both_accepted _ _ (sym is) in
    let two = both_accepted _ _ all.0 in
    let range = (and-eq-true_iff _ _).0 (required _ bad_range 0 all.1) in
    record {
      given = eqb-true (length rs) (readings b) (required _ bad_readings 0 two.0);
      there = ltb-true q.position (readings b) range.1;
      few = (within_by 1 most_values (value_count q.lowest q.highest) range.0).greatest;
      fit = required _ bad_allowance 0 two.1;
    }

module _ {b : List ℕ} {rs : List ℤ} {q : Query} {steps nesting cells_allowed : ℕ} {before : List ℕ} where
  -- a refusal that is passed on
  refused_by : (r : Result (Option ℤ) Refusal) (e : Refusal) → IsErrAnd r (λ d. d ≡ e)
      → search_verdict b rs q nesting cells_allowed (length before) ≡ Refused (number_of e.reason) e.place
      → FindsReading b rs q steps nesting cells_allowed before (as_searched r) before
  unfolding search_answer search_cells searched_after bytes_after
  refused_by r e h v = let p = err_from_is_err_and r h in rw (p.1, p.2) (record { answer = rw v refl; cells = rw v refl })

  pub file_refused : (r : Result (Option ℤ) Refusal) (e : Refusal) → IsErrAnd r (λ d. d ≡ e) → {tab : List ℕ} → FileRead b (Refused (number_of e.reason) e.place) tab
      → FindsReading b rs q steps nesting cells_allowed before (as_searched r) before
  unfolding search_verdict run_verdict ◌and_then◌
  file_refused r e h t = refused_by r e h (rw (← t.verdict) refl)

  module _ (accepted : Accepted ≡ translation_verdict b) where
    pub checks_refused : (r : Result (Option ℤ) Refusal) (e : Refusal) → IsErrAnd r (λ d. d ≡ e)
        → Refused (number_of e.reason) e.place ≡ search_checks b (length rs) q.position q.lowest q.highest nesting cells_allowed (length before)
        → FindsReading b rs q steps nesting cells_allowed before (as_searched r) before
    checks_refused r e h is = refused_by r e h (checks_verdict b rs q nesting cells_allowed (length before) (sym accepted) ∙ sym is)

    -- the range was searched
    pub range_searched : {r : Searched} {after : List ℕ} → Accepted ≡ search_checks b (length rs) q.position q.lowest q.highest nesting cells_allowed (length before)
        → Searches b rs q steps nesting cells_allowed before r after → FindsReading b rs q steps nesting cells_allowed before r after
    unfolding search_answer search_cells searched_after bytes_after
    range_searched is s =
        let e : search_verdict b rs q nesting cells_allowed (length before) ≡ Accepted = checks_verdict b rs q nesting cells_allowed (length before) (sym accepted) ∙ sym is in
        record { answer = s.answer ∙ rw e refl; cells = s.cells ∙ rw e refl }
