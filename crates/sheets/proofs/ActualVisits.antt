-- What is listed on the sheets: one statement over the list of trials, by one computation; then that rules that remember less repeat
-- themselves.
use mathlib.Core.Path.{◌≡◌, refl, sym, ap₂}
use mathlib.Core.List.{List, [], ◌∷◌, map, Memᴰ}
use mathlib.Core.Bool.{Bool, true, false, ◌&&◌, ◌||◌, true≢false}
use native.Mathlib.Omega.{arith}
use lib.Dec.{eqb}
use borrow.Author.Tests.{eqb-true}
use Rattle.definitions.specs.Sizes.{most_fields}
use Rattle.definitions.specs.Lists.{all_of}
use Rattle.definitions.specs.Checks.{sheet_verdict}
use Rattle.definitions.specs.Translate.{translation}
use Rattle.definitions.specs.Outcomes.{Outcome}
use Rattle.definitions.specs.Run.{ending_outcome}
use Rattle.definitions.specs.Verdict.{Verdict, Accepted}
use Rattle.laws.proofs.Lists.{all_each}
use Rattle.actual_visits.specs.Distinct.{Distinct, one_more}
use Rattle.given_back.specs.SerialCells.{ActualVisit}
use Rattle.given_back.specs.ListedVisits.{listing, keeping_listed, formal_listed, numbering, closed_listed, call_listed, by_listed, listed_evaluation, listed_end}
use Rattle.sheets.specs.EqualCalls.{num, first, sum, of}
use Rattle.sheets.specs.Remembering.{five_times, twice, foreign_formal}
use Rattle.sheets.specs.ActualVisits.{for, VisitTrial, nine_times, each_twice, visit_trials, visits_with, all_but, RuledOut}
use Rattle.sheets.proofs.Opened.{opened}

-- the reader's verdict on a trial's sheet, and what the run ends with and lists
pub record Ended : Type 0 where
  pub verdict : Verdict
  pub outcome : Outcome
  pub visits : List ActualVisit

abbrev pub ended : VisitTrial → Ended
ended t =
    let b = translation t.sheet in
    let r = listed_end b [] t.steps 100 t.cells in
    record { verdict = sheet_verdict t.sheet; outcome = ending_outcome b r.ending; visits = r.state.store.visits }

pub visits_hold : map ended visit_trials ≡ map (λ (t : VisitTrial). record { verdict = Accepted; outcome = t.outcome; visits = t.visits }) visit_trials
unfolding opened listing keeping_listed formal_listed numbering closed_listed call_listed by_listed listed_evaluation listed_end
    num first sum of five_times twice nine_times each_twice visit_trials
visits_hold = refl

-- a test of repetition
abbrev has : ActualVisit → List ActualVisit → Bool
has x [] = false
has x (y ∷ ys) = (eqb x.serial y.serial && eqb x.position y.position) || has x ys

abbrev repeats : List ActualVisit → Bool
repeats [] = false
repeats (x ∷ xs) = has x xs || repeats xs

has_found : (x : ActualVisit) (ys : List ActualVisit) → has x ys ≡ true → Memᴰ x ys
has_found x [] h = absurd (true≢false (sym h))
has_found x (y ∷ ys) h = by (λ g. has_found x ys g) (eqb x.serial y.serial) (eqb x.position y.position) refl refl h
  where
    by : (has x ys ≡ true → Memᴰ x ys) → (s p : Bool) → eqb x.serial y.serial ≡ s → eqb x.position y.position ≡ p → ((s && p) || has x ys) ≡ true
        → Memᴰ x (y ∷ ys)
    by f true true e q h = Memᴰ.head (ap₂ for (eqb-true _ _ e) (eqb-true _ _ q))
    by f true false e q h = Memᴰ.tail (f h)
    by f false p e q h = Memᴰ.tail (f h)

repeats_not : (xs : List ActualVisit) → repeats xs ≡ true → ¬ (Distinct xs)
repeats_not [] h d = absurd (true≢false (sym h))
repeats_not (x ∷ xs) h (one_more n d) = by (λ g. repeats_not xs g d) (has x xs) refl h
  where
    by : (repeats xs ≡ true → ⊥) → (t : Bool) → has x xs ≡ t → (t || repeats xs) ≡ true → ⊥
    by f true e h = n (has_found x xs e)
    by f false e h = f h

forgetting_repeats : all_of most_fields (λ i. repeats (visits_with (all_but i) each_twice)) ≡ true
unfolding opened listing keeping_listed formal_listed numbering closed_listed call_listed by_listed listed_evaluation
    num sum each_twice
forgetting_repeats = refl

pub ruled_out : RuledOut
unfolding opened listing keeping_listed formal_listed numbering closed_listed call_listed by_listed listed_evaluation listed_end
    num first sum of nine_times foreign_formal
ruled_out =
    record {
      without = refl;
      repeated = repeats_not _ refl;
      many = omega arith;
      forgotten = λ i h. repeats_not _ (all_each most_fields (λ i. repeats (visits_with (all_but i) each_twice)) forgetting_repeats i h);
      foreign = refl;
    }
