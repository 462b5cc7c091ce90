-- A search: how it is met, what a value that it found is, what it says where it found none, and what it leaves in the lent cells.
use mathlib.Core.Path.{◌≡◌, refl, sym, ap, ◌∙◌}
use Prim.Native.Nat.{ℕ, suc, ◌+◌, ◌≤◌, ◌<◌}
use mathlib.Core.List.{List}
use mathlib.Core.Bool.{Bool, true, false, cond, and-false, true≢false}
use native.Mathlib.Omega.{arith}
use native.Mathlib.Decide.{dec_lt}
use lib.IntN.{ℤ}
use lib.ListN.{length, set, length-set, take}
use lib.Signed.{mag}
use lib.Dec.{ltb}
use borrow.Author.Tests.{le-ltb, lt-ltb, ltb-true, ltb-false, eq-eqb, eqb-true}
use Rattle.definitions.specs.Sizes.{most_values}
use Rattle.definitions.specs.Numbers.{is_number, is_constructor, bad_readings, bad_range, is_answer}
use Rattle.definitions.specs.Verdicts.{◌and_then◌, require}
use Rattle.definitions.specs.Ranges.{within}
use Rattle.definitions.specs.Layouts.{readings}
use Rattle.definitions.specs.Checks.{translation_verdict}
use Rattle.definitions.specs.Translate.{translation}
use Rattle.definitions.specs.Outcomes.{Outcome, number_outcome, constructor_outcome, end_outcome}
use Rattle.definitions.specs.Rule.{integer, constructor, Ending, value, ended}
use Rattle.definitions.specs.Run.{ending_outcome, answer_at, reached_answer, rule_end, rule_answer, refusal, allowances_fit, run_verdict, answer_after, bytes_after, run_answer}
use Rattle.definitions.specs.RunsInTurn.{cells_in_turn}
use Rattle.definitions.specs.ReadingSearch.{Query, value_at, value_count, range_fits, readings_tried, ends_in, run_finds, first_finding, search_verdict, searched_by}
use Rattle.definitions.specs.ReadingSearch.{searched_after, search_answer, runs_made, search_cells}
use Rattle.definitions.specs.Verdict.{Verdict}
use Rattle.definitions.specs.Verdict as verdicts
use Rattle.definitions.specs.Verdict.{Accepted}
use Rattle.definitions.specs.Searched.{Searched, Found, NoValue, Refused}
use Rattle.laws.proofs.Classes.{refusal_range}
use Rattle.laws.proofs.Ranges.{within_both, within_below, within_above}
use Rattle.laws.proofs.Verdicts.{then_accepted, then_refused, both_accepted, required}
use Rattle.laws.proofs.FirstPassing.{First, first_pass}
use Rattle.operators.proofs.Answers.{equal_self, equal_means}
use Rattle.agreement.specs.Answers.{rule_outcome, answer_outcome}
use Rattle.agreement.specs.Meaning.{OwnAnswer}
use Rattle.agreement.proofs.KnownEnds.{rule_end_nonzero}
use Rattle.agreement.proofs.Shared.{rule_gives_own}
use Rattle.answer.specs.declared.Answer.{Answer}
use Rattle.reading_search.specs.Promise.{FindsReading}
use Rattle.reading_search.proofs.Levels as Levels
use Rattle.runs_in_turn.proofs.InTurn.{single_cells}
use Rattle.demands.specs.Demands.{Handed}
use Rattle.demands.specs.FoundReadings as FoundReadings
use Rattle.demands.specs.FoundReadings.{SearchMet, InRange, GivesWanted, GivesOther, Smallest, BadRange, InTurn}
use Rattle.demands.proofs.Refusals.{NumberedIn, running_numbered, searching_numbered}

-- whether a run ends in a number, by its outcome and value
ends_means : (b : List ℕ) (wanted : ℤ) (e : Ending ℕ) → ends_in wanted e ≡ true → ending_outcome b e ≡ number_outcome wanted
unfolding ends_in ending_outcome
ends_means b wanted (value (integer z)) h = ap number_outcome (equal_means z wanted h)
ends_means b wanted (value (constructor k w)) h = absurd (true≢false (sym h))
ends_means b wanted (ended n) h = absurd (true≢false (sym h))

means_ends : (b : List ℕ) (wanted : ℤ) (e : Ending ℕ) → ((n : ℕ) → e ≡ ended n → ¬ (n ≡ is_number)) → ending_outcome b e ≡ number_outcome wanted → ends_in wanted e ≡ true
unfolding ends_in ending_outcome number_outcome constructor_outcome end_outcome
means_ends b wanted (value (integer z)) k h = let s : z ≡ wanted = ap (λ (o : Outcome). o.value) h in rw s (equal_self wanted)
means_ends b wanted (value (constructor n w)) k h = absurd (let s : is_constructor ≡ is_number = ap (λ (o : Outcome). o.outcome) h in omega (arith, s))
means_ends b wanted (ended n) k h = absurd (k n refl (ap (λ (o : Outcome). o.outcome) h))

-- a run's answer, where it is not refused and where it is
answer_number : (b : List ℕ) (rs : List ℤ) (steps nesting cells_allowed : ℕ) (z : ℤ) (v : Verdict) → NumberedIn v
    → answer_outcome (answer_after v (rule_answer b rs steps nesting cells_allowed)) ≡ number_outcome z → ending_outcome b (rule_end b rs steps nesting cells_allowed).ending ≡ number_outcome z
unfolding answer_after answer_outcome rule_answer reached_answer answer_at refusal number_outcome
answer_number b rs steps nesting cells_allowed z Accepted k h = h
answer_number b rs steps nesting cells_allowed z (verdicts.Refused n p) k h =
    absurd (let s : n ≡ is_number = ap (λ (o : Outcome). o.outcome) h in omega (arith, s, (refusal_range n k).0))

-- the answers of a search, by its verdict and whether a value was found
met_by : (v : Verdict) (t : Bool) (y : ℤ) {r : Searched} {untouched : Type 0} → NumberedIn v → r ≡ searched_after v (cond t (Found y) NoValue)
    → ((n p : ℕ) → v ≡ verdicts.Refused n p → untouched) → SearchMet r untouched
unfolding searched_after
met_by Accepted true y k e u = FoundReadings.SearchMet.finds y e
met_by Accepted false y k e u = FoundReadings.SearchMet.finds_none e
met_by (verdicts.Refused n p) t y k e u = FoundReadings.SearchMet.refuses n p e k (u n p refl)

found_by : (v : Verdict) (t : Bool) (y z : ℤ) → searched_after v (cond t (Found y) NoValue) ≡ Found z → (v ≡ Accepted) × (t ≡ true) × (y ≡ z)
unfolding searched_after
found_by Accepted true y z e = (refl, refl, cc e)
found_by Accepted false y z e = absurd (let o : ◌≡◌ {A = ℕ} 0 1 = cc in omega arith)
found_by (verdicts.Refused n p) t y z e = absurd (let o : ◌≡◌ {A = ℕ} 0 1 = cc in omega arith)

none_by : (v : Verdict) (t : Bool) (y : ℤ) → searched_after v (cond t (Found y) NoValue) ≡ NoValue → (v ≡ Accepted) × (t ≡ false)
unfolding searched_after
none_by Accepted true y e = absurd (let o : ◌≡◌ {A = ℕ} 0 1 = cc in omega arith)
none_by Accepted false y e = (refl, refl)
none_by (verdicts.Refused n p) t y e = absurd (let o : ◌≡◌ {A = ℕ} 0 1 = cc in omega arith)

refused_by : (v : Verdict) (t : Bool) (y : ℤ) (n p : ℕ) → v ≡ Accepted → searched_after v (cond t (Found y) NoValue) ≡ Refused n p → ⊥
unfolding searched_after
refused_by Accepted true y n p a e = let o : ◌≡◌ {A = ℕ} 0 1 = cc in omega arith
refused_by Accepted false y n p a e = let o : ◌≡◌ {A = ℕ} 0 1 = cc in omega arith
refused_by (verdicts.Refused m k) t y n p a e = let o : ◌≡◌ {A = ℕ} 0 1 = cc in omega arith

-- what the acceptance of a search says of the file and the readings
run_passed : (b : List ℕ) (rs : List ℤ) (q : Query) (nesting cells_allowed lent : ℕ) → search_verdict b rs q nesting cells_allowed lent ≡ Accepted
    → (translation_verdict b ≡ Accepted) × (length rs ≡ readings b)
unfolding search_verdict run_verdict
run_passed b rs q nesting cells_allowed lent e =
    let two = both_accepted _ _ (both_accepted _ _ (both_accepted _ _ e).0).0 in
    (two.0, eqb-true (length rs) (readings b) (required _ bad_readings 0 two.1))

-- the range
bad_range_law : {b : List ℕ} {q : Query} → BadRange b q → range_fits b q.position q.lowest q.highest ≡ false
unfolding range_fits
bad_range_law {q = q} (FoundReadings.BadRange.above h) = rw (within_below 1 most_values _ (Levels.none_above q.lowest q.highest h)) refl
bad_range_law (FoundReadings.BadRange.many h) = rw (within_above 1 most_values _ h) refl
bad_range_law {b} {q} (FoundReadings.BadRange.nowhere h) = rw (le-ltb q.position (readings b) h) (and-false (within 1 most_values (value_count q.lowest q.highest)))

good_range : {b : List ℕ} {q : Query} → ¬ BadRange b q → range_fits b q.position q.lowest q.highest ≡ true
unfolding range_fits
good_range {b} {q} fine =
    let some = Levels.some_from q.lowest q.highest (λ h. fine (FoundReadings.BadRange.above h)) in
    let few : value_count q.lowest q.highest ≤ most_values = elim (dec_lt most_values (value_count q.lowest q.highest)) [
      | yes h ↦ absurd (fine (FoundReadings.BadRange.many h))
      | no h ↦ omega (arith, h)
    ] in
    let there : q.position < readings b = elim (dec_lt q.position (readings b)) [
      | yes h ↦ h
      | no h ↦ absurd (fine (FoundReadings.BadRange.nowhere (omega (arith, h))))
    ] in
    rw (within_both 1 most_values _ some few, lt-ltb q.position (readings b) there) refl

module _ (b : List ℕ) (rs : List ℤ) (q : Query) (steps nesting cells_allowed : ℕ) where
  abbrev count : ℕ
  count = value_count q.lowest q.highest

  -- the run with value i
  tried_is : (i : ℕ) → set rs q.position (value_at q.lowest i) ≡ readings_tried rs q i
  unfolding readings_tried
  tried_is i = refl

  run_gives_not : (i : ℕ) → run_finds b rs q steps nesting cells_allowed i ≡ false → GivesOther b rs q steps nesting cells_allowed (value_at q.lowest i)
  unfolding run_finds run_answer
  run_gives_not i h =
      record {
        ends_not = λ before r after run e.
            let row = readings_tried rs q i in
            let runs = rw (tried_is i) at run in
            let ending = answer_number b row steps nesting cells_allowed q.wanted _ (running_numbered b row nesting cells_allowed (length before)) (rw runs.answer at e) in
            true≢false (sym (means_ends b q.wanted _ (rule_end_nonzero b row cells_allowed steps nesting) ending) ∙ h);
      }

  module _ (accepted : translation_verdict b ≡ Accepted) (given : length rs ≡ readings b) where
    run_accepted : (i : ℕ) (lent : ℕ) → allowances_fit nesting cells_allowed lent ≡ true → run_verdict b (readings_tried rs q i) nesting cells_allowed lent ≡ Accepted
    unfolding run_verdict ◌and_then◌ require readings_tried
    run_accepted i lent fit = rw (accepted, eq-eqb _ (readings b) (length-set rs q.position (value_at q.lowest i) ∙ given), fit) refl

    run_gives : (i : ℕ) → run_finds b rs q steps nesting cells_allowed i ≡ true → GivesWanted b rs q steps nesting cells_allowed (value_at q.lowest i)
    unfolding run_finds run_answer answer_after answer_outcome rule_answer reached_answer answer_at
    run_gives i h =
        record {
          ends = λ before fit r after run.
              let runs = rw (tried_is i) at run in
              rw (runs.answer, run_accepted i (length before) fit) (ends_means b q.wanted _ h);
        }

  -- the first run that finds
  abbrev first : ℕ
  first = first_finding b rs q steps nesting cells_allowed

  first_is : First count (run_finds b rs q steps nesting cells_allowed) first
  unfolding first_finding
  first_is = first_pass count (run_finds b rs q steps nesting cells_allowed)

  before_first : (i : ℕ) → i < count → i < first → run_finds b rs q steps nesting cells_allowed i ≡ false
  before_first i h l = from (run_finds b rs q steps nesting cells_allowed i) refl
    where
      from : (t : Bool) → run_finds b rs q steps nesting cells_allowed i ≡ t → t ≡ false
      from true e = absurd (omega (arith, first_is.least i h e, l))
      from false e = refl

  -- the values of the range, by the sizes of its ends
  abbrev size : ℕ
  size = suc (mag q.lowest + mag q.highest)

  low : mag q.lowest < size
  low = omega arith

  high : mag q.highest < size
  high = omega arith

  module _ (before : List ℕ) (r : Searched) (after : List ℕ) (search : FindsReading b rs q steps nesting cells_allowed before r after) where
    abbrev verdict : Verdict
    verdict = search_verdict b rs q nesting cells_allowed (length before)

    untouched : (n p : ℕ) → verdict ≡ verdicts.Refused n p → after ≡ before
    unfolding search_cells bytes_after
    untouched n p e = search.cells ∙ rw e refl

    pub search_met : SearchMet r (after ≡ before)
    unfolding search_answer searched_by
    search_met = met_by verdict (ltb first count) _ (searching_numbered b rs q nesting cells_allowed (length before)) search.answer untouched

    -- a value was found
    module _ (z : ℤ) (e : r ≡ Found z) where
      found_is : (verdict ≡ Accepted) × (ltb first count ≡ true) × (value_at q.lowest first ≡ z)
      unfolding search_answer searched_by
      found_is = found_by verdict (ltb first count) _ _ (sym search.answer ∙ e)

      inside : first < count
      inside = ltb-true first count found_is.1

      finds : run_finds b rs q steps nesting cells_allowed first ≡ true
      finds = first_is.passes inside

      pub value_found : Smallest b rs q steps nesting cells_allowed z
      value_found =
          let passed = run_passed b rs q nesting cells_allowed (length before) found_is.0 in
          record {
            inside = rw (← found_is.2) (record { from = Levels.from_lowest size _ _ low high first inside; to = Levels.to_highest size _ _ low high first inside });
            gives = rw (← found_is.2) (run_gives passed.0 passed.1 first finds);
            least = λ y range below.
                let y_is = Levels.indexed size _ _ low high y range.from range.to in
                let earlier = y_is.before first inside (rw found_is.2 below) in
                rw y_is.is (run_gives_not y_is.at (before_first y_is.at y_is.inside earlier));
          }

      -- and its run's end is the number
      pub found_ending : rule_outcome b (set rs q.position z) steps nesting cells_allowed ≡ number_outcome q.wanted
      unfolding run_finds rule_outcome
      found_ending = rw (← found_is.2, tried_is first) (ends_means b q.wanted _ finds)

    -- none was found
    module _ (e : r ≡ NoValue) where
      none_is : (verdict ≡ Accepted) × (ltb first count ≡ false)
      unfolding search_answer searched_by
      none_is = none_by verdict (ltb first count) _ (sym search.answer ∙ e)

      all_passed : first ≡ count
      all_passed = omega (arith, ltb-false first count none_is.1, first_is.limit)

      pub none_found : (y : ℤ) → InRange q y → GivesOther b rs q steps nesting cells_allowed y
      none_found y range =
          let y_is = Levels.indexed size _ _ low high y range.from range.to in
          rw y_is.is (run_gives_not y_is.at (before_first y_is.at y_is.inside (rw all_passed y_is.inside)))

    -- the lent cells
    in_turn : (n : ℕ) (answers : ℕ → Answer) (cells : ℕ → List ℕ) → InTurn b rs q steps nesting cells_allowed n before answers cells
        → cells n ≡ cells_in_turn b (readings_tried rs q) steps nesting cells_allowed n before
    unfolding readings_tried
    in_turn n answers cells t = single_cells b (readings_tried rs q) steps nesting cells_allowed before cells t.first n (λ i h. (t.each i h).cells)

    pub cells_found : (i : ℕ) → r ≡ Found (value_at q.lowest i) → (answers : ℕ → Answer) (cells : ℕ → List ℕ)
        → InTurn b rs q steps nesting cells_allowed (suc i) before answers cells → after ≡ cells (suc i)
    unfolding search_cells bytes_after runs_made
    cells_found i e answers cells t =
        let found = found_is (value_at q.lowest i) e in
        let same : first ≡ i = Levels.value_same size q.lowest low first i found.2 in
        search.cells ∙ rw (found.0, found.1, same) (sym (in_turn (suc i) answers cells t))

    pub cells_none : r ≡ NoValue → (answers : ℕ → Answer) (cells : ℕ → List ℕ) → InTurn b rs q steps nesting cells_allowed count before answers cells → after ≡ cells count
    unfolding search_cells bytes_after runs_made
    cells_none e answers cells t =
        search.cells ∙ rw ((none_is e).0, (none_is e).1, all_passed e) (sym (in_turn count answers cells t))

    -- the refusals, in their order
    refused_with : (n p : ℕ) → verdict ≡ verdicts.Refused n p → (r ≡ Refused n p) × (after ≡ before)
    unfolding search_answer searched_after
    refused_with n p e = (search.answer ∙ rw e refl, untouched n p e)

    pub run_refused : (n p : ℕ) → run_verdict b rs nesting cells_allowed (length before) ≡ verdicts.Refused n p → (r ≡ Refused n p) × (after ≡ before)
    unfolding search_verdict
    run_refused n p e = refused_with n p (then_refused _ _ n p e)

    module _ (passes : run_verdict b rs nesting cells_allowed (length before) ≡ Accepted) where
      pub range_refused : BadRange b q → (r ≡ Refused bad_range 0) × (after ≡ before)
      unfolding search_verdict require
      range_refused bad = refused_with bad_range 0 (then_accepted _ _ passes ∙ rw (bad_range_law bad) refl)

      pub else_searched : ¬ BadRange b q → (n p : ℕ) → ¬ (r ≡ Refused n p)
      unfolding search_verdict search_answer require searched_by
      else_searched fine n p e =
          refused_by verdict (ltb first count) _ n p (then_accepted _ _ passes ∙ rw (good_range fine) refl) (sym search.answer ∙ e)

-- demand 3: a number that was found is the sheet's own
pub found_own : (sheet : List ℕ) {n : ℕ} {out' : List ℕ} → Handed sheet n out'
    → (rs : List ℤ) (q : Query) (steps nesting cells_allowed : ℕ) (before : List ℕ) (z : ℤ) (after : List ℕ)
    → FindsReading (take n out') rs q steps nesting cells_allowed before (Found z) after → OwnAnswer sheet (set rs q.position z) (number_outcome q.wanted)
unfolding is_answer number_outcome
found_own sheet h rs q steps nesting cells_allowed before z after search =
    let ending = found_ending (translation sheet) rs q steps nesting cells_allowed before (Found z) after (rw h.is at search) z refl in
    rule_gives_own sheet h.accepted (set rs q.position z) (record { steps = steps; nesting = nesting; cells_allowed = cells_allowed; gives = ending }) refl
