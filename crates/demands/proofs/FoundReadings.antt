-- Request 12 of document 02, in its words, over what the public calls promise: `FindsReading` of `reading_search::find_reading`, `Runs` of
-- `run::run` and `Translates` of `translator::translate`, and for callers in C `FindsReadingC` and `TranslatesC`. No call has a `requires`. `q` is
-- what is asked for: the position, the lowest and the highest value and the wanted number. The readings are lent for reading only.
use mathlib.Core.Path.{◌≡◌, refl}
use Prim.Native.Nat.{ℕ, suc, ◌≤◌, zero-le}
use native.Mathlib.Nat.{le_trans}
use mathlib.Core.List.{List}
use mathlib.Core.Bool.{false}
use lib.IntN.{ℤ}
use lib.ListN.{length, set, take}
use mir.Syntax.{w32}
use mir.Val.{to_z}
use Rattle.definitions.specs.Numbers.{bad_range, no_value, is_refusal, is_stop, is_fault, is_answer}
use Rattle.definitions.specs.Ranges.{within}
use Rattle.definitions.specs.Layouts.{readings}
use Rattle.definitions.specs.Outcomes.{number_outcome}
use Rattle.definitions.specs.Run.{run_verdict}
use Rattle.definitions.specs.ReadingSearch.{Query, value_at, value_count, search_answer}
use Rattle.definitions.specs.Verdict as verdicts
use Rattle.definitions.specs.Verdict.{Accepted}
use Rattle.definitions.specs.Written.{Length}
use Rattle.definitions.specs.Searched.{Searched, Found, NoValue, Refused}
use Rattle.agreement.specs.Meaning.{OwnAnswer}
use Rattle.translator.specs.Promise.{Translates}
use Rattle.answer.specs.declared.Answer.{Answer}
use Rattle.reading_search.specs.Promise.{FindsReading}
use Rattle.zifnora_c.specs.Codes.{code_number, code_value}
use Rattle.zifnora_c.specs.Promise.{TranslatesC, FindsReadingC}
use Rattle.demands.specs.FoundReadings as FoundReadings
use Rattle.demands.specs.FoundReadings.{SearchMet, SearchMetInC, InRange, GivesOther, Smallest, BadRange, InTurn, SignedRange}
use Rattle.demands.proofs.Handing.{handed}
use Rattle.demands.proofs.HandingInC.{handed_in_C}
use Rattle.demands.proofs.Searched.{search_met, value_found, none_found, cells_found, cells_none, run_refused, range_refused, else_searched, found_own}
use Rattle.demands.proofs.SearchedInC.{met_told, none_told, found_told, value_told}

-- any bytes, any readings, anything asked for, any allowances, any cells
module _ (b : List ℕ) (rs : List ℤ) (q : Query) (steps nesting cells_allowed : ℕ) (before : List ℕ) (r : Searched) (after : List ℕ)
    (search : FindsReading b rs q steps nesting cells_allowed before r after) where
  -- demand 1 for this call
  pub request_12_met : SearchMet r (after ≡ before)
  request_12_met = search_met b rs q steps nesting cells_allowed before r after search

  -- "find the smallest value for that reading with which the run, at the given allowances, ends in that number. A stopped or faulted run doesn't
  -- count.": a value that is found is in the range, its run ends in the wanted number, and that of no smaller value of the range does
  pub request_12_found : (z : ℤ) → r ≡ Found z → Smallest b rs q steps nesting cells_allowed z
  request_12_found = value_found b rs q steps nesting cells_allowed before r after search

  -- "'None' is said only if no value in the range does it."
  pub request_12_none : r ≡ NoValue → (y : ℤ) → InRange q y → GivesOther b rs q steps nesting cells_allowed y
  request_12_none = none_found b rs q steps nesting cells_allowed before r after search

  -- "the cells are left as by the runs from the lowest on, in turn, to the one found or the highest": whoever makes these runs by `run::run`
  pub request_12_cells_found : (i : ℕ) → r ≡ Found (value_at q.lowest i) → (answers : ℕ → Answer) (cells : ℕ → List ℕ)
      → InTurn b rs q steps nesting cells_allowed (suc i) before answers cells → after ≡ cells (suc i)
  request_12_cells_found = cells_found b rs q steps nesting cells_allowed before r after search

  pub request_12_cells_none : r ≡ NoValue → (answers : ℕ → Answer) (cells : ℕ → List ℕ)
      → InTurn b rs q steps nesting cells_allowed (value_count q.lowest q.highest) before answers cells → after ≡ cells (value_count q.lowest q.highest)
  request_12_cells_none = cells_none b rs q steps nesting cells_allowed before r after search

  -- "Checks: 23 .., after 10": first what a run on the given readings is refused for, the file's own, 9 and 10
  pub request_12_refused : (n p : ℕ) → run_verdict b rs nesting cells_allowed (length before) ≡ verdicts.Refused n p → (r ≡ Refused n p) × (after ≡ before)
  request_12_refused = run_refused b rs q steps nesting cells_allowed before r after search

  module _ (passes : run_verdict b rs nesting cells_allowed (length before) ≡ Accepted) where
    -- then "23 (bad range: lowest above highest, more than 1,024 values, or position not below I) .. place 0"
    pub request_12_range : BadRange b q → (r ≡ Refused bad_range 0) × (after ≡ before)
    request_12_range = range_refused b rs q steps nesting cells_allowed before r after search passes

    -- with no readings that is so for every position
    pub request_12_no_readings : readings b ≤ 0 → (r ≡ Refused bad_range 0) × (after ≡ before)
    request_12_no_readings none = request_12_range (FoundReadings.BadRange.nowhere (le_trans none zero-le))

    -- and nothing else is refused
    pub request_12_else : ¬ BadRange b q → (n p : ℕ) → ¬ (r ≡ Refused n p)
    request_12_else = else_searched b rs q steps nesting cells_allowed before r after search passes

-- "24 (none) is an outcome and no refusal"; nor is it a stop's number, a fault's or an answer's
pub request_12_outcome : (is_refusal no_value ≡ false) × (is_stop no_value ≡ false) × (is_fault no_value ≡ false) × (is_answer no_value ≡ false)
unfolding is_refusal is_stop is_fault is_answer within
request_12_outcome = (refl, refl, refl, refl)

-- demand 3 for a search: anyone who hands the bytes that the translator wrote, unchanged, to a search that found a value: with that reading the wanted
-- number is the sheet's own
pub request_12_own : (sheet out : List ℕ) (n : ℕ) (out' : List ℕ) → Translates sheet out (Length n) out'
    → (rs : List ℤ) (q : Query) (steps nesting cells_allowed : ℕ) (before : List ℕ) (z : ℤ) (after : List ℕ)
    → FindsReading (take n out') rs q steps nesting cells_allowed before (Found z) after → OwnAnswer sheet (set rs q.position z) (number_outcome q.wanted)
request_12_own sheet out n out' translated rs q steps nesting cells_allowed before z after search =
    found_own sheet (handed sheet out n out' translated) rs q steps nesting cells_allowed before z after search

-- the same for a caller in C, who tells a value found, none and a refusal apart by the number that the code has
module _ (b : List ℕ) (rs : List ℤ) (q : Query) (steps nesting cells_allowed : ℕ) (before : List ℕ) (code : ℕ) (after : List ℕ)
    (search : FindsReadingC b rs q steps nesting cells_allowed before code after) where
  abbrev answer : Searched
  answer = search_answer b rs q steps nesting cells_allowed (length before)

  searched : FindsReading b rs q steps nesting cells_allowed before answer after
  searched = record { answer = refl; cells = search.cells }

  met : SearchMet answer (after ≡ before)
  met = request_12_met b rs q steps nesting cells_allowed before answer after searched

  pub request_12_met_in_C : SearchMetInC code (after ≡ before)
  request_12_met_in_C = met_told search.answer met

  -- the value is read from the code with its sign
  pub request_12_found_in_C : SignedRange q → code_number code ≡ 0 → Smallest b rs q steps nesting cells_allowed (to_z w32 (code_value code))
  request_12_found_in_C signed h =
      let t = found_told search.answer met h in
      let least = request_12_found b rs q steps nesting cells_allowed before answer after searched t.value t.is in
      rw (value_told t q signed least.inside) least

  pub request_12_none_in_C : code_number code ≡ no_value → (y : ℤ) → InRange q y → GivesOther b rs q steps nesting cells_allowed y
  request_12_none_in_C h = request_12_none b rs q steps nesting cells_allowed before answer after searched (none_told search.answer met h)

pub request_12_own_in_C : (sheet out : List ℕ) (code : ℕ) (out' : List ℕ) → TranslatesC sheet out code out' → code_number code ≡ 0
    → (rs : List ℤ) (q : Query) (steps nesting cells_allowed : ℕ) (before : List ℕ) (code' : ℕ) (after : List ℕ)
    → FindsReadingC (take (code_value code) out') rs q steps nesting cells_allowed before code' after → SignedRange q → code_number code' ≡ 0
    → OwnAnswer sheet (set rs q.position (to_z w32 (code_value code'))) (number_outcome q.wanted)
request_12_own_in_C sheet out code out' translated not_refused rs q steps nesting cells_allowed before code' after search signed h =
    let b = take (code_value code) out' in
    let run = searched b rs q steps nesting cells_allowed before code' after search in
    let t = found_told search.answer (met b rs q steps nesting cells_allowed before code' after search) h in
    let found = rw t.is at run in
    let least = request_12_found b rs q steps nesting cells_allowed before (Found t.value) after found t.value refl in
    rw (value_told t q signed least.inside)
    (found_own sheet (handed_in_C sheet out code out' translated not_refused) rs q steps nesting cells_allowed before t.value after found)
