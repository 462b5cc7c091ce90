-- The classes of the table's numbers: a stop and a refusal are no answer, and a number that is none of the values is its class.
use mathlib.Core.Path.{◌≡◌, refl, sym, ◌∙◌}
use Prim.Native.Nat.{ℕ, ◌≤◌}
use mathlib.Core.Bool.{Bool, true, false, ◌||◌, or-true, true≢false}
use lib.Dec.{eqb}
use native.Mathlib.Omega.{arith}
use borrow.Author.Tests.{ne_eqb, eqb-true}
use Rattle.definitions.specs.Numbers.{truncated, bad_allowance, no_step, no_cell, number_wanted, overflow, closed_reading, bad_range, is_number, is_constructor, is_refusal, is_stop, is_fault, is_answer}
use Rattle.definitions.specs.Ranges.{within}
use Rattle.laws.proofs.Ranges.{within_below, within_above, within_by}

-- a number between the values and the run faults is no answer
below_faults : (n : ℕ) → truncated ≤ n → n ≤ no_cell → is_answer n ≡ false
unfolding is_answer is_fault
below_faults n h k =
    rw (ne_eqb n is_number (λ e. omega arith), ne_eqb n is_constructor (λ e. omega arith), within_below number_wanted overflow n (omega arith)) refl

pub stop_no_answer : (n : ℕ) → is_stop n ≡ true → is_answer n ≡ false
unfolding is_stop
stop_no_answer n h = let w = within_by no_step no_cell n h in below_faults n (omega (arith, w.least)) w.greatest

-- a refusal's number is one of the first ten, or 21 to 23
data Refusing (n : ℕ) : Type 0 where
  early : truncated ≤ n → n ≤ bad_allowance → Refusing n
  late : closed_reading ≤ n → n ≤ bad_range → Refusing n

refusing_by : (n : ℕ) (x y : Bool) → within truncated bad_allowance n ≡ x → within closed_reading bad_range n ≡ y → (x || y) ≡ true → Refusing n
refusing_by n true y e f h = let w = within_by truncated bad_allowance n e in early w.least w.greatest
refusing_by n false true e f h = let w = within_by closed_reading bad_range n f in late w.least w.greatest
refusing_by n false false e f h = absurd (true≢false (sym h))

refusing : (n : ℕ) → is_refusal n ≡ true → Refusing n
unfolding is_refusal
refusing n h = refusing_by n (within truncated bad_allowance n) (within closed_reading bad_range n) refl refl h

above_faults : (n : ℕ) → closed_reading ≤ n → n ≤ bad_range → is_answer n ≡ false
unfolding is_answer is_fault
above_faults n h k =
    rw (ne_eqb n is_number (λ e. omega arith), ne_eqb n is_constructor (λ e. omega arith), within_above number_wanted overflow n (omega arith)) refl

pub refusal_no_answer : (n : ℕ) → is_refusal n ≡ true → is_answer n ≡ false
refusal_no_answer n h = from (refusing n h)
  where
    from : Refusing n → is_answer n ≡ false
    from (early l g) = below_faults n l (omega (arith, g))
    from (late l g) = above_faults n l g

pub answer_no_stop : (n : ℕ) → is_answer n ≡ true → is_stop n ≡ false
answer_no_stop n h = from (is_stop n) refl
  where
    from : (x : Bool) → is_stop n ≡ x → x ≡ false
    from true e = absurd (true≢false (sym h ∙ stop_no_answer n e))
    from false e = refl

-- a run fault is an answer
pub fault_answer : (n : ℕ) → is_fault n ≡ true → is_answer n ≡ true
unfolding is_answer
fault_answer n h = rw (h, or-true) refl

-- the greatest number that an answer, a stop or a refusal has is a constructor's
answer_by : (n : ℕ) (x y z : Bool) → eqb n is_number ≡ x → eqb n is_constructor ≡ y → is_fault n ≡ z → (x || y || z) ≡ true → n ≤ is_constructor
unfolding is_fault
answer_by n true y z e f g h = omega (arith, eqb-true n is_number e)
answer_by n false true z e f g h = omega (arith, eqb-true n is_constructor f)
answer_by n false false true e f g h = omega (arith, (within_by number_wanted overflow n g).greatest)
answer_by n false false false e f g h = absurd (true≢false (sym h))

pub answer_limit : (n : ℕ) → is_answer n ≡ true → n ≤ is_constructor
unfolding is_answer
answer_limit n h = answer_by n (eqb n is_number) (eqb n is_constructor) (is_fault n) refl refl refl h

pub stop_limit : (n : ℕ) → is_stop n ≡ true → n ≤ is_constructor
unfolding is_stop
stop_limit n h = omega (arith, (within_by no_step no_cell n h).greatest)

pub refusal_range : (n : ℕ) → is_refusal n ≡ true → (truncated ≤ n) × (n ≤ is_constructor)
refusal_range n h = from (refusing n h)
  where
    from : Refusing n → (truncated ≤ n) × (n ≤ is_constructor)
    from (early l g) = (l, omega (arith, g))
    from (late l g) = (omega (arith, l), omega (arith, g))
