-- Laws of the first refusal in an order: how a loop over rules goes on, how it ends, and what acceptance says of each rule.
use mathlib.Core.Path.{◌≡◌, refl, sym, ◌∙◌}
use mathlib.Core.Bool.{Bool, true, false}
use Prim.Native.Nat.{ℕ, zero, suc, ◌+◌, ◌-◌, ◌≤◌, ◌<◌}
use native.Mathlib.Omega.{arith}
use native.Mathlib.Numerals.{add-one}
use native.Mathlib.Nat.{not-suc-le-zero, zero-add, suc-add}
use Rattle.laws.proofs.Lists.{below_suc}
use Rattle.definitions.specs.Verdicts.{◌and_then◌, require, first_of}
use Rattle.definitions.specs.Verdict.{Verdict, Accepted, Refused}

-- joined rules are accepted when both are, and a refusal hides what follows
pub then_accepted : (v w : Verdict) → v ≡ Accepted → (v and_then w) ≡ w
unfolding ◌and_then◌
then_accepted v w e = rw e refl

pub then_refused : (v w : Verdict) (n p : ℕ) → v ≡ Refused n p → (v and_then w) ≡ Refused n p
unfolding ◌and_then◌
then_refused v w n p e = rw e refl

pub both_accepted : (v w : Verdict) → (v and_then w) ≡ Accepted → (v ≡ Accepted) × (w ≡ Accepted)
unfolding ◌and_then◌
both_accepted Accepted w e = (refl, e)
both_accepted (Refused n p) w e = (e, cc e)

-- a requirement, by its test
pub require_true : (t : Bool) (n p : ℕ) → t ≡ true → require t n p ≡ Accepted
unfolding require
require_true t n p e = rw e refl

pub require_false : (t : Bool) (n p : ℕ) → t ≡ false → require t n p ≡ Refused n p
unfolding require
require_false t n p e = rw e refl

pub required : (t : Bool) (n p : ℕ) → require t n p ≡ Accepted → t ≡ true
unfolding require
required true n p e = refl
required false n p e = cc e

-- the first of no rule, of one more, and of more than enough
pub first_none : (rule : ℕ → Verdict) → first_of 0 rule ≡ Accepted
unfolding first_of
first_none rule = refl

pub first_more : (i : ℕ) (rule : ℕ → Verdict) → first_of i rule ≡ Accepted → rule i ≡ Accepted → first_of (i + 1) rule ≡ Accepted
unfolding first_of
first_more i rule e f = rw (add-one, then_accepted (first_of i rule) (rule i) e) f

pub first_here : (i : ℕ) (rule : ℕ → Verdict) (n p : ℕ) → first_of i rule ≡ Accepted → rule i ≡ Refused n p → first_of (i + 1) rule ≡ Refused n p
unfolding first_of
first_here i rule n p e f = rw (add-one, then_accepted (first_of i rule) (rule i) e) f

first_stays : (k i : ℕ) (rule : ℕ → Verdict) (n p : ℕ) → first_of i rule ≡ Refused n p → first_of (k + i) rule ≡ Refused n p
unfolding first_of
first_stays zero i rule n p e = rw zero-add e
first_stays (suc k) i rule n p e = rw (suc-add, then_refused (first_of (k + i) rule) (rule (k + i)) n p (first_stays k i rule n p e)) refl

pub first_refused : (i m : ℕ) (rule : ℕ → Verdict) (n p : ℕ) → i < m → first_of i rule ≡ Accepted → rule i ≡ Refused n p → first_of m rule ≡ Refused n p
first_refused i m rule n p h e f =
    let k : m - (i + 1) + (i + 1) ≡ m = omega arith in
    rw k at (first_stays (m - (i + 1)) (i + 1) rule n p (first_here i rule n p e f))

-- each rule that was passed is accepted
pub first_each : (n : ℕ) (rule : ℕ → Verdict) → first_of n rule ≡ Accepted → (i : ℕ) → i < n → rule i ≡ Accepted
unfolding first_of
first_each zero rule e i h = absurd (not-suc-le-zero h)
first_each (suc n) rule e i h =
    let k = both_accepted (first_of n rule) (rule n) e in
    below_suc (λ j. rule j ≡ Accepted) n (first_each n rule k.0) k.1 i h

-- rules that say the same, and rules that are all accepted
pub first_same : (n : ℕ) (rule other : ℕ → Verdict) → ((i : ℕ) → i < n → rule i ≡ other i) → first_of n rule ≡ first_of n other
unfolding first_of
first_same zero rule other e = refl
first_same (suc n) rule other e = rw (first_same n rule other (λ i h. e i (omega arith)), e n (omega arith)) refl

pub first_all : (n : ℕ) (rule : ℕ → Verdict) → ((i : ℕ) → i < n → rule i ≡ Accepted) → first_of n rule ≡ Accepted
unfolding first_of
first_all zero rule e = refl
first_all (suc n) rule e = then_accepted (first_of n rule) (rule n) (first_all n rule (λ i h. e i (omega arith))) ∙ e n (omega arith)

-- a loop over rules that stops at the first refusal: each of the first r rules is accepted
pub record Passed (r : ℕ) (rule : ℕ → Verdict) : Type 0 where
  pub accepted : first_of r rule ≡ Accepted

pub passed_none : (rule : ℕ → Verdict) → Passed 0 rule
passed_none rule = record { accepted = first_none rule }

pub passed_more : (r : ℕ) (rule : ℕ → Verdict) (v : Verdict) → Passed r rule → v ≡ rule r → v ≡ Accepted → Passed (r + 1) rule
passed_more r rule v p e f = record { accepted = first_more r rule p.accepted (sym e ∙ f) }

pub passed_refused : (r n m : ℕ) (rule : ℕ → Verdict) (v : Verdict) (k p : ℕ) → n ≡ m → r < n → Passed r rule → v ≡ rule r → v ≡ Refused k p → v ≡ first_of m rule
passed_refused r n m rule v k p e h q f g =
    g ∙ sym (first_refused r m rule k p (omega (arith, e, h)) q.accepted (sym f ∙ g))

pub passed_all : (r n m : ℕ) (rule : ℕ → Verdict) → n ≡ m → r ≤ n → n ≤ r → Passed r rule → Accepted ≡ first_of m rule
passed_all r n m rule e h k q = let f : r ≡ m = omega (arith, e, h, k) in sym (rw f at q.accepted)
