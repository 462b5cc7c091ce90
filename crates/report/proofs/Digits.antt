-- Laws of decimal numbers: the last digit, and how many digits there are.
use mathlib.Core.Path.{◌≡◌, refl}
use Prim.Native.Nat.{ℕ, zero, suc, ◌+◌, ◌/◌, ◌%◌, ◌^◌, ◌≤◌, ◌<◌}
use mathlib.Core.Bool.{Bool, true, false}
use mathlib.Core.List.{List, [], ◌∷◌, ◌++◌}
use native.Mathlib.Omega.{arith}
use native.Mathlib.Nat.{not-suc-le-zero, mod-eq_of_lt}
use lib.Dec.{ltb}
use lib.IntN.{ℤ, pos, negsuc, nat_abs}
use lib.Signed.{lt_z}
use lib.ListN.{length, length-append}
use borrow.Author.Tests.{ltb-true, ltb-false, lt-ltb, le-ltb}
use Rattle.report.specs.Writing.{WroteBytes}
use Rattle.report.proofs.Writing.{wrote_then}
use Rattle.report.specs.Decimals.{digit, digits_within, decimal, signed, integer}

-- more digits than a number counts are enough
within_same : (k j n : ℕ) (small : Bool) → ltb n 10 ≡ small → n < k → n < j → digits_within k small n ≡ digits_within j small n
unfolding digits_within
within_same zero j n small e h g = absurd (not-suc-le-zero h)
within_same (suc k) zero n small e h g = absurd (not-suc-le-zero g)
within_same (suc k) (suc j) n true e h g = refl
within_same (suc k) (suc j) n false e h g =
    let i : 10 ≤ n = ltb-false n 10 e in
    rw (within_same k j (n / 10) (ltb (n / 10) 10) refl (omega arith) (omega arith)) refl

pub decimal_small : (n : ℕ) → n < 10 → decimal n ≡ (48 + n) ∷ []
unfolding digit digits_within decimal
decimal_small n h = rw (lt-ltb n 10 h) refl

pub decimal_more : (n : ℕ) → 10 ≤ n → decimal n ≡ decimal (n / 10) ++ ((48 + n % 10) ∷ [])
unfolding digit digits_within decimal
decimal_more n h =
    rw (le-ltb n 10 h, within_same n (suc (n / 10)) (n / 10) (ltb (n / 10) 10) refl (omega arith) (omega arith)) refl

-- a number below 10 to the k has at most k digits
pub decimal_length : (k n : ℕ) → n < 10 ^ suc k → length (decimal n) ≤ suc k
decimal_length zero n h = rw (decimal_small n (omega arith)) (omega arith)
decimal_length (suc k) n h = each (λ i. decimal_length k (n / 10) i) (ltb n 10) refl
  where
    each : (n / 10 < 10 ^ suc k → length (decimal (n / 10)) ≤ suc k) → (t : Bool) → ltb n 10 ≡ t → length (decimal n) ≤ suc (suc k)
    each f true e = rw (decimal_small n (ltb-true n 10 e)) (omega arith)
    each f false e = rw (decimal_more n (ltb-false n 10 e), length-append) (omega (arith, f (omega arith)))

-- a digit, and a last digit after the others
pub wrote_digit : {out : List ℕ} {at n r : ℕ} {o : List ℕ} → n < 10 → WroteBytes out at ((48 + n % 10) ∷ []) r o → WroteBytes out at (decimal n) r o
wrote_digit {n} h w = rw (decimal_small n h) (rw (mod-eq_of_lt h) at w)

pub wrote_last : {out : List ℕ} {at n m : ℕ} {o : List ℕ} {r : ℕ} {p : List ℕ} → 10 ≤ n → WroteBytes out at (decimal (n / 10)) m o
    → WroteBytes o m ((48 + n % 10) ∷ []) r p → WroteBytes out at (decimal n) r p
wrote_last {n} h v w = rw (decimal_more n h) (wrote_then v w)

-- a number with a sign, and without one
pub wrote_minus : {out : List ℕ} {at : ℕ} {negative : Bool} (n : ℕ) {m : ℕ} {o : List ℕ} {r : ℕ} {p : List ℕ} → negative ≡ true → WroteBytes out at (45 ∷ []) m o
    → WroteBytes o m (decimal n) r p → WroteBytes out at (signed negative n) r p
unfolding signed
wrote_minus n e v w = rw e (wrote_then v w)

pub wrote_plain : {out : List ℕ} {at : ℕ} {negative : Bool} (n : ℕ) {r : ℕ} {o : List ℕ} → negative ≡ false → WroteBytes out at (decimal n) r o
    → WroteBytes out at (signed negative n) r o
unfolding signed
wrote_plain n e w = rw e w

-- a number by its sign and its size
pub integer_signed : (z : ℤ) → signed (lt_z z (pos 0)) (nat_abs z) ≡ integer z
unfolding integer
integer_signed (pos n) = rw (le-ltb n 0 (omega arith)) refl
integer_signed (negsuc n) = refl
