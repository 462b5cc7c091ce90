-- The first refusal in an order (document 01, "Order"): rules joined one after the other, and over the first n numbers.
use Rattle.std.specs.Prelude.{ℕ, zero, suc, Bool, true, false}
use Rattle.definitions.specs.Verdict.{Verdict, Accepted, Refused}

-- the first refusal of two
unfoldable pub ◌and_then◌ : Verdict → Verdict → Verdict
Accepted and_then w = w
Refused n p and_then w = Refused n p

-- accepted where a test holds, else refused with this number at this place
unfoldable pub require : Bool → ℕ → ℕ → Verdict
require true n p = Accepted
require false n p = Refused n p

-- the first refusal of rule 0, rule 1, .. rule n - 1
unfoldable pub first_of : ℕ → (ℕ → Verdict) → Verdict
first_of zero rule = Accepted
first_of (suc n) rule = first_of n rule and_then rule n

infixl 20 ◌and_then◌
