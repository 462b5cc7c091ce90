-- Decimal numbers as bytes (document 01, "The program reads a sheet ..": the numbers of the line).
use Rattle.std.specs.Prelude.{ℕ, zero, suc, ◌+◌, ◌/◌, ◌%◌, List, [], ◌∷◌, ◌++◌, Bool, true, false, ℤ, pos, negsuc, ltb}

-- the code of a digit: 48 is `0`
unfoldable pub digit : ℕ → ℕ
digit d = 48 + d

-- at most so many digits of a number: those of its tenth, then its last. The test says whether the number is below 10, which
-- ends it.
unfoldable pub digits_within : ℕ → Bool → ℕ → List ℕ
digits_within zero small n = []
digits_within (suc k) true n = digit n ∷ []
digits_within (suc k) false n = digits_within k (ltb (n / 10) 10) (n / 10) ++ (digit (n % 10) ∷ [])

-- all digits of a number: n + 1 are enough
unfoldable pub decimal : ℕ → List ℕ
decimal n = digits_within (suc n) (ltb n 10) n

-- a number by its sign and its size: 45 is `-`
unfoldable pub signed : Bool → ℕ → List ℕ
signed true size = 45 ∷ decimal size
signed false size = decimal size

unfoldable pub integer : ℤ → List ℕ
integer (pos n) = signed false n
integer (negsuc n) = signed true (suc n)
