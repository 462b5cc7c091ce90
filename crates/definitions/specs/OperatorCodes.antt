-- The codes of the operators (document 01, "Operators on signed 32 bits"), with the paper's word for each.
use Rattle.std.specs.Prelude.{ℕ}

-- add
abbrev pub add : ℕ
add = 0

-- subtract
abbrev pub subtract : ℕ
subtract = 1

-- multiply
abbrev pub multiply : ℕ
multiply = 2

-- divide
abbrev pub divide : ℕ
divide = 3

-- less
abbrev pub less : ℕ
less = 4

-- equal
abbrev pub equal : ℕ
equal = 5

-- the greatest code
abbrev pub greatest : ℕ
greatest = equal
