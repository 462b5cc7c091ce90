-- An outcome with its value, as the sheet's own answer and a run's answer state them (document 01, "Meaning": "outcome 0
-- with the number, 100 with the constructor's number, or the fault with value 0").
use Rattle.std.specs.Prelude.{ℕ, ℤ, pos}
use Rattle.definitions.specs.Numbers.{is_number, is_constructor}

pub record Outcome : Type 0 where
  pub outcome : ℕ
  pub value : ℤ

unfoldable pub number_outcome : ℤ → Outcome
number_outcome z = record { outcome = is_number; value = z }

unfoldable pub constructor_outcome : ℕ → Outcome
constructor_outcome c = record { outcome = is_constructor; value = pos c }

-- a stop or a run fault
unfoldable pub end_outcome : ℕ → Outcome
end_outcome n = record { outcome = n; value = pos 0 }
