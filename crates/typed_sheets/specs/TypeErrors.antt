-- Ends that are no type errors (document 02, request 11: "never ends with 14 or 15").
use Rattle.std.specs.Prelude.{◌≡◌, ℕ}
use Rattle.definitions.specs.Numbers.{number_wanted, constructor_wanted}

-- an outcome other than 14, a number wanted, and 15, a constructor wanted
pub record NoTypeError (outcome : ℕ) : Type 0 where
  pub no_number_wanted : outcome ≡ number_wanted → ⊥
  pub no_constructor_wanted : outcome ≡ constructor_wanted → ⊥
