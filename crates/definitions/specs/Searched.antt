-- What a search for the value of a reading answers: the value found, that there is none, or the refusal's number and its place.
use Rattle.std.specs.Prelude.{ℕ, ℤ}

pub data Searched : Type 0 where
  Found : ℤ → Searched
  NoValue : Searched
  Refused : ℕ → ℕ → Searched
