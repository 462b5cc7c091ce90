-- What a call that writes into a lent output answers: the length of what was written, or the refusal's number and its place.
use Rattle.std.specs.Prelude.{ℕ}

pub data Written : Type 0 where
  Length : ℕ → Written
  Refused : ℕ → ℕ → Written
