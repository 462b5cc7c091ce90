-- What a reader says of a file: accepted, or the refusal's number and its place.
use Rattle.std.specs.Prelude.{ℕ}

pub data Verdict : Type 0 where
  Accepted : Verdict
  Refused : ℕ → ℕ → Verdict
