-- What a listing answers: how many labels it has, or the refusal's number and place.
use Rattle.std.specs.Prelude.{ℕ, Result, Ok, Err}
use Rattle.definitions.specs.Refusals.{number_of}
use Rattle.definitions.specs.declared.refusals.Refusal.{Refusal}

pub data Listed : Type 0 where
  Count : ℕ → Listed
  Refused : ℕ → ℕ → Listed

-- the code's answer
abbrev pub as_listed : Result ℕ Refusal → Listed
as_listed (Ok n) = Count n
as_listed (Err r) = Refused (number_of r.reason) r.place
