-- What request 10 of document 02 says of records, of answers and of what the cab shows.
use Rattle.std.specs.Prelude.{◌≡◌, ℕ, ◌<◌, List, ◌++◌, ℤ, length, drop}
use Rattle.std.specs.Int.{w32}
use Rattle.std.proofs.Common.{SFits}
use Rattle.definitions.specs.Bytes.{word, signed}
use Rattle.definitions.specs.Sizes.{answer_size, view_size}
use Rattle.definitions.specs.Numbers.{is_number}
use Rattle.definitions.specs.Outcomes.{Outcome}
use Rattle.definitions.specs.Run.{Answer}
use Rattle.definitions.specs.AnswerRecord.{answer_kind}
use Rattle.definitions.specs.DriverView.{number_view, view_bytes}
use Rattle.definitions.specs.Written.{Written}
use Rattle.demands.specs.Demands.{WritingMet}
use Rattle.demands.specs.InC.{WritingMetInC}

-- "both are the same number or neither is a number", of two outcomes with their values
pub data SameToDriver (x y : Outcome) : Type 0 where
  same_number : x.outcome ≡ is_number → y.outcome ≡ is_number → x.value ≡ y.value → SameToDriver x y
  no_number : ¬ (x.outcome ≡ is_number) → ¬ (y.outcome ≡ is_number) → SameToDriver x y

-- lent bytes that are 20, and whose length and kind fields are document 01's
pub record RecordLent (b : List ℕ) : Type 0 where
  pub size : length b ≡ answer_size
  pub length_field : word b 0 ≡ answer_size
  pub kind_field : word b 2 ≡ answer_kind

-- the six bytes stand in the output, and past them what was there
pub record Shown (b out out' : List ℕ) : Type 0 where
  pub is : out' ≡ view_bytes b ++ drop view_size out

-- what the cab shows is this number
pub record ShowsNumber (shown : List ℕ) (z : ℤ) : Type 0 where
  pub first : word shown 0 ≡ number_view
  pub number : signed shown 2 ≡ z

-- an answer that its record holds: the outcome in two bytes, a number in four
pub record Recordable (a : Answer) : Type 0 where
  pub outcome : a.outcome < 65536
  pub number : a.outcome ≡ is_number → SFits w32 a.value

-- the call ends with the view's length, or with a numbered refusal that leaves the output as it was
abbrev pub ViewMet : List ℕ → List ℕ → Written → List ℕ → Type 0
ViewMet b out r out' = WritingMet r view_size (Shown b out out') (out' ≡ out)

-- the same for a caller in C
abbrev pub ViewMetInC : List ℕ → List ℕ → ℕ → List ℕ → Type 0
ViewMetInC b out code out' = WritingMetInC code view_size (Shown b out out') (out' ≡ out)
