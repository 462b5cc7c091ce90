-- The table of formals that filling the table of nodes looks into: the function and the position of each formal, in one number.
use Rattle.std.specs.Prelude.{◌≡◌, ℕ, ◌+◌, ◌*◌, ◌≤◌, ◌<◌, List, length, get_or}
use Rattle.definitions.specs.Sizes.{most_functions, most_formals, most_fields}
use Rattle.definitions.specs.Layouts.{items, due}
use Rattle.definitions.specs.FormalPlaces.{function_of, position_of}
use Rattle.definitions.specs.Checks.{translation_verdict}
use Rattle.definitions.specs.Verdict.{Accepted}
use Rattle.file_records.specs.Index.{Indexed}

-- an accepted translation with its index
pub record IndexedTranslation (b starts : List ℕ) : Type 0 where
  pub accepted : translation_verdict b ≡ Accepted
  pub index : Indexed b starts (due b)

-- the function and the position of formal p in one number
abbrev pub place_of : List ℕ → ℕ → ℕ
place_of b p = 8 * function_of b p + position_of b p

pub record FormalTable (b places : List ℕ) : Type 0 where
  pub size : length places ≡ most_formals
  pub place : (p : ℕ) → p < items b → get_or places p 0 ≡ place_of b p

-- a table with room for `count` formals of function f from formal `first` on
pub record Settable (places : List ℕ) (f count first : ℕ) : Type 0 where
  pub size : length places ≡ most_formals
  pub function : f < most_functions
  pub few : count ≤ most_fields
  pub room : first + count ≤ most_formals

-- and the table with their places set
pub record PlacesSet (places : List ℕ) (f count first : ℕ) (places' : List ℕ) : Type 0 where
  pub size : length places' ≡ most_formals
  pub kept : (p : ℕ) → p < first → get_or places' p 0 ≡ get_or places p 0
  pub set : (j : ℕ) → j < count → get_or places' (first + j) 0 ≡ 8 * f + j
