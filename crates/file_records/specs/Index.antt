-- An index of a file: where its records start, by number.
use Rattle.std.specs.Prelude.{◌≡◌, ℕ, ◌≤◌, ◌<◌, List, get_or, ltb, cond}
use Rattle.definitions.specs.Sizes.{most_records}
use Rattle.definitions.specs.Records.{start_of}
use Rattle.definitions.specs.Layouts.{due}
use Rattle.definitions.specs.Shape.{file_shape}
use Rattle.definitions.specs.declared.Layout.{Layout}
use Rattle.definitions.specs.Verdict.{Accepted}

-- entry r of an index; 0 past its end
unfoldable pub start_in : List ℕ → ℕ → ℕ
start_in starts r = cond (ltb r most_records) (get_or starts r 0) 0

-- the first n entries are the places where the first n records start
pub record Indexed (b starts : List ℕ) (n : ℕ) : Type 0 where
  pub entry : (r : ℕ) → r < n → get_or starts r 0 ≡ start_of b r
  pub room : n ≤ most_records

-- a file whose shape is accepted, with the index of its records
pub record Opened (y : Layout) (b starts : List ℕ) : Type 0 where
  pub accepted : file_shape y b ≡ Accepted
  pub index : Indexed b starts (due b)
