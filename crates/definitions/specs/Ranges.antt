-- Numbers in a range.
use Rattle.std.specs.Prelude.{ℕ, Bool, ◌&&◌, leb}

-- a number between two others, both included
unfoldable pub within : ℕ → ℕ → ℕ → Bool
within least greatest n = leb least n && leb n greatest
