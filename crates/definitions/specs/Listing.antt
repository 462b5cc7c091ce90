-- The context listing (document 01, "Context listing"): the labels of a context, newest first, from lent cells. Bytes past
-- the last whole cell are part of no cell.
use Rattle.std.specs.Prelude.{ℕ, zero, suc, ◌+◌, ◌*◌, ◌-◌, ◌/◌, List, [], ◌∷◌, Bool, cond, ◌||◌, length, leb, ltb, eqb}
use Rattle.definitions.specs.Bytes.{word}
use Rattle.definitions.specs.Sizes.{cell_size}
use Rattle.definitions.specs.Numbers.{out_of_range, short_output}

-- the label and the previous cell's number of cell c, which counts from 1
unfoldable pub label_at : List ℕ → ℕ → ℕ
label_at b c = word b (cell_size * (c - 1))

unfoldable pub previous_at : List ℕ → ℕ → ℕ
previous_at b c = word b (cell_size * (c - 1) + 2)

-- what a listing answers: labels, or a refusal's number and place
pub data Listing : Type 0 where
  labels : List ℕ → Listing
  refused : ℕ → ℕ → Listing

unfoldable pub with_label : ℕ → Listing → Listing
with_label l (labels ls) = labels (l ∷ ls)
with_label l (refused n p) = refused n p

-- "5 if a cell met on the walk is beyond the cells or its previous number isn't smaller than its own, with that cell as
-- place"
unfoldable pub damaged : List ℕ → ℕ → Bool
damaged b c = ltb (length b / cell_size) c || leb c (previous_at b c)

-- the walk from cell c, of at most d cells
unfoldable pub labels_within : List ℕ → ℕ → ℕ → Listing
labels_within b zero c = labels []
labels_within b (suc d) c =
    cond (eqb c 0) (labels [])
    (cond (damaged b c) (refused out_of_range c) (with_label (label_at b c) (labels_within b d (previous_at b c))))

-- "then 8"; each previous number is smaller, so c cells are enough
unfoldable pub fitting : ℕ → Listing → Listing
fitting room (labels ls) = cond (leb (2 * length ls) room) (labels ls) (refused short_output 0)
fitting room (refused n p) = refused n p

unfoldable pub listing : List ℕ → ℕ → ℕ → Listing
listing b c room = fitting room (labels_within b c c)
