-- Cells in lent bytes: what is read of a cell besides its label and its previous cell, what is written of an entry, and one cell more
-- after those alive.
use Rattle.std.specs.Prelude.{ℕ, ◌+◌, ◌*◌, ◌-◌, ◌/◌, ◌%◌, List, cond, length, leb, ltb, eqb}
use Rattle.std.proofs.Math.Option.{none, some}
use Rattle.std.proofs.lemmas.List.Edits.{sets}
use Rattle.std.specs.Int.{w32}
use Rattle.std.proofs.Common.{to_z}
use Rattle.definitions.specs.Sizes.{cell_size, entry_size}
use Rattle.definitions.specs.Bytes.{word, bytes_of}
use Rattle.definitions.specs.Rule.{integer, constructor}
use Rattle.definitions.specs.Cells.{Entry, new_cell}
use Rattle.definitions.specs.CellBytes.{number_kind, constructor_kind, cell_words}

-- the callee of cell c, which counts from 1
unfoldable pub callee_at : List ℕ → ℕ → ℕ
callee_at b c = word b (cell_size * (c - 1) + 66)

-- where entry i of cell c starts
abbrev pub entry_place : ℕ → ℕ → ℕ
entry_place c i = cell_size * (c - 1) + 4 + entry_size * i

-- the first six bytes of an entry as one number; 0 where the entry is not there
unfoldable pub entry_number : List ℕ → ℕ → ℕ → ℕ
entry_number b c i =
    cond (leb (entry_place c i + entry_size) (length b))
    (word b (entry_place c i) + 65536 * word b (entry_place c i + 2) + 4294967296 * word b (entry_place c i + 4)) 0

-- the entry that such a number is, by its kind
unfoldable pub entry_of : ℕ → Entry
entry_of x =
    cond (eqb (x % 65536) number_kind) (some (integer (to_z w32 (x / 65536 % 4294967296))))
    (cond (eqb (x % 65536) constructor_kind) (some (constructor (x / 65536 % 65536) (x / 4294967296 % 65536))) none)

-- the bytes with an entry's first six written; where the entry is not there, nothing is
unfoldable pub entry_written : List ℕ → ℕ → ℕ → List ℕ → List ℕ
entry_written b c i words = cond (leb (entry_place c i + entry_size) (length b)) (sets b (entry_place c i) (bytes_of words)) b

-- the bytes with a new cell written after those alive; a cell that does not fit is not written
unfoldable pub cell_added : List ℕ → ℕ → ℕ → ℕ → ℕ → List ℕ
cell_added b live label previous callee =
    cond (ltb live (length b / cell_size)) (sets b (cell_size * live) (bytes_of (cell_words (new_cell label previous callee)))) b
