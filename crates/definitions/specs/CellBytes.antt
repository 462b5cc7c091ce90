-- The bytes of cells (document 02, request 7: "A cell becomes 68 bytes: label, previous, then eight entries by position of 8 bytes:
-- kind (0 empty, 1 number, 2 constructor), then the number in 4 bytes and two zero bytes, or node, context and two zero bytes ..
-- the last two bytes of a cell's eighth entry hold its callee in place of zeros, from the cell's making on").
use Rattle.std.specs.Prelude.{ℕ, List, [], ◌∷◌, ◌++◌}
use Rattle.std.proofs.Math.Option.{none, some}
use Rattle.std.specs.Int.{w32}
use Rattle.definitions.specs.Bytes.{words32, bytes_of}
use Rattle.definitions.specs.Operators.{residue}
use Rattle.definitions.specs.Rule.{integer, constructor}
use Rattle.definitions.specs.Cells.{Entry, Cell}

-- the kinds of entries
abbrev pub empty_kind : ℕ
empty_kind = 0

abbrev pub number_kind : ℕ
number_kind = 1

abbrev pub constructor_kind : ℕ
constructor_kind = 2

-- an entry without its last two bytes
unfoldable pub entry_words : Entry → List ℕ
entry_words none = empty_kind ∷ 0 ∷ 0 ∷ []
entry_words (some (integer z)) = number_kind ∷ words32 (residue w32 z)
entry_words (some (constructor k w)) = constructor_kind ∷ k ∷ w ∷ []

-- the last two bytes of an entry, by those that come after it
unfoldable pub last_word : List Entry → ℕ → ℕ
last_word [] callee = callee
last_word (e ∷ es) callee = 0

unfoldable pub entries_words : List Entry → ℕ → List ℕ
entries_words [] callee = []
entries_words (e ∷ es) callee = entry_words e ++ (last_word es callee ∷ entries_words es callee)

unfoldable pub cell_words : Cell → List ℕ
cell_words c = c.label ∷ c.previous ∷ entries_words c.entries c.callee

unfoldable pub cell_bytes : List Cell → List ℕ
cell_bytes [] = []
cell_bytes (c ∷ cs) = bytes_of (cell_words c) ++ cell_bytes cs
