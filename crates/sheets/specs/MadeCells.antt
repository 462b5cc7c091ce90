-- The bytes of cells, in the words of document 02, request 7: "label, previous, then eight entries by position", and the callee in the
-- last two bytes.
use Rattle.std.specs.Prelude.{ℕ, ◌-◌, List, [], ◌∷◌, ◌++◌, length, replicate}
use Rattle.definitions.specs.Bytes.{bytes_of}

-- an entry: nothing, a number by its lower and its upper 16 bits, or a constructor by node and context
unfoldable pub nothing : List ℕ
nothing = 0 ∷ 0 ∷ 0 ∷ 0 ∷ []

unfoldable pub numbered : ℕ → ℕ → List ℕ
numbered lower upper = 1 ∷ lower ∷ upper ∷ 0 ∷ []

unfoldable pub built : ℕ → ℕ → List ℕ
built node context = 2 ∷ node ∷ context ∷ 0 ∷ []

-- a cell with its label, its previous cell, its callee and its first entries; the others remember nothing
unfoldable pub cell : ℕ → ℕ → ℕ → List ℕ → List ℕ
cell label previous callee entries =
    bytes_of (label ∷ previous ∷ (entries ++ replicate (31 - length entries) 0 ++ (callee ∷ [])))
