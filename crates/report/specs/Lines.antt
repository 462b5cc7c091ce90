-- The line of an answer (document 01: "For S it prints `number 10 steps 13 cells 2` and a line end. Else `constructor T steps
-- S cells C`, `end N steps S cells C`, or `refused N place P`: tag, counts, table number, record").
use Rattle.std.specs.Prelude.{ℕ, List, [], ◌∷◌, ◌++◌, cond, eqb}
use Rattle.definitions.specs.Numbers.{is_number, is_constructor, is_refusal}
use Rattle.definitions.specs.Run.{Answer}
use Rattle.report.specs.Decimals.{decimal, integer}

-- the words, byte by byte: `number `
unfoldable pub number_word : List ℕ
number_word = 110 ∷ 117 ∷ 109 ∷ 98 ∷ 101 ∷ 114 ∷ 32 ∷ []

-- `constructor `
unfoldable pub constructor_word : List ℕ
constructor_word = 99 ∷ 111 ∷ 110 ∷ 115 ∷ 116 ∷ 114 ∷ 117 ∷ 99 ∷ 116 ∷ 111 ∷ 114 ∷ 32 ∷ []

-- `end `
unfoldable pub end_word : List ℕ
end_word = 101 ∷ 110 ∷ 100 ∷ 32 ∷ []

-- `refused `
unfoldable pub refused_word : List ℕ
refused_word = 114 ∷ 101 ∷ 102 ∷ 117 ∷ 115 ∷ 101 ∷ 100 ∷ 32 ∷ []

-- ` steps `
unfoldable pub steps_word : List ℕ
steps_word = 32 ∷ 115 ∷ 116 ∷ 101 ∷ 112 ∷ 115 ∷ 32 ∷ []

-- ` cells `
unfoldable pub cells_word : List ℕ
cells_word = 32 ∷ 99 ∷ 101 ∷ 108 ∷ 108 ∷ 115 ∷ 32 ∷ []

-- ` place `
unfoldable pub place_word : List ℕ
place_word = 32 ∷ 112 ∷ 108 ∷ 97 ∷ 99 ∷ 101 ∷ 32 ∷ []

unfoldable pub line_end : List ℕ
line_end = 10 ∷ []

-- "steps S cells C", and the line end
unfoldable pub counts : ℕ → ℕ → List ℕ
counts steps cells = steps_word ++ decimal steps ++ cells_word ++ decimal cells ++ line_end

-- a line with a word, a number and the counts
unfoldable pub counted_line : List ℕ → List ℕ → ℕ → ℕ → List ℕ
counted_line word shown steps cells = word ++ shown ++ counts steps cells

-- "refused N place P"
unfoldable pub refusal_line : ℕ → List ℕ → List ℕ
refusal_line number place = refused_word ++ decimal number ++ place_word ++ place ++ line_end

-- the line, by the outcome's number: of a number, a constructor, a refusal, and else of a stop or a run fault
unfoldable pub line_of : ℕ → List ℕ → ℕ → ℕ → List ℕ
line_of number shown steps cells =
    cond (eqb number is_number) (counted_line number_word shown steps cells)
    (cond (eqb number is_constructor) (counted_line constructor_word shown steps cells)
    (cond (is_refusal number) (refusal_line number shown) (counted_line end_word (decimal number) steps cells)))

unfoldable pub line : Answer → List ℕ
line a = line_of a.outcome (integer a.value) a.steps a.cells
