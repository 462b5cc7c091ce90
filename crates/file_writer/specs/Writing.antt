-- What the writer writes into its space: words of two bytes, the lower byte first. A record's first word is its length in bytes.
use Rattle.std.specs.Prelude.{ℕ, zero, suc, ◌+◌, ◌-◌, ◌*◌, ◌/◌, ◌%◌, List, [], ◌∷◌, Bool, cond, ◌≡◌, leb, ltb, length, get_or}
use Rattle.std.proofs.lemmas.List.Edits.{sets}
use Rattle.definitions.specs.Sizes.{most_cells, cell_size}

-- how many bytes the space has: those of one cell more than there may be
abbrev pub space_bytes : ℕ
space_bytes = cell_size * (most_cells + 1)

-- a word fits at the places below this one
abbrev pub word_places : ℕ
word_places = space_bytes - 1

-- a walk over records stays below this place: it goes on from a place where a word fits, by a word, which is below 65,536
abbrev pub walk_end : ℕ
walk_end = word_places + 65536

-- the two bytes of a word, the lower first
unfoldable pub word_bytes : ℕ → List ℕ
word_bytes w = (w % 256) ∷ (w / 256) ∷ []

-- whether bytes fit the space from a place on
unfoldable pub fits : ℕ → List ℕ → Bool
fits at bytes = leb (at + length bytes) space_bytes

-- a space with bytes set from a place on, all of them where they fit and else none
unfoldable pub written : List ℕ → ℕ → List ℕ → List ℕ
written file at bytes = cond (fits at bytes) (sets file at bytes) file

-- the place after bytes that fit, and else the same place
unfoldable pub after : ℕ → List ℕ → ℕ
after at bytes = cond (fits at bytes) (at + length bytes) at

-- bytes were written at a place: the space at entry and at exit, and the next place
pub record Written (entry : List ℕ) (at : ℕ) (bytes exit : List ℕ) (next : ℕ) : Type 0 where
  pub content : exit ≡ written entry at bytes
  pub place : next ≡ after at bytes

-- the word at a place
unfoldable pub word_at : List ℕ → ℕ → ℕ
word_at file at = get_or file at 0 + 256 * get_or file (at + 1) 0

-- the place after the record at a place, by its length; the walk ends where no word is left
unfoldable pub skipped : List ℕ → ℕ → ℕ
skipped file at = cond (ltb at word_places) (at + word_at file at) word_places

-- where record r starts
unfoldable pub start_of : List ℕ → ℕ → ℕ
start_of file zero = 0
start_of file (suc r) = skipped file (start_of file r)
