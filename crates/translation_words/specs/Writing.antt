-- What a writer leaves: words, two bytes each, set from a place of the output on. A byte past the output's end is dropped.
use Rattle.std.specs.Prelude.{◌≡◌, ℕ, ◌+◌, ◌*◌, ◌≤◌, List, [], ◌∷◌, length}
use Rattle.std.proofs.lemmas.List.Edits.{sets}
use Rattle.definitions.specs.Sizes.{translation_bytes}
use Rattle.definitions.specs.Bytes.{bytes_of}
use Rattle.definitions.specs.Records.{field, field_count}
use Rattle.definitions.specs.Lists.{joined}

-- words were written at a place: the place after them and the output at exit, up to "at most 40,960 bytes", and its length,
-- which stays
pub record WroteWords (out : List ℕ) (at : ℕ) (words : List ℕ) (after : ℕ) (out' : List ℕ) : Type 0 where
  pub place : at + 2 * length words ≤ translation_bytes → after ≡ at + 2 * length words
  pub output : at + 2 * length words ≤ translation_bytes → out' ≡ sets out at (bytes_of words)
  pub kept : length out' ≡ length out

-- all fields of a record
unfoldable pub field_words : List ℕ → List ℕ
field_words rec = joined (field_count rec) (λ j. field rec j ∷ [])
