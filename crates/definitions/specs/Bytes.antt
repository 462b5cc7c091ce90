-- Little-endian fields (document 01, "Files"). A read is total: a byte past the end is 0.
use Rattle.std.specs.Prelude.{ℕ, ◌+◌, ◌*◌, ◌/◌, ◌%◌, List, [], ◌∷◌, ◌++◌, get_or, ℤ}
use Rattle.std.proofs.Common.{to_z}
use Rattle.std.specs.Int.{w32}

-- the field of two bytes at a place
unfoldable pub word : List ℕ → ℕ → ℕ
word b at = get_or b at 0 + 256 * get_or b (at + 1) 0

-- the field of four bytes at a place
unfoldable pub word32 : List ℕ → ℕ → ℕ
word32 b at = word b at + 65536 * word b (at + 2)

-- the signed 32-bit field at a place
unfoldable pub signed : List ℕ → ℕ → ℤ
signed b at = to_z w32 (word32 b at)

-- the two bytes of a field, the lower first; what is above 16 bits is dropped
unfoldable pub word_bytes : ℕ → List ℕ
word_bytes n = (n % 256) ∷ (n / 256 % 256) ∷ []

-- the fields of two bytes that make a field of four
unfoldable pub words32 : ℕ → List ℕ
words32 n = (n % 65536) ∷ (n / 65536) ∷ []

-- the bytes of fields, one after the other
unfoldable pub bytes_of : List ℕ → List ℕ
bytes_of [] = []
bytes_of (w ∷ ws) = word_bytes w ++ bytes_of ws
