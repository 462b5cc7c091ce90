-- Files as runs of records (document 01, "Files"), and the record of a number ("For record r, the reader shows that
-- record's own bytes inside the lent file; when walking by lengths finds no whole record r, it shows an empty part").
use Rattle.std.specs.Prelude.{ℕ, zero, suc, ◌+◌, ◌*◌, ◌-◌, ◌/◌, List, [], Bool, cond, ◌&&◌, length, take, drop, leb}
use Rattle.definitions.specs.Bytes.{word}

-- a whole record stands at a place: its length field is at least 4, and as many bytes are there
unfoldable pub whole : List ℕ → ℕ → Bool
whole b at = leb 4 (word b at) && leb (at + word b at) (length b)

-- the place after the record at a place; where no whole record stands, the walk stays
unfoldable pub next : List ℕ → ℕ → ℕ
next b at = cond (whole b at) (at + word b at) at

-- where record r starts
unfoldable pub start_of : List ℕ → ℕ → ℕ
start_of b zero = 0
start_of b (suc r) = next b (start_of b r)

-- the bytes of the record at a place, none where no whole one stands there
unfoldable pub record_at : List ℕ → ℕ → List ℕ
record_at b at = cond (whole b at) (take (word b at) (drop at b)) []

-- record r
unfoldable pub record_of : List ℕ → ℕ → List ℕ
record_of b r = record_at b (start_of b r)

-- a record's kind, its field j, and how many fields it has
abbrev pub kind_of : List ℕ → ℕ
kind_of rec = word rec 2

abbrev pub field : List ℕ → ℕ → ℕ
field rec j = word rec (4 + 2 * j)

unfoldable pub field_count : List ℕ → ℕ
field_count rec = (length rec - 4) / 2
