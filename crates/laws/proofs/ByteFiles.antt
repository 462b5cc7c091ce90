-- Files of bytes: every byte is below 256, so every field of two bytes is below 65,536.
use Prim.Native.Nat.{ℕ, zero, suc, ◌+◌, ◌<◌}
use mathlib.Core.List.{List, [], ◌∷◌}
use mathlib.Core.Bool.{Bool, true, false, cond}
use native.Mathlib.Omega.{arith}
use lib.ListN.{get_or, take, drop}
use lib.Seq.{get_or-drop}
use Rattle.definitions.specs.Bytes.{word, word_bytes, bytes_of}
use Rattle.definitions.specs.Records.{whole, record_at}

pub record Bytes (b : List ℕ) : Type 0 where
  pub below : (i : ℕ) → get_or b i 0 < 256

none_below : Bytes []
none_below = record { below = λ i. omega arith }

take_below : (n : ℕ) (l : List ℕ) → Bytes l → (i : ℕ) → get_or (take n l) i 0 < 256
take_below zero l h i = omega arith
take_below (suc n) [] h i = omega arith
take_below (suc n) (x ∷ l) h zero = h.below 0
take_below (suc n) (x ∷ l) h (suc i) = take_below n l (record { below = λ j. h.below (suc j) }) i

drop_below : (n : ℕ) (l : List ℕ) → Bytes l → Bytes (drop n l)
drop_below n l h = record { below = λ i. rw (get_or-drop n l i 0) (h.below (n + i)) }

record_by : (t : Bool) (l : List ℕ) → Bytes l → Bytes (cond t l [])
record_by true l h = h
record_by false l h = none_below

-- a record of a file of bytes
pub record_below : (b : List ℕ) (at : ℕ) → Bytes b → Bytes (record_at b at)
unfolding record_at
record_below b at h =
    record_by (whole b at) (take (word b at) (drop at b)) (record { below = take_below (word b at) (drop at b) (drop_below at b h) })

pub word_below : (b : List ℕ) (at : ℕ) → Bytes b → word b at < 65536
unfolding word
word_below b at h = let x = h.below at in let y = h.below (at + 1) in omega arith

-- the bytes of fields
fields_below : (ws : List ℕ) (i : ℕ) → get_or (bytes_of ws) i 0 < 256
unfolding bytes_of word_bytes
fields_below [] i = omega arith
fields_below (w ∷ ws) zero = omega arith
fields_below (w ∷ ws) (suc zero) = omega arith
fields_below (w ∷ ws) (suc (suc i)) = fields_below ws i

pub bytes_below : (ws : List ℕ) → Bytes (bytes_of ws)
bytes_below ws = record { below = fields_below ws }
