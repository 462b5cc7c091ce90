-- A number field, written as two words and read back as signed 32 bits.
use mathlib.Core.Path.{◌≡◌}
use Prim.Native.Nat.{ℕ, ◌/◌, ◌%◌, ◌<◌}
use mathlib.Core.List.{List, [], ◌∷◌}
use native.Mathlib.Omega.{arith}
use mir.Syntax.{w32}
use mir.Val.{to_z}
use Rattle.definitions.specs.Bytes.{word, word32, signed, words32, bytes_of}
use Rattle.definitions.specs.Operators.{residue, reduced}
use Rattle.definitions.specs.Translate.{record_words}
use Rattle.operators.proofs.Residues.{residue_below, reduced_read}
use Rattle.readback.proofs.Fields.{Fit, fit_none, fit_more, field_read}

-- a number of 32 bits has two words that fit
pub number_fit : (n : ℕ) → n < 4294967296 → Fit (words32 n)
unfolding words32
number_fit n h = fit_more (n % 65536) ((n / 65536) ∷ []) (omega arith) (fit_more (n / 65536) [] (omega arith) fit_none)

-- the words of a number below 2 ^ 32 read back
pub word32_read : (k n : ℕ) → n < 4294967296 → word32 (bytes_of (record_words k (words32 n))) 4 ≡ n
unfolding word32 words32
word32_read k n h =
    let f = number_fit n h in
    let p : word (bytes_of (record_words k (words32 n))) 4 ≡ n % 65536 = field_read k (words32 n) f 0 in
    let q : word (bytes_of (record_words k (words32 n))) 6 ≡ n / 65536 = field_read k (words32 n) f 1 in
    rw (p, q) (omega arith)

-- a signed number is what its remainder is read as
pub signed_residue : (b : List ℕ) (at : ℕ) → to_z w32 (residue w32 (signed b at)) ≡ signed b at
unfolding signed reduced
signed_residue b at = reduced_read w32 (word32 b at)

pub signed_read : (k : ℕ) (b : List ℕ) (at : ℕ)
    → signed (bytes_of (record_words k (words32 (residue w32 (signed b at))))) 4 ≡ signed b at
unfolding signed
signed_read k b at =
    rw (word32_read k (residue w32 (signed b at)) (residue_below w32 (signed b at))) (signed_residue b at)
