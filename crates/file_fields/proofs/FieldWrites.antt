-- Writes of fields one after the other. A write past the end leaves the list.
use mathlib.Core.Path.{◌≡◌, refl, sym, ap, ◌∙◌}
use Prim.Native.Nat.{ℕ, ◌+◌, ◌/◌, ◌%◌, ◌≤◌, ◌<◌}
use mathlib.Core.List.{List, [], ◌∷◌}
use native.Mathlib.Omega.{arith}
use native.Mathlib.Nat.{mod-eq_of_lt}
use native.Mathlib.Numerals.{add-one, add-two}
use lib.ListN.{length, get_or, set}
use lib.Seq.{set_out, sets, length-sets}
use Rattle.laws.proofs.Stores.{sets_past}
use Rattle.definitions.specs.Bytes.{word_bytes, words32, bytes_of}

pub byte_past : (l : List ℕ) (at v : ℕ) → length l ≤ at → l ≡ set l at v
byte_past l at v h = sym (set_out l at v h)

pub word_past : (l : List ℕ) (at n : ℕ) → length l ≤ at → l ≡ sets l at (word_bytes n)
word_past l at n h = sym (sets_past (word_bytes n) l at h)

pub word_written : (l : List ℕ) {m r : List ℕ} (at : ℕ) {n : ℕ} → n < 65536 → m ≡ set l at (n % 256) → r ≡ set m (at + 1) (n / 256) → r ≡ sets l at (word_bytes n)
unfolding word_bytes
word_written l at {n} h e f = let k : n / 256 < 256 = omega arith in rw (f, e, add-one at, mod-eq_of_lt k) refl

-- the same by the bytes that `to_le_bytes` gives
pub bytes_written : (l : List ℕ) {m r bytes : List ℕ} (at n : ℕ) → bytes ≡ (n % 256) ∷ (n / 256 % 256) ∷ [] → m ≡ set l at (get_or bytes 0 0)
    → r ≡ set m (at + 1) (get_or bytes 1 0) → r ≡ sets l at (word_bytes n)
unfolding word_bytes
bytes_written l at n e f g = rw (g, f, e, add-one at) refl

pub word32_written : (l : List ℕ) {m r : List ℕ} (at n : ℕ) {next : ℕ} → m ≡ sets l at (word_bytes (n % 65536)) → next ≡ at + 2
    → r ≡ sets m next (word_bytes (n / 65536)) → r ≡ sets l at (bytes_of (words32 n))
unfolding words32 word_bytes bytes_of
word32_written l at n e g f = rw (f, g, e, add-two at) refl

-- the upper half is past the end
pub word32_cut : (l : List ℕ) {m : List ℕ} (at n : ℕ) → length l ≤ at + 2 → m ≡ sets l at (word_bytes (n % 65536)) → m ≡ sets l at (bytes_of (words32 n))
word32_cut l {m} at n h e =
    let k : length m ≡ length l = ap length e ∙ length-sets l at (word_bytes (n % 65536)) in
    word32_written l at n e refl (sym (sets_past (word_bytes (n / 65536)) m (at + 2) (omega arith)))
