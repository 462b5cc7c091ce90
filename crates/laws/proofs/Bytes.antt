-- Laws of little-endian fields. A field that starts past the end is 0.
use mathlib.Core.Path.{◌≡◌, refl, sym}
use Prim.Native.Nat.{ℕ, ◌+◌, ◌*◌, ◌≤◌, ◌<◌}
use mathlib.Core.List.{List}
use native.Mathlib.Omega.{arith}
use native.Mathlib.Nat.{add_assoc}
use lib.ListN.{length, get_or, take, drop, get_or-eq_default}
use lib.Seq.{get_or-take, get_or-drop}
use Rattle.definitions.specs.Bytes.{word, word32}

-- a byte past the end
pub byte_past : (b : List ℕ) (at : ℕ) → length b ≤ at → 0 ≡ get_or b at 0
byte_past b at h = sym (get_or-eq_default b 0 h)

pub word_bytes : (b : List ℕ) (at x y : ℕ) → x ≡ get_or b at 0 → y ≡ get_or b (at + 1) 0 → x + 256 * y ≡ word b at
unfolding word
word_bytes b at x y p q = rw (p, q) refl

pub word_past : (b : List ℕ) (at : ℕ) → length b ≤ at → 0 ≡ word b at
word_past b at h = word_bytes b at 0 0 (byte_past b at h) (byte_past b (at + 1) (omega arith))

-- where the upper byte is past the end, the lower byte is the whole
pub word_last : (b : List ℕ) (at x : ℕ) → length b ≤ at + 1 → x ≡ get_or b at 0 → x ≡ word b at
word_last b at x h p = let e : x + 256 * 0 ≡ word b at = word_bytes b at x 0 p (byte_past b (at + 1) h) in omega arith

pub word32_words : (b : List ℕ) (at x y : ℕ) → x ≡ word b at → y ≡ word b (at + 2) → x + 65536 * y ≡ word32 b at
unfolding word32
word32_words b at x y p q = rw (p, q) refl

-- where the upper half is past the end, the lower half is the whole
pub word32_low : (b : List ℕ) (at x : ℕ) → length b ≤ at + 1 → x ≡ word b at → x ≡ word32 b at
word32_low b at x h p = let e : x + 65536 * 0 ≡ word32 b at = word32_words b at x 0 p (word_past b (at + 2) (omega arith)) in omega arith

-- a field of a part of a list
pub word_part : (b : List ℕ) (n from at : ℕ) → at + 1 < n → word (take n (drop from b)) at ≡ word b (from + at)
unfolding word
word_part b n from at h =
    simp (get_or-take n (drop from b) at 0 (omega arith), get_or-take n (drop from b) (at + 1) 0 h, get_or-drop, add_assoc)
