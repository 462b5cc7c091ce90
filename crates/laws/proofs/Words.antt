-- The bytes of a list of words, read back: their number, and the word at each place.
use mathlib.Core.Path.{◌≡◌, refl, sym, ◌∙◌}
use Prim.Native.Nat.{ℕ, zero, suc, ◌+◌, ◌*◌, ◌<◌}
use mathlib.Core.List.{List, [], ◌∷◌, ◌++◌, append_assoc}
use native.Mathlib.Omega.{arith}
use native.Mathlib.Nat.{add_assoc}
use lib.ListN.{length, get_or}
use lib.Seq.{get_or-append-add}
use Rattle.definitions.specs.Bytes.{word, word_bytes, bytes_of}
use Rattle.laws.proofs.Bytes.{word_past}

-- two bytes for each word
pub bytes_length : (ws : List ℕ) → length (bytes_of ws) ≡ 2 * length ws
unfolding bytes_of word_bytes
bytes_length [] = refl
bytes_length (w ∷ ws) = omega (arith, bytes_length ws)

pub bytes_append : (ws vs : List ℕ) → bytes_of (ws ++ vs) ≡ bytes_of ws ++ bytes_of vs
unfolding bytes_of
bytes_append [] vs = refl
bytes_append (w ∷ ws) vs = rw (bytes_append ws vs) (sym (append_assoc (word_bytes w) (bytes_of ws) (bytes_of vs)))

-- a word that 16 bits hold is read back
pub first_word : (w : ℕ) (bs : List ℕ) → w < 65536 → word (word_bytes w ++ bs) 0 ≡ w
unfolding word word_bytes
first_word w bs h = omega arith

pub later_word : (w : ℕ) (bs : List ℕ) (i : ℕ) → word (word_bytes w ++ bs) (suc (suc i)) ≡ word bs i
unfolding word word_bytes
later_word w bs i = let e : suc (suc i) + 1 ≡ suc (suc (i + 1)) = omega arith in rw e refl

pub word_read : (ws : List ℕ) (j : ℕ) → get_or ws j 0 < 65536 → word (bytes_of ws) (2 * j) ≡ get_or ws j 0
unfolding bytes_of
word_read [] j h = sym (word_past [] (2 * j) (omega arith))
word_read (w ∷ ws) zero h = first_word w (bytes_of ws) h
word_read (w ∷ ws) (suc j) h =
    let e : 2 * suc j ≡ suc (suc (2 * j)) = omega arith in
    rw e (later_word w (bytes_of ws) (2 * j) ∙ word_read ws j h)

-- a word behind other bytes
pub word_behind : (p q : List ℕ) (i : ℕ) → word (p ++ q) (length p + i) ≡ word q i
unfolding word
word_behind p q i = rw (add_assoc, get_or-append-add p q i 0, get_or-append-add p q (i + 1) 0) refl
