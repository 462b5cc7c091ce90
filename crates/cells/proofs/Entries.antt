-- The callee and the entries of a cell, read and written, and a cell added.
use mathlib.Core.Path.{◌≡◌, refl, sym, ap, ◌∙◌}
use Prim.Native.Nat.{ℕ, suc, ◌+◌, ◌*◌, ◌-◌, ◌/◌, ◌≤◌, ◌<◌}
use mathlib.Core.List.{List, [], ◌∷◌, ◌++◌}
use native.Mathlib.Omega.{arith}
use native.Mathlib.Numerals.{add-two}
use lib.ListN.{length, get_or, replicate, length-append, length-replicate}
use lib.Seq.{sets, sets-eq}
use Rattle.std.proofs.Common.{take, drop, append_assoc, length-take, length-drop}
use Rattle.std.proofs.lemmas.Slice.{put_mid-paste}
use Rattle.std.proofs.lemmas.List.Edits.{paste_all}
use borrow.Rule.Slice.PartMut.{put_mid}
use borrow.Author.Tests.{lt-ltb, le-ltb, le-leb, lt-leb}
use Rattle.definitions.specs.Sizes.{cell_size}
use Rattle.definitions.specs.Bytes.{word, word_bytes, bytes_of}
use Rattle.definitions.specs.Cells.{new_cell}
use Rattle.definitions.specs.CellBytes.{entry_words, last_word, entries_words, cell_words}
use Rattle.laws.proofs.Stores.{sets_append}
use Rattle.cells.specs.LentCells.{callee_at, entry_place, entry_number, entry_written, cell_added}

pub callee_by : (b : List ℕ) {c x i r : ℕ} → x ≡ c → i ≡ x - 1 → r ≡ word b (cell_size * i + 66) → r ≡ callee_at b c
unfolding callee_at
callee_by b e f g = g ∙ rw (f, e) refl

-- an entry read, by its six bytes where they are there
module _ (b : List ℕ) (c i : ℕ) {at : ℕ} (e : at ≡ entry_place c i) where
  pub entry_read : {k f s : ℕ} → at + 8 ≤ length b → k ≡ get_or b at 0 + 256 * get_or b (at + 1) 0 → f ≡ get_or b (at + 2) 0 + 256 * get_or b (at + 3) 0
      → s ≡ get_or b (at + 4) 0 + 256 * get_or b (at + 5) 0 → k + 65536 * f + 4294967296 * s ≡ entry_number b c i
  unfolding entry_number word
  entry_read h ek ef es =
      let p : at + 3 ≡ at + 2 + 1 = omega arith in
      let q : at + 5 ≡ at + 4 + 1 = omega arith in
      rw (← e, le-leb (at + 8) (length b) h, ek, ef, es, p, q) refl

  pub entry_past : length b < at + 8 → 0 ≡ entry_number b c i
  unfolding entry_number
  entry_past h = rw (← e, lt-leb (at + 8) (length b) h) refl

  -- and written
  pub entry_written_law : {m n r : List ℕ} (x y z : ℕ) → at + 8 ≤ length b → m ≡ sets b at (word_bytes x) → n ≡ sets m (at + 2) (word_bytes y)
      → r ≡ sets n (at + 4) (word_bytes z) → r ≡ entry_written b c i (x ∷ y ∷ z ∷ [])
  unfolding entry_written bytes_of word_bytes
  entry_written_law x y z h em en er =
      let q : at + 4 ≡ suc (suc (suc (suc at))) = omega arith in
      rw (← e, le-leb (at + 8) (length b) h, er, en, em, add-two at, q) refl

  pub entry_kept : (words : List ℕ) → length b < at + 8 → b ≡ entry_written b c i words
  unfolding entry_written
  entry_kept words h = rw (← e, lt-leb (at + 8) (length b) h) refl

-- so many zero bytes
abbrev zeros : ℕ → List ℕ
zeros n = replicate n 0

zeros_size : (n : ℕ) → length (zeros n) ≡ n
zeros_size n = length-replicate n 0

-- so many bytes cleared from a place on
pub cleared : (at k : ℕ) (b part : List ℕ) (n : ℕ) → k ≡ n → at + n ≤ length b → part ≡ zeros (length (take k (drop at b))) → put_mid at k b part ≡ sets b at (zeros n)
cleared at k b part n e h f =
    let s : length (take k (drop at b)) ≡ n = omega (arith, length-take k (drop at b), length-drop at b) in
    let z : part ≡ zeros n = f ∙ ap zeros s in
    let w : at + length (zeros n) ≤ length b = omega (arith, zeros_size n) in
    put_mid-paste at k b part (zeros n) n z (sym e) (sym (zeros_size n))
    ∙ paste_all b at (zeros n) n (sym (zeros_size n))
    ∙ ap (λ (m : ℕ). take at b ++ (zeros n ++ drop (at + m) b)) (sym (zeros_size n))
    ∙ sym (rw append_assoc at (sets-eq (zeros n) b at w))

-- a cell added after those made
word_size : (n : ℕ) → length (word_bytes n) ≡ 2
unfolding word_bytes
word_size n = refl

pub new_bytes : (l w f : ℕ) → word_bytes l ++ (word_bytes w ++ (zeros 62 ++ word_bytes f)) ≡ bytes_of (cell_words (new_cell l w f))
unfolding new_cell cell_words entries_words entry_words last_word bytes_of word_bytes
new_bytes l w f = refl

sets_then : (b vs ws : List ℕ) (at n : ℕ) → at + length vs ≡ n → sets (sets b at vs) n ws ≡ sets b at (vs ++ ws)
sets_then b vs ws at n e = ap (λ (k : ℕ). sets (sets b at vs) k ws) (sym e) ∙ sets_append vs ws b at

pub cell_added_law : (b : List ℕ) {m n o r : List ℕ} {made : ℕ} (x y z : ℕ) → made < length b / cell_size → m ≡ sets b (cell_size * made) (word_bytes x)
    → n ≡ sets m (cell_size * made + 2) (word_bytes y) → o ≡ sets n (cell_size * made + 4) (zeros 62)
    → r ≡ sets o (cell_size * made + 66) (word_bytes z) → r ≡ cell_added b made x y z
unfolding cell_added word_bytes
cell_added_law b {made = made} x y z h em en eo er =
    let at = cell_size * made in
    let two = word_bytes x in
    let four = word_bytes x ++ word_bytes y in
    let p : at + length two ≡ at + 2 = omega (arith, word_size x) in
    let q : at + length four ≡ at + 4 = omega (arith, length-append two (word_bytes y), word_size x, word_size y) in
    let s : at + length (four ++ zeros 62) ≡ at + 66 =
    omega (arith, length-append four (zeros 62), length-append two (word_bytes y), word_size x, word_size y, zeros_size 62) in
    rw (
      lt-ltb made (length b / cell_size) h,
      er,
      eo,
      en,
      em,
      sets_then b two (word_bytes y) at (at + 2) p,
      sets_then b four (zeros 62) at (at + 4) q,
      sets_then b (four ++ zeros 62) (word_bytes z) at (at + 66) s,
    )
    (ap (sets b at) (new_bytes x y z))

pub cell_past : (b : List ℕ) (made x y z : ℕ) → length b / cell_size ≤ made → b ≡ cell_added b made x y z
unfolding cell_added
cell_past b made x y z h = rw (le-ltb made (length b / cell_size) h) refl
