-- Cells written over lent bytes, read back: label, previous cell, callee and entries.
use mathlib.Core.Path.{◌≡◌, refl, ap, ◌∙◌}
use Prim.Native.Nat.{ℕ, zero, suc, ◌+◌, ◌*◌, ◌-◌, ◌/◌, ◌%◌, ◌≤◌, ◌<◌}
use mathlib.Core.List.{List, [], ◌∷◌, ◌++◌, append_assoc}
use mathlib.Core.Option.{none, some, none-ne-some}
use native.Mathlib.Omega.{arith}
use native.Mathlib.Nat.{mod-eq_of_lt}
use lib.IntN.{ℤ}
use lib.ListN.{length, get_elem?, get_or, drop, get_or-append}
use borrow.Author.Tests.{eq-eqb, ne_eqb, le-leb}
use mir.Syntax.{w32}
use mir.Val.{to_z}
use Rattle.definitions.specs.Sizes.{most_fields, cell_size}
use Rattle.definitions.specs.Bytes.{word, words32, bytes_of}
use Rattle.definitions.specs.Operators.{residue}
use Rattle.definitions.specs.Rule.{integer, constructor}
use Rattle.definitions.specs.Cells.{Entry, Cell, entry_at}
use Rattle.definitions.specs.CellBytes.{entry_words, last_word, entries_words, cell_words, cell_bytes}
use Rattle.definitions.specs.Listing.{label_at, previous_at}
use Rattle.definitions.specs.Run.{cells_over}
use Rattle.laws.proofs.Words.{word_read, word_behind}
use Rattle.laws.proofs.CellBytes.{FullCells, full_rest, cell_size_law, over_size}
use Rattle.accepted.proofs.Elements.{element_below}
use Rattle.operators.proofs.Residues.{residue_below}
use Rattle.cells.specs.LentCells.{callee_at, entry_place, entry_number, entry_of}
use Rattle.lent_rule.specs.Standing.{Narrow}

-- a word before other bytes
word_front : (p q : List ℕ) (i : ℕ) → i + 1 < length p → word (p ++ q) i ≡ word p i
unfolding word
word_front p q i h = rw (get_or-append p q 0 i (omega arith), get_or-append p q 0 (i + 1) h) refl

-- word j of cell c
cell_word : (cs : List Cell) (r : List ℕ) (c j : ℕ) (x : Cell) → FullCells cs → get_elem? cs c ≡ some x → j < 34 → get_or (cell_words x) j 0 < 65536
    → word (cell_bytes cs ++ r) (cell_size * c + 2 * j) ≡ get_or (cell_words x) j 0
unfolding cell_bytes
cell_word [] r c j x full e h k = absurd (none-ne-some _ e)
cell_word (y ∷ cs) r zero j x full e h k =
    let f : y ≡ x = cc in
    let size : length (bytes_of (cell_words x)) ≡ cell_size = cell_size_law x (full.each 0 x e) in
    let at : cell_size * 0 + 2 * j ≡ 2 * j = omega arith in
    rw (at, f, append_assoc (bytes_of (cell_words x)) (cell_bytes cs) r)
    (word_front (bytes_of (cell_words x)) (cell_bytes cs ++ r) (2 * j) (omega arith) ∙ word_read (cell_words x) j k)
cell_word (y ∷ cs) r (suc c) j x full e h k =
    let at : cell_size * suc c + 2 * j ≡ length (bytes_of (cell_words y)) + (cell_size * c + 2 * j) = omega (arith, cell_size_law y (full.each 0 y refl)) in
    rw (at, append_assoc (bytes_of (cell_words y)) (cell_bytes cs) r)
    (word_behind (bytes_of (cell_words y)) (cell_bytes cs ++ r) (cell_size * c + 2 * j) ∙ cell_word cs r c j x (full_rest full) e h k)

-- the words of entries
entry_first : (e : Entry) (r : List ℕ) (j : ℕ) → j < 3 → get_or (entry_words e ++ r) j 0 ≡ get_or (entry_words e) j 0
unfolding entry_words words32
entry_first none r j h = get_or-append (entry_words none) r 0 j h
entry_first (some (integer z)) r j h = get_or-append (entry_words (some (integer z))) r 0 j h
entry_first (some (constructor k w)) r j h = get_or-append (entry_words (some (constructor k w))) r 0 j h

entry_later : (e : Entry) (n : ℕ) (r : List ℕ) (j : ℕ) → get_or (entry_words e ++ (n ∷ r)) (suc (suc (suc (suc j)))) 0 ≡ get_or r j 0
unfolding entry_words words32
entry_later none n r j = refl
entry_later (some (integer z)) n r j = refl
entry_later (some (constructor k w)) n r j = refl

entry_last : (e : Entry) (n : ℕ) (r : List ℕ) → get_or (entry_words e ++ (n ∷ r)) 3 0 ≡ n
unfolding entry_words words32
entry_last none n r = refl
entry_last (some (integer z)) n r = refl
entry_last (some (constructor k w)) n r = refl

entries_word : (es : List Entry) (callee i j : ℕ) → i < length es → j < 3 → get_or (entries_words es callee) (4 * i + j) 0 ≡ get_or (entry_words (get_or es i none)) j 0
unfolding entries_words
entries_word [] callee i j h k = absurd (omega arith)
entries_word (e ∷ es) callee zero j h k =
    let at : 4 * 0 + j ≡ j = omega arith in
    rw at (entry_first e (last_word es callee ∷ entries_words es callee) j k)
entries_word (e ∷ es) callee (suc i) j h k =
    let at : 4 * suc i + j ≡ suc (suc (suc (suc (4 * i + j)))) = omega arith in
    rw at (entry_later e (last_word es callee) (entries_words es callee) (4 * i + j) ∙ entries_word es callee i j (omega arith) k)

callee_word : (es : List Entry) (callee n : ℕ) → length es ≡ suc n → get_or (entries_words es callee) (4 * n + 3) 0 ≡ callee
unfolding entries_words last_word
callee_word [] callee n h = absurd (omega arith)
callee_word (e ∷ []) callee n h =
    let at : 4 * n + 3 ≡ 3 = omega arith in
    rw at (entry_last e callee [])
callee_word (e ∷ d ∷ es) callee zero h = absurd (omega arith)
callee_word (e ∷ d ∷ es) callee (suc n) h =
    let at : 4 * suc n + 3 ≡ suc (suc (suc (suc (4 * n + 3)))) = omega arith in
    rw at (entry_later e 0 (entries_words (d ∷ es) callee) (4 * n + 3) ∙ callee_word (d ∷ es) callee n (omega arith))

-- an entry that eight bytes hold
pub data EntryFits : Entry → Type 0 where
  fits_nothing : EntryFits none
  fits_number : {z : ℤ} → Narrow z → EntryFits (some (integer z))
  fits_constructor : {k w : ℕ} → k < 65536 → w < 65536 → EntryFits (some (constructor k w))

words_fit : {e : Entry} → EntryFits e → (j : ℕ) → get_or (entry_words e) j 0 < 65536
unfolding entry_words words32
words_fit fits_nothing zero = omega arith
words_fit fits_nothing (suc zero) = omega arith
words_fit fits_nothing (suc (suc zero)) = omega arith
words_fit fits_nothing (suc (suc (suc j))) = omega arith
words_fit (fits_number n) zero = omega arith
words_fit (fits_number n) (suc zero) = omega arith
words_fit (fits_number {z} n) (suc (suc zero)) = omega (arith, residue_below w32 z)
words_fit (fits_number n) (suc (suc (suc j))) = omega arith
words_fit (fits_constructor h k) zero = omega arith
words_fit (fits_constructor h k) (suc zero) = h
words_fit (fits_constructor h k) (suc (suc zero)) = k
words_fit (fits_constructor h k) (suc (suc (suc j))) = omega arith

-- the three words of an entry as one number, and the entry that it is
abbrev packed : List ℕ → ℕ
packed ws = get_or ws 0 0 + 65536 * get_or ws 1 0 + 4294967296 * get_or ws 2 0

number_back : (n : ℕ) → n < 4294967296 → entry_of (1 + 65536 * (n % 65536) + 4294967296 * (n / 65536)) ≡ some (integer (to_z w32 n))
unfolding entry_of
number_back n h =
    let x = 1 + 65536 * (n % 65536) + 4294967296 * (n / 65536) in
    let whole : x ≡ 1 + 65536 * n = omega arith in
    let kind : (1 + 65536 * n) % 65536 ≡ 1 = omega arith in
    let number : (1 + 65536 * n) / 65536 ≡ n = omega arith in
    rw (whole, eq-eqb ((1 + 65536 * n) % 65536) 1 kind, number, mod-eq_of_lt h) refl

constructor_back : (k w : ℕ) → k < 65536 → w < 65536 → entry_of (2 + 65536 * k + 4294967296 * w) ≡ some (constructor k w)
unfolding entry_of
constructor_back k w h g =
    let x = 2 + 65536 * k + 4294967296 * w in
    let kind : x % 65536 ≡ 2 = omega arith in
    let both : x / 65536 ≡ k + 65536 * w = omega arith in
    let node : (k + 65536 * w) % 65536 ≡ k = omega arith in
    let context : x / 4294967296 ≡ w = omega arith in
    rw (ne_eqb (x % 65536) 1 (λ e. omega arith), eq-eqb (x % 65536) 2 kind, both, node, context, mod-eq_of_lt g) refl

nothing_back : entry_of 0 ≡ none
unfolding entry_of
nothing_back = refl

entry_back : {e : Entry} → EntryFits e → entry_of (packed (entry_words e)) ≡ e
unfolding entry_words words32
entry_back fits_nothing = nothing_back
entry_back (fits_number {z} n) = number_back (residue w32 z) (residue_below w32 z) ∙ ap (λ (y : ℤ). some (integer y)) n.back
entry_back (fits_constructor {k} {w} h g) = constructor_back k w h g

module _ (before : List ℕ) (cs : List Cell) (full : FullCells cs) (c : ℕ) (x : Cell) (e : get_elem? cs c ≡ some x) where
  word_at : (j at : ℕ) → at ≡ cell_size * c + 2 * j → j < 34 → get_or (cell_words x) j 0 < 65536 → word (cells_over before cs) at ≡ get_or (cell_words x) j 0
  unfolding cells_over
  word_at j at f h k = rw f (cell_word cs (drop (cell_size * length cs) before) c j x full e h k)

  pub label_read : x.label < 65536 → label_at (cells_over before cs) (suc c) ≡ x.label
  unfolding label_at cell_words
  label_read h = word_at 0 (cell_size * (suc c - 1)) (omega arith) (omega arith) h

  pub previous_read : x.previous < 65536 → previous_at (cells_over before cs) (suc c) ≡ x.previous
  unfolding previous_at cell_words
  previous_read h = word_at 1 (cell_size * (suc c - 1) + 2) (omega arith) (omega arith) h

  pub callee_read : x.callee < 65536 → callee_at (cells_over before cs) (suc c) ≡ x.callee
  unfolding callee_at cell_words
  callee_read h =
      let w : get_or (entries_words x.entries x.callee) 31 0 ≡ x.callee = callee_word x.entries x.callee 7 (full.each c x e) in
      word_at 33 (cell_size * (suc c - 1) + 66) (omega arith) (omega arith) (rw w h) ∙ w

  entry_word : (i j at : ℕ) → i < most_fields → j < 3 → EntryFits (entry_at x i) → at ≡ cell_size * (suc c - 1) + 4 + 8 * i + 2 * j
      → word (cells_over before cs) at ≡ get_or (entry_words (entry_at x i)) j 0
  unfolding cell_words entry_at
  entry_word i j at h k fits f =
      let w = entries_word x.entries x.callee i j (omega (arith, full.each c x e)) k in
      word_at (suc (suc (4 * i + j))) at (omega arith) (omega arith) (rw w (words_fit fits j)) ∙ w

  pub entry_read : cell_size * length cs ≤ length before → (i : ℕ) → i < most_fields → EntryFits (entry_at x i)
      → entry_of (entry_number (cells_over before cs) (suc c) i) ≡ entry_at x i
  unfolding entry_number
  entry_read room i h fits =
      let at = entry_place (suc c) i in
      let there : at + 8 ≤ length (cells_over before cs) = omega (arith, over_size before cs full room, element_below cs c e) in
      rw (
        le-leb (at + 8) (length (cells_over before cs)) there,
        entry_word i 0 at h (omega arith) fits (omega arith),
        entry_word i 1 (at + 2) h (omega arith) fits (omega arith),
        entry_word i 2 (at + 4) h (omega arith) fits (omega arith),
      )
      (entry_back fits)
