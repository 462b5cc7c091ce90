-- Cells written over lent bytes: with an entry's bytes written they are the cells in which that entry holds the value, and with a cell's
-- bytes written over one of them or after them they are the cells with that one written there.
use mathlib.Core.Path.{◌≡◌, refl, sym, ap, ◌∙◌}
use Prim.Native.Nat.{ℕ, zero, suc, ◌+◌, ◌*◌, ◌/◌, ◌≤◌, ◌<◌}
use mathlib.Core.List.{List, [], ◌∷◌, ◌++◌, append_assoc, append-nil}
use mathlib.Core.Option.{none, some, none-ne-some}
use native.Mathlib.Omega.{arith}
use lib.ListN.{length, get_elem?, set, drop, length-append, length-drop}
use lib.Seq.{sets, drop_at, drop-drop}
use borrow.Author.Tests.{lt-ltb, le-leb}
use Rattle.definitions.specs.Sizes.{most_fields, cell_size}
use Rattle.definitions.specs.Bytes.{word_bytes, words32, bytes_of}
use Rattle.definitions.specs.Rule.{Value, integer, constructor}
use Rattle.definitions.specs.Cells.{Entry, Cell, new_cell, with_entry, changed, with_value}
use Rattle.definitions.specs.LiveCells.{written}
use Rattle.definitions.specs.CellBytes.{entry_words, last_word, entries_words, cell_words, cell_bytes}
use Rattle.definitions.specs.Run.{cells_over}
use Rattle.laws.proofs.Stores.{over_front, sets_before, sets_behind}
use Rattle.laws.proofs.Words.{bytes_append}
use Rattle.laws.proofs.Cells.{value_length}
use Rattle.laws.proofs.CellBytes.{FullCells, full_rest, cell_size_law, over_size}
use Rattle.accepted.proofs.Elements.{element_below}
use Rattle.cells.specs.LentCells.{entry_place, entry_written, cell_added}

-- the six bytes of an entry, and its eight with its last word
six_bytes : (e : Entry) → length (bytes_of (entry_words e)) ≡ 6
unfolding entry_words bytes_of word_bytes words32
six_bytes none = refl
six_bytes (some (integer z)) = refl
six_bytes (some (constructor k w)) = refl

abbrev eight : Entry → ℕ → List ℕ
eight e n = bytes_of (entry_words e ++ (n ∷ []))

eight_bytes : (e : Entry) (n : ℕ) → length (eight e n) ≡ 8
unfolding entry_words bytes_of word_bytes words32
eight_bytes none n = refl
eight_bytes (some (integer z)) n = refl
eight_bytes (some (constructor k w)) n = refl

first_eight : (e : Entry) (n : ℕ) (ws : List ℕ) → bytes_of (entry_words e ++ (n ∷ ws)) ≡ eight e n ++ bytes_of ws
unfolding entry_words bytes_of word_bytes words32
first_eight none n ws = refl
first_eight (some (integer z)) n ws = refl
first_eight (some (constructor k w)) n ws = refl

-- one of the entries of a cell
last_same : (es : List Entry) (callee i : ℕ) (e : Entry) → last_word (set es i e) callee ≡ last_word es callee
unfolding last_word
last_same [] callee i e = refl
last_same (d ∷ es) callee zero e = refl
last_same (d ∷ es) callee (suc i) e = refl

module _ (v : Value ℕ) where
  abbrev six : List ℕ
  six = bytes_of (entry_words (some v))

  first_written : (e : Entry) (ws : List ℕ) → sets (bytes_of (entry_words e ++ ws)) 0 six ≡ bytes_of (entry_words (some v) ++ ws)
  first_written e ws =
      let room : 6 ≤ length (bytes_of (entry_words e) ++ bytes_of ws) = omega (arith, length-append (bytes_of (entry_words e)) (bytes_of ws), six_bytes e) in
      rw (bytes_append (entry_words e) ws, bytes_append (entry_words (some v)) ws)
      (over_front six (bytes_of (entry_words e) ++ bytes_of ws) 6 (six_bytes (some v)) room
      ∙ ap (λ (l : List ℕ). six ++ l) (drop_at (bytes_of (entry_words e)) (bytes_of ws) 6 (six_bytes e)))

  entries_written : (es : List Entry) (callee i : ℕ) → i < length es
      → sets (bytes_of (entries_words es callee)) (8 * i) six ≡ bytes_of (entries_words (set es i (some v)) callee)
  unfolding entries_words
  entries_written [] callee i h = absurd (omega arith)
  entries_written (e ∷ es) callee zero h = first_written e (last_word es callee ∷ entries_words es callee)
  entries_written (e ∷ es) callee (suc i) h =
      let n = last_word es callee in
      let at : 8 * suc i ≡ length (eight e n) + 8 * i = omega (arith, eight_bytes e n) in
      rw (last_same es callee i (some v), at, first_eight e n (entries_words es callee), first_eight e n (entries_words (set es i (some v)) callee))
      (sets_behind (eight e n) (bytes_of (entries_words es callee)) six (8 * i)
      ∙ ap (λ (l : List ℕ). eight e n ++ l) (entries_written es callee i (omega arith)))

  -- one of the cells
  pub cell_written : (x : Cell) (i : ℕ) → i < length x.entries → sets (bytes_of (cell_words x)) (4 + 8 * i) six ≡ bytes_of (cell_words (with_entry i v x))
  unfolding cell_words with_entry bytes_of word_bytes
  cell_written x i h =
      let front = word_bytes x.label ++ word_bytes x.previous in
      sets_behind front (bytes_of (entries_words x.entries x.callee)) six (8 * i)
      ∙ ap (λ (l : List ℕ). front ++ l) (entries_written x.entries x.callee i h)

  cells_written : (cs : List Cell) (r : List ℕ) (c i : ℕ) (x : Cell) → FullCells cs → get_elem? cs c ≡ some x → i < most_fields
      → sets (cell_bytes cs ++ r) (cell_size * c + (4 + 8 * i)) six ≡ cell_bytes (changed (with_entry i v) cs c) ++ r
  unfolding cell_bytes changed
  cells_written [] r c i x full e h = absurd (none-ne-some _ e)
  cells_written (y ∷ cs) r zero i x full e h =
      let bytes = bytes_of (cell_words y) in
      let size = full.each 0 y refl in
      let room : 4 + 8 * i + length six ≤ length bytes = omega (arith, cell_size_law y size, six_bytes (some v)) in
      let at : cell_size * 0 + (4 + 8 * i) ≡ 4 + 8 * i = omega arith in
      rw (at, append_assoc bytes (cell_bytes cs) r, append_assoc (bytes_of (cell_words (with_entry i v y))) (cell_bytes cs) r)
      (sets_before six bytes (cell_bytes cs ++ r) (4 + 8 * i) room ∙ ap (λ (l : List ℕ). l ++ (cell_bytes cs ++ r)) (cell_written y i (omega arith)))
  cells_written (y ∷ cs) r (suc c) i x full e h =
      let bytes = bytes_of (cell_words y) in
      let at : cell_size * suc c + (4 + 8 * i) ≡ length bytes + (cell_size * c + (4 + 8 * i)) = omega (arith, cell_size_law y (full.each 0 y refl)) in
      rw (at, append_assoc bytes (cell_bytes cs) r, append_assoc bytes (cell_bytes (changed (with_entry i v) cs c)) r)
      (sets_behind bytes (cell_bytes cs ++ r) six (cell_size * c + (4 + 8 * i))
      ∙ ap (λ (l : List ℕ). bytes ++ l) (cells_written cs r c i x (full_rest full) e h))

  pub entry_over : (before : List ℕ) (cs : List Cell) (c i : ℕ) (x : Cell) → FullCells cs → cell_size * length cs ≤ length before
      → get_elem? cs c ≡ some x → i < most_fields
      → entry_written (cells_over before cs) (suc c) i (entry_words (some v)) ≡ cells_over before (with_value (suc c) i v cs)
  unfolding entry_written cells_over with_value
  entry_over before cs c i x full room e h =
      let rest = drop (cell_size * length cs) before in
      let at : entry_place (suc c) i ≡ cell_size * c + (4 + 8 * i) = omega arith in
      let there : cell_size * c + (4 + 8 * i) + 8 ≤ length (cell_bytes cs ++ rest) = omega (arith, over_size before cs full room, element_below cs c e) in
      rw (at, le-leb (cell_size * c + (4 + 8 * i) + 8) (length (cell_bytes cs ++ rest)) there)
      (cells_written cs rest c i x full e h
      ∙ ap (λ (n : ℕ). cell_bytes (changed (with_entry i v) cs c) ++ drop (cell_size * n) before) (sym (value_length (suc c) i v cs)))

-- a new cell
new_size : (l w f : ℕ) → length (bytes_of (cell_words (new_cell l w f))) ≡ cell_size
unfolding new_cell
new_size l w f = cell_size_law (new_cell l w f) refl

-- the bytes of a cell over those of one of the cells, or after them
cells_over_law : (before : List ℕ) (cs : List Cell) (n : ℕ) (x : Cell) → n ≤ length cs → FullCells cs → length (bytes_of (cell_words x)) ≡ cell_size
    → cell_size * suc n ≤ length before
    → sets (cell_bytes cs ++ drop (cell_size * length cs) before) (cell_size * n) (bytes_of (cell_words x))
    ≡ cell_bytes (written cs n x) ++ drop (cell_size * length (written cs n x)) before
unfolding cell_bytes written
cells_over_law before [] zero x h full size room =
    let bytes = bytes_of (cell_words x) in
    rw (append-nil bytes) (over_front bytes before cell_size size (omega arith))
cells_over_law before [] (suc n) x h full size room = absurd (omega arith)
cells_over_law before (y ∷ cs) zero x h full size room =
    let bytes = bytes_of (cell_words x) in
    let old = bytes_of (cell_words y) in
    let own = cell_size_law y (full.each 0 y refl) in
    let behind = drop (cell_size * suc (length cs)) before in
    let rest = cell_bytes cs ++ behind in
    let left : cell_size ≤ length (old ++ rest) = omega (arith, own, length-append old rest) in
    rw (append_assoc old (cell_bytes cs) behind, append_assoc bytes (cell_bytes cs) behind)
    (over_front bytes (old ++ rest) cell_size size left ∙ ap (λ (l : List ℕ). bytes ++ l) (drop_at old rest cell_size own))
cells_over_law before (y ∷ cs) (suc n) x h full size room =
    let old = bytes_of (cell_words y) in
    let new = written cs n x in
    let later = drop cell_size before in
    let behind : (k : ℕ) → drop (cell_size * suc k) before ≡ drop (cell_size * k) later =
    λ k. let more : cell_size * suc k ≡ cell_size + cell_size * k = omega arith in rw more (sym (drop-drop (cell_size * k) cell_size before)) in
    let at : cell_size * suc n ≡ length old + cell_size * n = omega (arith, cell_size_law y (full.each 0 y refl)) in
    rw (
      at,
      behind (length cs),
      behind (length new),
      append_assoc old (cell_bytes cs) (drop (cell_size * length cs) later),
      append_assoc old (cell_bytes new) (drop (cell_size * length new) later),
    )
    (sets_behind old (cell_bytes cs ++ drop (cell_size * length cs) later) (bytes_of (cell_words x)) (cell_size * n)
    ∙ ap (λ (l : List ℕ). old ++ l) (cells_over_law later cs n x (omega arith) (full_rest full) size (omega (arith, length-drop cell_size before))))

pub cell_over : (before : List ℕ) (cs : List Cell) (n l w f : ℕ) → n ≤ length cs → FullCells cs → cell_size * suc n ≤ length before
    → cell_size * length cs ≤ length before
    → cell_added (cells_over before cs) n l w f ≡ cells_over before (written cs n (new_cell l w f))
unfolding cell_added cells_over
cell_over before cs n l w f h full room few =
    let rest = drop (cell_size * length cs) before in
    let size : length (cell_bytes cs ++ rest) ≡ length before = over_size before cs full few in
    let left : n < length (cell_bytes cs ++ rest) / cell_size = omega arith in
    rw (lt-ltb n (length (cell_bytes cs ++ rest) / cell_size) left) (cells_over_law before cs n (new_cell l w f) h full (new_size l w f) room)
