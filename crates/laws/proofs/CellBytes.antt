-- Laws of the bytes of cells that have their eight entries: how many they are, alone and over lent bytes.
use mathlib.Core.Path.{◌≡◌, refl, ◌∙◌}
use Prim.Native.Nat.{ℕ, zero, suc, ◌*◌, ◌≤◌}
use mathlib.Core.List.{List, [], ◌∷◌, ◌++◌}
use mathlib.Core.Option.{none, some, none-ne-some}
use native.Mathlib.Omega.{arith}
use lib.ListN.{length, get_elem?, drop, length-append, length-drop, length-set}
use Rattle.definitions.specs.Sizes.{cell_size, most_fields}
use Rattle.definitions.specs.Bytes.{words32, bytes_of}
use Rattle.definitions.specs.Rule.{Value, integer, constructor}
use Rattle.definitions.specs.Cells.{Entry, Cell, new_cell, with_entry, with_value}
use Rattle.definitions.specs.CellBytes.{entry_words, entries_words, cell_words, cell_bytes}
use Rattle.definitions.specs.Run.{cells_over}
use Rattle.laws.proofs.Words.{bytes_length}
use Rattle.laws.proofs.Cells.{each_added, each_changed}

-- each cell has its eight entries
pub record FullCells (cs : List Cell) : Type 0 where
  pub each : (c : ℕ) (x : Cell) → get_elem? cs c ≡ some x → length x.entries ≡ most_fields

pub none_full : FullCells []
none_full = record { each = λ c x e. absurd (none-ne-some _ e) }

pub full_added : {cs : List Cell} (l w f : ℕ) → FullCells cs → FullCells (cs ++ (new_cell l w f ∷ []))
unfolding new_cell
full_added {cs} l w f h = record { each = each_added (λ c x. length x.entries ≡ most_fields) cs (new_cell l w f) h.each refl }

pub full_value : {cs : List Cell} (w i : ℕ) (v : Value ℕ) → FullCells cs → FullCells (with_value w i v cs)
unfolding with_value with_entry
full_value zero i v h = h
full_value {cs} (suc c) i v h =
    record {
      each = each_changed (λ d x. length x.entries ≡ most_fields) (with_entry i v) cs c h.each (λ x e. length-set x.entries i (some v) ∙ h.each c x e);
    }

pub full_rest : {x : Cell} {cs : List Cell} → FullCells (x ∷ cs) → FullCells cs
full_rest w = record { each = λ c y e. w.each (suc c) y e }

three_words : (e : Entry) → length (entry_words e) ≡ 3
unfolding entry_words words32
three_words none = refl
three_words (some (integer z)) = refl
three_words (some (constructor k w)) = refl

entries_size : (es : List Entry) (callee : ℕ) → length (entries_words es callee) ≡ 4 * length es
unfolding entries_words
entries_size [] callee = refl
entries_size (e ∷ es) callee = length-append (entry_words e) _ ∙ omega (arith, three_words e, entries_size es callee)

pub cell_size_law : (c : Cell) → length c.entries ≡ most_fields → length (bytes_of (cell_words c)) ≡ cell_size
unfolding cell_words
cell_size_law c h = bytes_length (cell_words c) ∙ omega (arith, h, entries_size c.entries c.callee)

pub bytes_size : (cs : List Cell) → FullCells cs → length (cell_bytes cs) ≡ cell_size * length cs
unfolding cell_bytes
bytes_size [] w = refl
bytes_size (c ∷ cs) w =
    length-append (bytes_of (cell_words c)) (cell_bytes cs)
    ∙ omega (arith, cell_size_law c (w.each 0 c refl), bytes_size cs (full_rest w))

pub over_size : (before : List ℕ) (cs : List Cell) → FullCells cs → cell_size * length cs ≤ length before
    → length (cells_over before cs) ≡ length before
unfolding cells_over
over_size before cs w h =
    length-append (cell_bytes cs) (drop (cell_size * length cs) before)
    ∙ (let e = bytes_size cs w in let f = length-drop (cell_size * length cs) before in omega arith)
