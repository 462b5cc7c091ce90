-- Cells that go pair by pair and remember alike, position by position, for any relation of entries: they stay so where each is changed
-- in the same place, or has a new cell added.
use mathlib.Core.Path.{◌≡◌, refl, ap}
use Prim.Native.Nat.{ℕ, zero, suc}
use mathlib.Core.List.{List, [], ◌∷◌, ◌++◌}
use mathlib.Core.Option.{none, some, none-ne-some}
use lib.ListN.{length, get_elem?, get_or, set, replicate}
use Rattle.definitions.specs.Sizes.{most_fields}
use Rattle.definitions.specs.Rule.{Value}
use Rattle.definitions.specs.Cells.{Entry, Cell, new_cell, entry_at, with_entry, changed, with_value}

pub data AlikeEntries (E : Entry → Entry → Type 0) : List Entry → List Entry → Type 0 where
  no_entry : AlikeEntries E [] []
  entry : {x y : Entry} {xs ys : List Entry} → E x y → AlikeEntries E xs ys → AlikeEntries E (x ∷ xs) (y ∷ ys)

pub data AlikeCells (E : Entry → Entry → Type 0) : List Cell → List Cell → Type 0 where
  no_cell : AlikeCells E [] []
  cell : {x y : Cell} {cs ds : List Cell} → AlikeEntries E x.entries y.entries → AlikeCells E cs ds → AlikeCells E (x ∷ cs) (y ∷ ds)

module _ {E F : Entry → Entry → Type 0} (f : (x y : Entry) → E x y → F x y) where
  entries_map : {xs ys : List Entry} → AlikeEntries E xs ys → AlikeEntries F xs ys
  entries_map no_entry = no_entry
  entries_map (entry e p) = entry (f _ _ e) (entries_map p)

  pub cells_map : {cs ds : List Cell} → AlikeCells E cs ds → AlikeCells F cs ds
  cells_map no_cell = no_cell
  cells_map (cell e p) = cell (entries_map e) (cells_map p)

some_one : {x y : Cell} → some x ≡ some y → x ≡ y
some_one e = cc

module _ (E : Entry → Entry → Type 0) where
  -- there are as many
  pub cells_even : {cs ds : List Cell} → AlikeCells E cs ds → length cs ≡ length ds
  cells_even no_cell = refl
  cells_even (cell e p) = ap suc (cells_even p)

  -- what is in the same place
  entries_at : {xs ys : List Entry} (i : ℕ) → E none none → AlikeEntries E xs ys → E (get_or xs i none) (get_or ys i none)
  entries_at i h no_entry = h
  entries_at zero h (entry e p) = e
  entries_at (suc i) h (entry e p) = entries_at i h p

  pub cells_at : {cs ds : List Cell} (c i : ℕ) {x y : Cell} → E none none → AlikeCells E cs ds → get_elem? cs c ≡ some x → get_elem? ds c ≡ some y
      → E (entry_at x i) (entry_at y i)
  unfolding entry_at
  cells_at c i h no_cell e d = absurd (none-ne-some _ e)
  cells_at zero i h (cell p q) e d = rw (← some_one e, ← some_one d) (entries_at i h p)
  cells_at (suc c) i h (cell p q) e d = cells_at c i h q e d

  -- a value in the same position of each
  entries_set : {xs ys : List Entry} (i : ℕ) {x y : Entry} → E x y → AlikeEntries E xs ys → AlikeEntries E (set xs i x) (set ys i y)
  entries_set i h no_entry = no_entry
  entries_set zero h (entry e p) = entry h p
  entries_set (suc i) h (entry e p) = entry e (entries_set i h p)

  cells_changed : {cs ds : List Cell} (c i : ℕ) {v u : Value ℕ} → E (some v) (some u) → AlikeCells E cs ds
      → AlikeCells E (changed (with_entry i v) cs c) (changed (with_entry i u) ds c)
  unfolding changed with_entry
  cells_changed c i h no_cell = no_cell
  cells_changed zero i h (cell e p) = cell (entries_set i h e) p
  cells_changed (suc c) i h (cell e p) = cell e (cells_changed c i h p)

  pub cells_valued : {cs ds : List Cell} (w i : ℕ) {v u : Value ℕ} → E (some v) (some u) → AlikeCells E cs ds
      → AlikeCells E (with_value w i v cs) (with_value w i u ds)
  unfolding with_value
  cells_valued zero i h p = p
  cells_valued (suc c) i h p = cells_changed c i h p

  -- a new cell at the end of each
  entries_empty : (n : ℕ) → E none none → AlikeEntries E (replicate n none) (replicate n none)
  entries_empty zero h = no_entry
  entries_empty (suc n) h = entry h (entries_empty n h)

  pub cells_added : {cs ds : List Cell} (l l' w w' f f' : ℕ) → E none none → AlikeCells E cs ds
      → AlikeCells E (cs ++ (new_cell l w f ∷ [])) (ds ++ (new_cell l' w' f' ∷ []))
  unfolding new_cell
  cells_added l l' w w' f f' h no_cell = cell (entries_empty most_fields h) no_cell
  cells_added l l' w w' f f' h (cell e p) = cell e (cells_added l l' w w' f f' h p)
