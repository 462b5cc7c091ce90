-- Lent bytes that hold cells in order: what a visit over them needs, and what holds after it.
use Rattle.std.specs.Prelude.{◌≡◌, ℕ, ◌*◌, ◌≤◌, ◌<◌, List, ℤ, pos, length, get_or}
use Rattle.std.proofs.Math.Option.{none, some}
use Rattle.std.proofs.Math.ListN.{get_elem?}
use Rattle.std.specs.Int.{w32}
use Rattle.std.proofs.Common.{to_z}
use Rattle.definitions.specs.Sizes.{most_cells, cell_size, most_fields}
use Rattle.definitions.specs.Operators.{residue}
use Rattle.definitions.specs.Records.{kind_of}
use Rattle.definitions.specs.Layouts.{nodes, node_record}
use Rattle.definitions.specs.TranslationKinds as kinds
use Rattle.definitions.specs.TranslationNodes.{tuple, translation_node_of, tag_of, tuple_fields}
use Rattle.definitions.specs.Rule.{Ending, value, ended, integer, constructor, Reached}
use Rattle.definitions.specs.Cells.{Entry, Cell, entry_at}
use Rattle.definitions.specs.Run.{cells_over}
use Rattle.lent_rule.specs.Lent.{Lent}

-- node k is a tuple
pub record TupleAt (b : List ℕ) (k : ℕ) : Type 0 where
  pub below : k < nodes b
  pub kind : kind_of (node_record b k) ≡ kinds.tuple
  pub is : translation_node_of b k ≡ tuple (tag_of b k) (tuple_fields b k)

-- a number that four bytes hold
pub record Narrow (z : ℤ) : Type 0 where
  pub back : to_z w32 (residue w32 z) ≡ z

pub record NarrowReadings (rs : List ℤ) : Type 0 where
  pub reading : (i : ℕ) → Narrow (get_or rs i (pos 0))

-- an entry of one of `most` cells, alive or given back: a narrow number, or a tuple under the empty context or one of the cells
pub data EntryInOrder (b : List ℕ) (most : ℕ) : Entry → Type 0 where
  nothing : EntryInOrder b most none
  a_number : {z : ℤ} → Narrow z → EntryInOrder b most (some (integer z))
  a_constructor : {k w : ℕ} → TupleAt b k → w ≤ most → EntryInOrder b most (some (constructor k w))

-- one of `most` cells
pub record CellInOrder (b : List ℕ) (most : ℕ) (x : Cell) : Type 0 where
  pub label : x.label < 65536
  pub callee : x.callee < 65536
  pub previous : x.previous ≤ most
  pub size : length x.entries ≡ most_fields
  pub entries : (i : ℕ) → EntryInOrder b most (entry_at x i)

pub record CellsInOrder (b : List ℕ) (cells_allowed : ℕ) (cs : List Cell) : Type 0 where
  pub few : length cs ≤ cells_allowed
  pub cell : (c : ℕ) (x : Cell) → get_elem? cs c ≡ some x → CellInOrder b (length cs) x

-- the lent bytes are cells in order, written over what was lent, with room for as many as are allowed; no more are alive
pub record Standing (b : List ℕ) (cells_allowed : ℕ) (l : Lent) : Type 0 where
  pub before : List ℕ
  pub room : cell_size * cells_allowed ≤ length before
  pub ceiling : cells_allowed ≤ most_cells
  pub cells : List Cell
  pub order : CellsInOrder b cells_allowed cells
  pub bytes : l.bytes ≡ cells_over before cells
  pub most : l.most ≡ length cells
  pub alive : l.live ≤ length cells

-- a constructor that an ending holds is a tuple under the empty context or one of the cells
abbrev pub Inside : List ℕ → ℕ → Ending ℕ → Type 0
Inside b most (value (integer z)) = Unit {0}
Inside b most (value (constructor k w)) = TupleAt b k × (w ≤ most)
Inside b most (ended n) = Unit {0}

-- what holds of the end of a visit that began with so many steps left and cells written
pub record Good (b : List ℕ) (cells_allowed left most : ℕ) (r : Reached ℕ Lent) : Type 0 where
  pub falls : r.state.left ≤ left
  pub grows : most ≤ r.state.store.most
  pub standing : Standing b cells_allowed r.state.store
  pub inside : Inside b r.state.store.most r.ending
