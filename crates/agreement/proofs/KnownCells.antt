-- Cells of which it is known that they are no more than allowed, that each has its eight entries, and what values these hold: a cell
-- written and a value remembered keep it so.
use mathlib.Core.Path.{◌≡◌, refl, sym, ◌∙◌}
use Prim.Native.Nat.{ℕ, zero, suc, ◌≤◌, ◌<◌}
use mathlib.Core.List.{List, []}
use mathlib.Core.Option.{some, none-ne-some}
use native.Mathlib.Omega.{arith}
use lib.IntN.{ℤ}
use lib.ListN.{length, get_elem?}
use Rattle.definitions.specs.Sizes.{most_fields}
use Rattle.definitions.specs.Rule.{Value, integer, constructor}
use Rattle.definitions.specs.LiveCells.{LiveCells, written}
use Rattle.definitions.specs.Cells.{Cell, new_cell, entry_at, with_entry, with_value}
use Rattle.laws.proofs.Cells.{each_changed, each_entry, value_length, new_empty}
use Rattle.laws.proofs.Written.{written_length, each_written}
use Rattle.laws.proofs.CellBytes.{FullCells, none_full, full_value}

-- a value that is a constructor or one of the numbers that may come out
pub data Among (Number : ℤ → Type 0) : Value ℕ → Type 0 where
  a_number : {z : ℤ} → Number z → Among Number (integer z)
  any_constructor : {k w : ℕ} → Among Number (constructor k w)

-- no more cells than allowed, each with its eight entries, which hold such values
pub record CellsKnown (Number : ℤ → Type 0) (cells_allowed : ℕ) (cs : List Cell) : Type 0 where
  pub room : length cs ≤ cells_allowed
  pub full : FullCells cs
  pub among : (c i : ℕ) (x : Cell) (v : Value ℕ) → get_elem? cs c ≡ some x → entry_at x i ≡ some v → Among Number v

-- so of what a run keeps, and no more are alive than were written
pub record LiveKnown (Number : ℤ → Type 0) (cells_allowed : ℕ) (m : LiveCells) : Type 0 where
  pub cells : CellsKnown Number cells_allowed m.cells
  pub alive : m.live ≤ length m.cells

full_written : {cs : List Cell} (n l w f : ℕ) → n ≤ length cs → FullCells cs → FullCells (written cs n (new_cell l w f))
unfolding new_cell
full_written {cs} n l w f e h = record { each = each_written (λ c x. length x.entries ≡ most_fields) cs n (new_cell l w f) e h.each refl }

module _ (Number : ℤ → Type 0) (cells_allowed : ℕ) where
  pub none_known : CellsKnown Number cells_allowed []
  none_known = record { room = omega arith; full = none_full; among = λ c i x v e h. absurd (none-ne-some _ e) }

  -- what a cell remembers is among them
  abbrev AmongAll : ℕ → Cell → Type 0
  AmongAll c x = (i : ℕ) (v : Value ℕ) → entry_at x i ≡ some v → Among Number v

  pub written_known : {cs : List Cell} (n l w f : ℕ) → n ≤ length cs → n < cells_allowed → CellsKnown Number cells_allowed cs
      → CellsKnown Number cells_allowed (written cs n (new_cell l w f))
  written_known {cs} n l w f e h g =
      record {
        room = omega (arith, written_length cs n (new_cell l w f) e, g.room);
        full = full_written n l w f e g.full;
        among = λ c i x v q.
            each_written AmongAll cs n (new_cell l w f) e (λ c x e i v. g.among c i x v e)
            (λ i v q. absurd (none-ne-some _ (sym (new_empty l w f i) ∙ q)))
            c x q i v;
      }

  pub value_known : {cs : List Cell} (w i : ℕ) (v : Value ℕ) → Among Number v → CellsKnown Number cells_allowed cs → CellsKnown Number cells_allowed (with_value w i v cs)
  unfolding with_value
  value_known zero i v n g = g
  value_known {cs} (suc c) i v n g =
      record {
        room = omega (arith, value_length (suc c) i v cs, g.room);
        full = full_value (suc c) i v g.full;
        among = λ d j x u e.
            each_changed AmongAll (with_entry i v) cs c (λ d x e j u. g.among d j x u e)
            (λ x e. each_entry (λ j o. (u : Value ℕ) → o ≡ some u → Among Number u) x i v (λ j u. g.among c j x u e) (λ u q. let s : v ≡ u = cc in rw s at n))
            d x e j u;
      }
