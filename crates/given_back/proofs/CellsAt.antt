-- Laws of the cell of a context, and of what it remembers: where a cell is written or added, and where one remembers a value more.
use mathlib.Core.Path.{◌≡◌, refl, ap, ◌∙◌}
use Prim.Native.Nat.{ℕ, zero, suc, ◌≤◌}
use mathlib.Core.List.{List, [], ◌∷◌, ◌++◌}
use mathlib.Core.Option.{Option, none, some, none-ne-some}
use native.Mathlib.Omega.{arith}
use lib.IntN.{ℤ}
use lib.ListN.{length}
use Rattle.definitions.specs.Rule.{Value, integer, constructor}
use Rattle.definitions.specs.Cells.{Entry, Cell, cell_of, entry_at, with_entry, changed, with_value}
use Rattle.definitions.specs.LiveCells.{written}
use Rattle.laws.proofs.Cells.{each_entry}
use Rattle.laws.proofs.Written.{written_there, written_before}
use Rattle.accepted.proofs.Elements.{element_below, element_front}
use Rattle.cell_rules.proofs.Contexts.{element_added}
use Rattle.cell_rules.proofs.Changes.{changed_there, changed_other}

pub cell_below : (cs : List Cell) (w : ℕ) {x : Cell} → cell_of cs w ≡ some x → w ≤ length cs
unfolding cell_of
cell_below cs zero e = omega arith
cell_below cs (suc c) e = element_below cs c e

-- a cell written after the first n
pub written_own : (cs : List Cell) (n : ℕ) (x : Cell) → n ≤ length cs → cell_of (written cs n x) (suc n) ≡ some x
unfolding cell_of
written_own cs n x h = written_there cs n x h

pub written_older : (cs : List Cell) (n w : ℕ) (x : Cell) → n ≤ length cs → w ≤ n → cell_of (written cs n x) w ≡ cell_of cs w
unfolding cell_of
written_older cs n zero x h g = refl
written_older cs n (suc c) x h g = written_before cs n c x h g

-- a cell added
pub added_own : (cs : List Cell) (x : Cell) → cell_of (cs ++ (x ∷ [])) (suc (length cs)) ≡ some x
unfolding cell_of
added_own cs x = element_added cs x

pub added_older : (cs : List Cell) (w : ℕ) (x : Cell) {y : Cell} → cell_of cs w ≡ some y → cell_of (cs ++ (x ∷ [])) w ≡ some y
unfolding cell_of
added_older cs zero x e = absurd (none-ne-some _ e)
added_older cs (suc c) x e = element_front cs (x ∷ []) c (element_below cs c e) ∙ e

-- a value remembered
pub value_own : (cs : List Cell) (w i : ℕ) (v : Value ℕ) {x : Cell} → cell_of cs w ≡ some x → cell_of (with_value w i v cs) w ≡ some (with_entry i v x)
unfolding cell_of with_value
value_own cs zero i v e = absurd (none-ne-some _ e)
value_own cs (suc c) i v e = changed_there (with_entry i v) cs c e

pub value_other : (cs : List Cell) (w i u : ℕ) (v : Value ℕ) → (u ≡ w → ⊥) → cell_of (with_value w i v cs) u ≡ cell_of cs u
unfolding cell_of with_value
value_other cs zero i u v n = refl
value_other cs (suc c) i zero v n = refl
value_other cs (suc c) i (suc d) v n = changed_other (with_entry i v) cs c d (λ q. n (ap suc q))

-- what the cell of a context remembers at a position
abbrev pub entry_of : Option Cell → ℕ → Entry
entry_of none i = none
entry_of (some x) i = entry_at x i

-- where a number is remembered, a constructor was there before
integer_kept : (x : Cell) (j i k c : ℕ) (z : ℤ) → entry_at (with_entry j (integer z) x) i ≡ some (constructor k c) → entry_at x i ≡ some (constructor k c)
integer_kept x j i k c z e =
    each_entry (λ i o. o ≡ some (constructor k c) → entry_at x i ≡ some (constructor k c)) x j (integer z)
    (λ i e. e) (λ e. absurd (let q : ◌≡◌ {A = ℕ} 0 1 = cc in omega arith)) i e

changed_kept : (cs : List Cell) (c j d i k x : ℕ) (z : ℤ) → entry_of (cell_of (changed (with_entry j (integer z)) cs c) (suc d)) i ≡ some (constructor k x)
    → entry_of (cell_of cs (suc d)) i ≡ some (constructor k x)
unfolding cell_of changed
changed_kept [] c j d i k x z e = e
changed_kept (y ∷ cs) zero j zero i k x z e = integer_kept y j i k x z e
changed_kept (y ∷ cs) zero j (suc d) i k x z e = e
changed_kept (y ∷ cs) (suc c) j zero i k x z e = e
changed_kept (y ∷ cs) (suc c) j (suc d) i k x z e = changed_kept cs c j d i k x z e

pub number_kept : (cs : List Cell) (w j u i k x : ℕ) (z : ℤ) → entry_of (cell_of (with_value w j (integer z) cs) u) i ≡ some (constructor k x)
    → entry_of (cell_of cs u) i ≡ some (constructor k x)
unfolding with_value cell_of
number_kept cs zero j u i k x z e = e
number_kept cs (suc c) j zero i k x z e = e
number_kept cs (suc c) j (suc d) i k x z e = changed_kept cs c j d i k x z e
