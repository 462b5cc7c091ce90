-- What cells stand for (document 01, "Run": "a context is a list of labels, kept as cells"): the labels of a cell, newest first. For
-- cells of any kind, by their heads: what a cell is made with, and stays.
use Rattle.std.specs.Prelude.{◌≡◌, ℕ, zero, suc, List, [], ◌∷◌}
use Rattle.std.proofs.Math.Option.{some}
use Rattle.std.proofs.Math.ListN.{get_elem?}
use Rattle.definitions.specs.PlainCells.{PlainCell}
use Rattle.definitions.specs.Cells.{Cell}

-- cells of a kind, by their heads
pub record Heads (A : Type 0) : Type 1 where
  pub Head : Type 0
  pub head : A → Head
  pub label : Head → ℕ
  pub previous : Head → ℕ

-- the rule without remembering has cells that are heads alone
abbrev pub plain_heads : Heads PlainCell
plain_heads = record { Head = PlainCell; head = λ c. c; label = λ c. c.label; previous = λ c. c.previous }

-- the rule with it has besides a callee there, and what is remembered is no part of the head
pub record Head : Type 0 where
  pub label : ℕ
  pub previous : ℕ
  pub callee : ℕ

abbrev pub head_of : Cell → Head
head_of c = record { label = c.label; previous = c.previous; callee = c.callee }

abbrev pub cell_heads : Heads Cell
cell_heads = record { Head = Head; head = head_of; label = λ h. h.label; previous = λ h. h.previous }

module _ {A : Type 0} (H : Heads A) where
  -- cell w stands for these labels
  pub data Stands (cs : List A) : ℕ → List ℕ → Type 0 where
    outermost : Stands cs zero []
    within : {c l p : ℕ} {x : A} {ws : List ℕ}
        → get_elem? cs c ≡ some x → H.label (H.head x) ≡ l → H.previous (H.head x) ≡ p
        → Stands cs p ws
        → Stands cs (suc c) (l ∷ ws)

  -- the cell in this place has this head
  pub record HasHead (cs : List A) (c : ℕ) (h : H.Head) : Type 0 where
    pub cell : A
    pub there : get_elem? cs c ≡ some cell
    pub is : H.head cell ≡ h

  -- cells keep their places and heads
  pub record Kept (cs ds : List A) : Type 0 where
    pub same : (c : ℕ) (x : A) → get_elem? cs c ≡ some x → HasHead ds c (H.head x)
