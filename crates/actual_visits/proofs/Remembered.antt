-- What holds of each constructor that cells remember, by node and context: of one cell more, and where one remembers a value more.
use mathlib.Core.Path.{◌≡◌, sym, ◌∙◌}
use Prim.Native.Nat.{ℕ, suc}
use mathlib.Core.List.{List, [], ◌∷◌, ◌++◌}
use mathlib.Core.Option.{some, none-ne-some}
use lib.ListN.{get_elem?}
use Rattle.definitions.specs.Rule.{Value, constructor}
use Rattle.definitions.specs.Cells.{Cell, new_cell, entry_at, with_entry, with_value}
use Rattle.laws.proofs.Cells.{each_added, each_changed, each_entry, new_empty}

abbrev pub Remembered : (ℕ → ℕ → Type 0) → List Cell → Type 0
Remembered P cs = (c : ℕ) (x : Cell) → get_elem? cs c ≡ some x → (i k u : ℕ) → entry_at x i ≡ some (constructor k u) → P k u

pub remembered_none : (P : ℕ → ℕ → Type 0) → Remembered P []
remembered_none P c x e = absurd (none-ne-some _ e)

module _ (P Q : ℕ → ℕ → Type 0) (on : (k u : ℕ) → P k u → Q k u) (cs : List Cell) (h : Remembered P cs) where
  pub remembered_added : (label w f : ℕ) → Remembered Q (cs ++ (new_cell label w f ∷ []))
  remembered_added label w f =
      each_added (λ c y. (i k u : ℕ) → entry_at y i ≡ some (constructor k u) → Q k u) cs (new_cell label w f)
      (λ c y e i k u q. on k u (h c y e i k u q)) (λ i k u q. absurd (none-ne-some _ (sym (new_empty label w f i) ∙ q)))

  pub remembered_value : (d i : ℕ) (v : Value ℕ) → ((k u : ℕ) → v ≡ constructor k u → Q k u) → Remembered Q (with_value (suc d) i v cs)
  unfolding with_value
  remembered_value d i v new =
      each_changed (λ c y. (j k u : ℕ) → entry_at y j ≡ some (constructor k u) → Q k u) (with_entry i v) cs d (λ c y e j k u q. on k u (h c y e j k u q))
      (λ x e. each_entry (λ j o. (k u : ℕ) → o ≡ some (constructor k u) → Q k u) x i v (λ j k u q. on k u (h d x e j k u q)) (λ k u q. new k u (cc)))
