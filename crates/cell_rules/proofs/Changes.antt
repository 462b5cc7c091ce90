-- Cells of which one remembers a value more keep their heads.
use mathlib.Core.Path.{◌≡◌, refl, ap, ◌∙◌}
use Prim.Native.Nat.{ℕ, zero, suc}
use mathlib.Core.List.{List, [], ◌∷◌}
use mathlib.Core.Option.{some, none-ne-some}
use native.Mathlib.Decide.{ℕ_discrete}
use lib.ListN.{get_elem?}
use Rattle.definitions.specs.Rule.{Value}
use Rattle.definitions.specs.Cells.{Cell, with_entry, changed, with_value}
use Rattle.cell_rules.specs.Contexts.{head_of, cell_heads, HasHead, Kept}
use Rattle.cell_rules.proofs.Contexts.{kept_all_law}

some_one : {x y : Cell} → some x ≡ some y → x ≡ y
some_one e = cc

pub changed_there : (f : Cell → Cell) (cs : List Cell) (c : ℕ) {x : Cell} → get_elem? cs c ≡ some x → get_elem? (changed f cs c) c ≡ some (f x)
unfolding changed
changed_there f [] c e = absurd (none-ne-some _ e)
changed_there f (y ∷ cs) zero e = ap (λ (z : Cell). some (f z)) (some_one e)
changed_there f (y ∷ cs) (suc c) e = changed_there f cs c e

pub changed_other : (f : Cell → Cell) (cs : List Cell) (c d : ℕ) → (d ≡ c → ⊥) → get_elem? (changed f cs c) d ≡ get_elem? cs d
unfolding changed
changed_other f [] c d n = refl
changed_other f (x ∷ cs) zero zero n = absurd (n refl)
changed_other f (x ∷ cs) zero (suc d) n = refl
changed_other f (x ∷ cs) (suc c) zero n = refl
changed_other f (x ∷ cs) (suc c) (suc d) n = changed_other f cs c d (λ q. n (ap suc q))

pub entry_head : (i : ℕ) (v : Value ℕ) (x : Cell) → head_of (with_entry i v x) ≡ head_of x
unfolding with_entry
entry_head i v x = refl

pub value_kept : (w i : ℕ) (v : Value ℕ) (cs : List Cell) → Kept cell_heads cs (with_value w i v cs)
unfolding with_value
value_kept zero i v cs = kept_all_law cs
value_kept (suc c) i v cs = record { same = λ d x e. by d x e (ℕ_discrete d c) }
  where
    by : (d : ℕ) (x : Cell) → get_elem? cs d ≡ some x → Dec (d ≡ c) → HasHead cell_heads (changed (with_entry i v) cs c) d (head_of x)
    by d x e (yes q) = record { cell = with_entry i v x; there = rw q (changed_there (with_entry i v) cs c (rw q at e)); is = entry_head i v x }
    by d x e (no n) = record { cell = x; there = changed_other (with_entry i v) cs c d n ∙ e; is = refl }
