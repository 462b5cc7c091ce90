-- Laws of cells of which one is added, or one remembers a value more: what holds of each of them, and how many they are.
use mathlib.Core.Path.{◌≡◌, refl, ap, subst}
use Prim.Native.Nat.{ℕ, zero, suc}
use mathlib.Core.List.{List, [], ◌∷◌, ◌++◌}
use mathlib.Core.Option.{none, some, none-ne-some}
use native.Mathlib.Omega.{arith}
use lib.ListN.{length, get_elem?, get_or, set, replicate, length-append}
use Rattle.definitions.specs.Sizes.{most_fields}
use Rattle.definitions.specs.Rule.{Value}
use Rattle.definitions.specs.Cells.{Entry, Cell, new_cell, entry_at, with_entry, changed, with_value}

some_one : {A : Type 0} {x y : A} → some x ≡ some y → x ≡ y
some_one e = cc

-- what holds of each element of a list in its place, as of each cell
abbrev pub Each : {A : Type 0} → (ℕ → A → Type 0) → List A → Type 0
Each {A} P cs = (c : ℕ) (x : A) → get_elem? cs c ≡ some x → P c x

pub each_added : {A : Type 0} (P : ℕ → A → Type 0) (cs : List A) (x : A) → Each P cs → P (length cs) x → Each P (cs ++ (x ∷ []))
each_added P [] x h p zero y e = subst (P 0) (some_one e) p
each_added P [] x h p (suc c) y e = absurd (none-ne-some _ e)
each_added P (z ∷ cs) x h p zero y e = h zero y e
each_added P (z ∷ cs) x h p (suc c) y e = each_added (λ n. P (suc n)) cs x (λ n. h (suc n)) p c y e

pub each_changed : (P : ℕ → Cell → Type 0) (f : Cell → Cell) (cs : List Cell) (d : ℕ) → Each P cs → ((x : Cell) → get_elem? cs d ≡ some x → P d (f x))
    → Each P (changed f cs d)
unfolding changed
each_changed P f [] d h g c y e = absurd (none-ne-some _ e)
each_changed P f (x ∷ cs) zero h g zero y e = subst (P 0) (some_one e) (g x refl)
each_changed P f (x ∷ cs) zero h g (suc c) y e = h (suc c) y e
each_changed P f (x ∷ cs) (suc d) h g zero y e = h zero y e
each_changed P f (x ∷ cs) (suc d) h g (suc c) y e = each_changed (λ n. P (suc n)) f cs d (λ n. h (suc n)) g c y e

-- one cell more
pub added_length : (cs : List Cell) (x : Cell) → length (cs ++ (x ∷ [])) ≡ suc (length cs)
added_length cs x = omega (arith, length-append cs (x ∷ []))

-- as many cells as before
changed_length : (f : Cell → Cell) (cs : List Cell) (c : ℕ) → length (changed f cs c) ≡ length cs
unfolding changed
changed_length f [] c = refl
changed_length f (x ∷ cs) zero = refl
changed_length f (x ∷ cs) (suc c) = ap suc (changed_length f cs c)

pub value_length : (w i : ℕ) (v : Value ℕ) (cs : List Cell) → length (with_value w i v cs) ≡ length cs
unfolding with_value
value_length zero i v cs = refl
value_length (suc c) i v cs = changed_length (with_entry i v) cs c

-- a new cell remembers nothing
none_empty : (n i : ℕ) → get_or {A = Entry} (replicate n none) i none ≡ none
none_empty zero i = refl
none_empty (suc n) zero = refl
none_empty (suc n) (suc i) = none_empty n i

pub new_empty : (l w f i : ℕ) → entry_at (new_cell l w f) i ≡ none
unfolding entry_at new_cell
new_empty l w f i = none_empty most_fields i

-- what holds of each entry of a cell in its position, and of a value that it remembers besides
entries_with : (P : ℕ → Entry → Type 0) (es : List Entry) (i : ℕ) {o : Entry} → ((j : ℕ) → P j (get_or es j none)) → P i o
    → (j : ℕ) → P j (get_or (set es i o) j none)
entries_with P [] i h p j = h j
entries_with P (e ∷ es) zero h p zero = p
entries_with P (e ∷ es) zero h p (suc j) = h (suc j)
entries_with P (e ∷ es) (suc i) h p zero = h zero
entries_with P (e ∷ es) (suc i) h p (suc j) = entries_with (λ n. P (suc n)) es i (λ n. h (suc n)) p j

pub each_entry : (P : ℕ → Entry → Type 0) (x : Cell) (i : ℕ) (v : Value ℕ) → ((j : ℕ) → P j (entry_at x j)) → P i (some v)
    → (j : ℕ) → P j (entry_at (with_entry i v x) j)
unfolding entry_at with_entry
each_entry P x i v h p j = entries_with P x.entries i h p j
