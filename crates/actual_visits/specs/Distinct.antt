-- Lists without repetition.
use mathlib.Core.List.{List, [], ◌∷◌, Memᴰ}

-- no element stands again in the rest of the list
pub data Distinct {A : Type 0} : List A → Type 0 where
  nothing : Distinct []
  one_more : {x : A} {xs : List A} → ¬ (Memᴰ x xs) → Distinct xs → Distinct (x ∷ xs)
