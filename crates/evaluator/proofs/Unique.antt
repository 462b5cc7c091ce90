-- A node means one thing at most, in each setting: the evaluator ends with both at one fuel.
use mathlib.Core.Path.{◌≡◌}
use Prim.Native.Nat.{ℕ}
use mathlib.Core.List.{List}
use lib.IntN.{ℤ}
use Rattle.definitions.specs.SheetNodes.{SheetNode}
use Rattle.agreement.specs.Meaning.{Setting, End, Means}
use Rattle.evaluator.proofs.Complete.{complete, at_one_fuel}

-- two ends of one node in one setting are equal
pub unique : {b : List ℕ} {rs : List ℤ} {n : SheetNode} {s : Setting} {e e' : End}
    → Means b rs n s e → Means b rs n s e' → e ≡ e'
unique m m' = at_one_fuel (complete m) (complete m') (λ fuel h h'. cc)
