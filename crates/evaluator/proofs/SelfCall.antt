-- A function whose body is a call of itself never ends.
use mathlib.Core.Path.{◌≡◌, refl}
use Prim.Native.Nat.{ℕ, zero, suc}
use mathlib.Core.List.{List}
use mathlib.Core.Option.{none}
use lib.IntN.{ℤ}
use Rattle.definitions.specs.Layouts.{body_of}
use Rattle.definitions.specs.SheetNodes.{call, sheet_node_of}
use Rattle.agreement.specs.Meaning.{Setting, entered}
use Rattle.definitions.specs.declared.Layout.TheVariants.{Sheet}
use Rattle.evaluator.specs.Evaluator.{end_by, end_within}

-- a call of such a function has no end, at any fuel, with any arguments and in any setting
pub self_call_endless : (b : List ℕ) (rs : List ℤ) (f : ℕ) (ns : List ℕ)
    → sheet_node_of b (body_of Sheet b f) ≡ call f ns
    → (fuel : ℕ) (ms : List ℕ) (s : Setting) → end_within b rs fuel (call f ms) s ≡ none
unfolding end_within end_by
self_call_endless b rs f ns p zero ms s = refl
self_call_endless b rs f ns p (suc fuel) ms s = rw p (self_call_endless b rs f ns p fuel ns (entered ms s))
