-- The formals of a file that reads as a translation have the functions and positions of the sheet's parameters.
use mathlib.Core.Path.{◌≡◌}
use Prim.Native.Nat.{ℕ, ◌<◌}
use mathlib.Core.List.{List}
use native.Mathlib.Omega.{arith}
use Rattle.definitions.specs.Layouts.{functions, parameter_count}
use Rattle.definitions.specs.FormalPlaces.{function_of, position_of}
use Rattle.definitions.specs.References.{parameters}
use Rattle.definitions.specs.Labels.{Labelling}
use Rattle.definitions.specs.Translate.{formal_of}
use Rattle.accepted.proofs.Sums.{sum_same}
use Rattle.accepted.proofs.FormalPlaces.{function_of_formal, position_of_formal}
use Rattle.shared_runs.specs.Reads.{Reads}

module _ {same : Labelling} {b t : List ℕ} (reads : Reads same b t) (f i : ℕ) (h : f < functions b) (inside : i < parameters b f) where
  -- parameter i of function f by the file's own counts
  pub formal_function : function_of t (formal_of b f i) ≡ f
  unfolding formal_of
  formal_function =
      rw (← sum_same f (parameter_count t) (parameters b) (λ g l. reads.takes g (omega arith)))
      (function_of_formal (parameter_count t) (functions t) f i (rw reads.count h) (rw (reads.takes f h) inside))

  pub formal_position : position_of t (formal_of b f i) ≡ i
  unfolding formal_of
  formal_position =
      rw (← sum_same f (parameter_count t) (parameters b) (λ g l. reads.takes g (omega arith)))
      (position_of_formal (parameter_count t) (functions t) f i (rw reads.count h) (rw (reads.takes f h) inside))
