-- The parameter counts of an accepted translation: each is at most eight, and they sum to the formals, so a formal has one of eight positions.
use mathlib.Core.Path.{◌≡◌}
use Prim.Native.Nat.{ℕ, suc, ◌+◌, ◌-◌, ◌≤◌, ◌<◌}
use mathlib.Core.List.{List}
use mathlib.Core.Bool.{true, cond, and-eq-true_iff}
use native.Mathlib.Omega.{arith}
use lib.Dec.{eqb}
use borrow.Author.Tests.{eqb-true, eq-eqb}
use Rattle.definitions.specs.Sizes.{most_fields}
use Rattle.definitions.specs.Lists.{sum_of}
use Rattle.definitions.specs.Layouts.{items, functions, function_record, parameter_count}
use Rattle.definitions.specs.FormalPlaces.{function_of, position_of}
use Rattle.definitions.specs.Shape.{parameter_counts}
use Rattle.definitions.specs.Ranges.{within}
use Rattle.definitions.specs.Checks.{translation_verdict}
use Rattle.definitions.specs.declared.Layout.TheVariants.{Translation}
use Rattle.definitions.specs.Verdict.{Accepted}
use Rattle.laws.proofs.Ranges.{within_by}
use Rattle.accepted.proofs.Head.{functions_least}
use Rattle.accepted.proofs.Sections.{translation_counts}
use Rattle.accepted.proofs.Checks.{translation_shape}
use Rattle.accepted.proofs.FormalPlaces.{function_below, position_below}

module _ (b : List ℕ) (accepted : translation_verdict b ≡ Accepted) where
  parameter_counts_law : (f : ℕ) → f < functions b → parameter_counts b (1 + f) (function_record Translation b f) ≡ true
  parameter_counts_law f h = ((and-eq-true_iff _ _).0 (translation_counts b (translation_shape b accepted) f h)).0

  -- "0 to 8"
  pub parameter_count_most : (f : ℕ) → f < functions b → parameter_count b f ≤ most_fields
  unfolding parameter_counts
  parameter_count_most f h = (within_by 0 most_fields (parameter_count b f) ((and-eq-true_iff _ _).0 (parameter_counts_law f h)).0).greatest

  -- the counts sum to P
  total_at : (f : ℕ) → suc f ≡ functions b → sum_of (functions b) (parameter_count b) ≡ items b
  unfolding parameter_counts
  total_at f p =
      let sums = eqb (sum_of (functions b) (parameter_count b)) (items b) in
      let last = cond (eqb (suc (1 + f)) (1 + functions b)) sums true in
      let c = (and-eq-true_iff (within 0 most_fields (parameter_count b f)) last).0 (parameter_counts_law f (omega (arith, p))) in
      eqb-true (sum_of (functions b) (parameter_count b)) (items b)
      (rw (eq-eqb (suc (1 + f)) (1 + functions b) (omega (arith, p))) at c.1)

  pub parameter_total : sum_of (functions b) (parameter_count b) ≡ items b
  parameter_total =
      let p = functions_least Translation b (translation_shape b accepted) in
      total_at (functions b - 1) (omega arith)

  -- so the position of a formal is one of eight
  pub formal_position : (p : ℕ) → p < items b → position_of b p < most_fields
  formal_position p h =
      let q : p < sum_of (functions b) (parameter_count b) = rw parameter_total h in
      omega (arith, position_below (parameter_count b) (functions b) p q, parameter_count_most (function_of b p) (function_below (parameter_count b) (functions b) p q))
