-- The ceilings of the allowances, one law for each way that the test of them ends.
use mathlib.Core.Path.{◌≡◌, refl, sym, ◌∙◌}
use Prim.Native.Nat.{ℕ, ◌*◌, ◌≤◌, ◌<◌}
use mathlib.Core.Logic.{◌⊎◌, inl, inr}
use mathlib.Core.Bool.{Bool, true, false, ◌&&◌, and-eq-true_iff}
use lib.Dec.{leb}
use borrow.Author.Tests.{le-leb, lt-leb, leb-true}
use Rattle.definitions.specs.Ranges.{within}
use Rattle.definitions.specs.Sizes.{most_nesting, most_cells, cell_size}
use Rattle.definitions.specs.Run.{allowances_fit}

module _ (nesting cells_allowed lent : ℕ) where
  pub past_a_ceiling : nesting < 1 ⊎ ((1 ≤ nesting × most_nesting < nesting) ⊎ (1 ≤ nesting × nesting ≤ most_nesting × most_cells < cells_allowed))
      → false ≡ allowances_fit nesting cells_allowed lent
  unfolding within
  past_a_ceiling (inl h) = rw (lt-leb 1 nesting h) refl
  past_a_ceiling (inr (inl (h, k))) = rw (le-leb 1 nesting h, lt-leb nesting most_nesting k) refl
  past_a_ceiling (inr (inr (h, k, l))) = rw (le-leb 1 nesting h, le-leb nesting most_nesting k, lt-leb cells_allowed most_cells l) refl

  pub cells_lent : 1 ≤ nesting → nesting ≤ most_nesting → cells_allowed ≤ most_cells → leb (cell_size * cells_allowed) lent ≡ allowances_fit nesting cells_allowed lent
  unfolding within
  cells_lent h k l = rw (le-leb 1 nesting h, le-leb nesting most_nesting k, le-leb cells_allowed most_cells l) refl

  pub record WithinLimits : Type 0 where
    pub nested : nesting ≤ most_nesting
    pub made : cells_allowed ≤ most_cells
    pub lends : cell_size * cells_allowed ≤ lent

  pub fitting : (t : Bool) → t ≡ allowances_fit nesting cells_allowed lent → t ≡ true → WithinLimits
  unfolding within
  fitting t e h =
      let p = (and-eq-true_iff (within 1 most_nesting nesting && leb cells_allowed most_cells) (leb (cell_size * cells_allowed) lent)).0 (sym e ∙ h) in
      let q = (and-eq-true_iff (within 1 most_nesting nesting) (leb cells_allowed most_cells)).0 p.0 in
      let r = (and-eq-true_iff (leb 1 nesting) (leb nesting most_nesting)).0 q.0 in
      record { nested = leb-true nesting most_nesting r.1; made = leb-true cells_allowed most_cells q.1; lends = leb-true (cell_size * cells_allowed) lent p.1 }
