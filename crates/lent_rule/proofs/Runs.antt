-- A run over lent bytes is the rule's evaluation: its ending, its steps left and the most cells alive together, and the bytes at its end are
-- the cells, given back or not, written over the lent bytes.
use mathlib.Core.Path.{◌≡◌, refl}
use Prim.Native.Nat.{ℕ, ◌*◌, ◌≤◌}
use mathlib.Core.List.{List}
use native.Mathlib.Omega.{arith}
use lib.IntN.{ℤ}
use lib.ListN.{length}
use Rattle.definitions.specs.Sizes.{most_cells, cell_size}
use Rattle.definitions.specs.Layouts.{body_of}
use Rattle.definitions.specs.Checks.{translation_verdict}
use Rattle.definitions.specs.Rule.{Ending, Reached}
use Rattle.definitions.specs.LiveCells.{LiveCells, no_live_cells, live_evaluation}
use Rattle.definitions.specs.CellBytes.{cell_bytes}
use Rattle.definitions.specs.Run.{cells_over, rule_end}
use Rattle.definitions.specs.declared.Layout.TheVariants.{Translation}
use Rattle.definitions.specs.Verdict.{Accepted}
use Rattle.laws.proofs.ByteFiles.{Bytes}
use Rattle.accepted.proofs.Head.{functions_least}
use Rattle.accepted.proofs.Owners.{body_below}
use Rattle.accepted.proofs.Checks.{translation_shape}
use Rattle.rule_laws.specs.SideBySide.{AlikeEnds, integers, constructors, ends, Both, cut, arrive}
use Rattle.lent_rule.specs.Lent.{Lent, lent_run}
use Rattle.lent_rule.specs.Standing.{NarrowReadings}
use Rattle.lent_rule.proofs.Stands.{none_alive_law}
use Rattle.lent_rule.proofs.Lockstep.{World, one, sides, visits_in_step}

pub record SameRun (r : Reached ℕ Lent) (q : Reached ℕ LiveCells) (before : List ℕ) (cells_allowed : ℕ) : Type 0 where
  pub ending : r.ending ≡ q.ending
  pub left : r.state.left ≡ q.state.left
  pub most : r.state.store.most ≡ length q.state.store.cells
  pub bytes : r.state.store.bytes ≡ cells_over before q.state.store.cells
  pub below : length q.state.store.cells ≤ cells_allowed

module _ {b : List ℕ} {cells_allowed : ℕ} (before : List ℕ) where
  same_ending : {w : World b cells_allowed} {e d : Ending ℕ} → AlikeEnds (sides b cells_allowed before) w e d → e ≡ d
  same_ending integers = refl
  same_ending (constructors (one t h)) = refl
  same_ending ends = refl

  same_run : {w : World b cells_allowed} {r : Reached ℕ Lent} {q : Reached ℕ LiveCells} → Both (sides b cells_allowed before) w r q → SameRun r q before cells_allowed
  same_run (cut x) = absurd x
  same_run (arrive v l e) = record { ending = same_ending e; left = refl; most = refl; bytes = refl; below = v.order.cells.few }

module _ (b : List ℕ) (accepted : translation_verdict b ≡ Accepted) (bytes : Bytes b) (rs : List ℤ) (narrow : NarrowReadings rs) where
  pub run_is : (steps nesting cells_allowed : ℕ) (before : List ℕ) → cells_allowed ≤ most_cells → cell_size * cells_allowed ≤ length before
      → SameRun (lent_run b rs steps nesting cells_allowed before) (rule_end b rs steps nesting cells_allowed) before cells_allowed
  unfolding lent_run rule_end live_evaluation cells_over cell_bytes
  run_is steps nesting cells_allowed before ceiling room =
      let shape = translation_shape b accepted in
      let body = body_below Translation b shape 0 (functions_least Translation b shape) in
      same_run before (visits_in_step b accepted bytes rs narrow cells_allowed ceiling before room nesting (body_of Translation b 0) 0
      (record { left = steps; store = no_live_cells; order = none_alive_law }) body (omega arith))
