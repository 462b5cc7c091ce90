-- A visit of a node under a list of labels has one ending and one number of steps: the rule without remembering follows two of them at
-- allowances that have room for both.
use mathlib.Core.Path.{◌≡◌}
use Prim.Native.Nat.{ℕ, ◌+◌}
use mathlib.Core.List.{List}
use native.Mathlib.Omega.{arith}
use lib.IntN.{ℤ}
use lib.ListN.{length}
use Rattle.definitions.specs.TranslationNodes.{translation_node_of}
use Rattle.definitions.specs.Rule.{Ending, Reached, visited}
use Rattle.definitions.specs.PlainCells.{PlainCell, by_plain_cells}
use Rattle.rule_laws.specs.Derivations.{Trace, depth_of, steps_of, cells_of, Derivation}
use Rattle.rule_laws.specs.Reads.{state_of, Arrives}
use Rattle.cell_rules.proofs.PlainReads.{plain_reads, standing, shows_one}
use Rattle.cell_rules.proofs.LabelsToPlain.{follows}

module _ {t : List ℕ} {rs : List ℤ} (k : ℕ) {ws : List ℕ} {a d : Trace} {e e' : Ending (List ℕ)}
    (v : Derivation t rs (translation_node_of t k) k ws a e) (u : Derivation t rs (translation_node_of t k) k ws d e') where
  -- allowances that have room for both, and the visit of a cell that follows both at these
  abbrev nesting : ℕ
  nesting = depth_of a + depth_of d

  abbrev left : ℕ
  left = steps_of a + steps_of d

  abbrev cells_allowed : ℕ
  cells_allowed = length (standing ws).store + (cells_of a + cells_of d)

  abbrev both : Reached ℕ (List PlainCell)
  both = visited (by_plain_cells t cells_allowed) t rs nesting k (standing ws).cell (state_of left (standing ws).store)

  first : Arrives (plain_reads t cells_allowed) nesting (state_of left (standing ws).store) a e both
  first = follows t rs cells_allowed nesting left k (standing ws).cell v (standing ws).stands (record { depth = omega arith; steps = omega arith; cells = omega arith })

  second : Arrives (plain_reads t cells_allowed) nesting (state_of left (standing ws).store) d e' both
  second = follows t rs cells_allowed nesting left k (standing ws).cell u (standing ws).stands (record { depth = omega arith; steps = omega arith; cells = omega arith })

  -- two endings of one visit are equal
  pub visits_one : e ≡ e'
  visits_one = shows_one first.shows second.shows

  -- and their steps are as many
  pub steps_one : steps_of a ≡ steps_of d
  steps_one = omega (arith, first.went.steps, second.went.steps)
