-- A run that gives cells back has the outcomes of the rule that gives none back, in as many steps and with no more cells, wherever one of
-- the two is not stopped for cells. Of any translation file.
use mathlib.Core.Path.{◌≡◌, refl, ap, ◌∙◌}
use Prim.Native.Nat.{ℕ, suc, ◌+◌, ◌-◌}
use mathlib.Core.List.{List}
use lib.IntN.{ℤ}
use Rattle.definitions.specs.Numbers.{no_cell}
use Rattle.definitions.specs.Outcomes.{Outcome, end_outcome}
use Rattle.definitions.specs.Rule.{Ending, ended, Reached}
use Rattle.definitions.specs.Cells.{Cell}
use Rattle.definitions.specs.LiveCells.{LiveCells}
use Rattle.definitions.specs.Run.{ending_outcome, answer_at, reached_answer, rule_end, rule_answer, kept_end, kept_answer}
use Rattle.given_back.specs.SerialCells.{SerialCells}
use Rattle.given_back.specs.SameEnds.{SameEnd}
use Rattle.given_back.specs.KeptEnds.{KeptEnd, NoMoreCells, SameButCells}
use Rattle.given_back.proofs.Evaluations.{rule_serial}
use Rattle.given_back.proofs.Kept.{kept_serial, serial_kept}

-- the outcome of an ending for want of a cell
full_outcome : (b : List ℕ) {e : Ending ℕ} → e ≡ ended no_cell → (ending_outcome b e).outcome ≡ no_cell
unfolding ending_outcome end_outcome
full_outcome b h = rw h refl

through : {b : List ℕ} {r : Reached ℕ LiveCells} {q : Reached ℕ SerialCells} {k : Reached ℕ (List Cell)} → SameEnd b r q → KeptEnd q k → NoMoreCells b r k
through {b} s k = record { outcome = s.outcome ∙ ap (ending_outcome b) k.ending; left = s.left ∙ k.left; cells = rw (← k.cells) s.few }

module _ (b : List ℕ) (rs : List ℤ) (steps nesting cells_allowed : ℕ) where
  -- where the rule that gives no cell back is not stopped for cells, the run ends the same
  pub kept_rule : ((ending_outcome b (kept_end b rs steps nesting cells_allowed).ending).outcome ≡ no_cell → ⊥)
      → NoMoreCells b (rule_end b rs steps nesting cells_allowed) (kept_end b rs steps nesting cells_allowed)
  kept_rule h = through (rule_serial b rs steps nesting cells_allowed) (kept_serial b rs steps nesting cells_allowed (λ e. h (full_outcome b e)))

  -- where the run is not, that rule ends the same with cells enough
  pub rule_kept : ((ending_outcome b (rule_end b rs steps nesting cells_allowed).ending).outcome ≡ no_cell → ⊥)
      → NoMoreCells b (rule_end b rs steps nesting cells_allowed) (kept_end b rs steps nesting (suc (cells_allowed + steps)))
  rule_kept h =
      let s = rule_serial b rs steps nesting cells_allowed in
      through s (serial_kept b rs steps nesting cells_allowed (λ e. h (ap (λ (o : Outcome). o.outcome) s.outcome ∙ full_outcome b e)))

  -- so of the answers
  pub kept_answers : ((kept_answer b rs steps nesting cells_allowed).outcome ≡ no_cell → ⊥)
      → SameButCells (kept_answer b rs steps nesting cells_allowed) (rule_answer b rs steps nesting cells_allowed)
  unfolding kept_answer rule_answer reached_answer answer_at
  kept_answers h =
      let k = kept_rule h in
      record {
        outcome = ap (λ (o : Outcome). o.outcome) k.outcome;
        value = ap (λ (o : Outcome). o.value) k.outcome;
        steps = ap (λ (n : ℕ). steps - n) k.left;
        cells = k.cells;
      }
