-- Runs in turn in one buffer keep its length; and where the first could not be refused, none is, and each is the rule's.
use mathlib.Core.Path.{◌≡◌, refl, ◌∙◌}
use Prim.Native.Nat.{ℕ, zero, suc, ◌<◌}
use mathlib.Core.List.{List}
use mathlib.Core.Bool.{true}
use native.Mathlib.Omega.{arith}
use lib.IntN.{ℤ}
use lib.ListN.{length}
use borrow.Author.Tests.{eq-eqb}
use Rattle.definitions.specs.Numbers.{bad_allowance}
use Rattle.definitions.specs.Layouts.{readings}
use Rattle.definitions.specs.Verdicts.{◌and_then◌, require}
use Rattle.definitions.specs.Checks.{translation_verdict}
use Rattle.definitions.specs.Run.{allowances_fit, run_verdict, rule_answer, rule_cells, answer_after, bytes_after, run_answer, run_cells}
use Rattle.definitions.specs.RunsInTurn.{cells_in_turn, answer_in_turn}
use Rattle.definitions.specs.Verdict.{Verdict, Accepted, Refused}
use Rattle.laws.proofs.Verdicts.{both_accepted, required}
use Rattle.laws.proofs.CellBytes.{over_size}
use Rattle.agreement.proofs.KnownEnds.{rule_cells_allowed, rule_cells_full}
use Rattle.allowances.proofs.Limits.{fitting}

-- a run keeps the number of lent bytes
module _ (b : List ℕ) (rs : List ℤ) (steps nesting cells_allowed : ℕ) (before : List ℕ) where
  kept_by : (v : Verdict) → run_verdict b rs nesting cells_allowed (length before) ≡ v
      → length (bytes_after v before (rule_cells b rs steps nesting cells_allowed before)) ≡ length before
  unfolding bytes_after rule_cells run_verdict
  kept_by (Refused n p) e = refl
  kept_by Accepted e =
      let fit = fitting nesting cells_allowed (length before) _ refl (required _ bad_allowance 0 (both_accepted _ _ e).1) in
      over_size before _ (rule_cells_full b rs cells_allowed steps nesting) (omega (arith, rule_cells_allowed b rs cells_allowed steps nesting, fit.lends))

  cells_kept : length (run_cells b rs steps nesting cells_allowed before) ≡ length before
  unfolding run_cells
  cells_kept = kept_by _ refl

module _ (b : List ℕ) (row : ℕ → List ℤ) (steps nesting cells_allowed : ℕ) (before : List ℕ) where
  pub turn_kept : (n : ℕ) → length (cells_in_turn b row steps nesting cells_allowed n before) ≡ length before
  unfolding cells_in_turn
  turn_kept zero = refl
  turn_kept (suc n) = cells_kept b (row n) steps nesting cells_allowed _ ∙ turn_kept n

  -- whoever makes the runs one by one, each in the cells that the run before it left
  pub single_cells : (cells : ℕ → List ℕ) → cells 0 ≡ before → (n : ℕ) → ((i : ℕ) → i < n → cells (suc i) ≡ run_cells b (row i) steps nesting cells_allowed (cells i))
      → cells n ≡ cells_in_turn b row steps nesting cells_allowed n before
  unfolding cells_in_turn
  single_cells cells first zero each = first
  single_cells cells first (suc n) each = each n (omega arith) ∙ rw (single_cells cells first n (λ i h. each i (omega (arith, h)))) refl

  -- run i, on as many readings as an accepted file asks for, with allowances that fit
  module _ (accepted : translation_verdict b ≡ Accepted) (fit : allowances_fit nesting cells_allowed (length before) ≡ true) (i : ℕ) (asked : length (row i) ≡ readings b) where
    turn_accepted : run_verdict b (row i) nesting cells_allowed (length (cells_in_turn b row steps nesting cells_allowed i before)) ≡ Accepted
    unfolding run_verdict ◌and_then◌ require
    turn_accepted = rw (accepted, eq-eqb (length (row i)) (readings b) asked, turn_kept i, fit) refl

    pub turn_answer : answer_in_turn b row steps nesting cells_allowed i before ≡ rule_answer b (row i) steps nesting cells_allowed
    unfolding answer_in_turn run_answer answer_after
    turn_answer = rw turn_accepted refl

    pub turn_cells : cells_in_turn b row steps nesting cells_allowed (suc i) before
        ≡ rule_cells b (row i) steps nesting cells_allowed (cells_in_turn b row steps nesting cells_allowed i before)
    unfolding cells_in_turn run_cells bytes_after
    turn_cells = rw turn_accepted refl
