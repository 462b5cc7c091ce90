-- The whole evaluation, from no cells, against derivations, by the rule that remembers and by the one without: each is sound and complete,
-- so they give the same outcomes and values, and the one that remembers takes no more steps.
use mathlib.Core.Path.{◌≡◌, refl, sym, ap, ◌∙◌}
use mathlib.Core.Logic.{◌↔◌}
use Prim.Native.Nat.{ℕ, ◌-◌, ◌≤◌}
use mathlib.Core.List.{List, []}
use mathlib.Core.Bool.{false}
use native.Mathlib.Omega.{arith}
use lib.IntN.{ℤ}
use Rattle.definitions.specs.Numbers.{is_stop}
use Rattle.definitions.specs.Ranges as Ranges
use Rattle.definitions.specs.Layouts.{body_of}
use Rattle.definitions.specs.Outcomes.{Outcome, number_outcome, constructor_outcome, end_outcome}
use Rattle.definitions.specs.TranslationNodes.{translation_node_of}
use Rattle.definitions.specs.Rule.{Ending, value, ended, integer, constructor}
use Rattle.definitions.specs.PlainCells.{plain_evaluation}
use Rattle.definitions.specs.Cells.{evaluation}
use Rattle.definitions.specs.Run.{ending_outcome}
use Rattle.definitions.specs.declared.Layout.TheVariants.{Translation}
use Rattle.rule_laws.specs.Derivations.{Trace, depth_of, steps_of, cells_of, Derivation}
use Rattle.rule_laws.specs.Reads.{state_of, Shows, an_integer, a_constructor, an_end, Arrives}
use Rattle.rule_laws.specs.Found.{stopped, Found}
use Rattle.cell_rules.specs.Contexts.{outermost}
use Rattle.cell_rules.specs.Gives.{Gives}
use Rattle.cell_rules.proofs.InOrder.{order_none}
use Rattle.cell_rules.proofs.PlainReads.{plain_reads}
use Rattle.cell_rules.proofs.CellReads.{cell_reads}
use Rattle.cell_rules.proofs.Unique.{steps_one}
use Rattle.cell_rules.proofs.PlainToLabels as PlainToLabels
use Rattle.cell_rules.proofs.LabelsToPlain as LabelsToPlain
use Rattle.cell_rules.proofs.CellsToLabels as CellsToLabels
use Rattle.cell_rules.proofs.LabelsToCells as LabelsToCells

-- two endings over cells that are one over labels
pub same_shown : (t : List ℕ) {A B : ℕ → ℕ → List ℕ → Type 0} {x y : Ending ℕ} {e : Ending (List ℕ)} → Shows A x e → Shows B y e
    → ending_outcome t x ≡ ending_outcome t y
unfolding ending_outcome
same_shown t an_integer an_integer = refl
same_shown t (a_constructor s) (a_constructor r) = refl
same_shown t an_end an_end = refl

-- an ending is stopped when its outcome is a stop's
pub stop_shown : (t : List ℕ) (x : Ending ℕ) → is_stop (ending_outcome t x).outcome ≡ stopped x
unfolding ending_outcome number_outcome constructor_outcome end_outcome is_stop Ranges.within
stop_shown t (value (integer z)) = refl
stop_shown t (value (constructor k w)) = refl
stop_shown t (ended n) = refl

module _ (t : List ℕ) (rs : List ℤ) where
  -- an evaluation that is not stopped has a derivation at function 0's body, under no label
  pub evaluation_found : (steps nesting cells_allowed : ℕ) → stopped (evaluation t rs steps nesting cells_allowed).ending ≡ false
      → Found (cell_reads t rs) rs (translation_node_of t (body_of Translation t 0)) (body_of Translation t 0) [] nesting (state_of steps []) (evaluation t rs steps nesting cells_allowed)
  unfolding evaluation
  evaluation_found steps nesting cells_allowed h =
      (CellsToLabels.finds_all t rs cells_allowed nesting).finds (body_of Translation t 0) 0 (state_of steps []) (record { stands = outermost; order = order_none t rs }) h

  pub plain_found : (steps nesting cells_allowed : ℕ) → stopped (plain_evaluation t rs steps nesting cells_allowed).ending ≡ false
      → Found (plain_reads t cells_allowed) rs (translation_node_of t (body_of Translation t 0)) (body_of Translation t 0) [] nesting (state_of steps []) (plain_evaluation t rs steps nesting cells_allowed)
  unfolding plain_evaluation
  plain_found steps nesting cells_allowed h =
      (PlainToLabels.finds_all t rs cells_allowed nesting).finds (body_of Translation t 0) 0 (state_of steps []) (record { stands = outermost; room = omega arith }) h

  -- a derivation there is reached at allowances that have room for its trace
  module _ {a : Trace} {e : Ending (List ℕ)} (v : Derivation t rs (translation_node_of t (body_of Translation t 0)) (body_of Translation t 0) [] a e)
      (steps nesting cells_allowed : ℕ) (enough : steps_of a ≤ steps) (deep : depth_of a ≤ nesting) (room : cells_of a ≤ cells_allowed) where
    pub evaluation_reached : Arrives (cell_reads t rs) nesting (state_of steps []) a e (evaluation t rs steps nesting cells_allowed)
    unfolding evaluation
    evaluation_reached =
        LabelsToCells.follows t rs cells_allowed nesting steps (body_of Translation t 0) 0 v (record { stands = outermost; order = order_none t rs })
        (record { depth = deep; steps = enough; cells = omega arith })

    pub plain_reached : Arrives (plain_reads t cells_allowed) nesting (state_of steps []) a e (plain_evaluation t rs steps nesting cells_allowed)
    unfolding plain_evaluation
    plain_reached =
        LabelsToPlain.follows t rs cells_allowed nesting steps (body_of Translation t 0) 0 v outermost (record { depth = deep; steps = enough; cells = omega arith })

  -- both rules give the same outcomes and values, stops apart
  abbrev outcome_of : ℕ → ℕ → ℕ → Outcome
  outcome_of steps nesting cells_allowed = ending_outcome t (evaluation t rs steps nesting cells_allowed).ending

  abbrev plain_outcome_of : ℕ → ℕ → ℕ → Outcome
  plain_outcome_of steps nesting cells_allowed = ending_outcome t (plain_evaluation t rs steps nesting cells_allowed).ending

  not_stopped : {a : Outcome} (d : Ending ℕ) → is_stop a.outcome ≡ false → ending_outcome t d ≡ a → stopped d ≡ false
  not_stopped d h e = sym (stop_shown t d) ∙ ap (λ (o : Outcome). is_stop o.outcome) e ∙ h

  remembering_gives : {a : Outcome} → is_stop a.outcome ≡ false → Gives plain_outcome_of a → Gives outcome_of a
  remembering_gives h g =
      let f = (plain_found g.steps g.nesting g.cells_allowed (not_stopped _ h g.gives)).comes in
      let a = f.trace in
      record {
        steps = steps_of a;
        nesting = depth_of a;
        cells_allowed = cells_of a;
        gives = same_shown t (evaluation_reached f.visits (steps_of a) (depth_of a) (cells_of a) (omega arith) (omega arith) (omega arith)).shows f.arrives.shows ∙ g.gives;
      }

  plain_gives : {a : Outcome} → is_stop a.outcome ≡ false → Gives outcome_of a → Gives plain_outcome_of a
  plain_gives h g =
      let f = (evaluation_found g.steps g.nesting g.cells_allowed (not_stopped _ h g.gives)).comes in
      let a = f.trace in
      record {
        steps = steps_of a;
        nesting = depth_of a;
        cells_allowed = cells_of a;
        gives = same_shown t (plain_reached f.visits (steps_of a) (depth_of a) (cells_of a) (omega arith) (omega arith) (omega arith)).shows f.arrives.shows ∙ g.gives;
      }

  pub same_outcomes : {a : Outcome} → is_stop a.outcome ≡ false → Gives outcome_of a ↔ Gives plain_outcome_of a
  same_outcomes h = (plain_gives h, remembering_gives h)

  -- an evaluation that is not stopped takes no more steps than the rule without remembering, wherever that is not stopped
  pub no_more_steps : (steps nesting cells_allowed steps' nesting' cells_allowed' : ℕ)
      → stopped (evaluation t rs steps nesting cells_allowed).ending ≡ false
      → stopped (plain_evaluation t rs steps' nesting' cells_allowed').ending ≡ false
      → steps - (evaluation t rs steps nesting cells_allowed).state.left ≤ steps' - (plain_evaluation t rs steps' nesting' cells_allowed').state.left
  no_more_steps steps nesting cells_allowed steps' nesting' cells_allowed' h g =
      let f = (evaluation_found steps nesting cells_allowed h).comes in
      let p = (plain_found steps' nesting' cells_allowed' g).comes in
      omega (arith, steps_one (body_of Translation t 0) f.visits p.visits, f.arrives.went.steps, p.arrives.went.steps)
