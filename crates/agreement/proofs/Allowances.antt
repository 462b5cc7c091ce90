-- The rule at its allowances: an outcome that is no stop stays at all larger ones, and the rule without remembering has it in no fewer
-- steps; with a label for each call it is the sheet's own, and the sheet's own is reached. The last two stand first for visits by the rule that
-- gives no cell back, from any state whose cells are in order, then for the whole evaluation.
use mathlib.Core.Path.{◌≡◌, refl, sym, ap, ◌∙◌}
use mathlib.Core.Logic.{◌↔◌}
use Prim.Native.Nat.{ℕ, suc, ◌+◌, ◌-◌, ◌≤◌}
use mathlib.Core.List.{List, []}
use mathlib.Core.Bool.{false, true≢false}
use native.Mathlib.Omega.{arith}
use lib.IntN.{ℤ}
use Rattle.definitions.specs.Numbers.{no_cell, is_stop}
use Rattle.definitions.specs.Ranges.{within}
use Rattle.definitions.specs.Layouts.{body_of}
use Rattle.definitions.specs.SheetNodes.{sheet_node_of}
use Rattle.definitions.specs.Outcomes.{Outcome}
use Rattle.definitions.specs.Checks.{sheet_verdict}
use Rattle.definitions.specs.Labels.{never_shared}
use Rattle.definitions.specs.Translate.{unshared_translation}
use Rattle.definitions.specs.Rule.{Reached, visited}
use Rattle.definitions.specs.PlainCells.{plain_evaluation}
use Rattle.definitions.specs.Cells.{Cell, by_cells, evaluation}
use Rattle.definitions.specs.LiveCells.{LiveCells}
use Rattle.definitions.specs.Run.{ending_outcome, rule_end, kept_end}
use Rattle.agreement.specs.Meaning.{Setting, End, Means, outcome_of, OwnAnswer}
use Rattle.definitions.specs.declared.Layout.TheVariants.{Sheet, Translation}
use Rattle.definitions.specs.Verdict.{Accepted}
use Rattle.laws.proofs.Classes.{answer_no_stop}
use Rattle.accepted.proofs.Head.{functions_least}
use Rattle.accepted.proofs.Checks.{sheet_shape}
use Rattle.readback.proofs.Nodes.{body_read}
use Rattle.rule_laws.specs.Reads.{state_of}
use Rattle.rule_laws.specs.Found.{stopped}
use Rattle.rule_laws.specs.Reached.{Allowed}
use Rattle.cell_rules.specs.Gives.{Gives}
use Rattle.cell_rules.specs.Contexts.{outermost}
use Rattle.cell_rules.specs.InOrder.{StandsInOrder}
use Rattle.cell_rules.proofs.InOrder.{order_none}
use Rattle.cell_rules.proofs.CellReads.{cell_reads}
use Rattle.cell_rules.proofs.CellsToLabels.{finds_all}
use Rattle.cell_rules.proofs.LabelsToCells.{follows}
use Rattle.cell_rules.proofs.Stays.{rule_end_stays}
use Rattle.cell_rules.proofs.Evaluations.{stop_shown, same_outcomes, no_more_steps}
use Rattle.given_back.specs.KeptEnds.{NoMoreCells}
use Rattle.given_back.proofs.KeptAnswers.{kept_rule, rule_kept}
use Rattle.agreement.specs.Answers.{rule_outcome, plain_outcome, RuleGives, PlainGives}
use Rattle.rule_laws.specs.Derivations.{depth_of, steps_of, cells_of}
use Rattle.agreement.specs.Corresponds.{At, Visited}
use Rattle.agreement.proofs.Corresponds.{start_at}
use Rattle.agreement.proofs.Becomes.{becomes}
use Rattle.agreement.proofs.Sound.{sound}
use Rattle.agreement.proofs.Complete.{complete}
use Rattle.agreement.proofs.Outcomes.{same_meant, own_answer_law}

-- the visit of node k under cell w, at a nesting and a cell allowance, from so many steps left and these cells
abbrev pub visit_of : List ℕ → List ℤ → ℕ → ℕ → ℕ → List Cell → ℕ → ℕ → Reached ℕ (List Cell)
visit_of t rs nesting cells_allowed left store k w = visited (by_cells t cells_allowed) t rs nesting k w (state_of left store)

-- the outcome of the rule that gives no cell back
abbrev kept_outcome : List ℕ → List ℤ → ℕ → ℕ → ℕ → Outcome
kept_outcome t rs steps nesting cells_allowed = ending_outcome t (kept_end t rs steps nesting cells_allowed).ending

-- no stop, so not stopped for cells
no_stop : (n : ℕ) → is_stop n ≡ false → n ≡ no_cell → ⊥
unfolding is_stop within
no_stop n h e = true≢false (rw e at h)

module _ (t : List ℕ) (rs : List ℤ) where
  -- an outcome that is no stop stays at all allowances each at least as large, of any translation file
  pub rule_stays : (steps nesting cells_allowed steps' nesting' cells_allowed' : ℕ) → steps ≤ steps' → nesting ≤ nesting' → cells_allowed ≤ cells_allowed'
      → is_stop (rule_outcome t rs steps nesting cells_allowed).outcome ≡ false
      → rule_outcome t rs steps' nesting' cells_allowed' ≡ rule_outcome t rs steps nesting cells_allowed
  unfolding rule_outcome
  rule_stays steps nesting cells_allowed steps' nesting' cells_allowed' a b c h =
      ap (λ (r : Reached ℕ LiveCells). ending_outcome t r.ending) (rule_end_stays t rs b c steps steps' a (sym (stop_shown t _) ∙ h))

  -- it is that of the rule that gives no cell back, with cells enough, and the other way round
  rule_is_kept : (steps nesting cells_allowed : ℕ) → is_stop (rule_outcome t rs steps nesting cells_allowed).outcome ≡ false
      → NoMoreCells t (rule_end t rs steps nesting cells_allowed) (kept_end t rs steps nesting (suc (cells_allowed + steps)))
  unfolding rule_outcome
  rule_is_kept steps nesting cells_allowed h = rule_kept t rs steps nesting cells_allowed (no_stop _ h)

  kept_is_rule : (steps nesting cells_allowed : ℕ) → is_stop (kept_outcome t rs steps nesting cells_allowed).outcome ≡ false
      → rule_outcome t rs steps nesting cells_allowed ≡ kept_outcome t rs steps nesting cells_allowed
  unfolding rule_outcome
  kept_is_rule steps nesting cells_allowed h = (kept_rule t rs steps nesting cells_allowed (no_stop _ h)).outcome

  rule_gives_kept : {a : Outcome} → is_stop a.outcome ≡ false → RuleGives t rs a → Gives (kept_outcome t rs) a
  unfolding rule_outcome
  rule_gives_kept h g =
      record {
        steps = g.steps;
        nesting = g.nesting;
        cells_allowed = suc (g.cells_allowed + g.steps);
        gives = sym (rule_is_kept g.steps g.nesting g.cells_allowed (ap (λ (o : Outcome). is_stop o.outcome) g.gives ∙ h)).outcome ∙ g.gives;
      }

  kept_gives_rule : {a : Outcome} → is_stop a.outcome ≡ false → Gives (kept_outcome t rs) a → RuleGives t rs a
  kept_gives_rule h g =
      record {
        steps = g.steps;
        nesting = g.nesting;
        cells_allowed = g.cells_allowed;
        gives = kept_is_rule g.steps g.nesting g.cells_allowed (ap (λ (o : Outcome). is_stop o.outcome) g.gives ∙ h) ∙ g.gives;
      }

  -- and the rule without remembering gives it too, at some allowances, and none besides
  pub plain_gives_same : {a : Outcome} → is_stop a.outcome ≡ false → RuleGives t rs a ↔ PlainGives t rs a
  unfolding kept_end plain_outcome
  plain_gives_same h = (λ g. (same_outcomes t rs h).0 (rule_gives_kept h g), λ g. kept_gives_rule h ((same_outcomes t rs h).1 g))

  -- in no fewer steps
  pub rule_no_more_steps : (steps nesting cells_allowed steps' nesting' cells_allowed' : ℕ) → is_stop (rule_outcome t rs steps nesting cells_allowed).outcome ≡ false
      → is_stop (plain_outcome t rs steps' nesting' cells_allowed').outcome ≡ false
      → steps - (rule_end t rs steps nesting cells_allowed).state.left ≤ steps' - (plain_evaluation t rs steps' nesting' cells_allowed').state.left
  unfolding rule_outcome kept_end plain_outcome
  rule_no_more_steps steps nesting cells_allowed steps' nesting' cells_allowed' h g =
      let k = rule_is_kept steps nesting cells_allowed h in
      let e = ap (λ (o : Outcome). is_stop o.outcome) k.outcome in
      rw k.left
      (no_more_steps t rs steps nesting (suc (cells_allowed + steps)) steps' nesting' cells_allowed' (sym (stop_shown t _) ∙ sym e ∙ h) (sym (stop_shown t _) ∙ g))

-- a node's meaning with this outcome
pub record MeansOutcome (b : List ℕ) (rs : List ℤ) (k : ℕ) (s : Setting) (a : Outcome) : Type 0 where
  pub end : End
  pub means : Means b rs (sheet_node_of b k) s end
  pub agrees : outcome_of end ≡ a

-- allowances from which on the rule has this outcome
pub record Reaches (t : List ℕ) (rs : List ℤ) (a : Outcome) : Type 0 where
  pub steps : ℕ
  pub nesting : ℕ
  pub cells_allowed : ℕ
  pub gives : (steps' nesting' cells_allowed' : ℕ) → steps ≤ steps' → nesting ≤ nesting' → cells_allowed ≤ cells_allowed'
      → rule_outcome t rs steps' nesting' cells_allowed' ≡ a

module _ (b : List ℕ) (accepted : sheet_verdict b ≡ Accepted) (rs : List ℤ) where
  -- an outcome that is no stop is the sheet's own
  pub visit_sound : (left nesting cells_allowed k w : ℕ) {store : List Cell} {ws : List ℕ} {s : Setting} → StandsInOrder (unshared_translation b) rs store w ws → At b rs k ws s
      → stopped (visit_of (unshared_translation b) rs nesting cells_allowed left store k w).ending ≡ false
      → MeansOutcome b rs k s (ending_outcome (unshared_translation b) (visit_of (unshared_translation b) rs nesting cells_allowed left store k w).ending)
  visit_sound left nesting cells_allowed k w {store} s a h =
      let f = ((finds_all (unshared_translation b) rs cells_allowed nesting).finds k w (state_of left store) s h).comes in
      let m = sound b accepted f.visits (becomes b accepted k a.below) refl a in
      record { end = m.end; means = m.means; agrees = sym (same_meant accepted f.arrives.shows m.agrees) }

  -- evaluation starts with no cells, at the sheet's body
  no_cells : StandsInOrder (unshared_translation b) rs [] 0 []
  no_cells = record { stands = outermost; order = order_none (unshared_translation b) rs }

  start_read : body_of Translation (unshared_translation b) 0 ≡ body_of Sheet b 0
  unfolding unshared_translation
  start_read = body_read never_shared b accepted 0 (functions_least Sheet b (sheet_shape b accepted))

  -- the whole evaluation as a visit of the sheet's own body
  kept_start : (steps nesting cells_allowed : ℕ)
      → kept_outcome (unshared_translation b) rs steps nesting cells_allowed
      ≡ ending_outcome (unshared_translation b) (visit_of (unshared_translation b) rs nesting cells_allowed steps [] (body_of Sheet b 0) 0).ending
  unfolding kept_end evaluation
  kept_start steps nesting cells_allowed = rw start_read refl

  kept_sound : (steps nesting cells_allowed : ℕ) → is_stop (kept_outcome (unshared_translation b) rs steps nesting cells_allowed).outcome ≡ false
      → OwnAnswer b rs (kept_outcome (unshared_translation b) rs steps nesting cells_allowed)
  kept_sound steps nesting cells_allowed h =
      let p = kept_start steps nesting cells_allowed in
      let r = visit_of (unshared_translation b) rs nesting cells_allowed steps [] (body_of Sheet b 0) 0 in
      let q = sym (stop_shown (unshared_translation b) r.ending) ∙ (rw p at h) in
      let m = visit_sound steps nesting cells_allowed (body_of Sheet b 0) 0 no_cells (start_at b accepted) q in
      record { end = m.end; means = m.means; agrees = m.agrees ∙ sym p }

  pub rule_sound : (steps nesting cells_allowed : ℕ) → is_stop (rule_outcome (unshared_translation b) rs steps nesting cells_allowed).outcome ≡ false
      → OwnAnswer b rs (rule_outcome (unshared_translation b) rs steps nesting cells_allowed)
  unfolding rule_outcome
  rule_sound steps nesting cells_allowed h =
      let k = (rule_is_kept (unshared_translation b) rs steps nesting cells_allowed h).outcome in
      let m = kept_sound steps nesting (suc (cells_allowed + steps)) (ap (λ (o : Outcome). is_stop o.outcome) (sym k) ∙ h) in
      record { end = m.end; means = m.means; agrees = m.agrees ∙ sym k }

  -- the sheet's own outcome is reached, and had from there on
  pub visit_complete : (left nesting cells_allowed k w : ℕ) {store : List Cell} {ws : List ℕ} {d : End} (v : Visited b rs k ws d) → StandsInOrder (unshared_translation b) rs store w ws
      → Allowed (cell_reads (unshared_translation b) rs) cells_allowed v.trace nesting (state_of left store)
      → ending_outcome (unshared_translation b) (visit_of (unshared_translation b) rs nesting cells_allowed left store k w).ending ≡ outcome_of d
  visit_complete left nesting cells_allowed k w v s p =
      same_meant accepted (follows (unshared_translation b) rs cells_allowed nesting left k w v.visits s p).shows v.agrees

  pub rule_complete : {a : Outcome} → OwnAnswer b rs a → Reaches (unshared_translation b) rs a
  rule_complete o =
      let v = complete b accepted o.means (body_of Sheet b 0) refl (start_at b accepted) in
      record {
        steps = steps_of v.trace;
        nesting = depth_of v.trace;
        cells_allowed = cells_of v.trace;
        gives = λ steps nesting cells_allowed p q r.
            let e = kept_start steps nesting cells_allowed
            ∙ visit_complete steps nesting cells_allowed (body_of Sheet b 0) 0 v no_cells (record { depth = q; steps = p; cells = omega arith })
            ∙ o.agrees in
            kept_is_rule (unshared_translation b) rs steps nesting cells_allowed (ap (λ (o : Outcome). is_stop o.outcome) e ∙ answer_no_stop _ (own_answer_law o)) ∙ e;
      }
