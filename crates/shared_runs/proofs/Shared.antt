-- "Outcome, value, steps and number of cells of any sheet's run are those of the old labelling" (document 02, request 4).
use mathlib.Core.Path.{◌≡◌, refl, ap, ◌∙◌}
use Prim.Native.Nat.{ℕ, ◌-◌, ◌<◌}
use mathlib.Core.List.{List}
use mathlib.Core.Option.{some}
use mathlib.Core.Bool.{false≢true}
use native.Mathlib.Omega.{arith}
use lib.IntN.{ℤ}
use Rattle.definitions.specs.Layouts.{readings, nodes, node_record, body_of}
use Rattle.definitions.specs.References.{parameters}
use Rattle.definitions.specs.NodeFields.{fields_from}
use Rattle.definitions.specs.SheetNodes.{call, sheet_node_of}
use Rattle.definitions.specs.Checks.{sheet_verdict}
use Rattle.definitions.specs.Trees.{deepest, equal_trees}
use Rattle.definitions.specs.Labels.{Labelling, never_shared, first_call, label_of}
use Rattle.definitions.specs.Translate.{translation_by, translation, unshared_translation}
use Rattle.definitions.specs.Outcomes.{Outcome}
use Rattle.definitions.specs.Rule.{Reached}
use Rattle.definitions.specs.LiveCells.{LiveCells}
use Rattle.definitions.specs.Run.{ending_outcome, answer_at, reached_answer, rule_end, rule_answer, run_verdict, answer_after, run_answer}
use Rattle.definitions.specs.declared.Layout.TheVariants.{Sheet}
use Rattle.definitions.specs.Verdict.{Verdict, Accepted, Refused}
use Rattle.accepted.proofs.Elements.{element_there}
use Rattle.accepted.proofs.Children.{argument_found}
use Rattle.accepted.proofs.Checks.{sheet_shape}
use Rattle.accepted.proofs.Owners.{body_below}
use Rattle.accepted.proofs.Names.{call_below, call_count}
use Rattle.readback.proofs.Labels.{calls_node, call_passes}
use Rattle.readback.proofs.FirstCalls.{FirstOf, itself, earlier, first_limit, first_of, first_calls, listed_argument}
use Rattle.readback.proofs.Nodes.{parameter_count_read, body_read, node_becomes, tag_read, tuple_fields_read, actual_read}
use Rattle.readback.proofs.Records.{translation_readings, translation_functions}
use Rattle.readback.proofs.Accepted.{translation_accepted_law}
use Rattle.trees.proofs.Equal.{equal_swap, equal_then}
use Rattle.shared_runs.specs.Reads.{EqualTrees, AlikeSheets, Named, Reads, SharesEqual}
use Rattle.shared_runs.specs.SameRuns.{SameEnds, SameRuns, SameAnswers}
use Rattle.shared_runs.proofs.SameTrees.{trees_itself}
use Rattle.shared_runs.proofs.Runs.{runs_alike}

-- the two labellings
pub never_shares : (b : List ℕ) → SharesEqual never_shared b
unfolding never_shared
never_shares b = record { swap = λ k m e. e; onward = λ k m n e f. e; equal = λ k m e. absurd (false≢true e) }

pub equal_shares : (b : List ℕ) → SharesEqual (equal_trees b) b
unfolding equal_trees
equal_shares b = record { swap = equal_swap b; onward = equal_then b; equal = λ k m e. record { depth = deepest b; equal = e } }

module _ (same : Labelling) (b : List ℕ) (accepted : sheet_verdict b ≡ Accepted) (shares : SharesEqual same b) where
  first_equal : {f k m : ℕ} → k < nodes b → FirstOf same b f k m → EqualTrees b b k m
  first_equal {k} h itself = trees_itself b accepted k h
  first_equal {k} {m} h (earlier l e) = shares.equal k m (shares.swap m k e.is_same)

  label_names : (f k i : ℕ) {ns : List ℕ} → k < nodes b → sheet_node_of b k ≡ call f ns → i < parameters b f
      → Named b (translation_by same b) f k i (label_of same b f k)
  label_names f k i h e g =
      let c = call_passes b accepted f k h e in
      let m = first_call same b f k in
      let n : m < nodes b = omega (arith, h, first_limit same b f k) in
      let q = calls_node b f m (first_calls same b f k c) in
      let x = element_there (fields_from (node_record b m) 1) i (rw (call_count b accepted m n q) g) in
      let y = argument_found (node_record b m) i x.there in
      record {
        first = m;
        below = n;
        arguments = fields_from (node_record b m) 1;
        is = q;
        equal = first_equal h (first_of same b f k);
        node = x.element;
        there = x.there;
        listed = actual_read same b accepted f i (label_of same b f k) (call_below b accepted k h e) g
            ∙ listed_argument same shares.swap shares.onward b f k i h c ∙ ap some y.is;
      }

  -- a translation reads as itself
  pub translation_reads : Reads same b (translation_by same b)
  translation_reads =
      record {
        becomes = node_becomes same b accepted;
        count = translation_functions same b accepted;
        body = body_read same b accepted;
        takes = parameter_count_read same b accepted;
        names = label_names;
        tag = λ k h e. tag_read same b accepted k h e;
        fields = λ k h e. tuple_fields_read same b accepted k h e;
      }

-- answers of ends that are the same, after one verdict
pub answers_by : {t u : List ℕ} {r q : Reached ℕ LiveCells} (steps : ℕ) (v : Verdict) → SameEnds t u r q
    → SameAnswers (answer_after v (reached_answer t steps r)) (answer_after v (reached_answer u steps q))
unfolding answer_after reached_answer answer_at
answers_by steps Accepted s =
    record {
      outcome = ap (λ (o : Outcome). o.outcome) s.outcome;
      value = ap (λ (o : Outcome). o.value) s.outcome;
      steps = ap (λ (n : ℕ). steps - n) s.left;
      cells = s.cells;
    }
answers_by steps (Refused n p) s = record { outcome = refl; value = refl; steps = refl; cells = refl }

-- the rule over translations of alike sheets, by any two labellings that share equal trees only
module _ {same same' : Labelling} {a b : List ℕ} (first : sheet_verdict a ≡ Accepted) (second : sheet_verdict b ≡ Accepted) (sheets : AlikeSheets a b)
    (one : SharesEqual same a) (two : SharesEqual same' b) where
  pub two_sheets_run_alike : (rs : List ℤ) (steps nesting cells_allowed : ℕ)
      → SameRuns (translation_by same a) (translation_by same' b) rs steps nesting cells_allowed
  two_sheets_run_alike rs steps nesting cells_allowed =
      runs_alike same same' a b first second sheets (translation_reads same a first one) (translation_reads same' b second two) rs cells_allowed steps nesting

  verdicts_alike : readings a ≡ readings b → (rs : List ℤ) (nesting cells_allowed lent : ℕ)
      → run_verdict (translation_by same a) rs nesting cells_allowed lent ≡ run_verdict (translation_by same' b) rs nesting cells_allowed lent
  unfolding run_verdict
  verdicts_alike e rs nesting cells_allowed lent =
      rw (translation_accepted_law same a first, translation_accepted_law same' b second, translation_readings same a first, translation_readings same' b second, e)
      refl

  -- and a run's answers, where the sheets have as many readings; `lent` is how many cell bytes are lent
  pub two_sheets_answer_alike : readings a ≡ readings b → (rs : List ℤ) (steps nesting cells_allowed lent : ℕ)
      → SameAnswers (run_answer (translation_by same a) rs steps nesting cells_allowed lent) (run_answer (translation_by same' b) rs steps nesting cells_allowed lent)
  unfolding run_answer rule_answer
  two_sheets_answer_alike e rs steps nesting cells_allowed lent =
      rw (← verdicts_alike e rs nesting cells_allowed lent)
      (answers_by steps (run_verdict (translation_by same a) rs nesting cells_allowed lent) (two_sheets_run_alike rs steps nesting cells_allowed))

module _ (b : List ℕ) (accepted : sheet_verdict b ≡ Accepted) where
  pub alike_itself : AlikeSheets b b
  alike_itself =
      record {
        count = refl;
        parameters = λ f h. refl;
        bodies = λ f h. trees_itself b accepted (body_of Sheet b f) (body_below Sheet b (sheet_shape b accepted) f h);
      }

  -- the old labelling and the new
  pub runs_kept : (rs : List ℤ) (steps nesting cells_allowed : ℕ) → SameRuns (unshared_translation b) (translation b) rs steps nesting cells_allowed
  unfolding unshared_translation translation
  runs_kept rs steps nesting cells_allowed =
      two_sheets_run_alike accepted accepted alike_itself (never_shares b) (equal_shares b) rs steps nesting cells_allowed

  pub outcome_kept : (rs : List ℤ) (steps nesting cells_allowed : ℕ)
      → ending_outcome (unshared_translation b) (rule_end (unshared_translation b) rs steps nesting cells_allowed).ending
      ≡ ending_outcome (translation b) (rule_end (translation b) rs steps nesting cells_allowed).ending
  outcome_kept rs steps nesting cells_allowed = (runs_kept rs steps nesting cells_allowed).outcome

  pub answers_kept : (rs : List ℤ) (steps nesting cells_allowed lent : ℕ)
      → SameAnswers (run_answer (unshared_translation b) rs steps nesting cells_allowed lent) (run_answer (translation b) rs steps nesting cells_allowed lent)
  unfolding unshared_translation translation
  answers_kept rs steps nesting cells_allowed lent =
      two_sheets_answer_alike accepted accepted alike_itself (never_shares b) (equal_shares b) refl rs steps nesting cells_allowed lent
