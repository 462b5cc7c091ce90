-- The hirer's run: its refusals in order, how it is met, the owner's run where nothing is outside the set, and what two lists of readings
-- that agree on the set give.
use mathlib.Core.Path.{◌≡◌, refl, sym, ◌∙◌}
use Prim.Native.Nat.{ℕ, ◌+◌, ◌<◌}
use mathlib.Core.List.{List}
use mathlib.Core.Bool.{true}
use lib.IntN.{ℤ, pos}
use lib.ListN.{length, get_or}
use Rattle.definitions.specs.Numbers.{closed_reading, is_answer}
use Rattle.definitions.specs.Verdicts.{◌and_then◌}
use Rattle.definitions.specs.Layouts.{readings, first_node}
use Rattle.definitions.specs.TranslationNodes.{reading, translation_node_of}
use Rattle.definitions.specs.Checks.{sheet_verdict, translation_verdict}
use Rattle.definitions.specs.Translate.{translation}
use Rattle.definitions.specs.LiveCells.{by_live_cells, live_evaluation}
use Rattle.definitions.specs.Run as Run
use Rattle.definitions.specs.Run.{rule_end, rule_answer, rule_cells, refusal, run_verdict, answer_after, bytes_after, run_answer, run_cells}
use Rattle.definitions.specs.Hirer.{reading_allowed, closed_verdict, hirer_verdict, hirer_answer, hirer_cells}
use Rattle.definitions.specs.Verdict.{Verdict, Accepted, Refused}
use Rattle.laws.proofs.Verdicts.{then_accepted, then_refused, both_accepted}
use Rattle.rule_laws.proofs.Independent.{visited_alike}
use Rattle.agreement.specs.Meaning.{OwnAnswer}
use Rattle.agreement.specs.Answers.{answer_outcome}
use Rattle.answer.specs.declared.Answer.{Answer}
use Rattle.answer.specs.Answers.{answer_of}
use Rattle.run.specs.Promise.{Runs}
use Rattle.run.proofs.Answering.{refused_by}
use Rattle.hirer.specs.Promise.{RunsForHirer}
use Rattle.demands.specs.Demands.{Met}
use Rattle.demands.specs.Hirer.{Outside, FirstOutside, hirer_refusals, AgreeOn}
use Rattle.demands.proofs.Refusals.{hiring_numbered}
use Rattle.demands.proofs.Meeting.{after_met}
use Rattle.demands.proofs.Own.{after_own}
use Rattle.demands.proofs.OutsideNodes.{none_outside, first_closed, first_exists, first_outside, named_allowed, same_sets}

-- the file's verdict, then 21, then the owner's run with the file's verdict again: the refusals in order
joined_answers : (v c x y : Verdict) (a : Run.Answer) → answer_after (v and_then c) (answer_after (v and_then x and_then y) a) ≡ answer_after (v and_then c and_then x and_then y) a
unfolding answer_after ◌and_then◌
joined_answers Accepted Accepted x y a = refl
joined_answers Accepted (Refused n p) x y a = refl
joined_answers (Refused n p) c x y a = refl

joined_bytes : (v c x y : Verdict) (before after : List ℕ)
    → bytes_after (v and_then c) before (bytes_after (v and_then x and_then y) before after) ≡ bytes_after (v and_then c and_then x and_then y) before after
unfolding bytes_after ◌and_then◌
joined_bytes Accepted Accepted x y before after = refl
joined_bytes Accepted (Refused n p) x y before after = refl
joined_bytes (Refused n p) c x y before after = refl

pub answer_in_order : (b : List ℕ) (set : ℕ) (rs : List ℤ) (steps nesting cells_allowed lent : ℕ)
    → hirer_answer b set rs steps nesting cells_allowed lent ≡ answer_after (hirer_refusals b set rs nesting cells_allowed lent) (rule_answer b rs steps nesting cells_allowed)
unfolding hirer_answer hirer_verdict run_answer run_verdict
answer_in_order b set rs steps nesting cells_allowed lent = joined_answers (translation_verdict b) (closed_verdict b set) _ _ _

pub cells_in_order : (b : List ℕ) (set : ℕ) (rs : List ℤ) (steps nesting cells_allowed : ℕ) (before : List ℕ)
    → hirer_cells b set rs steps nesting cells_allowed before
    ≡ bytes_after (hirer_refusals b set rs nesting cells_allowed (length before)) before (rule_cells b rs steps nesting cells_allowed before)
unfolding hirer_cells hirer_verdict run_cells run_verdict
cells_in_order b set rs steps nesting cells_allowed before = joined_bytes (translation_verdict b) (closed_verdict b set) _ _ before _

-- how it is met
pub hirer_met : (b : List ℕ) (set : ℕ) (rs : List ℤ) (steps nesting cells_allowed : ℕ) (before : List ℕ)
    → Met (hirer_answer b set rs steps nesting cells_allowed (length before)) (hirer_cells b set rs steps nesting cells_allowed before ≡ before)
unfolding bytes_after
hirer_met b set rs steps nesting cells_allowed before =
    rw (answer_in_order b set rs steps nesting cells_allowed (length before), cells_in_order b set rs steps nesting cells_allowed before)
    (after_met b rs steps nesting cells_allowed _ _ (hiring_numbered b set rs nesting cells_allowed (length before)) (λ n p e. rw e refl))

pub hirer_own : (sheet : List ℕ) → sheet_verdict sheet ≡ Accepted → (set : ℕ) (rs : List ℤ) (steps nesting cells_allowed lent : ℕ)
    → is_answer (hirer_answer (translation sheet) set rs steps nesting cells_allowed lent).outcome ≡ true
    → OwnAnswer sheet rs (answer_outcome (hirer_answer (translation sheet) set rs steps nesting cells_allowed lent))
hirer_own sheet accepted set rs steps nesting cells_allowed lent =
    let t = translation sheet in
    rw (answer_in_order t set rs steps nesting cells_allowed lent)
    (after_own sheet accepted rs steps nesting cells_allowed _ (hiring_numbered t set rs nesting cells_allowed lent))

-- where nothing is outside the set it is the owner's
module _ (b : List ℕ) (set : ℕ) (rs : List ℤ) (steps nesting cells_allowed : ℕ) (before : List ℕ) (r : Answer) (after : List ℕ)
    (run : RunsForHirer b set rs steps nesting cells_allowed before r after) where
  refused_with : {n p : ℕ} → hirer_verdict b set ≡ Refused n p → (answer_of r ≡ refusal n p) × (after ≡ before)
  unfolding hirer_answer hirer_cells answer_after bytes_after
  refused_with e = (run.answer ∙ rw e refl, run.cells ∙ rw e refl)

  pub hirer_else : ((k : ℕ) → ¬ Outside b set k) → Runs b rs steps nesting cells_allowed before r after
  unfolding hirer_verdict run_verdict
  hirer_else none = from (translation_verdict b) refl
    where
      from : (v : Verdict) → translation_verdict b ≡ v → Runs b rs steps nesting cells_allowed before r after
      from Accepted e = run.owners (then_accepted _ _ e ∙ none_outside b set none)
      from (Refused n p) e =
          let g = refused_with (then_refused _ (closed_verdict b set) n p e) in
          rw g.1 (refused_by b rs steps nesting cells_allowed before r n p (then_refused _ _ n p (then_refused _ _ n p e)) g.0)

  module _ (accepted : translation_verdict b ≡ Accepted) where
    closed_is : closed_verdict b set ≡ hirer_verdict b set
    unfolding hirer_verdict
    closed_is = sym (then_accepted _ _ accepted)

    pub hirer_first : (k : ℕ) → FirstOutside b set k → (answer_of r ≡ refusal closed_reading (first_node b + k)) × (after ≡ before)
    hirer_first k o = refused_with (sym closed_is ∙ first_outside b accepted set k o)

    pub hirer_any : (k : ℕ) → Outside b set k → ((answer_of r).outcome ≡ closed_reading) × (after ≡ before)
    unfolding refusal
    hirer_any k o = let g = hirer_first (first_closed b set) (first_exists b accepted set k o) in (rw g.0 refl, g.1)

-- two lists of readings that agree on the set
module _ (b : List ℕ) (set : ℕ) (rs qs : List ℤ) (lengths : length rs ≡ length qs) (same : AgreeOn set (readings b) rs qs) (steps nesting cells_allowed : ℕ) where
  rule_alike : translation_verdict b ≡ Accepted → closed_verdict b set ≡ Accepted → rule_end b rs steps nesting cells_allowed ≡ rule_end b qs steps nesting cells_allowed
  unfolding rule_end live_evaluation
  rule_alike accepted v = rw (visited_alike (by_live_cells b cells_allowed) b rs qs alike nesting) refl
    where
      alike : (k i : ℕ) → translation_node_of b k ≡ reading i → get_or rs i (pos 0) ≡ get_or qs i (pos 0)
      alike k i e = let h = named_allowed b accepted set k v e in same.agree i h.0 h.1

  pub answers_alike : (lent : ℕ) → hirer_answer b set rs steps nesting cells_allowed lent ≡ hirer_answer b set qs steps nesting cells_allowed lent
  unfolding hirer_answer hirer_verdict answer_after run_answer run_verdict rule_answer
  answers_alike lent = from (hirer_verdict b set) refl
    where
      from : (v : Verdict) → hirer_verdict b set ≡ v → answer_after v (run_answer b rs steps nesting cells_allowed lent) ≡ answer_after v (run_answer b qs steps nesting cells_allowed lent)
      from Accepted e = let h = both_accepted _ _ e in rw (rule_alike h.0 h.1, lengths) refl
      from (Refused n p) e = refl

  pub cells_alike : (before : List ℕ) → hirer_cells b set rs steps nesting cells_allowed before ≡ hirer_cells b set qs steps nesting cells_allowed before
  unfolding hirer_cells hirer_verdict bytes_after run_cells run_verdict rule_cells
  cells_alike before = from (hirer_verdict b set) refl
    where
      from : (v : Verdict) → hirer_verdict b set ≡ v
          → bytes_after v before (run_cells b rs steps nesting cells_allowed before) ≡ bytes_after v before (run_cells b qs steps nesting cells_allowed before)
      from Accepted e = let h = both_accepted _ _ e in rw (rule_alike h.0 h.1, lengths) refl
      from (Refused n p) e = refl

-- two sets that allow the same of the readings that the file asks for
pub sets_alike : (b : List ℕ) (set other : ℕ) → ((i : ℕ) → i < readings b → reading_allowed set i ≡ reading_allowed other i) → hirer_verdict b set ≡ hirer_verdict b other
unfolding hirer_verdict ◌and_then◌
sets_alike b set other s = from (translation_verdict b) refl
  where
    from : (v : Verdict) → translation_verdict b ≡ v → (v and_then closed_verdict b set) ≡ (v and_then closed_verdict b other)
    from Accepted e = same_sets b e set other s
    from (Refused n p) e = refl
