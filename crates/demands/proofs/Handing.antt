-- Handing the bytes that the translator wrote, unchanged, to the run.
use mathlib.Core.Path.{◌≡◌, refl, sym, ◌∙◌}
use Prim.Native.Nat.{ℕ}
use mathlib.Core.List.{List}
use mathlib.Core.Bool.{Bool, true, false}
use native.Mathlib.Omega.{arith}
use lib.IntN.{ℤ}
use lib.ListN.{length, take, drop}
use lib.Seq.{take-append_seam}
use lib.Dec.{leb}
use Rattle.definitions.specs.Output.{written_of, output_of}
use Rattle.definitions.specs.Numbers.{short_output, bad_allowance, no_actual, no_field, is_fault, is_answer}
use Rattle.definitions.specs.Ranges.{within}
use Rattle.definitions.specs.Verdicts.{◌and_then◌, require}
use Rattle.definitions.specs.Layouts.{readings}
use Rattle.definitions.specs.Checks.{sheet_verdict}
use Rattle.definitions.specs.Outcomes.{Outcome}
use Rattle.definitions.specs.Translate.{translation, translation_refusal, translation_answer}
use Rattle.agreement.specs.Meaning.{OwnAnswer}
use Rattle.definitions.specs.Run.{rule_answer, allowances_fit, answer_after, run_answer}
use Rattle.definitions.specs.Verdict.{Verdict}
use Rattle.definitions.specs.Verdict as verdicts
use Rattle.definitions.specs.Verdict.{Accepted}
use Rattle.laws.proofs.Verdicts.{both_accepted}
use Rattle.translator.specs.Promise.{Translates}
use Rattle.definitions.specs.Written.{Written, Length, Refused}
use Rattle.run.specs.Promise.{Runs}
use Rattle.answer.specs.declared.Answer.{Answer}
use Rattle.answer.specs.Answers.{answer_of}
use Rattle.agreement.specs.Answers.{answer_outcome}
use Rattle.agreement.proofs.Outcomes.{own_listed}
use Rattle.agreement.proofs.Runs.{run_verdict_law}
use Rattle.demands.specs.Demands.{Handed, StoppedOrRefused}
use Rattle.demands.proofs.Refusals.{running_numbered}
use Rattle.demands.proofs.Meeting.{running_met}
use Rattle.demands.proofs.Own.{after_own, unanswered}

pub refused_length : {n p m : ℕ} → ◌≡◌ {A = Written} (Refused n p) (Length m) → ⊥
refused_length e = let z : ◌≡◌ {A = ℕ} 0 1 = cc in omega arith

-- a call that wrote was not refused
pub not_refused_by : (v : Verdict) (n : ℕ) {m : ℕ} → Length m ≡ written_of v n → v ≡ Accepted
unfolding written_of
not_refused_by Accepted n e = refl
not_refused_by (verdicts.Refused k p) n e = absurd (refused_length (sym e))

-- what was written where nothing is refused
pub written_there : (v : Verdict) (bytes out : List ℕ) (n : ℕ) (out' : List ℕ) → v ≡ Accepted → n ≡ length bytes → out' ≡ output_of v bytes out → take n out' ≡ bytes
unfolding output_of
written_there v bytes out n out' e m w =
    let s : out' ≡ output_of Accepted bytes out = w ∙ rw e refl in
    rw (m, s) (take-append_seam bytes (drop (length bytes) out))

pub written_handed : (sheet out : List ℕ) (n : ℕ) (out' : List ℕ) → translation_refusal sheet (length out) ≡ Accepted → n ≡ length (translation sheet)
    → out' ≡ output_of (translation_refusal sheet (length out)) (translation sheet) out → Handed sheet n out'
unfolding translation_refusal
written_handed sheet out n out' e m w =
    record { accepted = (both_accepted _ _ e).0; is = written_there _ (translation sheet) out n out' e m w }

pub handed : (sheet out : List ℕ) (n : ℕ) (out' : List ℕ) → Translates sheet out (Length n) out' → Handed sheet n out'
unfolding translation_answer written_of
handed sheet out n out' t =
    let e = not_refused_by (translation_refusal sheet (length out)) (length (translation sheet)) t.answer in
    let s : ◌≡◌ {A = Written} (Length n) (Length (length (translation sheet))) = t.answer ∙ rw e refl in
    written_handed sheet out n out' e (cc s) t.output

-- of an accepted sheet only 8 withholds the translation
withheld : (t : Bool) (n p m : ℕ) → written_of (require t short_output 0) m ≡ Refused n p → n ≡ short_output
unfolding written_of require
withheld true n p m e = absurd (refused_length (sym e))
withheld false n p m e = cc

pub only_short : (sheet out : List ℕ) (n p : ℕ) (out' : List ℕ) → Translates sheet out (Refused n p) out' → sheet_verdict sheet ≡ Accepted → n ≡ short_output
unfolding translation_answer translation_refusal ◌and_then◌
only_short sheet out n p out' t a =
    withheld (leb (length (translation sheet)) (length out)) n p (length (translation sheet)) (sym (t.answer ∙ rw a refl))

module _ (sheet out : List ℕ) (n : ℕ) (out' : List ℕ) (translated : Translates sheet out (Length n) out') (rs : List ℤ)
    (steps nesting cells_allowed : ℕ) (before : List ℕ) (r : Answer) (after : List ℕ) (run : Runs (take n out') rs steps nesting cells_allowed before r after) where
  h : Handed sheet n out'
  h = handed sheet out n out' translated

  runs : Runs (translation sheet) rs steps nesting cells_allowed before r after
  runs = rw h.is at run

  pub handed_own : is_answer (answer_of r).outcome ≡ true → OwnAnswer sheet rs (answer_outcome (answer_of r))
  unfolding run_answer
  handed_own i =
      rw runs.answer
      (after_own sheet h.accepted rs steps nesting cells_allowed _ (running_numbered (translation sheet) rs nesting cells_allowed (length before)) (rw runs.answer at i))

  pub handed_listed : ((answer_of r).outcome ≡ no_actual → ⊥) × ((answer_of r).outcome ≡ no_field → ⊥)
  unfolding is_answer is_fault within answer_outcome
  handed_listed = (λ e. (own_listed (handed_own (rw e refl))).0 e, λ e. (own_listed (handed_own (rw e refl))).1 e)

  pub handed_none : ((a : Outcome) → ¬ OwnAnswer sheet rs a) → StoppedOrRefused (answer_of r) (after ≡ before)
  handed_none none = unanswered (answer_of r) (after ≡ before) (λ i. none _ (handed_own i)) (running_met (take n out') rs steps nesting cells_allowed before r after run)

  pub handed_answer : length rs ≡ readings sheet
      → answer_of r ≡ answer_after (require (allowances_fit nesting cells_allowed (length before)) bad_allowance 0) (rule_answer (take n out') rs steps nesting cells_allowed)
  unfolding run_answer
  handed_answer asked = runs.answer ∙ rw (run_verdict_law sheet h.accepted rs asked nesting cells_allowed (length before), h.is) refl
