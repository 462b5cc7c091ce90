-- How calls are met: an answer, a stop or a numbered refusal; and what a run that is not refused gives.
use mathlib.Core.Path.{◌≡◌, refl, sym, ◌∙◌}
use Prim.Native.Nat.{ℕ}
use mathlib.Core.List.{List, []}
use mathlib.Core.Bool.{Bool, true, false, ◌||◌, true≢false}
use lib.IntN.{ℤ}
use lib.ListN.{length}
use Rattle.definitions.specs.Output.{written_of, output_of}
use Rattle.definitions.specs.Checks.{sheet_verdict}
use Rattle.definitions.specs.Translate.{translation, translation_refusal, translation_answer}
use Rattle.definitions.specs.Run as Run
use Rattle.definitions.specs.Run.{run_verdict, answer_after, bytes_after, rule_answer, run_answer, run_cells}
use Rattle.definitions.specs.Verdict.{Verdict}
use Rattle.definitions.specs.Verdict as verdicts
use Rattle.definitions.specs.Verdict.{Accepted}
use Rattle.laws.proofs.Verdicts.{both_accepted}
use Rattle.translator.specs.Promise.{Translates}
use Rattle.definitions.specs.Written.{Written}
use Rattle.run.specs.Promise.{Runs}
use Rattle.answer.specs.declared.Answer.{Answer}
use Rattle.answer.specs.Answers.{answer_of}
use Rattle.definitions.specs.Numbers.{is_answer, is_stop}
use Rattle.join.specs.Promise.{join_answer, join_output, join_cells, Joins}
use Rattle.demands.specs.Demands as Demands
use Rattle.demands.specs.Demands.{TranslatingMet, WritingMet, Met, RunExact}
use Rattle.demands.proofs.Refusals.{NumberedIn, translating_numbered, running_numbered, joining_numbered}
use Rattle.agreement.proofs.KnownEnds.{rule_known}

-- a call that writes, by its verdict
pub writing_met : (v : Verdict) {n : ℕ} {r : Written} {done untouched : Type 0} → NumberedIn v → r ≡ written_of v n → (v ≡ Accepted → done)
    → ((m p : ℕ) → v ≡ verdicts.Refused m p → untouched) → WritingMet r n done untouched
unfolding written_of
writing_met Accepted k a d u = Demands.WritingMet.writes a (d refl)
writing_met (verdicts.Refused m p) k a d u = Demands.WritingMet.refuses m p a k (u m p refl)

-- translating into an output of `room` bytes, and asking for its answer with no output lent
sheet_accepted_law : (sheet : List ℕ) (room : ℕ) → translation_refusal sheet room ≡ Accepted → sheet_verdict sheet ≡ Accepted
unfolding translation_refusal
sheet_accepted_law sheet room e = (both_accepted _ _ e).0

pub translating_met : (sheet out : List ℕ) (r : Written) (out' : List ℕ) → Translates sheet out r out' → TranslatingMet sheet out r out'
unfolding translation_answer output_of
translating_met sheet out r out' t =
    writing_met _ (translating_numbered sheet (length out)) t.answer (sheet_accepted_law sheet (length out)) (λ n p e. t.output ∙ rw e refl)

pub length_met : (sheet : List ℕ) (room : ℕ) (r : Written) → r ≡ translation_answer sheet room → TranslatingMet sheet [] r []
unfolding translation_answer
length_met sheet room r e = writing_met _ (translating_numbered sheet room) e (sheet_accepted_law sheet room) (λ n p f. refl)

-- the rule's answer is an answer or a stop
rule_met : (a : Run.Answer) (untouched : Type 0) (x y : Bool) → is_answer a.outcome ≡ x → is_stop a.outcome ≡ y → (x || y) ≡ true → Met a untouched
rule_met a untouched true y e f h = Demands.Met.answers e
rule_met a untouched false true e f h = Demands.Met.stops f
rule_met a untouched false false e f h = absurd (true≢false (sym h))

pub after_met : (b : List ℕ) (rs : List ℤ) (steps nesting cells_allowed : ℕ) (untouched : Type 0) (v : Verdict) → NumberedIn v → ((n p : ℕ) → v ≡ verdicts.Refused n p → untouched)
    → Met (answer_after v (rule_answer b rs steps nesting cells_allowed)) untouched
unfolding answer_after rule_answer Run.reached_answer Run.answer_at
after_met b rs steps nesting cells_allowed untouched Accepted k u = rule_met _ untouched _ _ refl refl (rule_known b rs cells_allowed steps nesting)
after_met b rs steps nesting cells_allowed untouched (verdicts.Refused n p) k u = Demands.Met.refuses n p refl k (u n p refl)

pub run_met : (b : List ℕ) (rs : List ℤ) (steps nesting cells_allowed : ℕ) (before : List ℕ)
    → Met (run_answer b rs steps nesting cells_allowed (length before)) (run_cells b rs steps nesting cells_allowed before ≡ before)
unfolding run_answer run_cells bytes_after
run_met b rs steps nesting cells_allowed before = after_met b rs steps nesting cells_allowed _ _ (running_numbered b rs nesting cells_allowed (length before)) (λ n p e. rw e refl)

pub join_met : (sheet out : List ℕ) (rs : List ℤ) (steps nesting cells_allowed : ℕ) (before : List ℕ)
    → Met (join_answer sheet (length out) rs steps nesting cells_allowed (length before))
    ((join_output sheet out rs nesting cells_allowed (length before) ≡ out) × (join_cells sheet (length out) rs steps nesting cells_allowed before ≡ before))
unfolding join_answer join_output join_cells bytes_after output_of
join_met sheet out rs steps nesting cells_allowed before =
    after_met (translation sheet) rs steps nesting cells_allowed _ _ (joining_numbered sheet (length out) rs nesting cells_allowed (length before)) (λ n p e. (rw e refl, rw e refl))

pub running_met : (b : List ℕ) (rs : List ℤ) (steps nesting cells_allowed : ℕ) (before : List ℕ) (r : Answer) (after : List ℕ)
    → Runs b rs steps nesting cells_allowed before r after → Met (answer_of r) (after ≡ before)
running_met b rs steps nesting cells_allowed before r after t = rw (t.answer, t.cells) (run_met b rs steps nesting cells_allowed before)

pub joining_met : (sheet out : List ℕ) (rs : List ℤ) (steps nesting cells_allowed : ℕ) (before : List ℕ) (r : Answer) (out' after : List ℕ)
    → Joins sheet out rs steps nesting cells_allowed before r out' after → Met (answer_of r) ((out' ≡ out) × (after ≡ before))
joining_met sheet out rs steps nesting cells_allowed before r out' after t =
    rw (t.answer, t.output, t.cells) (join_met sheet out rs steps nesting cells_allowed before)

pub run_exact : (b : List ℕ) (rs : List ℤ) (steps nesting cells_allowed : ℕ) (before : List ℕ) (r : Answer) (after : List ℕ)
    → Runs b rs steps nesting cells_allowed before r after → run_verdict b rs nesting cells_allowed (length before) ≡ Accepted
    → RunExact b rs steps nesting cells_allowed before (answer_of r) after
unfolding run_answer run_cells answer_after bytes_after
run_exact b rs steps nesting cells_allowed before r after t v = record { answer = t.answer ∙ rw v refl; cells = t.cells ∙ rw v refl }
