-- Answers to an accepted sheet, with as many readings as it asks for: they are the sheet's own, and without one there is a stop or
-- a refusal.
use mathlib.Core.Path.{◌≡◌, refl, sym, ◌∙◌}
use Prim.Native.Nat.{ℕ}
use mathlib.Core.List.{List}
use mathlib.Core.Bool.{true, true≢false}
use lib.IntN.{ℤ}
use Rattle.definitions.specs.Numbers.{is_answer}
use Rattle.definitions.specs.Checks.{sheet_verdict}
use Rattle.definitions.specs.Translate.{translation}
use Rattle.definitions.specs.Run.{Answer, answer_at, reached_answer, refusal, answer_after, rule_answer}
use Rattle.definitions.specs.Verdict.{Verdict, Accepted, Refused}
use Rattle.laws.proofs.Classes.{refusal_no_answer}
use Rattle.agreement.specs.Meaning.{OwnAnswer}
use Rattle.agreement.specs.Answers.{rule_outcome, answer_outcome}
use Rattle.agreement.proofs.Shared.{rule_gives_own}
use Rattle.demands.specs.Demands as Demands
use Rattle.demands.specs.Demands.{Met, StoppedOrRefused}
use Rattle.demands.proofs.Refusals.{NumberedIn}

-- an answer that comes after a verdict: the rule's, unless the verdict refuses
pub after_own : (sheet : List ℕ) → sheet_verdict sheet ≡ Accepted → (rs : List ℤ) (steps nesting cells_allowed : ℕ) (v : Verdict) → NumberedIn v
    → is_answer (answer_after v (rule_answer (translation sheet) rs steps nesting cells_allowed)).outcome ≡ true
    → OwnAnswer sheet rs (answer_outcome (answer_after v (rule_answer (translation sheet) rs steps nesting cells_allowed)))
unfolding answer_after rule_answer reached_answer answer_at rule_outcome answer_outcome refusal
after_own sheet accepted rs steps nesting cells_allowed Accepted k h =
    rule_gives_own sheet accepted rs (record { steps = steps; nesting = nesting; cells_allowed = cells_allowed; gives = refl }) h
after_own sheet accepted rs steps nesting cells_allowed (Refused n p) k h = absurd (true≢false (sym h ∙ refusal_no_answer n k))

-- what is met without an answer
pub unanswered : (a : Answer) (untouched : Type 0) → (is_answer a.outcome ≡ true → ⊥) → Met a untouched → StoppedOrRefused a untouched
unanswered a untouched none (Demands.Met.answers h) = absurd (none h)
unanswered a untouched none (Demands.Met.stops h) = Demands.StoppedOrRefused.stops h
unanswered a untouched none (Demands.Met.refuses n p e k u) = Demands.StoppedOrRefused.refuses n p e k u
