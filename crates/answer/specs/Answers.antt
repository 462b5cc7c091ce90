-- The answer of a run, as document 01 says it for each of its cases, and what the call that writes its record does.
use Rattle.std.specs.Prelude.{◌≡◌, ℕ, List, ◌++◌, cond, ℤ, pos, length, drop, leb}
use Rattle.definitions.specs.Sizes.{answer_size}
use Rattle.definitions.specs.Numbers.{is_number, is_constructor, short_output}
use Rattle.definitions.specs.Verdicts.{require}
use Rattle.definitions.specs.Run as Run
use Rattle.definitions.specs.AnswerRecord.{answer_bytes}
use Rattle.definitions.specs.Verdict.{Verdict}
use Rattle.answer.specs.declared.Outcome.{Outcome}
use Rattle.answer.specs.declared.Outcome.TheVariants.{Number, Constructor, Ended, Refused}
use Rattle.answer.specs.declared.Answer.{Answer}

-- "outcome (0 number, 100 constructor, else the table's number)"
unfoldable pub outcome_of : Outcome → ℕ
outcome_of (Number z) = is_number
outcome_of (Constructor t k w) = is_constructor
outcome_of (Ended n) = n
outcome_of (Refused n p) = n

-- "value (.. number, tag, or a refusal's place; else 0)"
unfoldable pub value_of : Outcome → ℤ
value_of (Number z) = z
value_of (Constructor t k w) = pos t
value_of (Ended n) = pos 0
value_of (Refused n p) = pos p

-- "Node and context are 0 unless a constructor"
unfoldable pub node_of : Outcome → ℕ
node_of (Number z) = 0
node_of (Constructor t k w) = k
node_of (Ended n) = 0
node_of (Refused n p) = 0

unfoldable pub context_of : Outcome → ℕ
context_of (Number z) = 0
context_of (Constructor t k w) = w
context_of (Ended n) = 0
context_of (Refused n p) = 0

unfoldable pub answer_of : Answer → Run.Answer
answer_of a =
    record {
      outcome = outcome_of a.outcome;
      value = value_of a.outcome;
      steps = a.steps;
      node = node_of a.outcome;
      context = context_of a.outcome;
      cells = a.cells;
    }

-- "writing it into lent bytes is a call of its own, 8 below 20 bytes"
pub record Writes (a : Answer) (before after : List ℕ) (v : Verdict) : Type 0 where
  pub verdict : v ≡ require (leb answer_size (length before)) short_output 0
  pub bytes : after ≡ cond (leb answer_size (length before)) (answer_bytes (answer_of a) ++ drop answer_size before) before
