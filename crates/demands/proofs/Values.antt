-- The value of an answer is a signed 32-bit number where the readings are: literals are read as such, operators reduce into the range or
-- fault outside it, and a tag has 16 bits.
use mathlib.Core.Path.{◌≡◌, sym, ◌∙◌}
use Prim.Native.Nat.{ℕ}
use mathlib.Core.List.{List}
use mathlib.Core.Bool.{true, true≢false}
use native.Mathlib.Omega.{arith}
use lib.IntN.{ℤ, pos}
use mir.Syntax.{w32}
use mir.Val.{SFits}
use Rattle.definitions.specs.Numbers.{is_answer}
use Rattle.definitions.specs.Run.{answer_at, reached_answer, refusal, answer_after, rule_answer}
use Rattle.definitions.specs.Verdict.{Verdict, Accepted, Refused}
use Rattle.laws.proofs.Classes.{refusal_no_answer}
use Rattle.laws.proofs.ByteFiles.{Bytes}
use Rattle.lent_rule.proofs.Narrow.{word_fits, computed_fits}
use Rattle.lent_rule.proofs.NodeNumbers.{literal_fits, tag_fits}
use Rattle.agreement.proofs.KnownEnds.{Closed, rule_value}
use Rattle.demands.specs.InC.{SignedReadings}
use Rattle.demands.proofs.Refusals.{NumberedIn}

pub zero_fits : SFits w32 (pos 0)
zero_fits = word_fits 0 (omega arith)

module _ (b : List ℕ) (rs : List ℤ) (bytes : Bytes b) (readings : SignedReadings rs) where
  abbrev fitting : Closed b rs
  fitting =
      record {
        Number = SFits w32;
        literals = literal_fits b bytes;
        readings = readings.fit;
        tags = tag_fits b bytes;
        operators = λ {x} {y} o p q e. computed_fits o x y e;
      }

  -- of an answer that comes after a verdict
  pub after_fits : (steps nesting cells_allowed : ℕ) (v : Verdict) → NumberedIn v → is_answer (answer_after v (rule_answer b rs steps nesting cells_allowed)).outcome ≡ true
      → SFits w32 (answer_after v (rule_answer b rs steps nesting cells_allowed)).value
  unfolding answer_after rule_answer reached_answer answer_at refusal
  after_fits steps nesting cells_allowed Accepted k h = rule_value b rs cells_allowed fitting steps nesting zero_fits
  after_fits steps nesting cells_allowed (Refused n p) k h = absurd (true≢false (sym h ∙ refusal_no_answer n k))
