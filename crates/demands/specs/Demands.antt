-- What the demands say of a translation that is handed over, of a call that writes, and of an answer.
use Rattle.std.specs.Prelude.{◌≡◌, ℕ, List, true, ℤ, length, take}
use Rattle.definitions.specs.Checks.{sheet_verdict}
use Rattle.definitions.specs.Translate.{translation}
use Rattle.definitions.specs.Verdict.{Accepted}
use Rattle.definitions.specs.Run.{Answer, rule_answer, rule_cells, refusal}
use Rattle.definitions.specs.Written.{Written, Length, Refused}
use Rattle.definitions.specs.Numbers.{is_refusal, is_answer, is_stop}

-- bytes that were handed over: the sheet is accepted, and they are its translation
pub record Handed (sheet : List ℕ) (n : ℕ) (out' : List ℕ) : Type 0 where
  pub accepted : sheet_verdict sheet ≡ Accepted
  pub is : take n out' ≡ translation sheet

-- a call that writes ends with the length of what it wrote, here n, or with a numbered refusal and its place, and then the lent buffers
-- are untouched; `done` is what holds where it wrote
pub data WritingMet (r : Written) (n : ℕ) (done untouched : Type 0) : Type 0 where
  writes : r ≡ Length n → done → WritingMet r n done untouched
  refuses : (m p : ℕ) → r ≡ Refused m p → is_refusal m ≡ true → untouched → WritingMet r n done untouched

-- translating ends with the length of an accepted sheet's translation, or with a numbered refusal that leaves the output as it was
abbrev pub TranslatingMet : List ℕ → List ℕ → Written → List ℕ → Type 0
TranslatingMet sheet out r out' = WritingMet r (length (translation sheet)) (sheet_verdict sheet ≡ Accepted) (out' ≡ out)

-- a run ends with an answer (a number, a constructor or a run fault), with a stop, or with a numbered refusal and its place, and
-- then the lent buffers are untouched
pub data Met (a : Answer) (untouched : Type 0) : Type 0 where
  answers : is_answer a.outcome ≡ true → Met a untouched
  stops : is_stop a.outcome ≡ true → Met a untouched
  refuses : (n p : ℕ) → a ≡ refusal n p → is_refusal n ≡ true → untouched → Met a untouched

-- a run without an answer
pub data StoppedOrRefused (a : Answer) (untouched : Type 0) : Type 0 where
  stops : is_stop a.outcome ≡ true → StoppedOrRefused a untouched
  refuses : (n p : ℕ) → a ≡ refusal n p → is_refusal n ≡ true → untouched → StoppedOrRefused a untouched

-- a run that is not refused: the rule's answer (outcome, value, steps, node, context, the most cells alive together), and its cells over the lent bytes
pub record RunExact (b : List ℕ) (rs : List ℤ) (steps nesting cells_allowed : ℕ) (before : List ℕ) (a : Answer) (after : List ℕ) : Type 0 where
  pub answer : a ≡ rule_answer b rs steps nesting cells_allowed
  pub cells : after ≡ rule_cells b rs steps nesting cells_allowed before
