-- What request 5 of document 02 says of a translation's nodes, of refusals and of readings.
use Rattle.std.specs.Prelude.{◌≡◌, ℕ, ◌<◌, List, true, false, ℤ, pos, length, get_or, eqb}
use Rattle.definitions.specs.Numbers.{bad_readings, bad_allowance}
use Rattle.definitions.specs.Verdicts.{◌and_then◌, require}
use Rattle.definitions.specs.Layouts.{readings, nodes}
use Rattle.definitions.specs.TranslationNodes.{reading, translation_node_of}
use Rattle.definitions.specs.Checks.{translation_verdict}
use Rattle.definitions.specs.Run.{allowances_fit}
use Rattle.definitions.specs.Hirer.{reading_allowed, closed_verdict}
use Rattle.definitions.specs.Verdict.{Verdict}

-- "any reading node outside the set": node k of a translation is one
pub record Outside (b : List ℕ) (set k : ℕ) : Type 0 where
  pub below : k < nodes b
  pub names : ℕ
  pub is : translation_node_of b k ≡ reading names
  pub outside : reading_allowed set names ≡ false

-- "the first such node"
pub record FirstOutside (b : List ℕ) (set k : ℕ) : Type 0 where
  pub node : Outside b set k
  pub first : (j : ℕ) → j < k → ¬ Outside b set j

-- the refusals in order: the file's own, 21, 9, 10; `lent` is how many cell bytes are lent
abbrev pub hirer_refusals : List ℕ → ℕ → List ℤ → ℕ → ℕ → ℕ → Verdict
hirer_refusals b set rs nesting cells_allowed lent =
    translation_verdict b
    and_then closed_verdict b set
    and_then require (eqb (length rs) (readings b)) bad_readings 0
    and_then require (allowances_fit nesting cells_allowed lent) bad_allowance 0

-- "two reading lists of length I that agree on the allowed readings": of the first `count` readings
pub record AgreeOn (set count : ℕ) (rs qs : List ℤ) : Type 0 where
  pub agree : (i : ℕ) → i < count → reading_allowed set i ≡ true → get_or rs i (pos 0) ≡ get_or qs i (pos 0)
