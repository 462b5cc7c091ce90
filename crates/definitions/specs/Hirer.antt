-- The hirer's run (document 02, request 5): a run that carries a set of allowed readings. "It is refused if the translation holds any
-- reading node outside the set, reached or not."
use Rattle.std.specs.Prelude.{ℕ, ◌+◌, ◌/◌, ◌%◌, ◌^◌, List, Bool, true, cond, ℤ, eqb}
use Rattle.definitions.specs.Numbers.{closed_reading}
use Rattle.definitions.specs.Verdicts.{◌and_then◌, require, first_of}
use Rattle.definitions.specs.Records.{kind_of, field}
use Rattle.definitions.specs.TranslationKinds
use Rattle.definitions.specs.Layouts.{nodes, first_node, node_record}
use Rattle.definitions.specs.Checks.{translation_verdict}
use Rattle.definitions.specs.Run.{Answer, answer_after, bytes_after, run_answer, run_cells}
use Rattle.definitions.specs.Verdict.{Verdict}

-- "a set of allowed readings", one bit a reading: whether reading i is in it
unfoldable pub reading_allowed : ℕ → ℕ → Bool
reading_allowed set i = eqb (set / 2 ^ i % 2) 1

-- whether node k is a reading of the set, or no reading
unfoldable pub node_allowed : List ℕ → ℕ → ℕ → Bool
node_allowed b set k = cond (eqb (kind_of (node_record b k)) TranslationKinds.reading) (reading_allowed set (field (node_record b k) 0)) true

-- "21 (closed) .. place of the first such node's record"
unfoldable pub closed_at : List ℕ → ℕ → ℕ → Verdict
closed_at b set k = require (node_allowed b set k) closed_reading (first_node b + k)

unfoldable pub closed_verdict : List ℕ → ℕ → Verdict
closed_verdict b set = first_of (nodes b) (closed_at b set)

-- ".. after 5 and before 9": the file's own refusals, then 21
unfoldable pub hirer_verdict : List ℕ → ℕ → Verdict
hirer_verdict b set = translation_verdict b and_then closed_verdict b set

-- "Else the hirer's run is the owner's", its refusals 9 and 10 too
unfoldable pub hirer_answer : List ℕ → ℕ → List ℤ → ℕ → ℕ → ℕ → ℕ → Answer
hirer_answer b set rs steps nesting cells lent = answer_after (hirer_verdict b set) (run_answer b rs steps nesting cells lent)

unfoldable pub hirer_cells : List ℕ → ℕ → List ℤ → ℕ → ℕ → ℕ → List ℕ → List ℕ
hirer_cells b set rs steps nesting cells before = bytes_after (hirer_verdict b set) before (run_cells b rs steps nesting cells before)
