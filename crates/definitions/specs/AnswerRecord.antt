-- The answer record (document 01, "Record kind 64, 20 bytes: outcome .., value (4 bytes ..), steps (4), node, context,
-- cells made", since document 02, request 9, the most alive together).
use Rattle.std.specs.Prelude.{ℕ, List, [], ◌∷◌, ◌++◌}
use Rattle.std.specs.Int.{w32}
use Rattle.definitions.specs.Bytes.{word, signed, words32, bytes_of}
use Rattle.definitions.specs.Sizes.{answer_size}
use Rattle.definitions.specs.Operators.{residue}
use Rattle.definitions.specs.Outcomes.{Outcome}
use Rattle.definitions.specs.Run.{Answer}

-- "Record kind 64"
abbrev pub answer_kind : ℕ
answer_kind = 64

unfoldable pub answer_words : Answer → List ℕ
answer_words a =
    answer_size ∷ answer_kind ∷ a.outcome ∷ words32 (residue w32 a.value) ++ words32 a.steps ++ (a.node ∷ a.context ∷ a.cells ∷ [])

unfoldable pub answer_bytes : Answer → List ℕ
answer_bytes a = bytes_of (answer_words a)

-- what is read from a record: the outcome (2 bytes) from byte 4 on, the value (4 bytes, two's complement) from byte 6 on
unfoldable pub recorded : List ℕ → Outcome
recorded b = record { outcome = word b 4; value = signed b 6 }
