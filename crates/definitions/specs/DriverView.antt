-- The driver's view of an answer record (document 02, request 10: "The cab shows 6 bytes made from an answer record").
use Rattle.std.specs.Prelude.{ℕ, List, ◌∷◌, Bool, cond, ◌&&◌, length, leb, eqb}
use Rattle.std.specs.Int.{w32}
use Rattle.definitions.specs.Bytes.{word, words32, bytes_of}
use Rattle.definitions.specs.Sizes.{answer_size, view_size}
use Rattle.definitions.specs.Numbers.{bad_record, short_output, is_number}
use Rattle.definitions.specs.Verdicts.{◌and_then◌, require}
use Rattle.definitions.specs.Operators.{residue}
use Rattle.definitions.specs.Outcomes.{Outcome}
use Rattle.definitions.specs.AnswerRecord.{answer_kind, recorded}
use Rattle.definitions.specs.Verdict.{Verdict}

-- what the view's first two bytes say: a number is shown, or nothing is
abbrev pub number_view : ℕ
number_view = 0

abbrev pub empty_view : ℕ
empty_view = 1

-- "0 in two bytes and the number, or 1 in two bytes and four zero bytes for anything else"
unfoldable pub view_words : Outcome → List ℕ
view_words o = cond (eqb o.outcome is_number) (number_view ∷ words32 (residue w32 o.value)) (empty_view ∷ words32 0)

-- the 6 bytes that the cab shows of a record
unfoldable pub view_bytes : List ℕ → List ℕ
view_bytes b = bytes_of (view_words (recorded b))

-- "Lent bytes that aren't 20, or whose length or kind field isn't document 01's, .."
unfoldable pub is_answer_record : List ℕ → Bool
is_answer_record b = eqb (length b) answer_size && eqb (word b 0) answer_size && eqb (word b 2) answer_kind

-- ".. are 3, then an output below 6 bytes is 8, both with place 0"; `room` is the output's length
unfoldable pub view_verdict : List ℕ → ℕ → Verdict
view_verdict b room = require (is_answer_record b) bad_record 0 and_then require (leb view_size room) short_output 0
