-- Views of records, computed from the definition, and the order of refusals.
use mathlib.Core.Path.{◌≡◌, refl}
use Prim.Native.Nat.{ℕ}
use mathlib.Core.List.{List, [], ◌∷◌}
use lib.IntN.{ℤ, pos, negsuc}
use lib.ListN.{take, replicate}
use Rattle.definitions.specs.Numbers.{is_number, is_constructor, no_cell, zero_divisor, bad_record, short_output}
use Rattle.definitions.specs.Bytes.{word, word32, signed, word_bytes, words32, bytes_of}
use Rattle.definitions.specs.Verdicts.{◌and_then◌, require}
use Rattle.definitions.specs.Operators.{residue}
use Rattle.definitions.specs.AnswerRecord.{answer_words, answer_bytes, recorded}
use Rattle.definitions.specs.DriverView.{view_words, view_bytes, is_answer_record, view_verdict}
use Rattle.definitions.specs.Verdict.{Accepted, Refused}

-- the record of an outcome and a value, after 11 steps with 1 cell, with a node and a context besides
abbrev record_bytes : ℕ → ℤ → List ℕ
record_bytes outcome value = answer_bytes (record { outcome = outcome; value = value; steps = 11; node = 5; context = 2; cells = 1 })

abbrev view : ℕ → ℤ → List ℕ
view outcome value = view_bytes (record_bytes outcome value)

-- S, and the ends of the range; a constructor of tag 63, a stop, 1 / 0, a refusal at record 7: nothing is shown of these four
pub views :
    (view is_number (pos 10) ∷ view is_number (pos 2147483647) ∷ view is_number (negsuc 2147483647)
    ∷ view is_constructor (pos 63) ∷ view no_cell (pos 0) ∷ view zero_divisor (pos 0) ∷ view bad_record (pos 7) ∷ [])
    ≡ ((0 ∷ 0 ∷ 10 ∷ 0 ∷ 0 ∷ 0 ∷ []) ∷ (0 ∷ 0 ∷ 255 ∷ 255 ∷ 255 ∷ 127 ∷ []) ∷ (0 ∷ 0 ∷ 0 ∷ 0 ∷ 0 ∷ 128 ∷ [])
    ∷ replicate 4 (1 ∷ 0 ∷ 0 ∷ 0 ∷ 0 ∷ 0 ∷ []))
unfolding word word32 signed word_bytes words32 bytes_of residue answer_words answer_bytes recorded view_words view_bytes
views = refl

abbrev whole : List ℕ
whole = record_bytes is_number (pos 10)

-- a record with 6 and with 5 bytes of output; 19 bytes of it, and bytes of another length or kind, also with no output
pub in_order :
    (view_verdict whole 6 ∷ view_verdict whole 5 ∷ view_verdict (take 19 whole) 6 ∷ view_verdict (20 ∷ 0 ∷ 65 ∷ replicate 17 0) 6
    ∷ view_verdict (21 ∷ 0 ∷ 64 ∷ replicate 17 0) 0 ∷ [])
    ≡ (Accepted ∷ Refused short_output 0 ∷ replicate 3 (Refused bad_record 0))
unfolding word word_bytes words32 bytes_of residue answer_words answer_bytes is_answer_record view_verdict ◌and_then◌ require
in_order = refl
