-- Lines of answers, computed from the definition. The bytes are ASCII codes, and each line ends with 10.
use mathlib.Core.Path.{◌≡◌, refl}
use Prim.Native.Nat.{ℕ}
use mathlib.Core.List.{List, [], ◌∷◌, map}
use lib.IntN.{ℤ, pos, negsuc}
use lib.ListN.{length}
use Rattle.definitions.specs.Ranges.{within}
use Rattle.definitions.specs.Numbers.{is_refusal}
use Rattle.definitions.specs.Run.{Answer}
use Rattle.report.specs.Decimals.{digit, digits_within, decimal, signed, integer}
use Rattle.report.specs.Lines.{number_word, constructor_word, end_word, refused_word, steps_word, cells_word, place_word, line_end}
use Rattle.report.specs.Lines.{counts, counted_line, refusal_line, line_of, line}

-- an answer by outcome, value, steps and cells
abbrev answer : ℕ → ℤ → ℕ → ℕ → Answer
answer outcome value steps cells =
    record { outcome = outcome; value = value; steps = steps; node = 0; context = 0; cells = cells }

-- S: `number 10 steps 13 cells 2`
abbrev s_line : List ℕ
s_line =
    110 ∷ 117 ∷ 109 ∷ 98 ∷ 101 ∷ 114 ∷ 32 ∷ 49 ∷ 48 ∷ 32 ∷ 115 ∷ 116 ∷ 101 ∷ 112 ∷ 115 ∷ 32 ∷ 49 ∷ 51 ∷ 32 ∷ 99
    ∷ 101 ∷ 108 ∷ 108 ∷ 115 ∷ 32 ∷ 50 ∷ 10 ∷ []

-- -7 / 2: `number -3 steps 3 cells 0`
abbrev negative_line : List ℕ
negative_line =
    110 ∷ 117 ∷ 109 ∷ 98 ∷ 101 ∷ 114 ∷ 32 ∷ 45 ∷ 51 ∷ 32 ∷ 115 ∷ 116 ∷ 101 ∷ 112 ∷ 115 ∷ 32 ∷ 51 ∷ 32 ∷ 99 ∷ 101
    ∷ 108 ∷ 108 ∷ 115 ∷ 32 ∷ 48 ∷ 10 ∷ []

-- the lowest number with the greatest counts, the longest line of a run: `number -2147483648 steps 4294967295 cells 65535`
abbrev longest_line : List ℕ
longest_line =
    110 ∷ 117 ∷ 109 ∷ 98 ∷ 101 ∷ 114 ∷ 32 ∷ 45 ∷ 50 ∷ 49 ∷ 52 ∷ 55 ∷ 52 ∷ 56 ∷ 51 ∷ 54 ∷ 52 ∷ 56 ∷ 32 ∷ 115
    ∷ 116 ∷ 101 ∷ 112 ∷ 115 ∷ 32 ∷ 52 ∷ 50 ∷ 57 ∷ 52 ∷ 57 ∷ 54 ∷ 55 ∷ 50 ∷ 57 ∷ 53 ∷ 32 ∷ 99 ∷ 101 ∷ 108 ∷ 108
    ∷ 115 ∷ 32 ∷ 54 ∷ 53 ∷ 53 ∷ 51 ∷ 53 ∷ 10 ∷ []

-- the last of 64 constructors: `constructor 63 steps 1 cells 0`
abbrev constructor_line : List ℕ
constructor_line =
    99 ∷ 111 ∷ 110 ∷ 115 ∷ 116 ∷ 114 ∷ 117 ∷ 99 ∷ 116 ∷ 111 ∷ 114 ∷ 32 ∷ 54 ∷ 51 ∷ 32 ∷ 115 ∷ 116 ∷ 101 ∷ 112 ∷ 115
    ∷ 32 ∷ 49 ∷ 32 ∷ 99 ∷ 101 ∷ 108 ∷ 108 ∷ 115 ∷ 32 ∷ 48 ∷ 10 ∷ []

-- S with 12 steps: `end 11 steps 12 cells 2`
abbrev stop_line : List ℕ
stop_line =
    101 ∷ 110 ∷ 100 ∷ 32 ∷ 49 ∷ 49 ∷ 32 ∷ 115 ∷ 116 ∷ 101 ∷ 112 ∷ 115 ∷ 32 ∷ 49 ∷ 50 ∷ 32 ∷ 99 ∷ 101 ∷ 108 ∷ 108
    ∷ 115 ∷ 32 ∷ 50 ∷ 10 ∷ []

-- 1 / 0: `end 17 steps 3 cells 0`
abbrev fault_line : List ℕ
fault_line =
    101 ∷ 110 ∷ 100 ∷ 32 ∷ 49 ∷ 55 ∷ 32 ∷ 115 ∷ 116 ∷ 101 ∷ 112 ∷ 115 ∷ 32 ∷ 51 ∷ 32 ∷ 99 ∷ 101 ∷ 108 ∷ 108 ∷ 115
    ∷ 32 ∷ 48 ∷ 10 ∷ []

-- 46,341 times 46,341: `end 20 steps 3 cells 0`
abbrev overflow_line : List ℕ
overflow_line =
    101 ∷ 110 ∷ 100 ∷ 32 ∷ 50 ∷ 48 ∷ 32 ∷ 115 ∷ 116 ∷ 101 ∷ 112 ∷ 115 ∷ 32 ∷ 51 ∷ 32 ∷ 99 ∷ 101 ∷ 108 ∷ 108 ∷ 115
    ∷ 32 ∷ 48 ∷ 10 ∷ []

-- the empty file: `refused 1 place 0`
abbrev empty_line : List ℕ
empty_line = 114 ∷ 101 ∷ 102 ∷ 117 ∷ 115 ∷ 101 ∷ 100 ∷ 32 ∷ 49 ∷ 32 ∷ 112 ∷ 108 ∷ 97 ∷ 99 ∷ 101 ∷ 32 ∷ 48 ∷ 10 ∷ []

-- a closed reading, of the hirer's run: `refused 21 place 4`
abbrev closed_line : List ℕ
closed_line = 114 ∷ 101 ∷ 102 ∷ 117 ∷ 115 ∷ 101 ∷ 100 ∷ 32 ∷ 50 ∷ 49 ∷ 32 ∷ 112 ∷ 108 ∷ 97 ∷ 99 ∷ 101 ∷ 32 ∷ 52 ∷ 10 ∷ []

-- the greatest place of the type `usize`: `refused 6 place 18446744073709551615`
abbrev place_line : List ℕ
place_line =
    114 ∷ 101 ∷ 102 ∷ 117 ∷ 115 ∷ 101 ∷ 100 ∷ 32 ∷ 54 ∷ 32 ∷ 112 ∷ 108 ∷ 97 ∷ 99 ∷ 101 ∷ 32 ∷ 49 ∷ 56 ∷ 52 ∷ 52
    ∷ 54 ∷ 55 ∷ 52 ∷ 52 ∷ 48 ∷ 55 ∷ 51 ∷ 55 ∷ 48 ∷ 57 ∷ 53 ∷ 53 ∷ 49 ∷ 54 ∷ 49 ∷ 53 ∷ 10 ∷ []

lines : map line
    (answer 0 (pos 10) 13 2
    ∷ answer 0 (negsuc 2) 3 0
    ∷ answer 0 (negsuc 2147483647) 4294967295 65535
    ∷ answer 100 (pos 63) 1 0
    ∷ answer 11 (pos 0) 12 2
    ∷ answer 17 (pos 0) 3 0
    ∷ answer 20 (pos 0) 3 0
    ∷ answer 1 (pos 0) 0 0
    ∷ answer 21 (pos 4) 0 0
    ∷ answer 6 (pos 18446744073709551615) 0 0
    ∷ [])
    ≡ s_line ∷ negative_line ∷ longest_line ∷ constructor_line ∷ stop_line ∷ fault_line ∷ overflow_line ∷ empty_line ∷ closed_line ∷ place_line ∷ []
unfolding digit digits_within decimal signed integer number_word constructor_word end_word refused_word steps_word cells_word place_word line_end counts counted_line refusal_line line_of line is_refusal within
lines = refl

longest : length longest_line ≡ 48
longest = refl
