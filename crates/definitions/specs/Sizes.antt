-- The sizes of document 01, and of the requests in document 02.
use Rattle.std.specs.Prelude.{ℕ}

-- "Sheet, at most 32,768 bytes"
abbrev pub sheet_bytes : ℕ
sheet_bytes = 32768

-- "Translation, at most 40,960 bytes"
abbrev pub translation_bytes : ℕ
translation_bytes = 40960

-- "readings I 0..32"
abbrev pub most_readings : ℕ
most_readings = 32

-- "constructors K 0..64"
abbrev pub most_constructors : ℕ
most_constructors = 64

-- "functions F 1..64"
abbrev pub most_functions : ℕ
most_functions = 64

-- "nodes N 1..1,024"
abbrev pub most_nodes : ℕ
most_nodes = 1024

-- "formals P 0..512"
abbrev pub most_formals : ℕ
most_formals = 512

-- "arity 0..8", "parameters 0..8"
abbrev pub most_fields : ℕ
most_fields = 8

-- document 02, request 11: "Types are 0 (number) and 1..64"
abbrev pub most_types : ℕ
most_types = 64

-- the records of the largest translation: a head, functions, formals and nodes
abbrev pub most_records : ℕ
most_records = 1601

-- "nesting 1..1,024"
abbrev pub most_nesting : ℕ
most_nesting = 1024

-- document 02, request 7: "The cell ceiling becomes 960"
abbrev pub most_cells : ℕ
most_cells = 960

-- "A cell becomes 68 bytes"
abbrev pub cell_size : ℕ
cell_size = 68

-- "entries by position of 8 bytes"
abbrev pub entry_size : ℕ
entry_size = 8

-- "Record kind 64, 20 bytes"
abbrev pub answer_size : ℕ
answer_size = 20

-- document 02, request 10: "The cab shows 6 bytes"
abbrev pub view_size : ℕ
view_size = 6

-- document 02, request 1: "0 to 16 reading rows"
abbrev pub most_rows : ℕ
most_rows = 16

-- document 02, request 12: "more than 1,024 values"
abbrev pub most_values : ℕ
most_values = 1024
