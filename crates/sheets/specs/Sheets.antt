-- The starred sheets of document 01, "Sheets to try", as bytes, and six more; then S, its translation and its cells byte by byte. Above
-- each sheet stand its functions, whose nodes follow in that order. A number's two fields are its lower and its upper 16 bits.
use Rattle.std.specs.Prelude.{ℕ, List, [], ◌∷◌, ◌++◌}
use Rattle.definitions.specs.Bytes.{bytes_of}
use Rattle.definitions.specs.SheetKinds.{head, constructor, function, number, reading, parameter, pattern_variable, operator, call, build, case_of}
use Rattle.definitions.specs.Translate.{record_words}

-- result = g(7) - g(2)
-- g(a) = a + a
unfoldable pub S : List ℕ
S =
    bytes_of
    (record_words head (0 ∷ 0 ∷ 2 ∷ 8 ∷ [])
    ++ record_words function (0 ∷ 5 ∷ [])
    ++ record_words function (1 ∷ 3 ∷ [])
    ++ record_words number (7 ∷ 0 ∷ [])
    ++ record_words call (1 ∷ 0 ∷ [])
    ++ record_words number (2 ∷ 0 ∷ [])
    ++ record_words call (1 ∷ 2 ∷ [])
    ++ record_words operator (1 ∷ 1 ∷ 3 ∷ [])
    ++ record_words parameter (0 ∷ [])
    ++ record_words parameter (0 ∷ [])
    ++ record_words operator (0 ∷ 5 ∷ 6 ∷ []))

-- result = k(1, 1 / 0)
-- k(a, b) = a
unfoldable pub unused_division : List ℕ
unused_division =
    bytes_of
    (record_words head (0 ∷ 0 ∷ 2 ∷ 6 ∷ [])
    ++ record_words function (0 ∷ 5 ∷ [])
    ++ record_words function (2 ∷ 1 ∷ [])
    ++ record_words number (1 ∷ 0 ∷ [])
    ++ record_words number (1 ∷ 0 ∷ [])
    ++ record_words number (0 ∷ 0 ∷ [])
    ++ record_words operator (3 ∷ 1 ∷ 2 ∷ [])
    ++ record_words call (1 ∷ 0 ∷ 3 ∷ [])
    ++ record_words parameter (0 ∷ []))

-- result = 1 / 0
unfoldable pub division_by_zero : List ℕ
division_by_zero =
    bytes_of
    (record_words head (0 ∷ 0 ∷ 1 ∷ 3 ∷ [])
    ++ record_words function (0 ∷ 3 ∷ [])
    ++ record_words number (1 ∷ 0 ∷ [])
    ++ record_words number (0 ∷ 0 ∷ [])
    ++ record_words operator (3 ∷ 0 ∷ 1 ∷ []))

-- result = head(ones)
-- ones = Cons(1, ones)
-- head(l) = case l of Cons(h, t) -> h
unfoldable pub head_of_ones : List ℕ
head_of_ones =
    bytes_of
    (record_words head (0 ∷ 1 ∷ 3 ∷ 8 ∷ [])
    ++ record_words constructor (2 ∷ [])
    ++ record_words function (0 ∷ 2 ∷ [])
    ++ record_words function (0 ∷ 3 ∷ [])
    ++ record_words function (1 ∷ 3 ∷ [])
    ++ record_words call (1 ∷ [])
    ++ record_words call (2 ∷ 0 ∷ [])
    ++ record_words number (1 ∷ 0 ∷ [])
    ++ record_words call (1 ∷ [])
    ++ record_words build (0 ∷ 2 ∷ 3 ∷ [])
    ++ record_words parameter (0 ∷ [])
    ++ record_words pattern_variable (0 ∷ [])
    ++ record_words case_of (5 ∷ 0 ∷ 6 ∷ []))

-- result = -7 / 2
unfoldable pub negative_division : List ℕ
negative_division =
    bytes_of
    (record_words head (0 ∷ 0 ∷ 1 ∷ 3 ∷ [])
    ++ record_words function (0 ∷ 3 ∷ [])
    ++ record_words number (65529 ∷ 65535 ∷ [])
    ++ record_words number (2 ∷ 0 ∷ [])
    ++ record_words operator (3 ∷ 0 ∷ 1 ∷ []))

-- result = 2147483647 + 1
unfoldable pub reduced_sum : List ℕ
reduced_sum =
    bytes_of
    (record_words head (0 ∷ 0 ∷ 1 ∷ 3 ∷ [])
    ++ record_words function (0 ∷ 3 ∷ [])
    ++ record_words number (65535 ∷ 32767 ∷ [])
    ++ record_words number (1 ∷ 0 ∷ [])
    ++ record_words operator (0 ∷ 0 ∷ 1 ∷ []))

-- result = loop
-- loop = loop
unfoldable pub loop : List ℕ
loop =
    bytes_of
    (record_words head (0 ∷ 0 ∷ 2 ∷ 2 ∷ [])
    ++ record_words function (0 ∷ 1 ∷ [])
    ++ record_words function (0 ∷ 1 ∷ [])
    ++ record_words call (1 ∷ [])
    ++ record_words call (1 ∷ []))

-- result = f(h(2), 7)
-- h(c) = f(f(c, 5), c)
-- f(a, b) = a - b
-- the calls of f stand in two functions and inside each other; no two have the same arguments
unfoldable pub nested_calls : List ℕ
nested_calls =
    bytes_of
    (record_words head (0 ∷ 0 ∷ 3 ∷ 12 ∷ [])
    ++ record_words function (0 ∷ 4 ∷ [])
    ++ record_words function (1 ∷ 5 ∷ [])
    ++ record_words function (2 ∷ 3 ∷ [])
    ++ record_words number (2 ∷ 0 ∷ [])
    ++ record_words call (1 ∷ 0 ∷ [])
    ++ record_words number (7 ∷ 0 ∷ [])
    ++ record_words call (2 ∷ 1 ∷ 2 ∷ [])
    ++ record_words parameter (0 ∷ [])
    ++ record_words number (5 ∷ 0 ∷ [])
    ++ record_words call (2 ∷ 4 ∷ 5 ∷ [])
    ++ record_words parameter (0 ∷ [])
    ++ record_words call (2 ∷ 6 ∷ 7 ∷ [])
    ++ record_words parameter (0 ∷ [])
    ++ record_words parameter (1 ∷ [])
    ++ record_words operator (1 ∷ 9 ∷ 10 ∷ []))

-- result = open(wrap(9)) - open(wrap(4))
-- wrap(a) = Box(a)
-- open(b) = case b of Box(x) -> x
-- result's nodes are 9, 4, wrap(4), wrap(9), open(wrap(9)), open(wrap(4)), subtract: open's call 0 opens wrap's call 1, and
-- open's call 1 opens wrap's call 0
unfoldable pub boxes : List ℕ
boxes =
    bytes_of
    (record_words head (0 ∷ 1 ∷ 3 ∷ 12 ∷ [])
    ++ record_words constructor (1 ∷ [])
    ++ record_words function (0 ∷ 7 ∷ [])
    ++ record_words function (1 ∷ 2 ∷ [])
    ++ record_words function (1 ∷ 3 ∷ [])
    ++ record_words number (9 ∷ 0 ∷ [])
    ++ record_words number (4 ∷ 0 ∷ [])
    ++ record_words call (1 ∷ 1 ∷ [])
    ++ record_words call (1 ∷ 0 ∷ [])
    ++ record_words call (2 ∷ 3 ∷ [])
    ++ record_words call (2 ∷ 2 ∷ [])
    ++ record_words operator (1 ∷ 4 ∷ 5 ∷ [])
    ++ record_words parameter (0 ∷ [])
    ++ record_words build (0 ∷ 7 ∷ [])
    ++ record_words parameter (0 ∷ [])
    ++ record_words pattern_variable (0 ∷ [])
    ++ record_words case_of (9 ∷ 0 ∷ 10 ∷ []))

-- result = f(5)
-- f(a) = g(9, a)
-- g(p, q) = q
-- in the callee's setting the argument `a` of q would be p's: 9
unfoldable pub caller_argument : List ℕ
caller_argument =
    bytes_of
    (record_words head (0 ∷ 0 ∷ 3 ∷ 6 ∷ [])
    ++ record_words function (0 ∷ 2 ∷ [])
    ++ record_words function (1 ∷ 3 ∷ [])
    ++ record_words function (2 ∷ 1 ∷ [])
    ++ record_words number (5 ∷ 0 ∷ [])
    ++ record_words call (1 ∷ 0 ∷ [])
    ++ record_words number (9 ∷ 0 ∷ [])
    ++ record_words parameter (0 ∷ [])
    ++ record_words call (2 ∷ 2 ∷ 3 ∷ [])
    ++ record_words parameter (1 ∷ []))

-- result = f(5)
-- f(a) = h(9, C(a))
-- h(p, l) = case l of C(x) -> x
-- in the selecting setting the field `a` of C would be p's: 9
unfoldable pub built_field : List ℕ
built_field =
    bytes_of
    (record_words head (0 ∷ 1 ∷ 3 ∷ 9 ∷ [])
    ++ record_words constructor (1 ∷ [])
    ++ record_words function (0 ∷ 2 ∷ [])
    ++ record_words function (1 ∷ 4 ∷ [])
    ++ record_words function (2 ∷ 3 ∷ [])
    ++ record_words number (5 ∷ 0 ∷ [])
    ++ record_words call (1 ∷ 0 ∷ [])
    ++ record_words number (9 ∷ 0 ∷ [])
    ++ record_words parameter (0 ∷ [])
    ++ record_words build (0 ∷ 3 ∷ [])
    ++ record_words call (2 ∷ 2 ∷ 4 ∷ [])
    ++ record_words parameter (1 ∷ [])
    ++ record_words pattern_variable (0 ∷ [])
    ++ record_words case_of (6 ∷ 0 ∷ 7 ∷ []))

-- result = the operator of a code, on reading 0 and reading 1
unfoldable pub on_readings : ℕ → List ℕ
on_readings code =
    bytes_of
    (record_words head (2 ∷ 0 ∷ 1 ∷ 3 ∷ [])
    ++ record_words function (0 ∷ 3 ∷ [])
    ++ record_words reading (0 ∷ [])
    ++ record_words reading (1 ∷ [])
    ++ record_words operator (code ∷ 0 ∷ 1 ∷ []))

-- result = 65536 * C
unfoldable pub constructor_factor : List ℕ
constructor_factor =
    bytes_of
    (record_words head (0 ∷ 1 ∷ 1 ∷ 3 ∷ [])
    ++ record_words constructor (0 ∷ [])
    ++ record_words function (0 ∷ 3 ∷ [])
    ++ record_words number (0 ∷ 1 ∷ [])
    ++ record_words build (0 ∷ [])
    ++ record_words operator (2 ∷ 0 ∷ 1 ∷ []))

-- S's 92 bytes, a record to a line
unfoldable pub bytes_of_s : List ℕ
bytes_of_s =
    12 ∷ 0 ∷ 1 ∷ 0 ∷ 0 ∷ 0 ∷ 0 ∷ 0 ∷ 2 ∷ 0 ∷ 8 ∷ 0
    ∷ 8 ∷ 0 ∷ 3 ∷ 0 ∷ 0 ∷ 0 ∷ 5 ∷ 0
    ∷ 8 ∷ 0 ∷ 3 ∷ 0 ∷ 1 ∷ 0 ∷ 3 ∷ 0
    ∷ 8 ∷ 0 ∷ 16 ∷ 0 ∷ 7 ∷ 0 ∷ 0 ∷ 0
    ∷ 8 ∷ 0 ∷ 22 ∷ 0 ∷ 1 ∷ 0 ∷ 0 ∷ 0
    ∷ 8 ∷ 0 ∷ 16 ∷ 0 ∷ 2 ∷ 0 ∷ 0 ∷ 0
    ∷ 8 ∷ 0 ∷ 22 ∷ 0 ∷ 1 ∷ 0 ∷ 2 ∷ 0
    ∷ 10 ∷ 0 ∷ 20 ∷ 0 ∷ 1 ∷ 0 ∷ 1 ∷ 0 ∷ 3 ∷ 0
    ∷ 6 ∷ 0 ∷ 18 ∷ 0 ∷ 0 ∷ 0
    ∷ 6 ∷ 0 ∷ 18 ∷ 0 ∷ 0 ∷ 0
    ∷ 10 ∷ 0 ∷ 20 ∷ 0 ∷ 0 ∷ 0 ∷ 5 ∷ 0 ∷ 6 ∷ 0
    ∷ []

-- the 100 bytes of S's translation, a record to a line: head, two functions, the formal, the nodes
unfoldable pub translation_of_s : List ℕ
translation_of_s =
    12 ∷ 0 ∷ 33 ∷ 0 ∷ 0 ∷ 0 ∷ 1 ∷ 0 ∷ 2 ∷ 0 ∷ 8 ∷ 0
    ∷ 8 ∷ 0 ∷ 34 ∷ 0 ∷ 5 ∷ 0 ∷ 0 ∷ 0
    ∷ 8 ∷ 0 ∷ 34 ∷ 0 ∷ 3 ∷ 0 ∷ 1 ∷ 0
    ∷ 8 ∷ 0 ∷ 35 ∷ 0 ∷ 0 ∷ 0 ∷ 2 ∷ 0
    ∷ 8 ∷ 0 ∷ 48 ∷ 0 ∷ 7 ∷ 0 ∷ 0 ∷ 0
    ∷ 8 ∷ 0 ∷ 54 ∷ 0 ∷ 0 ∷ 0 ∷ 1 ∷ 0
    ∷ 8 ∷ 0 ∷ 48 ∷ 0 ∷ 2 ∷ 0 ∷ 0 ∷ 0
    ∷ 8 ∷ 0 ∷ 54 ∷ 0 ∷ 1 ∷ 0 ∷ 1 ∷ 0
    ∷ 10 ∷ 0 ∷ 52 ∷ 0 ∷ 1 ∷ 0 ∷ 1 ∷ 0 ∷ 3 ∷ 0
    ∷ 6 ∷ 0 ∷ 50 ∷ 0 ∷ 0 ∷ 0
    ∷ 6 ∷ 0 ∷ 50 ∷ 0 ∷ 0 ∷ 0
    ∷ 10 ∷ 0 ∷ 52 ∷ 0 ∷ 0 ∷ 0 ∷ 5 ∷ 0 ∷ 6 ∷ 0
    ∷ []

-- the 68 bytes of the cell of S's run, which both calls of g use: a line of label and previous and one of each entry. The first remembers 2,
-- and the last ends with the callee
unfoldable pub cells_of_s : List ℕ
cells_of_s =
    1 ∷ 0 ∷ 0 ∷ 0
    ∷ 1 ∷ 0 ∷ 2 ∷ 0 ∷ 0 ∷ 0 ∷ 0 ∷ 0
    ∷ 0 ∷ 0 ∷ 0 ∷ 0 ∷ 0 ∷ 0 ∷ 0 ∷ 0
    ∷ 0 ∷ 0 ∷ 0 ∷ 0 ∷ 0 ∷ 0 ∷ 0 ∷ 0
    ∷ 0 ∷ 0 ∷ 0 ∷ 0 ∷ 0 ∷ 0 ∷ 0 ∷ 0
    ∷ 0 ∷ 0 ∷ 0 ∷ 0 ∷ 0 ∷ 0 ∷ 0 ∷ 0
    ∷ 0 ∷ 0 ∷ 0 ∷ 0 ∷ 0 ∷ 0 ∷ 0 ∷ 0
    ∷ 0 ∷ 0 ∷ 0 ∷ 0 ∷ 0 ∷ 0 ∷ 0 ∷ 0
    ∷ 0 ∷ 0 ∷ 0 ∷ 0 ∷ 0 ∷ 0 ∷ 1 ∷ 0
    ∷ []
