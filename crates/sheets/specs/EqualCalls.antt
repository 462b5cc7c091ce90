-- Sheets whose calls repeat (document 02, request 4), with the labels of a function's calls and the actuals that its formals list: on
-- each of them a labelling by another rule gives something else. Above each sheet stand its functions, whose nodes follow in that order.
use Rattle.std.specs.Prelude.{ℕ, suc, List, [], ◌∷◌, ◌++◌}
use Rattle.definitions.specs.Bytes.{bytes_of}
use Rattle.definitions.specs.SheetKinds.{head, constructor, function, number, parameter, pattern_variable, operator, call, build, case_of}
use Rattle.definitions.specs.TranslationKinds as translated
use Rattle.definitions.specs.Translate.{record_words}

-- a function of a sheet and its calls; their labels, and the actuals of each of its formals
pub record LabelTrial : Type 0 where
  pub sheet : List ℕ
  pub function : ℕ
  pub calls : List ℕ
  pub labels : List ℕ
  pub actuals : List (List ℕ)

-- a number, the first parameter, the sum of two nodes, and a call with one argument
unfoldable pub num : ℕ → List ℕ
num n = record_words number (n ∷ 0 ∷ [])

unfoldable pub first : List ℕ
first = record_words parameter (0 ∷ [])

unfoldable pub sum : ℕ → ℕ → List ℕ
sum l r = record_words operator (0 ∷ l ∷ r ∷ [])

unfoldable pub of : ℕ → ℕ → List ℕ
of f k = record_words call (f ∷ k ∷ [])

-- result = f(1) + f(1) + f(2)
-- f(a) = a
unfoldable pub repeated : List ℕ
repeated =
    bytes_of
    (record_words head (0 ∷ 0 ∷ 2 ∷ 9 ∷ []) ++ record_words function (0 ∷ 8 ∷ []) ++ record_words function (1 ∷ 1 ∷ [])
    ++ num 1 ++ of 1 0 ++ num 1 ++ of 1 2 ++ sum 1 3 ++ num 2 ++ of 1 5 ++ sum 4 6
    ++ first)

-- result = f(f(1)) + f(f(1))
-- f(a) = a
unfoldable pub repeated_within : List ℕ
repeated_within =
    bytes_of
    (record_words head (0 ∷ 0 ∷ 2 ∷ 8 ∷ []) ++ record_words function (0 ∷ 7 ∷ []) ++ record_words function (1 ∷ 1 ∷ [])
    ++ num 1 ++ of 1 0 ++ of 1 1 ++ num 1 ++ of 1 3 ++ of 1 4 ++ sum 2 5
    ++ first)

-- result = f(1) + f(2) + g(2)
-- f(a) = a
-- g(b) = b
unfoldable pub two_functions : List ℕ
two_functions =
    bytes_of
    (record_words head (0 ∷ 0 ∷ 3 ∷ 10 ∷ []) ++ record_words function (0 ∷ 8 ∷ []) ++ record_words function (1 ∷ 1 ∷ []) ++ record_words function (1 ∷ 1 ∷ [])
    ++ num 1 ++ of 1 0 ++ num 2 ++ of 1 2 ++ sum 1 3 ++ num 2 ++ of 2 5 ++ sum 4 6
    ++ first
    ++ first)

-- result = g(1) + h(1)
-- g(x) = f(x) + f(x)
-- h(x) = f(x)
-- f(a) = a
unfoldable pub own_parameters : List ℕ
own_parameters =
    bytes_of
    (record_words head (0 ∷ 0 ∷ 4 ∷ 13 ∷ []) ++ record_words function (0 ∷ 5 ∷ []) ++ record_words function (1 ∷ 5 ∷ []) ++ record_words function (1 ∷ 2 ∷ [])
    ++ record_words function (1 ∷ 1 ∷ [])
    ++ num 1 ++ of 1 0 ++ num 1 ++ of 2 2 ++ sum 1 3
    ++ first ++ of 3 5 ++ first ++ of 3 7 ++ sum 6 8
    ++ first ++ of 3 10
    ++ first)

-- the five nodes, from number k on, of a function: case A(n) of c(x) -> f(x)
unfoldable pub cased : ℕ → ℕ → ℕ → List ℕ
cased k n c =
    num n ++ record_words build (0 ∷ k ∷ []) ++ record_words pattern_variable (0 ∷ []) ++ of 4 (suc (suc k))
    ++ record_words case_of (suc k ∷ c ∷ suc (suc (suc k)) ∷ [])

-- result = one + two + other
-- one = case A(1) of A(x) -> f(x)
-- two = case A(2) of A(x) -> f(x)
-- other = case A(1) of B(x) -> f(x)
-- f(a) = a
unfoldable pub patterns : List ℕ
patterns =
    bytes_of
    (record_words head (0 ∷ 2 ∷ 5 ∷ 21 ∷ []) ++ record_words constructor (1 ∷ []) ++ record_words constructor (1 ∷ [])
    ++ record_words function (0 ∷ 5 ∷ []) ++ record_words function (0 ∷ 5 ∷ []) ++ record_words function (0 ∷ 5 ∷ []) ++ record_words function (0 ∷ 5 ∷ [])
    ++ record_words function (1 ∷ 1 ∷ [])
    ++ record_words call (1 ∷ []) ++ record_words call (2 ∷ []) ++ sum 0 1 ++ record_words call (3 ∷ []) ++ sum 2 3
    ++ cased 5 1 0
    ++ cased 10 2 0
    ++ cased 15 1 1
    ++ first)

-- result = twice + once
-- double(a) = a + a
-- list = Cons(1, Nil)
-- twice = case list of Cons(h, t) -> double(h) + double(h)
-- once = case list of Cons(h, t) -> double(h)
unfoldable pub template : List ℕ
template =
    bytes_of
    (record_words head (0 ∷ 2 ∷ 5 ∷ 20 ∷ []) ++ record_words constructor (2 ∷ []) ++ record_words constructor (0 ∷ [])
    ++ record_words function (0 ∷ 3 ∷ []) ++ record_words function (1 ∷ 3 ∷ []) ++ record_words function (0 ∷ 3 ∷ []) ++ record_words function (0 ∷ 7 ∷ [])
    ++ record_words function (0 ∷ 4 ∷ [])
    ++ record_words call (3 ∷ []) ++ record_words call (4 ∷ []) ++ sum 0 1
    ++ first ++ first ++ sum 3 4
    ++ num 1 ++ record_words build (1 ∷ []) ++ record_words build (0 ∷ 6 ∷ 7 ∷ [])
    ++ record_words call (2 ∷ []) ++ record_words pattern_variable (0 ∷ []) ++ of 1 10 ++ record_words pattern_variable (0 ∷ []) ++ of 1 12 ++ sum 11 13
    ++ record_words case_of (9 ∷ 0 ∷ 14 ∷ [])
    ++ record_words pattern_variable (0 ∷ []) ++ of 1 16 ++ record_words call (2 ∷ []) ++ record_words case_of (18 ∷ 0 ∷ 17 ∷ []))

-- its translation, with these actuals of `double`, these labels of its second and third call, and this of the second call of `list`
unfoldable pub template_with : List ℕ → ℕ → ℕ → ℕ → List ℕ
template_with actuals second third again =
    bytes_of
    (record_words translated.head (0 ∷ 1 ∷ 5 ∷ 20 ∷ [])
    ++ record_words translated.function (3 ∷ 0 ∷ []) ++ record_words translated.function (3 ∷ 1 ∷ []) ++ record_words translated.function (3 ∷ 0 ∷ [])
    ++ record_words translated.function (7 ∷ 0 ∷ []) ++ record_words translated.function (4 ∷ 0 ∷ [])
    ++ record_words translated.formal_list actuals
    ++ record_words translated.call (0 ∷ 3 ∷ []) ++ record_words translated.call (0 ∷ 4 ∷ []) ++ record_words translated.operator (0 ∷ 0 ∷ 1 ∷ [])
    ++ record_words translated.formal (0 ∷ []) ++ record_words translated.formal (0 ∷ []) ++ record_words translated.operator (0 ∷ 3 ∷ 4 ∷ [])
    ++ record_words translated.number (1 ∷ 0 ∷ []) ++ record_words translated.tuple (1 ∷ []) ++ record_words translated.tuple (0 ∷ 6 ∷ 7 ∷ [])
    ++ record_words translated.call (0 ∷ 2 ∷ []) ++ record_words translated.select (9 ∷ 1 ∷ []) ++ record_words translated.call (0 ∷ 1 ∷ [])
    ++ record_words translated.select (9 ∷ 1 ∷ []) ++ record_words translated.call (second ∷ 1 ∷ []) ++ record_words translated.operator (0 ∷ 11 ∷ 13 ∷ [])
    ++ record_words translated.case_of (9 ∷ 0 ∷ 14 ∷ [])
    ++ record_words translated.select (18 ∷ 1 ∷ []) ++ record_words translated.call (third ∷ 1 ∷ []) ++ record_words translated.call (again ∷ 2 ∷ [])
    ++ record_words translated.case_of (18 ∷ 0 ∷ 17 ∷ []))

unfoldable pub label_trials : List LabelTrial
label_trials =
    -- the formal lists the first of equal calls' arguments, and no number is left out
    record { sheet = repeated; function = 1; calls = 1 ∷ 3 ∷ 6 ∷ []; labels = 0 ∷ 0 ∷ 1 ∷ []; actuals = (0 ∷ 5 ∷ []) ∷ [] }
    -- "a call counts as its function and arguments"
    ∷ record { sheet = repeated_within; function = 1; calls = 1 ∷ 2 ∷ 4 ∷ 5 ∷ []; labels = 0 ∷ 1 ∷ 0 ∷ 1 ∷ []; actuals = (0 ∷ 1 ∷ []) ∷ [] }
    -- "Two calls of one function": calls of two functions share nothing
    ∷ record { sheet = two_functions; function = 1; calls = 1 ∷ 3 ∷ []; labels = 0 ∷ 1 ∷ []; actuals = (0 ∷ 2 ∷ []) ∷ [] }
    ∷ record { sheet = two_functions; function = 2; calls = 6 ∷ []; labels = 0 ∷ []; actuals = (5 ∷ []) ∷ [] }
    -- "a parameter as its function and position"
    ∷ record { sheet = own_parameters; function = 3; calls = 6 ∷ 8 ∷ 11 ∷ []; labels = 0 ∷ 0 ∷ 1 ∷ []; actuals = (5 ∷ 10 ∷ []) ∷ [] }
    -- "a pattern variable as its scrutinee's tree and position"
    ∷ record { sheet = patterns; function = 4; calls = 8 ∷ 13 ∷ 18 ∷ []; labels = 0 ∷ 1 ∷ 0 ∷ []; actuals = (7 ∷ 12 ∷ []) ∷ [] }
    ∷ record { sheet = template; function = 1; calls = 11 ∷ 13 ∷ 17 ∷ []; labels = 0 ∷ 0 ∷ 0 ∷ []; actuals = (10 ∷ []) ∷ [] }
    ∷ []
