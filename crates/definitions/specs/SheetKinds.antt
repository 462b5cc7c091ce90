-- The kinds of a sheet (document 01, "Files", **Sheet**; document 02, request 11), with the papers' word for each.
use Rattle.std.specs.Prelude.{ℕ}

-- head
abbrev pub head : ℕ
head = 1

-- constructor
abbrev pub constructor : ℕ
constructor = 2

-- function
abbrev pub function : ℕ
function = 3

-- constructor with types (document 02, request 11)
abbrev pub typed_constructor : ℕ
typed_constructor = 6

-- function with types
abbrev pub typed_function : ℕ
typed_function = 7

-- number
abbrev pub number : ℕ
number = 16

-- reading
abbrev pub reading : ℕ
reading = 17

-- parameter
abbrev pub parameter : ℕ
parameter = 18

-- pattern variable
abbrev pub pattern_variable : ℕ
pattern_variable = 19

-- operator
abbrev pub operator : ℕ
operator = 20

-- if
abbrev pub conditional : ℕ
conditional = 21

-- call
abbrev pub call : ℕ
call = 22

-- build
abbrev pub build : ℕ
build = 23

-- case
abbrev pub case_of : ℕ
case_of = 24
