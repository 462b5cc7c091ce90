-- The kinds of a translation (document 01, "Files", **Translation**), with the paper's word for each.
use Rattle.std.specs.Prelude.{ℕ}

-- head
abbrev pub head : ℕ
head = 33

-- function
abbrev pub function : ℕ
function = 34

-- formal (a list of actuals)
abbrev pub formal_list : ℕ
formal_list = 35

-- number
abbrev pub number : ℕ
number = 48

-- reading
abbrev pub reading : ℕ
reading = 49

-- formal (a node)
abbrev pub formal : ℕ
formal = 50

-- select
abbrev pub select : ℕ
select = 51

-- operator
abbrev pub operator : ℕ
operator = 52

-- if
abbrev pub conditional : ℕ
conditional = 53

-- call
abbrev pub call : ℕ
call = 54

-- tuple
abbrev pub tuple : ℕ
tuple = 55

-- case
abbrev pub case_of : ℕ
case_of = 56
