-- Sheets with their nodes in other orders, and their canonical forms (document 02, request 13): a writer that takes children from right to
-- left, or a case's clauses before its scrutinee, that starts a function's nodes elsewhere, or that leaves a reference at its old number,
-- writes something else on one of them.
use Rattle.std.specs.Prelude.{ℕ, List, [], ◌∷◌, ◌++◌}
use Rattle.definitions.specs.Bytes.{bytes_of}
use Rattle.definitions.specs.OperatorCodes.{subtract, multiply}
use Rattle.definitions.specs.SheetKinds.{head, constructor, function, typed_constructor, typed_function, number, reading, parameter, pattern_variable, operator, conditional, call, build, case_of}
use Rattle.definitions.specs.Translate.{record_words}

pub record Drawing : Type 0 where
  pub sheet : List ℕ
  pub form : List ℕ

-- the sections of `result = (1 - 2) * (3 - 4)`, and its nodes in post-order
abbrev one_function : List ℕ
one_function = record_words head (0 ∷ 0 ∷ 1 ∷ 7 ∷ []) ++ record_words function (0 ∷ 7 ∷ [])

abbrev product_form : List ℕ
product_form =
    bytes_of (one_function ++ record_words number (1 ∷ 0 ∷ []) ++ record_words number (2 ∷ 0 ∷ []) ++ record_words operator (subtract ∷ 0 ∷ 1 ∷ [])
    ++ record_words number (3 ∷ 0 ∷ []) ++ record_words number (4 ∷ 0 ∷ []) ++ record_words operator (subtract ∷ 3 ∷ 4 ∷ [])
    ++ record_words operator (multiply ∷ 2 ∷ 5 ∷ []))

-- the nodes of `result = f(pair(-5, 8))`, `f(x) = case x of none: 5; pair(a, b): a - b`, as drawn and in post-order
abbrev case_drawn : List ℕ
case_drawn =
    record_words number (8 ∷ 0 ∷ []) ++ record_words number (65531 ∷ 65535 ∷ []) ++ record_words build (1 ∷ 1 ∷ 0 ∷ []) ++ record_words call (1 ∷ 2 ∷ [])
    ++ record_words pattern_variable (1 ∷ []) ++ record_words number (5 ∷ 0 ∷ []) ++ record_words pattern_variable (0 ∷ [])
    ++ record_words operator (subtract ∷ 6 ∷ 4 ∷ []) ++ record_words parameter (0 ∷ []) ++ record_words case_of (8 ∷ 0 ∷ 5 ∷ 1 ∷ 7 ∷ [])

abbrev case_ordered : List ℕ
case_ordered =
    record_words number (65531 ∷ 65535 ∷ []) ++ record_words number (8 ∷ 0 ∷ []) ++ record_words build (1 ∷ 0 ∷ 1 ∷ []) ++ record_words call (1 ∷ 2 ∷ [])
    ++ record_words parameter (0 ∷ []) ++ record_words number (5 ∷ 0 ∷ []) ++ record_words pattern_variable (0 ∷ [])
    ++ record_words pattern_variable (1 ∷ []) ++ record_words operator (subtract ∷ 6 ∷ 7 ∷ []) ++ record_words case_of (4 ∷ 0 ∷ 5 ∷ 1 ∷ 8 ∷ [])

-- its sections, without types and with them
abbrev plain_sections : List ℕ
plain_sections =
    record_words head (0 ∷ 2 ∷ 2 ∷ 10 ∷ []) ++ record_words constructor (0 ∷ []) ++ record_words constructor (2 ∷ [])
    ++ record_words function (0 ∷ 4 ∷ []) ++ record_words function (1 ∷ 6 ∷ [])

abbrev typed_sections : List ℕ
typed_sections =
    record_words head (0 ∷ 2 ∷ 2 ∷ 10 ∷ []) ++ record_words typed_constructor (0 ∷ 1 ∷ []) ++ record_words typed_constructor (2 ∷ 1 ∷ 0 ∷ 0 ∷ [])
    ++ record_words typed_function (0 ∷ 4 ∷ 0 ∷ []) ++ record_words typed_function (1 ∷ 6 ∷ 0 ∷ 1 ∷ [])

-- the sections of `result = if r0 then g(r1, 2) else 3`, `g(a, b) = b - a`
abbrev two_functions : List ℕ
two_functions = record_words head (2 ∷ 0 ∷ 2 ∷ 9 ∷ []) ++ record_words function (0 ∷ 6 ∷ []) ++ record_words function (2 ∷ 3 ∷ [])

unfoldable pub drawings : List Drawing
drawings =
    -- operands before their operators, the right ones first
    record {
      sheet = bytes_of (one_function ++ record_words number (4 ∷ 0 ∷ []) ++ record_words number (3 ∷ 0 ∷ []) ++ record_words number (2 ∷ 0 ∷ [])
          ++ record_words number (1 ∷ 0 ∷ []) ++ record_words operator (subtract ∷ 1 ∷ 0 ∷ []) ++ record_words operator (subtract ∷ 3 ∷ 2 ∷ [])
          ++ record_words operator (multiply ∷ 5 ∷ 4 ∷ []));
      form = product_form;
    }
    -- the same sheet, by another dealer
    ∷ record {
      sheet = bytes_of (one_function ++ record_words number (1 ∷ 0 ∷ []) ++ record_words number (3 ∷ 0 ∷ []) ++ record_words number (2 ∷ 0 ∷ [])
          ++ record_words number (4 ∷ 0 ∷ []) ++ record_words operator (subtract ∷ 0 ∷ 2 ∷ []) ++ record_words operator (subtract ∷ 1 ∷ 3 ∷ [])
          ++ record_words operator (multiply ∷ 4 ∷ 5 ∷ []));
      form = product_form;
    }
    -- a case whose clauses are drawn before its scrutinee; a second function, whose nodes keep their places behind the first's
    ∷ record { sheet = bytes_of (plain_sections ++ case_drawn); form = bytes_of (plain_sections ++ case_ordered) }
    -- the same with types
    ∷ record { sheet = bytes_of (typed_sections ++ case_drawn); form = bytes_of (typed_sections ++ case_ordered) }
    -- an if and a call with their children in other orders
    ∷ record {
      sheet = bytes_of (two_functions ++ record_words number (3 ∷ 0 ∷ []) ++ record_words number (2 ∷ 0 ∷ []) ++ record_words reading (1 ∷ [])
          ++ record_words call (1 ∷ 2 ∷ 1 ∷ []) ++ record_words reading (0 ∷ []) ++ record_words conditional (4 ∷ 3 ∷ 0 ∷ [])
          ++ record_words parameter (0 ∷ []) ++ record_words parameter (1 ∷ []) ++ record_words operator (subtract ∷ 7 ∷ 6 ∷ []));
      form = bytes_of (two_functions ++ record_words reading (0 ∷ []) ++ record_words reading (1 ∷ []) ++ record_words number (2 ∷ 0 ∷ [])
          ++ record_words call (1 ∷ 1 ∷ 2 ∷ []) ++ record_words number (3 ∷ 0 ∷ []) ++ record_words conditional (0 ∷ 3 ∷ 4 ∷ [])
          ++ record_words parameter (1 ∷ []) ++ record_words parameter (0 ∷ []) ++ record_words operator (subtract ∷ 6 ∷ 7 ∷ []));
    }
    ∷ []
