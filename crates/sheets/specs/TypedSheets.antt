-- Typed sheets, and what their reader says (document 02, request 11): on each of them a reader that compares other types, or refuses at another
-- node, answers something else.
use Rattle.std.specs.Prelude.{List, [], ◌∷◌, ◌++◌}
use Rattle.definitions.specs.Numbers.{bad_count, bad_record, bad_tree, ill_typed}
use Rattle.definitions.specs.Bytes.{bytes_of}
use Rattle.definitions.specs.SheetKinds.{head, constructor, function, typed_constructor, typed_function, number, parameter, pattern_variable, operator, conditional, call, build, case_of}
use Rattle.definitions.specs.Translate.{record_words}
use Rattle.definitions.specs.Verdict.{Accepted, Refused}
use Rattle.sheets.specs.Orders.{ReaderTrial}

unfoldable pub typed_sheets : List ReaderTrial
typed_sheets =
    -- `result` of type 1, and its body a number: the body is refused, and its type is compared
    record {
      sheet = bytes_of (record_words head (0 ∷ 0 ∷ 1 ∷ 1 ∷ []) ++ record_words typed_function (0 ∷ 1 ∷ 1 ∷ []) ++ record_words number (7 ∷ 0 ∷ []));
      verdict = Refused ill_typed 2;
    }
    -- a clause's node of type 1 where the result is of type 0: the node is refused, and not the case above it
    ∷ record {
      sheet = bytes_of (record_words head (0 ∷ 1 ∷ 2 ∷ 5 ∷ []) ++ record_words typed_constructor (0 ∷ 1 ∷ []) ++ record_words typed_function (0 ∷ 2 ∷ 0 ∷ [])
          ++ record_words typed_function (1 ∷ 3 ∷ 0 ∷ 1 ∷ []) ++ record_words build (0 ∷ []) ++ record_words call (1 ∷ 0 ∷ [])
          ++ record_words parameter (0 ∷ []) ++ record_words build (0 ∷ []) ++ record_words case_of (2 ∷ 0 ∷ 3 ∷ []));
      verdict = Refused ill_typed 7;
    }
    -- a clause with a constructor of type 2, where the scrutinee is of type 1: the case is refused
    ∷ record {
      sheet = bytes_of (record_words head (0 ∷ 2 ∷ 2 ∷ 5 ∷ []) ++ record_words typed_constructor (0 ∷ 1 ∷ []) ++ record_words typed_constructor (0 ∷ 2 ∷ [])
          ++ record_words typed_function (0 ∷ 2 ∷ 0 ∷ []) ++ record_words typed_function (1 ∷ 3 ∷ 0 ∷ 1 ∷ []) ++ record_words build (0 ∷ [])
          ++ record_words call (1 ∷ 0 ∷ []) ++ record_words parameter (0 ∷ []) ++ record_words number (5 ∷ 0 ∷ [])
          ++ record_words case_of (2 ∷ 1 ∷ 3 ∷ []));
      verdict = Refused ill_typed 9;
    }
    -- arguments whose types are those of the other position: the call is refused
    ∷ record {
      sheet = bytes_of (record_words head (0 ∷ 1 ∷ 2 ∷ 4 ∷ []) ++ record_words typed_constructor (0 ∷ 1 ∷ []) ++ record_words typed_function (0 ∷ 3 ∷ 0 ∷ [])
          ++ record_words typed_function (2 ∷ 1 ∷ 0 ∷ 0 ∷ 1 ∷ []) ++ record_words build (0 ∷ []) ++ record_words number (7 ∷ 0 ∷ [])
          ++ record_words call (1 ∷ 0 ∷ 1 ∷ []) ++ record_words parameter (0 ∷ []));
      verdict = Refused ill_typed 6;
    }
    -- built fields whose types are those of the other position: the build is refused
    ∷ record {
      sheet = bytes_of (record_words head (0 ∷ 2 ∷ 1 ∷ 3 ∷ []) ++ record_words typed_constructor (0 ∷ 1 ∷ [])
          ++ record_words typed_constructor (2 ∷ 1 ∷ 0 ∷ 1 ∷ []) ++ record_words typed_function (0 ∷ 3 ∷ 1 ∷ []) ++ record_words build (0 ∷ [])
          ++ record_words number (7 ∷ 0 ∷ []) ++ record_words build (1 ∷ 0 ∷ 1 ∷ []));
      verdict = Refused ill_typed 6;
    }
    -- the third node of an if of another type than the second, which is of the result's: the if is refused
    ∷ record {
      sheet = bytes_of (record_words head (0 ∷ 1 ∷ 1 ∷ 4 ∷ []) ++ record_words typed_constructor (0 ∷ 1 ∷ []) ++ record_words typed_function (0 ∷ 4 ∷ 0 ∷ [])
          ++ record_words number (1 ∷ 0 ∷ []) ++ record_words number (7 ∷ 0 ∷ []) ++ record_words build (0 ∷ [])
          ++ record_words conditional (0 ∷ 1 ∷ 2 ∷ []));
      verdict = Refused ill_typed 6;
    }
    -- an operand of type 1: the operator is refused, and not the operand
    ∷ record {
      sheet = bytes_of (record_words head (0 ∷ 1 ∷ 1 ∷ 3 ∷ []) ++ record_words typed_constructor (0 ∷ 1 ∷ []) ++ record_words typed_function (0 ∷ 3 ∷ 0 ∷ [])
          ++ record_words number (1 ∷ 0 ∷ []) ++ record_words build (0 ∷ []) ++ record_words operator (0 ∷ 0 ∷ 1 ∷ []));
      verdict = Refused ill_typed 5;
    }
    -- a condition of type 1
    ∷ record {
      sheet = bytes_of (record_words head (0 ∷ 1 ∷ 1 ∷ 4 ∷ []) ++ record_words typed_constructor (0 ∷ 1 ∷ []) ++ record_words typed_function (0 ∷ 4 ∷ 0 ∷ [])
          ++ record_words build (0 ∷ []) ++ record_words number (7 ∷ 0 ∷ []) ++ record_words number (8 ∷ 0 ∷ [])
          ++ record_words conditional (0 ∷ 1 ∷ 2 ∷ []));
      verdict = Refused ill_typed 6;
    }
    -- a scrutinee of type 0
    ∷ record {
      sheet = bytes_of (record_words head (0 ∷ 1 ∷ 2 ∷ 5 ∷ []) ++ record_words typed_constructor (0 ∷ 1 ∷ []) ++ record_words typed_function (0 ∷ 2 ∷ 0 ∷ [])
          ++ record_words typed_function (1 ∷ 3 ∷ 0 ∷ 0 ∷ []) ++ record_words number (1 ∷ 0 ∷ []) ++ record_words call (1 ∷ 0 ∷ [])
          ++ record_words parameter (0 ∷ []) ++ record_words number (5 ∷ 0 ∷ []) ++ record_words case_of (2 ∷ 0 ∷ 3 ∷ []));
      verdict = Refused ill_typed 8;
    }
    -- a pattern variable of its constructor's second field, of type 1, where the result is of type 0
    ∷ record {
      sheet = bytes_of (record_words head (0 ∷ 1 ∷ 2 ∷ 4 ∷ []) ++ record_words typed_constructor (2 ∷ 1 ∷ 0 ∷ 1 ∷ [])
          ++ record_words typed_function (0 ∷ 1 ∷ 0 ∷ []) ++ record_words typed_function (1 ∷ 3 ∷ 0 ∷ 1 ∷ []) ++ record_words number (1 ∷ 0 ∷ [])
          ++ record_words parameter (0 ∷ []) ++ record_words pattern_variable (1 ∷ []) ++ record_words case_of (1 ∷ 0 ∷ 2 ∷ []));
      verdict = Refused ill_typed 6;
    }
    -- two nodes break rules: the first is refused
    ∷ record {
      sheet = bytes_of (record_words head (0 ∷ 1 ∷ 2 ∷ 4 ∷ []) ++ record_words typed_constructor (0 ∷ 1 ∷ []) ++ record_words typed_function (0 ∷ 3 ∷ 0 ∷ [])
          ++ record_words typed_function (1 ∷ 1 ∷ 0 ∷ 1 ∷ []) ++ record_words build (0 ∷ []) ++ record_words number (7 ∷ 0 ∷ [])
          ++ record_words operator (0 ∷ 0 ∷ 1 ∷ []) ++ record_words parameter (0 ∷ []));
      verdict = Refused ill_typed 6;
    }
    -- an ill typed node, and after it a pattern variable outside a clause: 6 comes first
    ∷ record {
      sheet = bytes_of (record_words head (0 ∷ 1 ∷ 2 ∷ 4 ∷ []) ++ record_words typed_constructor (0 ∷ 1 ∷ []) ++ record_words typed_function (0 ∷ 3 ∷ 0 ∷ [])
          ++ record_words typed_function (1 ∷ 1 ∷ 0 ∷ 1 ∷ []) ++ record_words build (0 ∷ []) ++ record_words number (7 ∷ 0 ∷ [])
          ++ record_words operator (0 ∷ 0 ∷ 1 ∷ []) ++ record_words pattern_variable (0 ∷ []));
      verdict = Refused bad_tree 7;
    }
    -- a typed function after a constructor without types, and the other way round
    ∷ record {
      sheet = bytes_of (record_words head (0 ∷ 1 ∷ 1 ∷ 1 ∷ []) ++ record_words constructor (0 ∷ []) ++ record_words typed_function (0 ∷ 1 ∷ 0 ∷ [])
          ++ record_words number (7 ∷ 0 ∷ []));
      verdict = Refused bad_record 2;
    }
    ∷ record {
      sheet = bytes_of (record_words head (0 ∷ 1 ∷ 1 ∷ 1 ∷ []) ++ record_words typed_constructor (0 ∷ 1 ∷ []) ++ record_words function (0 ∷ 1 ∷ [])
          ++ record_words number (7 ∷ 0 ∷ []));
      verdict = Refused bad_record 2;
    }
    -- a constructor of type 0, a type of 65, and a type too many
    ∷ record {
      sheet = bytes_of (record_words head (0 ∷ 1 ∷ 1 ∷ 1 ∷ []) ++ record_words typed_constructor (0 ∷ 0 ∷ []) ++ record_words typed_function (0 ∷ 1 ∷ 0 ∷ [])
          ++ record_words number (7 ∷ 0 ∷ []));
      verdict = Refused bad_count 1;
    }
    ∷ record {
      sheet = bytes_of (record_words head (0 ∷ 0 ∷ 1 ∷ 1 ∷ []) ++ record_words typed_function (0 ∷ 1 ∷ 65 ∷ []) ++ record_words number (7 ∷ 0 ∷ []));
      verdict = Refused bad_count 1;
    }
    ∷ record {
      sheet = bytes_of (record_words head (0 ∷ 0 ∷ 1 ∷ 1 ∷ []) ++ record_words typed_function (0 ∷ 1 ∷ 0 ∷ 0 ∷ []) ++ record_words number (7 ∷ 0 ∷ []));
      verdict = Refused bad_count 1;
    }
    -- a case without a clause for each constructor of the type is accepted, and so is a typed sheet without constructors
    ∷ record {
      sheet = bytes_of (record_words head (0 ∷ 2 ∷ 2 ∷ 5 ∷ []) ++ record_words typed_constructor (0 ∷ 1 ∷ [])
          ++ record_words typed_constructor (2 ∷ 1 ∷ 0 ∷ 1 ∷ []) ++ record_words typed_function (0 ∷ 2 ∷ 0 ∷ [])
          ++ record_words typed_function (1 ∷ 3 ∷ 0 ∷ 1 ∷ []) ++ record_words build (0 ∷ []) ++ record_words call (1 ∷ 0 ∷ [])
          ++ record_words parameter (0 ∷ []) ++ record_words pattern_variable (0 ∷ []) ++ record_words case_of (2 ∷ 1 ∷ 3 ∷ []));
      verdict = Accepted;
    }
    ∷ record {
      sheet = bytes_of (record_words head (0 ∷ 0 ∷ 1 ∷ 1 ∷ []) ++ record_words typed_function (0 ∷ 1 ∷ 0 ∷ []) ++ record_words number (7 ∷ 0 ∷ []));
      verdict = Accepted;
    }
    ∷ []
