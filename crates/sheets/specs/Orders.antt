-- Files with several faults, and the refusal that the order of document 01 ("Order") picks: on each of them a reader that
-- makes its checks in another order answers something else.
use Rattle.std.specs.Prelude.{ℕ, List, [], ◌∷◌, ◌++◌}
use Rattle.definitions.specs.Numbers.{bad_arguments, bad_count, bad_record, bad_tree, out_of_range, truncated}
use Rattle.definitions.specs.Bytes.{bytes_of}
use Rattle.definitions.specs.SheetKinds.{head, function, number, reading, pattern_variable, operator, call}
use Rattle.definitions.specs.Translate.{record_words}
use Rattle.definitions.specs.Verdict.{Verdict, Refused}

-- a sheet, and what its reader says
pub record ReaderTrial : Type 0 where
  pub sheet : List ℕ
  pub verdict : Verdict

unfoldable pub orders : List ReaderTrial
orders =
    -- a kind that is not due in a record that the file cuts: kind and length come before the file's end
    record { sheet = bytes_of (record_words head (0 ∷ 0 ∷ 1 ∷ 1 ∷ []) ++ record_words function (0 ∷ 1 ∷ []) ++ (300 ∷ 25 ∷ [])); verdict = Refused bad_record 2 }
    -- operator code 6 in a record that the file cuts: the file's end comes before the operator code
    ∷ record { sheet = bytes_of (record_words head (0 ∷ 0 ∷ 1 ∷ 1 ∷ []) ++ record_words function (0 ∷ 1 ∷ []) ++ (10 ∷ operator ∷ 6 ∷ 1 ∷ [])); verdict = Refused truncated 2 }
    -- counts that sum to 3, not 2, and a cut after them
    ∷ record { sheet = bytes_of (record_words head (0 ∷ 0 ∷ 1 ∷ 2 ∷ []) ++ record_words function (0 ∷ 3 ∷ [])); verdict = Refused bad_count 1 }
    -- a byte after the last record, and a reference out of range: left-over bytes come before references
    ∷ record {
      sheet = bytes_of (record_words head (1 ∷ 0 ∷ 1 ∷ 1 ∷ []) ++ record_words function (0 ∷ 1 ∷ []) ++ record_words reading (5 ∷ []))
          ++ (7 ∷ []);
      verdict = Refused bad_record 3;
    }
    -- a call of a function that is not there, with an argument too many: references come before argument counts
    ∷ record {
      sheet = bytes_of (record_words head (0 ∷ 0 ∷ 1 ∷ 2 ∷ []) ++ record_words function (0 ∷ 2 ∷ []) ++ record_words number (7 ∷ 0 ∷ [])
          ++ record_words call (3 ∷ 0 ∷ []));
      verdict = Refused out_of_range 3;
    }
    -- `result` with a parameter, and a reference out of range in a node: record by record
    ∷ record { sheet = bytes_of (record_words head (1 ∷ 0 ∷ 1 ∷ 1 ∷ []) ++ record_words function (1 ∷ 1 ∷ []) ++ record_words reading (5 ∷ [])); verdict = Refused bad_arguments 1 }
    -- a call with an argument too few, and in the next record a reference out of range
    ∷ record {
      sheet = bytes_of (record_words head (1 ∷ 0 ∷ 2 ∷ 3 ∷ []) ++ record_words function (0 ∷ 2 ∷ []) ++ record_words function (2 ∷ 1 ∷ [])
          ++ record_words number (7 ∷ 0 ∷ []) ++ record_words call (1 ∷ 0 ∷ []) ++ record_words reading (5 ∷ []));
      verdict = Refused bad_arguments 4;
    }
    -- a pattern variable outside a clause at node 0, and at node 1 a number that is no child: child rules come first
    ∷ record {
      sheet = bytes_of (record_words head (0 ∷ 0 ∷ 1 ∷ 4 ∷ []) ++ record_words function (0 ∷ 4 ∷ [])
          ++ record_words pattern_variable (1 ∷ []) ++ record_words number (7 ∷ 0 ∷ []) ++ record_words number (9 ∷ 0 ∷ [])
          ++ record_words operator (1 ∷ 0 ∷ 2 ∷ []));
      verdict = Refused bad_tree 3;
    }
    ∷ []
