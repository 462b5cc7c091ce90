-- A run (document 01, "Run", "Allowances", and table, 9 and 10): its answer, and the lent cells at its end.
use Rattle.std.specs.Prelude.{ℕ, ◌*◌, ◌-◌, List, ◌++◌, Bool, ◌&&◌, ℤ, pos, length, drop, leb, eqb}
use Rattle.definitions.specs.Sizes.{most_nesting, most_cells, cell_size}
use Rattle.definitions.specs.Numbers.{bad_readings, bad_allowance}
use Rattle.definitions.specs.Verdicts.{◌and_then◌, require}
use Rattle.definitions.specs.Layouts.{readings}
use Rattle.definitions.specs.Ranges.{within}
use Rattle.definitions.specs.Checks.{translation_verdict}
use Rattle.definitions.specs.Outcomes.{Outcome, number_outcome, constructor_outcome, end_outcome}
use Rattle.definitions.specs.TranslationNodes.{tag_of}
use Rattle.definitions.specs.Rule.{integer, constructor, Ending, value, ended, Reached}
use Rattle.definitions.specs.Cells.{Cell, evaluation}
use Rattle.definitions.specs.LiveCells.{LiveCells, live_evaluation}
use Rattle.definitions.specs.CellBytes.{cell_bytes}
use Rattle.definitions.specs.Verdict.{Verdict, Accepted, Refused}

-- "outcome .., value .., steps, node, context", and the most cells alive together
pub record Answer : Type 0 where
  pub outcome : ℕ
  pub value : ℤ
  pub steps : ℕ
  pub node : ℕ
  pub context : ℕ
  pub cells : ℕ

-- the outcome and value of an ending; the value of a constructor is its tag
unfoldable pub ending_outcome : List ℕ → Ending ℕ → Outcome
ending_outcome b (value (integer z)) = number_outcome z
ending_outcome b (value (constructor k w)) = constructor_outcome (tag_of b k)
ending_outcome b (ended n) = end_outcome n

-- "Node and context are 0 unless a constructor"
unfoldable pub ending_node : Ending ℕ → ℕ
ending_node (value (integer z)) = 0
ending_node (value (constructor k w)) = k
ending_node (ended n) = 0

unfoldable pub ending_context : Ending ℕ → ℕ
ending_context (value (integer z)) = 0
ending_context (value (constructor k w)) = w
ending_context (ended n) = 0

-- the answer of an ending at a step allowance, by the steps left and the number of cells
unfoldable pub answer_at : List ℕ → ℕ → Ending ℕ → ℕ → ℕ → Answer
answer_at b steps e left cells =
    record {
      outcome = (ending_outcome b e).outcome;
      value = (ending_outcome b e).value;
      steps = steps - left;
      node = ending_node e;
      context = ending_context e;
      cells = cells;
    }

-- the answer that an end of the rule is: "the record's cell count is the most alive together"
unfoldable pub reached_answer : List ℕ → ℕ → Reached ℕ LiveCells → Answer
reached_answer b steps r = answer_at b steps r.ending r.state.left (length r.state.store.cells)

-- the lent cells at the end, those given back too: "bytes beyond those are untouched"
unfoldable pub cells_over : List ℕ → List Cell → List ℕ
cells_over before cs = cell_bytes cs ++ drop (cell_size * length cs) before

-- the rule that a run follows, with its three allowances: what it evaluates, the answer that this is, and the lent cells
-- that it leaves. Whoever speaks of a run's rule cites these three
unfoldable pub rule_end : List ℕ → List ℤ → ℕ → ℕ → ℕ → Reached ℕ LiveCells
rule_end b rs steps nesting cells = live_evaluation b rs steps nesting cells

unfoldable pub rule_answer : List ℕ → List ℤ → ℕ → ℕ → ℕ → Answer
rule_answer b rs steps nesting cells = reached_answer b steps (rule_end b rs steps nesting cells)

unfoldable pub rule_cells : List ℕ → List ℤ → ℕ → ℕ → ℕ → List ℕ → List ℕ
rule_cells b rs steps nesting cells before = cells_over before (rule_end b rs steps nesting cells).state.store.cells

-- the rule of request 7, which keeps all cells, and the answer that it is
unfoldable pub kept_end : List ℕ → List ℤ → ℕ → ℕ → ℕ → Reached ℕ (List Cell)
kept_end b rs steps nesting cells = evaluation b rs steps nesting cells

unfoldable pub kept_answer : List ℕ → List ℤ → ℕ → ℕ → ℕ → Answer
kept_answer b rs steps nesting cells =
    let r = kept_end b rs steps nesting cells in
    answer_at b steps r.ending r.state.left (length r.state.store)

-- "a refusal has 0 steps and cells"
unfoldable pub refusal : ℕ → ℕ → Answer
refusal n p = record { outcome = n; value = pos p; steps = 0; node = 0; context = 0; cells = 0 }

-- "nesting 1..1,024; cells 0..960, with 68 bytes lent for each"; `lent` is how many cell bytes are lent
abbrev pub allowances_fit : ℕ → ℕ → ℕ → Bool
allowances_fit nesting cells lent = within 1 most_nesting nesting && leb cells most_cells && leb (cell_size * cells) lent

-- what a run is refused for: "the file's own checks", 9, then 10
unfoldable pub run_verdict : List ℕ → List ℤ → ℕ → ℕ → ℕ → Verdict
run_verdict b rs nesting cells lent =
    translation_verdict b
    and_then require (eqb (length rs) (readings b)) bad_readings 0
    and_then require (allowances_fit nesting cells lent) bad_allowance 0

unfoldable pub answer_after : Verdict → Answer → Answer
answer_after Accepted a = a
answer_after (Refused n p) a = refusal n p

unfoldable pub run_answer : List ℕ → List ℤ → ℕ → ℕ → ℕ → ℕ → Answer
run_answer b rs steps nesting cells lent = answer_after (run_verdict b rs nesting cells lent) (rule_answer b rs steps nesting cells)

unfoldable pub bytes_after : Verdict → List ℕ → List ℕ → List ℕ
bytes_after Accepted before after = after
bytes_after (Refused n p) before after = before

unfoldable pub run_cells : List ℕ → List ℤ → ℕ → ℕ → ℕ → List ℕ → List ℕ
run_cells b rs steps nesting cells before =
    bytes_after (run_verdict b rs nesting cells (length before)) before (rule_cells b rs steps nesting cells before)
