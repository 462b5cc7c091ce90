-- What the promise says of one translation, byte by byte. Its first row makes three cells, of which at most two are alive together, its
-- second row one.
--   result = if reading 0 then g(7) - g(g(2)) else g(100)    nodes 0 to 9
--   g(a) = a + a                                             nodes 10 to 12
use mathlib.Core.Path.{◌≡◌, refl}
use Prim.Native.Nat.{ℕ}
use mathlib.Core.List.{List, [], ◌∷◌, ◌++◌}
use lib.IntN.{pos}
use lib.ListN.{replicate}
use Rattle.definitions.specs.Numbers.{bad_readings, bad_allowance, short_output}
use Rattle.definitions.specs.TranslationKinds
use Rattle.definitions.specs.Bytes
use Rattle.definitions.specs.Lists
use Rattle.definitions.specs.Records
use Rattle.definitions.specs.Layouts
use Rattle.definitions.specs.Kinds
use Rattle.definitions.specs.Ranges
use Rattle.definitions.specs.Verdicts
use Rattle.definitions.specs.Output
use Rattle.definitions.specs.Shape
use Rattle.definitions.specs.References
use Rattle.definitions.specs.Checks
use Rattle.definitions.specs.NodeFields
use Rattle.definitions.specs.Operators
use Rattle.definitions.specs.Outcomes
use Rattle.definitions.specs.Translate
use Rattle.definitions.specs.TranslationNodes
use Rattle.definitions.specs.Rule
use Rattle.definitions.specs.FormalPlaces
use Rattle.definitions.specs.Cells
use Rattle.definitions.specs.LiveCells
use Rattle.definitions.specs.CellBytes
use Rattle.definitions.specs.Run
use Rattle.definitions.specs.AnswerRecord
use Rattle.definitions.specs.RunsInTurn
use Rattle.batch.specs.Promise
use Rattle.definitions.specs.Verdict.{Verdict, Accepted, Refused}
use Rattle.definitions.specs.Written.{Written}
use Rattle.definitions.specs.Written as answers

-- the definitions that the example computes with, opened together
unfoldable opened : Unit {0}
unfolding
    Bytes.word Bytes.word32 Bytes.signed Bytes.word_bytes Bytes.words32 Bytes.bytes_of
    Lists.joined Lists.listed Lists.sum_of Lists.count_of Lists.all_of
    Records.whole Records.next Records.start_of Records.record_at Records.record_of Records.field_count
    Layouts.section_kind Layouts.is_due Layouts.run_end Layouts.body_of
    Kinds.row Kinds.rows Kinds.row_in Kinds.row_of Kinds.allows
    Verdicts.◌and_then◌ Verdicts.require Verdicts.first_of Output.written_of Output.output_of
    Ranges.within Shape.head_counts Shape.run_counts Shape.parameter_counts Shape.counts Shape.operator_code Shape.shape_at Shape.shape
    Shape.file_shape
    References.from_first References.from_second References.every_other References.child_count References.child_field
    References.children References.child References.clauses References.names_in_range References.in_range
    References.references Checks.translation_verdict
    NodeFields.fields_from
    Operators.residue Operators.reduced Operators.is_zero Operators.equal Operators.truth Operators.quotient
    Operators.computed
    Outcomes.number_outcome Outcomes.constructor_outcome Outcomes.end_outcome
    Translate.record_words
    TranslationNodes.translation_node TranslationNodes.translation_node_of TranslationNodes.actual TranslationNodes.tag_of
    TranslationNodes.tuple_fields
    Rule.reach Rule.with_step Rule.number_due Rule.constructor_due Rule.node_due Rule.result_of Rule.selected
    Rule.evaluated Rule.visited
    FormalPlaces.function_by FormalPlaces.position_by
    Cells.new_cell Cells.cell_of Cells.entry_at Cells.with_entry Cells.changed Cells.with_value
    Cells.remembered Cells.recalled Cells.where_own Cells.under_cell Rule.where_cell
    LiveCells.older LiveCells.keeping_live LiveCells.formal_by_live_cells LiveCells.written LiveCells.with_live_cell LiveCells.live_after
    LiveCells.closing LiveCells.closed LiveCells.call_by_live_cells LiveCells.by_live_cells LiveCells.live_evaluation
    CellBytes.entry_words CellBytes.last_word CellBytes.entries_words CellBytes.cell_words CellBytes.cell_bytes
    Run.ending_outcome Run.ending_node Run.ending_context Run.answer_at Run.reached_answer Run.rule_end Run.rule_answer Run.rule_cells
    Run.refusal Run.run_verdict Run.answer_after Run.run_answer Run.cells_over Run.bytes_after Run.run_cells
    AnswerRecord.answer_words AnswerRecord.answer_bytes
    RunsInTurn.row_of RunsInTurn.cells_in_turn RunsInTurn.answer_in_turn RunsInTurn.records_in_turn
    Promise.rows_checks Promise.rows_verdict Promise.rows_cells Promise.rows_records
opened = tt

unfoldable pub translation : List ℕ
translation =
    Bytes.bytes_of
    (Translate.record_words TranslationKinds.head (1 ∷ 1 ∷ 2 ∷ 13 ∷ [])
    ++ Translate.record_words TranslationKinds.function (10 ∷ 0 ∷ [])
    ++ Translate.record_words TranslationKinds.function (3 ∷ 1 ∷ [])
    ++ Translate.record_words TranslationKinds.formal_list (1 ∷ 3 ∷ 4 ∷ 7 ∷ [])
    ++ Translate.record_words TranslationKinds.reading (0 ∷ [])
    ++ Translate.record_words TranslationKinds.number (7 ∷ 0 ∷ [])
    ++ Translate.record_words TranslationKinds.call (0 ∷ 1 ∷ [])
    ++ Translate.record_words TranslationKinds.number (2 ∷ 0 ∷ [])
    ++ Translate.record_words TranslationKinds.call (1 ∷ 1 ∷ [])
    ++ Translate.record_words TranslationKinds.call (2 ∷ 1 ∷ [])
    ++ Translate.record_words TranslationKinds.operator (1 ∷ 2 ∷ 5 ∷ [])
    ++ Translate.record_words TranslationKinds.number (100 ∷ 0 ∷ [])
    ++ Translate.record_words TranslationKinds.call (3 ∷ 1 ∷ [])
    ++ Translate.record_words TranslationKinds.conditional (0 ∷ 6 ∷ 8 ∷ [])
    ++ Translate.record_words TranslationKinds.formal (0 ∷ [])
    ++ Translate.record_words TranslationKinds.formal (0 ∷ [])
    ++ Translate.record_words TranslationKinds.operator (0 ∷ 10 ∷ 11 ∷ []))

-- the bytes of a cell that a call of g made under the empty context, and which remembers a number below 65,536
unfoldable pub cell_of_g : ℕ → ℕ → List ℕ
cell_of_g label a = Bytes.bytes_of (label ∷ 0 ∷ 1 ∷ a ∷ replicate 29 0 ++ (1 ∷ []))

-- what the runs in turn are on the readings 1 and 0, in three cells that held 170s, with room for 41 bytes: the second run makes one cell,
-- of label 3, and the first run's second cell, of label 1, stays past it with what it remembers
pub record TwoRows (r : Written) (after room' : List ℕ) : Type 0 where
  pub answer : r ≡ answers.Length 40
  pub cells : after ≡ cell_of_g 3 100 ++ cell_of_g 1 2 ++ replicate 68 170
  -- the numbers 6 after 17 steps with 2 cells, and 200 after 7 steps with 1 cell
  pub records : room' ≡ 20 ∷ 0 ∷ 64 ∷ 0 ∷ 0 ∷ 0 ∷ 6 ∷ 0 ∷ 0 ∷ 0 ∷ 17 ∷ 0 ∷ 0 ∷ 0 ∷ 0 ∷ 0 ∷ 0 ∷ 0 ∷ 2 ∷ 0
      ∷ 20 ∷ 0 ∷ 64 ∷ 0 ∷ 0 ∷ 0 ∷ 200 ∷ 0 ∷ 0 ∷ 0 ∷ 7 ∷ 0 ∷ 0 ∷ 0 ∷ 0 ∷ 0 ∷ 0 ∷ 0 ∷ 1 ∷ 0 ∷ 170 ∷ []

pub two_rows : (r : Written) (after room' : List ℕ)
    → Promise.RunsRows translation 2 (pos 1 ∷ pos 0 ∷ []) 100 10 3 (replicate 204 170) (replicate 41 170) r after room' → TwoRows r after room'
unfolding opened translation cell_of_g
two_rows r after room' t = record { answer = t.answer; cells = t.cells; records = t.records }

-- the order of refusals, in three cells and with readings of 1: by the number of rows, of readings and of nested visits, and the room for records
abbrev refusal : ℕ → ℕ → ℕ → ℕ → Verdict
refusal rows given nesting room = Promise.rows_verdict translation rows (replicate given (pos 1)) nesting 3 204 room

pub in_order :
    (refusal 17 0 0 0 ∷ refusal 17 17 1 0 ∷ refusal 2 2 1 39 ∷ refusal 2 2 1 40 ∷ refusal 0 0 1 0 ∷ [])
    ≡ (Refused bad_readings 0 ∷ Refused bad_allowance 0 ∷ Refused short_output 0 ∷ Accepted ∷ Accepted ∷ [])
unfolding opened translation
in_order = refl
