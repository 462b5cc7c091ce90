-- The definitions that a trial computes with, opened together: `unfolding opened` opens them all.
use Rattle.definitions.specs.Bytes
use Rattle.definitions.specs.Lists
use Rattle.definitions.specs.Records
use Rattle.definitions.specs.Layouts
use Rattle.definitions.specs.Kinds
use Rattle.definitions.specs.Ranges
use Rattle.definitions.specs.Verdicts
use Rattle.definitions.specs.Shape
use Rattle.definitions.specs.References
use Rattle.definitions.specs.SheetRules
use Rattle.definitions.specs.Types
use Rattle.definitions.specs.Checks
use Rattle.definitions.specs.NodeFields
use Rattle.definitions.specs.Operators
use Rattle.definitions.specs.Outcomes
use Rattle.definitions.specs.SheetNodes
use Rattle.agreement.specs.Meaning
use Rattle.definitions.specs.Trees
use Rattle.definitions.specs.Labels
use Rattle.definitions.specs.Translate
use Rattle.definitions.specs.TranslationNodes
use Rattle.definitions.specs.Rule
use Rattle.definitions.specs.FormalPlaces
use Rattle.definitions.specs.Cells
use Rattle.definitions.specs.LiveCells
use Rattle.definitions.specs.CellBytes
use Rattle.definitions.specs.Run
use Rattle.evaluator.specs.Evaluator
use Rattle.sheets.specs.Sheets
use Rattle.sheets.specs.MadeCells
use Rattle.sheets.specs.Starred
use Rattle.sheets.specs.Products

unfoldable pub opened : Unit {0}
unfolding
    Bytes.word Bytes.word32 Bytes.signed Bytes.word_bytes Bytes.words32 Bytes.bytes_of
    Lists.joined Lists.listed Lists.sum_of Lists.count_of Lists.all_of Lists.last_of Lists.first_passing
    Records.whole Records.next Records.start_of Records.record_at Records.record_of Records.field_count
    Layouts.is_typed Layouts.constructor_kind Layouts.function_kind Layouts.section_kind Layouts.is_due Layouts.run_end Layouts.body_of Layouts.owner_of
    Kinds.row Kinds.rows Kinds.row_in Kinds.row_of Kinds.allows
    Verdicts.◌and_then◌ Verdicts.require Verdicts.first_of
    Ranges.within Shape.head_counts Shape.run_counts Shape.parameter_counts Shape.types_right Shape.typed_constructor_counts Shape.typed_function_counts
    Shape.counts Shape.operator_code Shape.shape_at Shape.shape
    Shape.file_shape
    References.from_first References.from_second References.every_other References.child_count References.child_field
    References.children References.child References.clauses References.clause_constructor References.names_in_range
    References.in_range References.references
    SheetRules.arguments_match SheetRules.arguments SheetRules.times_child SheetRules.is_body SheetRules.children_right SheetRules.clauses_rise
    SheetRules.tree_right SheetRules.tree SheetRules.parent_of SheetRules.clause_of SheetRules.clause_within SheetRules.below_arity
    SheetRules.pattern_right SheetRules.pattern
    Types.type_by Types.type_within Types.type_of Types.arguments_typed Types.clauses_typed Types.children_typed Types.is_clause_of Types.is_clause
    Types.result_typed Types.type_right Types.typing Types.types Checks.checks_to_six Checks.sheet_verdict Checks.translation_verdict
    NodeFields.fields_from NodeFields.clause_list NodeFields.chosen
    Operators.residue Operators.reduced Operators.in_signed_range Operators.is_zero Operators.equal Operators.truth
    Operators.product Operators.quotient Operators.computed
    Outcomes.number_outcome Outcomes.constructor_outcome Outcomes.end_outcome
    SheetNodes.sheet_node SheetNodes.sheet_node_of SheetNodes.scrutinee_of
    Meaning.closure_at Meaning.argument_of Meaning.held_field Meaning.end_of Meaning.outcome_of
    Trees.names_node Trees.same_field Trees.same_fields Trees.same_place Trees.same_tree Trees.deepest Trees.equal_trees
    Labels.calls Labels.first_call Labels.is_first Labels.label_of Labels.actuals
    Translate.record_words Translate.formal_of Translate.formals Translate.clause_words Translate.translated
    Translate.head_words Translate.function_words Translate.formal_words Translate.node_words Translate.translation_words
    Translate.translation_by Translate.translation
    TranslationNodes.translation_node TranslationNodes.translation_node_of TranslationNodes.actual TranslationNodes.tag_of
    TranslationNodes.tuple_fields
    Rule.reach Rule.with_step Rule.number_due Rule.constructor_due Rule.node_due Rule.result_of Rule.selected
    Rule.evaluated Rule.visited
    FormalPlaces.function_by FormalPlaces.position_by
    Cells.new_cell Cells.cell_of Cells.entry_at Cells.with_entry Cells.changed Cells.with_value Cells.keeping
    Cells.remembered Cells.recalled Cells.where_own Cells.under_cell Cells.formal_by_cells Cells.with_cell Rule.where_cell
    Cells.call_by_cells Cells.by_cells Cells.evaluation
    LiveCells.older LiveCells.keeping_live LiveCells.formal_by_live_cells LiveCells.written LiveCells.with_live_cell LiveCells.live_after
    LiveCells.closing LiveCells.closed LiveCells.call_by_live_cells LiveCells.by_live_cells LiveCells.live_evaluation
    CellBytes.entry_words CellBytes.last_word CellBytes.entries_words CellBytes.cell_words CellBytes.cell_bytes
    Run.ending_outcome Run.ending_node Run.ending_context Run.answer_at Run.reached_answer Run.rule_end Run.rule_answer Run.rule_cells Run.kept_end Run.kept_answer
    Run.refusal Run.run_verdict Run.answer_after Run.run_answer Run.cells_over Run.bytes_after Run.run_cells
    Evaluator.number_due Evaluator.constructor_due Evaluator.clause_due Evaluator.closure_due Evaluator.end_by
    Evaluator.end_within Evaluator.own_within
    Sheets.S Sheets.unused_division Sheets.division_by_zero Sheets.head_of_ones Sheets.negative_division Sheets.reduced_sum
    Sheets.loop Sheets.nested_calls Sheets.boxes Sheets.caller_argument Sheets.built_field Sheets.on_readings Sheets.constructor_factor Sheets.bytes_of_s
    Sheets.translation_of_s Sheets.cells_of_s
    MadeCells.nothing MadeCells.numbered MadeCells.built MadeCells.cell
    Starred.answering Starred.trial_with Starred.trial Starred.starred Starred.further
    Products.on_numbers Products.products
opened = tt
