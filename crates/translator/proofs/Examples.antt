-- What the promise says of one sheet, byte by byte: function 2 is called in two functions, and inside its own argument.
--   result = f(g(1), 4)    nodes 0 to 3
--   f(x, y) = g(g(y))      nodes 4 to 6
--   g(z) = z               node 7
use mathlib.Core.Path.{◌≡◌}
use Prim.Native.Nat.{ℕ}
use mathlib.Core.List.{List, [], ◌∷◌, ◌++◌}
use lib.ListN.{replicate}
use Rattle.definitions.specs.SheetKinds
use Rattle.definitions.specs.TranslationKinds
use Rattle.definitions.specs.Bytes
use Rattle.definitions.specs.Lists
use Rattle.definitions.specs.Records
use Rattle.definitions.specs.Layouts
use Rattle.definitions.specs.Kinds
use Rattle.definitions.specs.Ranges
use Rattle.definitions.specs.Verdicts
use Rattle.definitions.specs.Output
use Rattle.definitions.specs.Shape
use Rattle.definitions.specs.References
use Rattle.definitions.specs.SheetRules
use Rattle.definitions.specs.Types
use Rattle.definitions.specs.Checks
use Rattle.definitions.specs.NodeFields
use Rattle.definitions.specs.Operators
use Rattle.definitions.specs.SheetNodes
use Rattle.definitions.specs.Trees
use Rattle.definitions.specs.Labels
use Rattle.definitions.specs.Translate
use Rattle.translator.specs.Promise
use Rattle.definitions.specs.Written.{Written}
use Rattle.definitions.specs.Written as answers

-- the definitions that the example computes with, opened together
unfoldable opened : Unit {0}
unfolding
    Bytes.word Bytes.word32 Bytes.signed Bytes.word_bytes Bytes.words32 Bytes.bytes_of
    Lists.joined Lists.listed Lists.sum_of Lists.count_of Lists.all_of Lists.first_passing
    Records.whole Records.next Records.start_of Records.record_at Records.record_of Records.field_count
    Layouts.is_typed Layouts.constructor_kind Layouts.function_kind Layouts.section_kind Layouts.is_due Layouts.run_end Layouts.body_of Layouts.owner_of
    Kinds.row Kinds.rows Kinds.row_in Kinds.row_of Kinds.allows
    Verdicts.◌and_then◌ Verdicts.require Verdicts.first_of
    Ranges.within Shape.head_counts Shape.run_counts Shape.counts Shape.operator_code Shape.shape_at Shape.shape
    Shape.file_shape
    References.from_first References.from_second References.every_other References.child_count References.child_field
    References.children References.child References.clauses References.names_in_range References.in_range
    References.references
    SheetRules.arguments_match SheetRules.arguments SheetRules.times_child SheetRules.is_body SheetRules.children_right SheetRules.tree_right
    SheetRules.tree SheetRules.pattern_right SheetRules.pattern Types.types Checks.checks_to_six Checks.sheet_verdict
    NodeFields.fields_from Operators.residue SheetNodes.sheet_node SheetNodes.sheet_node_of
    Trees.names_node Trees.same_field Trees.same_fields Trees.same_place Trees.same_tree Trees.deepest Trees.equal_trees
    Labels.calls Labels.first_call Labels.is_first Labels.label_of Labels.actuals
    Translate.record_words Translate.formal_of Translate.formals
    Translate.translated Translate.head_words Translate.function_words Translate.formal_words Translate.node_words
    Translate.translation_words Translate.translation_by Translate.translation
    Translate.translation_refusal Translate.translation_answer
    Output.written_of Output.output_of
opened = tt

unfoldable pub sheet : List ℕ
sheet =
    Bytes.bytes_of
    (Translate.record_words SheetKinds.head (0 ∷ 0 ∷ 3 ∷ 8 ∷ [])
    ++ Translate.record_words SheetKinds.function (0 ∷ 4 ∷ [])
    ++ Translate.record_words SheetKinds.function (2 ∷ 3 ∷ [])
    ++ Translate.record_words SheetKinds.function (1 ∷ 1 ∷ [])
    ++ Translate.record_words SheetKinds.number (1 ∷ 0 ∷ [])
    ++ Translate.record_words SheetKinds.call (2 ∷ 0 ∷ [])
    ++ Translate.record_words SheetKinds.number (4 ∷ 0 ∷ [])
    ++ Translate.record_words SheetKinds.call (1 ∷ 1 ∷ 2 ∷ [])
    ++ Translate.record_words SheetKinds.parameter (1 ∷ [])
    ++ Translate.record_words SheetKinds.call (2 ∷ 4 ∷ [])
    ++ Translate.record_words SheetKinds.call (2 ∷ 5 ∷ [])
    ++ Translate.record_words SheetKinds.parameter (0 ∷ []))

unfoldable pub written : List ℕ
written =
    Bytes.bytes_of
    (Translate.record_words TranslationKinds.head (0 ∷ 3 ∷ 3 ∷ 8 ∷ [])
    ++ Translate.record_words TranslationKinds.function (4 ∷ 0 ∷ [])
    ++ Translate.record_words TranslationKinds.function (3 ∷ 2 ∷ [])
    ++ Translate.record_words TranslationKinds.function (1 ∷ 1 ∷ [])
    -- x, y, z: by function, then position
    ++ Translate.record_words TranslationKinds.formal_list (1 ∷ [])
    ++ Translate.record_words TranslationKinds.formal_list (2 ∷ [])
    ++ Translate.record_words TranslationKinds.formal_list (0 ∷ 4 ∷ 5 ∷ [])
    ++ Translate.record_words TranslationKinds.number (1 ∷ 0 ∷ [])
    ++ Translate.record_words TranslationKinds.call (0 ∷ 2 ∷ [])
    ++ Translate.record_words TranslationKinds.number (4 ∷ 0 ∷ [])
    ++ Translate.record_words TranslationKinds.call (0 ∷ 1 ∷ [])
    ++ Translate.record_words TranslationKinds.formal (1 ∷ [])
    -- labels go on from result's call: restarted in each function, this one would have label 0
    ++ Translate.record_words TranslationKinds.call (1 ∷ 2 ∷ [])
    -- the call around it has a label of its own
    ++ Translate.record_words TranslationKinds.call (2 ∷ 2 ∷ [])
    ++ Translate.record_words TranslationKinds.formal (2 ∷ []))

-- an output with two bytes more than the translation: the length, the translation, and the two bytes as they were
pub long_output : (r : Written) (out' : List ℕ) → Promise.Translates sheet (replicate 120 170) r out'
    → (r ≡ answers.Length 118) × (out' ≡ written ++ (170 ∷ 170 ∷ []))
unfolding opened sheet written
long_output r out' t = (t.answer, t.output)

-- an output with one byte less: 8, place 0, and the output as it was
pub short_output_law : (r : Written) (out' : List ℕ) → Promise.Translates sheet (replicate 117 170) r out'
    → (r ≡ answers.Refused 8 0) × (out' ≡ replicate 117 170)
unfolding opened sheet written
short_output_law r out' t = (t.answer, t.output)
