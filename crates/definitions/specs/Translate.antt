-- The translation of a sheet (document 01, "Translation"; document 002, figure 7) by a labelling: every byte of the file that
-- results.
use Rattle.std.specs.Prelude.{ℕ, suc, ◌+◌, ◌*◌, List, [], ◌∷◌, ◌++◌, length, leb}
use Rattle.std.specs.Int.{w32}
use Rattle.definitions.specs.Bytes.{words32, bytes_of}
use Rattle.definitions.specs.Numbers.{short_output}
use Rattle.definitions.specs.Verdicts.{◌and_then◌, require}
use Rattle.definitions.specs.Output.{written_of}
use Rattle.definitions.specs.Lists.{joined, sum_of}
use Rattle.definitions.specs.Layouts.{readings, functions, nodes, node_count, owner_of}
use Rattle.definitions.specs.References.{parameters}
use Rattle.definitions.specs.Checks.{sheet_verdict}
use Rattle.definitions.specs.Operators.{residue}
use Rattle.definitions.specs.TranslationKinds
use Rattle.definitions.specs.NodeFields.{Clause}
use Rattle.definitions.specs.SheetNodes.{SheetNode, number, reading, parameter, pattern_variable, operator, conditional, call, build, case_of, sheet_node_of, scrutinee_of}
use Rattle.definitions.specs.Trees.{equal_trees}
use Rattle.definitions.specs.Labels.{Labelling, never_shared, label_of, actuals}
use Rattle.definitions.specs.declared.Layout.TheVariants.{Sheet}
use Rattle.definitions.specs.Verdict.{Verdict}
use Rattle.definitions.specs.Written.{Written}

-- a record: its length, its kind and its fields, each of two bytes
unfoldable pub record_words : ℕ → List ℕ → List ℕ
record_words kind fields = (4 + 2 * length fields) ∷ kind ∷ fields

-- "Formals go by function, then position": the formal of function f's parameter i, and the number of formals P
unfoldable pub formal_of : List ℕ → ℕ → ℕ → ℕ
formal_of b f i = sum_of f (parameters b) + i

unfoldable pub formals : List ℕ → ℕ
formals b = sum_of (functions b) (parameters b)

-- the fields of clauses
unfoldable pub clause_words : List Clause → List ℕ
clause_words [] = []
clause_words (c ∷ cs) = c.constructor ∷ c.node ∷ clause_words cs

-- node k: "Build becomes a tuple whose tag is the constructor number. Pattern position i becomes select(scrutinee, i+1).
-- Case keeps its nodes and compares tags"
unfoldable pub translated : Labelling → List ℕ → ℕ → SheetNode → List ℕ
translated same b k (number z) = record_words TranslationKinds.number (words32 (residue w32 z))
translated same b k (reading i) = record_words TranslationKinds.reading (i ∷ [])
translated same b k (parameter i) = record_words TranslationKinds.formal (formal_of b (owner_of Sheet b k) i ∷ [])
translated same b k (pattern_variable i) = record_words TranslationKinds.select (scrutinee_of b k ∷ suc i ∷ [])
translated same b k (operator o l r) = record_words TranslationKinds.operator (o ∷ l ∷ r ∷ [])
translated same b k (conditional n p q) = record_words TranslationKinds.conditional (n ∷ p ∷ q ∷ [])
translated same b k (call f ns) = record_words TranslationKinds.call (label_of same b f k ∷ f ∷ [])
translated same b k (build c ns) = record_words TranslationKinds.tuple (c ∷ ns)
translated same b k (case_of n cs) = record_words TranslationKinds.case_of (n ∷ clause_words cs)

-- the file: head, functions, formals, nodes
unfoldable pub head_words : List ℕ → List ℕ
head_words b = record_words TranslationKinds.head (readings b ∷ formals b ∷ functions b ∷ nodes b ∷ [])

unfoldable pub function_words : List ℕ → ℕ → List ℕ
function_words b f = record_words TranslationKinds.function (node_count Sheet b f ∷ parameters b f ∷ [])

unfoldable pub formal_words : Labelling → List ℕ → ℕ → List ℕ
formal_words same b f = joined (parameters b f) (λ i. record_words TranslationKinds.formal_list (actuals same b f i))

unfoldable pub node_words : Labelling → List ℕ → ℕ → List ℕ
node_words same b k = translated same b k (sheet_node_of b k)

unfoldable pub translation_words : Labelling → List ℕ → List ℕ
translation_words same b =
    head_words b
    ++ joined (functions b) (function_words b)
    ++ joined (functions b) (formal_words same b)
    ++ joined (nodes b) (node_words same b)

unfoldable pub translation_by : Labelling → List ℕ → List ℕ
translation_by same b = bytes_of (translation_words same b)

-- document 02, request 4: "From now on labels follow section 3.4 of document 002"
unfoldable pub translation : List ℕ → List ℕ
translation b = translation_by (equal_trees b) b

-- and with "the old labelling": "Calls of one function are labelled 0, 1, .. in node order over the whole sheet"
unfoldable pub unshared_translation : List ℕ → List ℕ
unshared_translation b = translation_by never_shared b

-- translating into an output of `room` bytes: the first refusal, which is the reader's own, then 8 with place 0 where the output is
-- shorter than the translation ("Order")
unfoldable pub translation_refusal : List ℕ → ℕ → Verdict
translation_refusal sheet room = sheet_verdict sheet and_then require (leb (length (translation sheet)) room) short_output 0

-- and the answer, which document 02, request 3, also asks for with no output lent: "length or refusal with place, for a stated
-- buffer length"
unfoldable pub translation_answer : List ℕ → ℕ → Written
translation_answer sheet room = written_of (translation_refusal sheet room) (length (translation sheet))
