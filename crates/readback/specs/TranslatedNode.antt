-- The node of a translation that a node of a sheet becomes (document 01, "Translation"), as the translation's own nodes are
-- read, and the kind and the fields of its record.
use Rattle.std.specs.Prelude.{ℕ, suc, List, [], ◌∷◌}
use Rattle.std.specs.Int.{w32}
use Rattle.definitions.specs.Bytes.{words32}
use Rattle.definitions.specs.Layouts.{owner_of}
use Rattle.definitions.specs.Operators.{residue}
use Rattle.definitions.specs.TranslationKinds
use Rattle.definitions.specs.SheetNodes.{SheetNode, number, reading, parameter, pattern_variable, operator, conditional, call, build, case_of, scrutinee_of}
use Rattle.definitions.specs.TranslationNodes.{TranslationNode}
use Rattle.definitions.specs.TranslationNodes
use Rattle.definitions.specs.Labels.{Labelling, label_of}
use Rattle.definitions.specs.Translate.{formal_of, clause_words}
use Rattle.definitions.specs.declared.Layout.TheVariants.{Sheet}

-- what node k of a sheet becomes: "Build becomes a tuple whose tag is the constructor number. Pattern position i becomes
-- select(scrutinee, i+1). Case keeps its nodes and compares tags"
unfoldable pub translated_node : Labelling → List ℕ → ℕ → SheetNode → TranslationNode
translated_node same b k (number z) = TranslationNodes.number z
translated_node same b k (reading i) = TranslationNodes.reading i
translated_node same b k (parameter i) = TranslationNodes.formal (formal_of b (owner_of Sheet b k) i)
translated_node same b k (pattern_variable i) = TranslationNodes.select (scrutinee_of b k) (suc i)
translated_node same b k (operator o l r) = TranslationNodes.operator o l r
translated_node same b k (conditional n p q) = TranslationNodes.conditional n p q
translated_node same b k (call f ns) = TranslationNodes.call (label_of same b f k) f
translated_node same b k (build c ns) = TranslationNodes.tuple c ns
translated_node same b k (case_of n cs) = TranslationNodes.case_of n cs

-- its kind
unfoldable pub translated_kind : SheetNode → ℕ
translated_kind (number z) = TranslationKinds.number
translated_kind (reading i) = TranslationKinds.reading
translated_kind (parameter i) = TranslationKinds.formal
translated_kind (pattern_variable i) = TranslationKinds.select
translated_kind (operator o l r) = TranslationKinds.operator
translated_kind (conditional n p q) = TranslationKinds.conditional
translated_kind (call f ns) = TranslationKinds.call
translated_kind (build c ns) = TranslationKinds.tuple
translated_kind (case_of n cs) = TranslationKinds.case_of

-- its fields
unfoldable pub translated_fields : Labelling → List ℕ → ℕ → SheetNode → List ℕ
translated_fields same b k (number z) = words32 (residue w32 z)
translated_fields same b k (reading i) = i ∷ []
translated_fields same b k (parameter i) = formal_of b (owner_of Sheet b k) i ∷ []
translated_fields same b k (pattern_variable i) = scrutinee_of b k ∷ suc i ∷ []
translated_fields same b k (operator o l r) = o ∷ l ∷ r ∷ []
translated_fields same b k (conditional n p q) = n ∷ p ∷ q ∷ []
translated_fields same b k (call f ns) = label_of same b f k ∷ f ∷ []
translated_fields same b k (build c ns) = c ∷ ns
translated_fields same b k (case_of n cs) = n ∷ clause_words cs
