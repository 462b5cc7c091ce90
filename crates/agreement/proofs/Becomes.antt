-- The node of the translation with a label for each call that a sheet's node becomes, as a relation between the two.
use mathlib.Core.Path.{◌≡◌, refl}
use Prim.Native.Nat.{ℕ, suc, ◌<◌}
use mathlib.Core.List.{List}
use lib.IntN.{ℤ}
use Rattle.definitions.specs.Layouts.{nodes, owner_of}
use Rattle.definitions.specs.NodeFields.{Clause}
use Rattle.definitions.specs.SheetNodes.{SheetNode, number, reading, parameter, pattern_variable, operator, conditional, call, build, case_of, sheet_node_of, scrutinee_of}
use Rattle.definitions.specs.TranslationNodes.{TranslationNode, translation_node_of}
use Rattle.definitions.specs.Checks.{sheet_verdict}
use Rattle.definitions.specs.Labels.{never_shared, label_of}
use Rattle.definitions.specs.Translate.{formal_of, unshared_translation}
use Rattle.definitions.specs.declared.Layout.TheVariants.{Sheet}
use Rattle.definitions.specs.Verdict.{Accepted}
use Rattle.readback.specs.TranslatedNode.{translated_node}
use Rattle.readback.proofs.Nodes.{node_becomes}

-- node k, as a node of the sheet and of the translation
pub data Becomes (b : List ℕ) (k : ℕ) : SheetNode → TranslationNode → Type 0 where
  becomes_number : {z : ℤ} → Becomes b k (number z) (TranslationNode.number z)
  becomes_reading : {i : ℕ} → Becomes b k (reading i) (TranslationNode.reading i)
  becomes_formal : {i p : ℕ} → formal_of b (owner_of Sheet b k) i ≡ p → Becomes b k (parameter i) (TranslationNode.formal p)
  becomes_select : {i n : ℕ} → scrutinee_of b k ≡ n → Becomes b k (pattern_variable i) (TranslationNode.select n (suc i))
  becomes_operator : {o l r : ℕ} → Becomes b k (operator o l r) (TranslationNode.operator o l r)
  becomes_conditional : {n p q : ℕ} → Becomes b k (conditional n p q) (TranslationNode.conditional n p q)
  becomes_call : {f l : ℕ} {ns : List ℕ} → label_of never_shared b f k ≡ l → Becomes b k (call f ns) (TranslationNode.call l f)
  becomes_tuple : {c : ℕ} {ns : List ℕ} → Becomes b k (build c ns) (TranslationNode.tuple c ns)
  becomes_case : {n : ℕ} {cs : List Clause} → Becomes b k (case_of n cs) (TranslationNode.case_of n cs)

-- as it is translated
becomes_translated : (b : List ℕ) (k : ℕ) (nd : SheetNode) → Becomes b k nd (translated_node never_shared b k nd)
unfolding translated_node
becomes_translated b k (number z) = becomes_number
becomes_translated b k (reading i) = becomes_reading
becomes_translated b k (parameter i) = becomes_formal refl
becomes_translated b k (pattern_variable i) = becomes_select refl
becomes_translated b k (operator o l r) = becomes_operator
becomes_translated b k (conditional n p q) = becomes_conditional
becomes_translated b k (call f ns) = becomes_call refl
becomes_translated b k (build c ns) = becomes_tuple
becomes_translated b k (case_of n cs) = becomes_case

-- a node of an accepted sheet becomes the translation's node of its number
pub becomes : (b : List ℕ) → sheet_verdict b ≡ Accepted → (k : ℕ) → k < nodes b
    → Becomes b k (sheet_node_of b k) (translation_node_of (unshared_translation b) k)
unfolding unshared_translation
becomes b accepted k h = rw (node_becomes never_shared b accepted k h) (becomes_translated b k (sheet_node_of b k))
