-- The nodes that a node of a translation names (document 01, "Files", **Translation**: "A node may refer to any node").
use Rattle.std.specs.Prelude.{◌≡◌, ℕ, List}
use Rattle.std.proofs.Math.Option.{some}
use Rattle.std.proofs.Math.ListN.{get_elem?}
use Rattle.definitions.specs.NodeFields.{Clause}
use Rattle.definitions.specs.TranslationNodes.{TranslationNode, select, operator, conditional, tuple, case_of}

pub data Mention : TranslationNode → ℕ → Type 0 where
  selected : {n i : ℕ} → Mention (select n i) n
  left : {o l r : ℕ} → Mention (operator o l r) l
  right : {o l r : ℕ} → Mention (operator o l r) r
  condition : {n p q : ℕ} → Mention (conditional n p q) n
  if_nonzero : {n p q : ℕ} → Mention (conditional n p q) p
  if_zero : {n p q : ℕ} → Mention (conditional n p q) q
  -- field i of a tuple
  component : {t n : ℕ} {ns : List ℕ} (i : ℕ) → get_elem? ns i ≡ some n → Mention (tuple t ns) n
  scrutinee : {n : ℕ} {cs : List Clause} → Mention (case_of n cs) n
  -- the node of clause j
  clause : {n m : ℕ} {cs : List Clause} {c : Clause} (j : ℕ) → get_elem? cs j ≡ some c → c.node ≡ m → Mention (case_of n cs) m
