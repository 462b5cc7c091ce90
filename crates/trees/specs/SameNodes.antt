-- What equal trees say of their nodes: field by field, and kind by kind.
use Rattle.std.specs.Prelude.{◌≡◌, ℕ, ◌<◌, List, [], ◌∷◌, true, false, ℤ}
use Rattle.definitions.specs.Records.{kind_of, field, field_count}
use Rattle.definitions.specs.Layouts.{node_record, owner_of}
use Rattle.definitions.specs.SheetKinds
use Rattle.definitions.specs.NodeFields.{Clause}
use Rattle.definitions.specs.SheetNodes.{SheetNode, number, reading, parameter, pattern_variable, operator, conditional, call, build, case_of, scrutinee_of}
use Rattle.definitions.specs.Trees.{names_node}
use Rattle.definitions.specs.declared.Layout.TheVariants.{Sheet}

-- nodes k of sheet a and m of sheet b, field by field: nodes that they name, and scrutinees, are joined by R
pub record Heads (R : ℕ → ℕ → Type 0) (a b : List ℕ) (k m : ℕ) : Type 0 where
  pub kinds : kind_of (node_record a k) ≡ kind_of (node_record b m)
  pub counts : field_count (node_record a k) ≡ field_count (node_record b m)
  pub parts : (i : ℕ) → i < field_count (node_record a k) → names_node (kind_of (node_record a k)) i ≡ true
      → R (field (node_record a k) i) (field (node_record b m) i)
  pub numbers : (i : ℕ) → i < field_count (node_record a k) → names_node (kind_of (node_record a k)) i ≡ false
      → field (node_record a k) i ≡ field (node_record b m) i
  pub owners : kind_of (node_record a k) ≡ SheetKinds.parameter → owner_of Sheet a k ≡ owner_of Sheet b m
  pub scrutinees : kind_of (node_record a k) ≡ SheetKinds.pattern_variable → R (scrutinee_of a k) (scrutinee_of b m)

-- two lists of nodes, pair by pair
pub data Pairs (R : ℕ → ℕ → Type 0) : List ℕ → List ℕ → Type 0 where
  no_pair : Pairs R [] []
  pair : {x y : ℕ} {xs ys : List ℕ} → R x y → Pairs R xs ys → Pairs R (x ∷ xs) (y ∷ ys)

-- two lists of clauses, pair by pair
pub data ClausePairs (R : ℕ → ℕ → Type 0) : List Clause → List Clause → Type 0 where
  no_clause_law : ClausePairs R [] []
  clause_pair : {c d : Clause} {cs ds : List Clause} → c.constructor ≡ d.constructor → R c.node d.node → ClausePairs R cs ds
      → ClausePairs R (c ∷ cs) (d ∷ ds)

-- nodes k of sheet a and m of sheet b, kind by kind
pub data SameNode (R : ℕ → ℕ → Type 0) (a b : List ℕ) (k m : ℕ) : SheetNode → SheetNode → Type 0 where
  same_number : {z : ℤ} → SameNode R a b k m (number z) (number z)
  same_reading : {i : ℕ} → SameNode R a b k m (reading i) (reading i)
  same_parameter : {i : ℕ} → owner_of Sheet a k ≡ owner_of Sheet b m → SameNode R a b k m (parameter i) (parameter i)
  same_pattern : {i : ℕ} → R (scrutinee_of a k) (scrutinee_of b m) → SameNode R a b k m (pattern_variable i) (pattern_variable i)
  same_operator : {o l r l' r' : ℕ} → R l l' → R r r' → SameNode R a b k m (operator o l r) (operator o l' r')
  same_conditional : {n p q n' p' q' : ℕ} → R n n' → R p p' → R q q' → SameNode R a b k m (conditional n p q) (conditional n' p' q')
  same_call : {f : ℕ} {ns ms : List ℕ} → Pairs R ns ms → SameNode R a b k m (call f ns) (call f ms)
  same_build : {c : ℕ} {ns ms : List ℕ} → Pairs R ns ms → SameNode R a b k m (build c ns) (build c ms)
  same_case : {n n' : ℕ} {cs ds : List Clause} → R n n' → ClausePairs R cs ds → SameNode R a b k m (case_of n cs) (case_of n' ds)
