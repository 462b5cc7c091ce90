-- The nodes that a node of a sheet names (document 01, "Files", **Sheet**): its children.
use Rattle.std.specs.Prelude.{◌≡◌, ℕ, List, Bool, true, false}
use Rattle.std.proofs.Math.Option.{some}
use Rattle.std.proofs.Math.ListN.{get_elem?}
use Rattle.definitions.specs.NodeFields.{Clause}
use Rattle.definitions.specs.SheetNodes.{SheetNode, number, reading, parameter, pattern_variable, operator, conditional, call, build, case_of}

pub data Child : SheetNode → ℕ → Type 0 where
  left : {o l r : ℕ} → Child (operator o l r) l
  right : {o l r : ℕ} → Child (operator o l r) r
  condition : {n p q : ℕ} → Child (conditional n p q) n
  if_nonzero : {n p q : ℕ} → Child (conditional n p q) p
  if_zero : {n p q : ℕ} → Child (conditional n p q) q
  -- argument i of a call
  argument : {f n : ℕ} {ns : List ℕ} (i : ℕ) → get_elem? ns i ≡ some n → Child (call f ns) n
  -- argument i of a build
  component : {c n : ℕ} {ns : List ℕ} (i : ℕ) → get_elem? ns i ≡ some n → Child (build c ns) n
  scrutinee : {n : ℕ} {cs : List Clause} → Child (case_of n cs) n
  -- the node of clause j
  clause : {n m : ℕ} {cs : List Clause} {c : Clause} (j : ℕ) → get_elem? cs j ≡ some c → c.node ≡ m → Child (case_of n cs) m

-- whether a node is a case
abbrev pub is_case : SheetNode → Bool
is_case (number z) = false
is_case (reading i) = false
is_case (parameter i) = false
is_case (pattern_variable i) = false
is_case (operator o l r) = false
is_case (conditional n p q) = false
is_case (call f ns) = false
is_case (build c ns) = false
is_case (case_of n cs) = true
