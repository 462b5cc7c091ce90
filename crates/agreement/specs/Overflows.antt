-- What request 2 of document 02 speaks of: a multiplication that is worked out, of two numbers "whose exact product is outside signed
-- 32 bits".
use Rattle.std.specs.Prelude.{◌≡◌, ℕ, List, true, false, ℤ, ◌*ℤ◌}
use Rattle.std.proofs.Math.Option.{some}
use Rattle.std.specs.Int.{w32}
use Rattle.definitions.specs.Layouts.{body_of}
use Rattle.definitions.specs.OperatorCodes.{multiply}
use Rattle.definitions.specs.Operators.{in_signed_range, is_zero}
use Rattle.definitions.specs.NodeFields.{Clause, chosen}
use Rattle.definitions.specs.SheetNodes.{SheetNode, parameter, pattern_variable, operator, conditional, call, case_of, sheet_node_of}
use Rattle.definitions.specs.declared.Layout.TheVariants.{Sheet}
use Rattle.agreement.specs.Meaning.{Setting, empty, entered, holding, Closure, argument_of, held_field, value, integer, built, Means}

-- working a node out in a setting works out node `nd` in setting `t`: by call by name, in the order of document 01's "Meaning"
pub data WorksOut (b : List ℕ) (rs : List ℤ) (nd : SheetNode) (t : Setting) : SheetNode → Setting → Type 0 where
  itself : WorksOut b rs nd t nd t
  by_argument : {i : ℕ} {c : Closure} {s : Setting}
      → argument_of s i ≡ some c → WorksOut b rs nd t (sheet_node_of b c.node) c.setting → WorksOut b rs nd t (parameter i) s
  by_body : {f : ℕ} {ns : List ℕ} {s : Setting}
      → WorksOut b rs nd t (sheet_node_of b (body_of Sheet b f)) (entered ns s) → WorksOut b rs nd t (call f ns) s
  by_scrutinee : {n : ℕ} {cs : List Clause} {s : Setting} → WorksOut b rs nd t (sheet_node_of b n) s → WorksOut b rs nd t (case_of n cs) s
  by_clause : {n c m : ℕ} {cs : List Clause} {ns : List ℕ} {s u : Setting}
      → Means b rs (sheet_node_of b n) s (value (built c ns u)) → chosen cs c ≡ some m
      → WorksOut b rs nd t (sheet_node_of b m) (holding s ns u) → WorksOut b rs nd t (case_of n cs) s
  by_field : {i : ℕ} {c : Closure} {s : Setting}
      → held_field s i ≡ some c → WorksOut b rs nd t (sheet_node_of b c.node) c.setting → WorksOut b rs nd t (pattern_variable i) s
  by_condition : {n p q : ℕ} {s : Setting} → WorksOut b rs nd t (sheet_node_of b n) s → WorksOut b rs nd t (conditional n p q) s
  by_second : {n p q : ℕ} {z : ℤ} {s : Setting}
      → Means b rs (sheet_node_of b n) s (value (integer z)) → is_zero z ≡ false → WorksOut b rs nd t (sheet_node_of b p) s
      → WorksOut b rs nd t (conditional n p q) s
  by_third : {n p q : ℕ} {z : ℤ} {s : Setting}
      → Means b rs (sheet_node_of b n) s (value (integer z)) → is_zero z ≡ true → WorksOut b rs nd t (sheet_node_of b q) s
      → WorksOut b rs nd t (conditional n p q) s
  by_left : {o l r : ℕ} {s : Setting} → WorksOut b rs nd t (sheet_node_of b l) s → WorksOut b rs nd t (operator o l r) s
  by_right : {o l r : ℕ} {x : ℤ} {s : Setting}
      → Means b rs (sheet_node_of b l) s (value (integer x)) → WorksOut b rs nd t (sheet_node_of b r) s → WorksOut b rs nd t (operator o l r) s

-- working a node out works out a multiplication whose operands are numbers with a product out of range
pub record Overflows (b : List ℕ) (rs : List ℤ) (nd : SheetNode) (s : Setting) : Type 0 where
  pub left : ℕ
  pub right : ℕ
  pub setting : Setting
  pub x : ℤ
  pub y : ℤ
  pub worked : WorksOut b rs (operator multiply left right) setting nd s
  pub left_number : Means b rs (sheet_node_of b left) setting (value (integer x))
  pub right_number : Means b rs (sheet_node_of b right) setting (value (integer y))
  pub outside : in_signed_range w32 (x *ℤ y) ≡ false

-- so does working the sheet out: "Function 0's body is worked out in a setting that holds nothing"
abbrev pub SheetOverflows : List ℕ → List ℤ → Type 0
SheetOverflows b rs = Overflows b rs (sheet_node_of b (body_of Sheet b 0)) empty
