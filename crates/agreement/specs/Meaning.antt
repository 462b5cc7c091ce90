-- A sheet's meaning by call by name (document 01, "Meaning"): a relation between a node, a setting and what working the
-- node out there ends with. It is fed the sheet's bytes and the readings, and knows no label, cell or allowance. Where
-- working out never ends, nothing is related.
use Rattle.std.specs.Prelude.{◌≡◌, ℕ, List, true, false, ℤ, pos, get_or}
use Rattle.std.proofs.Math.Option.{Option, none, some, map}
use Rattle.std.proofs.Math.ListN.{get_elem?}
use Rattle.definitions.specs.Layouts.{body_of}
use Rattle.definitions.specs.Numbers.{number_wanted, constructor_wanted, no_clause}
use Rattle.definitions.specs.Operators.{Computed, gives, faults, computed, is_zero}
use Rattle.definitions.specs.Outcomes.{Outcome, number_outcome, constructor_outcome, end_outcome}
use Rattle.definitions.specs.NodeFields.{Clause, chosen}
use Rattle.definitions.specs.SheetNodes.{SheetNode, number, reading, parameter, pattern_variable, operator, conditional, call, build, case_of, sheet_node_of}
use Rattle.definitions.specs.declared.Layout.TheVariants.{Sheet}

-- "A setting holds, for each parameter, an argument node and the setting it came from, and once a case has chosen, that
-- case's constructor"
pub data Setting : Type 0 where
  -- it holds nothing
  empty : Setting
  -- made by a call: the argument nodes, all from the caller's setting
  entered : List ℕ → Setting → Setting
  -- a setting with a constructor held: its argument nodes, and the setting where it was built
  holding : Setting → List ℕ → Setting → Setting

-- an unevaluated node with its setting
pub record Closure : Type 0 where
  pub node : ℕ
  pub setting : Setting

unfoldable pub closure_at : List ℕ → Setting → ℕ → Option Closure
closure_at ns s i = map (λ n. record { node = n; setting = s }) (get_elem? ns i)

-- the argument of parameter i
unfoldable pub argument_of : Setting → ℕ → Option Closure
argument_of empty i = none
argument_of (entered ns s) i = closure_at ns s i
argument_of (holding s fs t) i = argument_of s i

-- the held constructor's field i
unfoldable pub held_field : Setting → ℕ → Option Closure
held_field empty i = none
held_field (entered ns s) i = none
held_field (holding s fs t) i = closure_at fs t i

-- a value: a number, or a constructor's number with its argument nodes and the setting where it was built
pub data Value : Type 0 where
  integer : ℤ → Value
  built : ℕ → List ℕ → Setting → Value

-- what working out ends with
pub data End : Type 0 where
  value : Value → End
  fault : ℕ → End

unfoldable pub end_of : Computed → End
end_of (gives z) = value (integer z)
end_of (faults n) = fault n

pub data Means (b : List ℕ) (rs : List ℤ) : SheetNode → Setting → End → Type 0 where
  -- "number: itself; reading: the value of the reading that it names"
  number_itself : {z : ℤ} {s : Setting} → Means b rs (number z) s (value (integer z))
  reading_value : {i : ℕ} {s : Setting} → Means b rs (reading i) s (value (integer (get_or rs i (pos 0))))
  -- "parameter: its argument node, in the setting it came from"
  parameter_argument : {i : ℕ} {c : Closure} {s : Setting} {e : End}
      → argument_of s i ≡ some c
      → Means b rs (sheet_node_of b c.node) c.setting e
      → Means b rs (parameter i) s e
  -- "call: the callee's body, in a fresh setting that pairs each argument node with the present one"
  call_body : {f : ℕ} {ns : List ℕ} {s : Setting} {e : End}
      → Means b rs (sheet_node_of b (body_of Sheet b f)) (entered ns s) e
      → Means b rs (call f ns) s e
  -- "build: the constructor's number with its argument nodes and the present setting; no field is worked out"
  build_itself : {c : ℕ} {ns : List ℕ} {s : Setting} → Means b rs (build c ns) s (value (built c ns s))
  -- "case: the scrutinee; a number is 15, a constructor without a clause 16, else the clause's node in the present setting
  -- with that constructor held"
  case_chosen : {n c m : ℕ} {cs : List Clause} {ns : List ℕ} {s t : Setting} {e : End}
      → Means b rs (sheet_node_of b n) s (value (built c ns t))
      → chosen cs c ≡ some m
      → Means b rs (sheet_node_of b m) (holding s ns t) e
      → Means b rs (case_of n cs) s e
  case_unmatched : {n c : ℕ} {cs : List Clause} {ns : List ℕ} {s t : Setting}
      → Means b rs (sheet_node_of b n) s (value (built c ns t))
      → chosen cs c ≡ none
      → Means b rs (case_of n cs) s (fault no_clause)
  case_number : {n : ℕ} {cs : List Clause} {z : ℤ} {s : Setting}
      → Means b rs (sheet_node_of b n) s (value (integer z))
      → Means b rs (case_of n cs) s (fault constructor_wanted)
  case_fault : {n x : ℕ} {cs : List Clause} {s : Setting}
      → Means b rs (sheet_node_of b n) s (fault x)
      → Means b rs (case_of n cs) s (fault x)
  -- "pattern variable: the held constructor's field at that position, in the setting where it was built"
  pattern_field : {i : ℕ} {c : Closure} {s : Setting} {e : End}
      → held_field s i ≡ some c
      → Means b rs (sheet_node_of b c.node) c.setting e
      → Means b rs (pattern_variable i) s e
  -- "if: nonzero takes the second node, zero the third"; "a constructor where a number is due is 14"
  if_nonzero_law : {n p q : ℕ} {z : ℤ} {s : Setting} {e : End}
      → Means b rs (sheet_node_of b n) s (value (integer z))
      → is_zero z ≡ false
      → Means b rs (sheet_node_of b p) s e
      → Means b rs (conditional n p q) s e
  if_zero_law : {n p q : ℕ} {z : ℤ} {s : Setting} {e : End}
      → Means b rs (sheet_node_of b n) s (value (integer z))
      → is_zero z ≡ true
      → Means b rs (sheet_node_of b q) s e
      → Means b rs (conditional n p q) s e
  if_constructor : {n p q c : ℕ} {ns : List ℕ} {s t : Setting}
      → Means b rs (sheet_node_of b n) s (value (built c ns t))
      → Means b rs (conditional n p q) s (fault number_wanted)
  if_fault : {n p q x : ℕ} {s : Setting}
      → Means b rs (sheet_node_of b n) s (fault x)
      → Means b rs (conditional n p q) s (fault x)
  -- "The left operand is visited and has to be a number before the right is visited"
  operator_numbers : {o l r : ℕ} {x y : ℤ} {s : Setting}
      → Means b rs (sheet_node_of b l) s (value (integer x))
      → Means b rs (sheet_node_of b r) s (value (integer y))
      → Means b rs (operator o l r) s (end_of (computed o x y))
  left_constructor : {o l r c : ℕ} {ns : List ℕ} {s t : Setting}
      → Means b rs (sheet_node_of b l) s (value (built c ns t))
      → Means b rs (operator o l r) s (fault number_wanted)
  left_fault : {o l r x : ℕ} {s : Setting}
      → Means b rs (sheet_node_of b l) s (fault x)
      → Means b rs (operator o l r) s (fault x)
  right_constructor : {o l r c : ℕ} {x : ℤ} {ns : List ℕ} {s t : Setting}
      → Means b rs (sheet_node_of b l) s (value (integer x))
      → Means b rs (sheet_node_of b r) s (value (built c ns t))
      → Means b rs (operator o l r) s (fault number_wanted)
  right_fault : {o l r n : ℕ} {x : ℤ} {s : Setting}
      → Means b rs (sheet_node_of b l) s (value (integer x))
      → Means b rs (sheet_node_of b r) s (fault n)
      → Means b rs (operator o l r) s (fault n)

-- the outcome and value of an end: "outcome 0 with the number, 100 with the constructor's number, or the fault with value 0"
unfoldable pub outcome_of : End → Outcome
outcome_of (value (integer z)) = number_outcome z
outcome_of (value (built c ns s)) = constructor_outcome c
outcome_of (fault n) = end_outcome n

-- the sheet's own answer: "Function 0's body is worked out in a setting that holds nothing"
pub record OwnAnswer (b : List ℕ) (rs : List ℤ) (a : Outcome) : Type 0 where
  pub end : End
  pub means : Means b rs (sheet_node_of b (body_of Sheet b 0)) empty end
  pub agrees : outcome_of end ≡ a
