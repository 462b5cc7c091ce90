-- The evaluation rule as a relation over contexts that are lists of labels (document 01, "Run"): what a visit of a node under
-- a context ends with, and its trace, which is as much of it as its cost depends on. It knows no allowance, so a visit that is
-- stopped is not related to anything.
use Rattle.std.specs.Prelude.{◌≡◌, ℕ, zero, suc, ◌+◌, max, List, [], ◌∷◌, cond, ℤ, pos, get_or}
use Rattle.std.proofs.Math.Option.{none, some}
use Rattle.std.proofs.Math.ListN.{get_elem?}
use Rattle.definitions.specs.Layouts.{body_of}
use Rattle.definitions.specs.Numbers.{number_wanted, constructor_wanted, no_clause, no_actual, no_field}
use Rattle.definitions.specs.Operators.{Computed, gives, faults, computed, is_zero}
use Rattle.definitions.specs.NodeFields.{Clause, chosen}
use Rattle.definitions.specs.TranslationNodes.{TranslationNode, number, reading, formal, select, operator, conditional, call, tuple, case_of, translation_node_of, actual, tag_of, tuple_fields}
use Rattle.definitions.specs.Rule.{Ending, value, ended, integer, constructor}
use Rattle.definitions.specs.declared.Layout.TheVariants.{Translation}

-- the trace of a visit: it visits nothing else, one node, two nodes one after the other, or a function's body
pub data Trace : Type 0 where
  alone : Trace
  after : Trace → Trace
  after_both : Trace → Trace → Trace
  after_call : Trace → Trace

-- the cost of a trace: the visits open at once, the steps counted and the cells added
abbrev pub depth_of : Trace → ℕ
depth_of alone = 1
depth_of (after p) = suc (depth_of p)
depth_of (after_both p q) = suc (max (depth_of p) (depth_of q))
depth_of (after_call p) = suc (depth_of p)

abbrev pub steps_of : Trace → ℕ
steps_of alone = 1
steps_of (after p) = suc (steps_of p)
steps_of (after_both p q) = suc (steps_of p + steps_of q)
steps_of (after_call p) = suc (steps_of p)

abbrev pub cells_of : Trace → ℕ
cells_of alone = 0
cells_of (after p) = cells_of p
cells_of (after_both p q) = cells_of p + cells_of q
cells_of (after_call p) = suc (cells_of p)

-- an ending where a number is due and none comes, with the fault that this is
pub data NotNumber : Ending (List ℕ) → ℕ → Type 0 where
  constructor_came : {k : ℕ} {ws : List ℕ} → NotNumber (value (constructor k ws)) number_wanted
  ended_before : {n : ℕ} → NotNumber (ended n) n

-- the same where a constructor is due
pub data NotConstructor : Ending (List ℕ) → ℕ → Type 0 where
  number_came : {z : ℤ} → NotConstructor (value (integer z)) constructor_wanted
  ended_first : {n : ℕ} → NotConstructor (ended n) n

-- an operator's result
unfoldable pub ending_of : Computed → Ending (List ℕ)
ending_of (gives z) = value (integer z)
ending_of (faults n) = ended n

-- visiting node k, which is this node of the translation t, under these labels
pub data Derivation (t : List ℕ) (rs : List ℤ) : TranslationNode → ℕ → List ℕ → Trace → Ending (List ℕ) → Type 0 where
  number_itself : {z : ℤ} {k : ℕ} {ws : List ℕ} → Derivation t rs (number z) k ws alone (value (integer z))
  reading_value : {i k : ℕ} {ws : List ℕ} → Derivation t rs (reading i) k ws alone (value (integer (get_or rs i (pos 0))))
  tuple_itself : {c k : ℕ} {ns ws : List ℕ} → Derivation t rs (tuple c ns) k ws alone (value (constructor k ws))
  -- "formal: visit the actual that the head label names, under the tail"
  formal_actual : {p l n k : ℕ} {ws : List ℕ} {a : Trace} {e : Ending (List ℕ)}
      → actual t p l ≡ some n
      → Derivation t rs (translation_node_of t n) n ws a e
      → Derivation t rs (formal p) k (l ∷ ws) (after a) e
  formal_beyond : {p l k : ℕ} {ws : List ℕ}
      → actual t p l ≡ none
      → Derivation t rs (formal p) k (l ∷ ws) alone (ended no_actual)
  formal_outside : {p k : ℕ} → Derivation t rs (formal p) k [] alone (ended no_actual)
  -- "call: .. visit the body under it"
  call_body : {l f k : ℕ} {ws : List ℕ} {a : Trace} {e : Ending (List ℕ)}
      → Derivation t rs (translation_node_of t (body_of Translation t f)) (body_of Translation t f) (l ∷ ws) a e
      → Derivation t rs (call l f) k ws (after_call a) e
  -- "select: visit the node; index 0 is the tag, i is field i-1 visited under the tuple's own context"
  select_tag : {n m k : ℕ} {ws vs : List ℕ} {a : Trace}
      → Derivation t rs (translation_node_of t n) n ws a (value (constructor m vs))
      → Derivation t rs (select n zero) k ws (after a) (value (integer (pos (tag_of t m))))
  select_field : {n m i j k : ℕ} {ws vs : List ℕ} {a d : Trace} {e : Ending (List ℕ)}
      → Derivation t rs (translation_node_of t n) n ws a (value (constructor m vs))
      → get_elem? (tuple_fields t m) i ≡ some j
      → Derivation t rs (translation_node_of t j) j vs d e
      → Derivation t rs (select n (suc i)) k ws (after_both a d) e
  select_beyond : {n m i k : ℕ} {ws vs : List ℕ} {a : Trace}
      → Derivation t rs (translation_node_of t n) n ws a (value (constructor m vs))
      → get_elem? (tuple_fields t m) i ≡ none
      → Derivation t rs (select n (suc i)) k ws (after a) (ended no_field)
  select_fails : {n i x k : ℕ} {ws : List ℕ} {a : Trace} {e : Ending (List ℕ)}
      → Derivation t rs (translation_node_of t n) n ws a e
      → NotConstructor e x
      → Derivation t rs (select n i) k ws (after a) (ended x)
  -- "case: visit the scrutinee, then the first clause with its tag"
  case_chosen : {n m j k : ℕ} {cs : List Clause} {ws vs : List ℕ} {a d : Trace} {e : Ending (List ℕ)}
      → Derivation t rs (translation_node_of t n) n ws a (value (constructor m vs))
      → chosen cs (tag_of t m) ≡ some j
      → Derivation t rs (translation_node_of t j) j ws d e
      → Derivation t rs (case_of n cs) k ws (after_both a d) e
  case_unmatched : {n m k : ℕ} {cs : List Clause} {ws vs : List ℕ} {a : Trace}
      → Derivation t rs (translation_node_of t n) n ws a (value (constructor m vs))
      → chosen cs (tag_of t m) ≡ none
      → Derivation t rs (case_of n cs) k ws (after a) (ended no_clause)
  case_fails : {n x k : ℕ} {cs : List Clause} {ws : List ℕ} {a : Trace} {e : Ending (List ℕ)}
      → Derivation t rs (translation_node_of t n) n ws a e
      → NotConstructor e x
      → Derivation t rs (case_of n cs) k ws (after a) (ended x)
  -- "if: nonzero takes the second node, zero the third"
  if_chosen : {n p q k : ℕ} {z : ℤ} {ws : List ℕ} {a d : Trace} {e : Ending (List ℕ)}
      → Derivation t rs (translation_node_of t n) n ws a (value (integer z))
      → Derivation t rs (translation_node_of t (cond (is_zero z) q p)) (cond (is_zero z) q p) ws d e
      → Derivation t rs (conditional n p q) k ws (after_both a d) e
  if_fails : {n p q x k : ℕ} {ws : List ℕ} {a : Trace} {e : Ending (List ℕ)}
      → Derivation t rs (translation_node_of t n) n ws a e
      → NotNumber e x
      → Derivation t rs (conditional n p q) k ws (after a) (ended x)
  -- "The left operand is visited and has to be a number before the right is visited"
  operator_numbers : {o l r k : ℕ} {x y : ℤ} {ws : List ℕ} {a d : Trace}
      → Derivation t rs (translation_node_of t l) l ws a (value (integer x))
      → Derivation t rs (translation_node_of t r) r ws d (value (integer y))
      → Derivation t rs (operator o l r) k ws (after_both a d) (ending_of (computed o x y))
  left_fails : {o l r x k : ℕ} {ws : List ℕ} {a : Trace} {e : Ending (List ℕ)}
      → Derivation t rs (translation_node_of t l) l ws a e
      → NotNumber e x
      → Derivation t rs (operator o l r) k ws (after a) (ended x)
  right_fails : {o l r x k : ℕ} {z : ℤ} {ws : List ℕ} {a d : Trace} {e : Ending (List ℕ)}
      → Derivation t rs (translation_node_of t l) l ws a (value (integer z))
      → Derivation t rs (translation_node_of t r) r ws d e
      → NotNumber e x
      → Derivation t rs (operator o l r) k ws (after_both a d) (ended x)
