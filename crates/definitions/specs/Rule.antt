-- The evaluation rule (document 01, "Run"; document 002, figure 3, with section 4.1's lazy tuples): visits of nodes under
-- contexts. Only two places look into contexts and what is kept of them, visiting a formal and making a call; they are
-- parameters here, and `Cells` has the rule's own. Allowances and counts are whole numbers of any size.
use Rattle.std.specs.Prelude.{ℕ, zero, suc, List, Bool, true, false, cond, ℤ, pos, get_or}
use Rattle.std.proofs.Math.Option.{Option, none, some}
use Rattle.std.proofs.Math.ListN.{get_elem?}
use Rattle.definitions.specs.Numbers.{no_step, no_nesting, no_cell, number_wanted, constructor_wanted, no_clause, no_field}
use Rattle.definitions.specs.Operators.{Computed, gives, faults, computed, is_zero}
use Rattle.definitions.specs.NodeFields.{chosen}
use Rattle.definitions.specs.TranslationNodes.{TranslationNode, number, reading, formal, select, operator, conditional, call, tuple, case_of, translation_node_of, tag_of, tuple_fields}

-- a value: a number, or "a constructor with node and context". `C` is the type of contexts
pub data Value (C : Type 0) : Type 0 where
  integer : ℤ → Value C
  constructor : ℕ → C → Value C

-- how a visit ends: with a value, or with the number of a stop or a run fault
pub data Ending (C : Type 0) : Type 0 where
  value : Value C → Ending C
  ended : ℕ → Ending C

-- the steps left, and what is kept of contexts, of type `S`
pub record State (S : Type 0) : Type 0 where
  pub left : ℕ
  pub store : S

-- the end of a visit, and the state that it leaves
pub record Reached (C S : Type 0) : Type 0 where
  pub ending : Ending C
  pub state : State S

-- a visit: of a node, under a context
abbrev pub Visit : Type 0 → Type 0 → Type 0
Visit C S = ℕ → C → State S → Reached C S

-- the two places that look at contexts: a formal by its number, a call by its label and its function
pub record Contexts (C S : Type 0) : Type 0 where
  pub at_formal : Visit C S → ℕ → C → State S → Reached C S
  pub at_call : Visit C S → ℕ → ℕ → C → State S → Reached C S

unfoldable pub reach : {C S : Type 0} → Ending C → State S → Reached C S
reach e s = record { ending = e; state = s }

-- "no step left, stop 11 .. else one step counts"
unfoldable pub with_step : {C S : Type 0} → ℕ → S → (State S → Reached C S) → Reached C S
with_step zero c go = reach (ended no_step) (record { left = 0; store = c })
with_step (suc n) c go = go (record { left = n; store = c })

-- a number is due: go on with it; a constructor is 14
unfoldable pub number_due : {C S : Type 0} → Ending C → State S → (ℤ → State S → Reached C S) → Reached C S
number_due (value (integer z)) s go = go z s
number_due (value (constructor k w)) s go = reach (ended number_wanted) s
number_due (ended n) s go = reach (ended n) s

-- a constructor is due: go on with its node and context; a number is 15
unfoldable pub constructor_due : {C S : Type 0} → Ending C → State S → (ℕ → C → State S → Reached C S) → Reached C S
constructor_due (value (integer z)) s go = reach (ended constructor_wanted) s
constructor_due (value (constructor k w)) s go = go k w s
constructor_due (ended n) s go = reach (ended n) s

-- go on with a node, where there is one; else end with a fault
unfoldable pub node_due : {C S : Type 0} → Option ℕ → ℕ → State S → (ℕ → Reached C S) → Reached C S
node_due none fault s go = reach (ended fault) s
node_due (some k) fault s go = go k

-- "no cell left, stop 13"; else go on
unfoldable pub where_cell : {C S : Type 0} → Bool → State S → (State S → Reached C S) → Reached C S
where_cell false s go = reach (ended no_cell) s
where_cell true s go = go s

-- an operator's result
unfoldable pub result_of : {C S : Type 0} → Computed → State S → Reached C S
result_of (gives z) s = reach (value (integer z)) s
result_of (faults n) s = reach (ended n) s

-- "index 0 is the tag, i is field i-1 visited under the tuple's own context"
unfoldable pub selected : {C S : Type 0} → List ℕ → Visit C S → ℕ → ℕ → C → State S → Reached C S
selected b visit zero k w s = reach (value (integer (pos (tag_of b k)))) s
selected b visit (suc i) k w s = node_due (get_elem? (tuple_fields b k) i) no_field s (λ n. visit n w s)

-- what visiting node k does once its step is counted, by the kind of node
unfoldable pub evaluated : {C S : Type 0} → Contexts C S → List ℕ → List ℤ → Visit C S → TranslationNode → ℕ → C → State S → Reached C S
evaluated M b rs visit (number z) k w s = reach (value (integer z)) s
evaluated M b rs visit (reading i) k w s = reach (value (integer (get_or rs i (pos 0)))) s
evaluated M b rs visit (formal p) k w s = M.at_formal visit p w s
evaluated M b rs visit (select n i) k w s =
    let r = visit n w s in
    constructor_due r.ending r.state (λ m v t. selected b visit i m v t)
evaluated M b rs visit (operator o n m) k w s =
    let r = visit n w s in
    number_due r.ending r.state
    (λ x t. let q = visit m w t in number_due q.ending q.state (λ y u. result_of (computed o x y) u))
evaluated M b rs visit (conditional n p q) k w s =
    let r = visit n w s in
    number_due r.ending r.state (λ z t. visit (cond (is_zero z) q p) w t)
evaluated M b rs visit (call l f) k w s = M.at_call visit l f w s
evaluated M b rs visit (tuple c ns) k w s = reach (value (constructor k w)) s
evaluated M b rs visit (case_of n cs) k w s =
    let r = visit n w s in
    constructor_due r.ending r.state (λ m v t. node_due (chosen cs (tag_of b m)) no_clause t (λ a. visit a w t))

-- visiting node k with a number of visits that may still be opened: "no step left, stop 11; open visits, this one included,
-- above the nesting allowance, stop 12; else one step counts"
unfoldable pub visited : {C S : Type 0} → Contexts C S → List ℕ → List ℤ → ℕ → ℕ → C → State S → Reached C S
visited M b rs zero k w s = with_step s.left s.store (λ t. reach (ended no_nesting) s)
visited M b rs (suc n) k w s =
    with_step s.left s.store (λ t. evaluated M b rs (visited M b rs n) (translation_node_of b k) k w t)
