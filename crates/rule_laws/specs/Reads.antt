-- How contexts are read as lists of labels, in a translation file: what a context stands for where a node is visited under it, and
-- what a visit does to a state. The visits of labels are the relation `Derivation`.
use Rattle.std.specs.Prelude.{◌≡◌, ℕ, suc, ◌+◌, ◌≤◌, List, Bool, true, false, ℤ}
use Rattle.std.proofs.Math.Option.{some}
use Rattle.std.proofs.Math.ListN.{get_elem?}
use Rattle.definitions.specs.TranslationNodes.{TranslationNode, tuple, translation_node_of, tuple_fields}
use Rattle.definitions.specs.Rule.{Ending, value, ended, integer, constructor, State, Reached}
use Rattle.accepted.specs.Mention.{Mention}
use Rattle.rule_laws.specs.Derivations.{Trace, alone, after, after_both, steps_of, cells_of}

-- a state by its parts
abbrev pub state_of : {S : Type 0} → ℕ → S → State S
state_of left store = record { left = left; store = store }

-- whether a visit ended with a value
abbrev pub is_value : {C : Type 0} → Ending C → Bool
is_value (value v) = true
is_value (ended n) = false

-- an ending over contexts is this one over labels, where `A` says of a constructor's node and context what labels it stands for
pub data Shows {C : Type 0} (A : ℕ → C → List ℕ → Type 0) : Ending C → Ending (List ℕ) → Type 0 where
  an_integer : {z : ℤ} → Shows A (value (integer z)) (value (integer z))
  a_constructor : {k : ℕ} {w : C} {ws : List ℕ} → A k w ws → Shows A (value (constructor k w)) (value (constructor k ws))
  an_end : {n : ℕ} → Shows A (ended n) (ended n)

pub record Reads (t : List ℕ) (C S : Type 0) : Type 1 where
  -- node k may be visited under this context, which stands for these labels
  pub At : S → ℕ → C → List ℕ → Type 0
  pub at_mentioned : {m : S} {k n : ℕ} {w : C} {ws : List ℕ} {nd : TranslationNode} → translation_node_of t k ≡ nd → Mention nd n → At m k w ws → At m n w ws
  -- a constructor, by node and context, whose context stands for these labels
  pub Built : S → ℕ → C → List ℕ → Type 0
  pub built_tuple : {m : S} {k a : ℕ} {w : C} {ws ns : List ℕ} → translation_node_of t k ≡ tuple a ns → At m k w ws → Built m k w ws
  pub built_field_law : {m : S} {k n : ℕ} {w : C} {ws : List ℕ} (i : ℕ) → get_elem? (tuple_fields t k) i ≡ some n → Built m k w ws → At m n w ws
  -- what a visit with this trace does to a state, where so many visits may be opened; it ended with a value or not
  pub Went : ℕ → Trace → Bool → State S → State S → Type 0
  pub at_went : {n k : ℕ} {a : Trace} {x : Bool} {s q : State S} {w : C} {ws : List ℕ} → Went n a x s q → At s.store k w ws → At q.store k w ws
  pub went_alone : {n left k : ℕ} {x : Bool} {m : S} {w : C} {ws : List ℕ} → At m k w ws → Went (suc n) alone x (state_of (suc left) m) (state_of left m)
  pub went_after : {n left : ℕ} {a : Trace} {x : Bool} {m : S} {q : State S} → Went n a x (state_of left m) q → Went (suc n) (after a) x (state_of (suc left) m) q
  pub went_both : {n left : ℕ} {a d : Trace} {x : Bool} {m : S} {q p : State S} → Went n a true (state_of left m) q → Went n d x q p
      → Went (suc n) (after_both a d) x (state_of (suc left) m) p
  pub went_fault : {n : ℕ} {a : Trace} {x : Bool} {s q : State S} → Went n a x s q → Went n a false s q
  -- the cells of a store: no more steps and cells than the trace has
  pub size : S → ℕ
  pub went_steps : {n : ℕ} {a : Trace} {x : Bool} {s q : State S} → Went n a x s q → s.left ≤ steps_of a + q.left
  pub went_cells : {n : ℕ} {a : Trace} {x : Bool} {s q : State S} → Went n a x s q → size q.store ≤ size s.store + cells_of a

module _ {t : List ℕ} {C S : Type 0} (R : Reads t C S) where
  open R use {Built, Went}

  -- from this state, a visit comes to this end over labels, with this trace
  pub record Arrives (n : ℕ) (s : State S) (a : Trace) (e : Ending (List ℕ)) (r : Reached C S) : Type 0 where
    pub went : Went n a (is_value e) s r.state
    pub shows : Shows (Built r.state.store) r.ending e
