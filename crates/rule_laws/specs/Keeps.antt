-- What every visit keeps, stopped or not, for any contexts: the steps left do not rise, the store becomes one that it may
-- become, where the visit ends with a value and where it does not, and what comes out may come out.
use Rattle.std.specs.Prelude.{◌≡◌, ℕ, ◌≤◌, List, Bool, true, ℤ, pos, get_or}
use Rattle.std.proofs.Math.Option.{some}
use Rattle.std.proofs.Math.ListN.{get_elem?}
use Rattle.definitions.specs.Numbers.{is_stop, is_fault}
use Rattle.definitions.specs.Operators.{gives, computed}
use Rattle.definitions.specs.TranslationNodes.{TranslationNode, number, formal, call, tuple, translation_node_of, tag_of, tuple_fields}
use Rattle.definitions.specs.Rule.{Ending, value, ended, integer, constructor, State, Reached, Visit, Contexts, visited}
use Rattle.accepted.specs.Mention.{Mention}
use Rattle.rule_laws.specs.Reads.{is_value}

-- what is to be kept: of stores, of the nodes that are visited, and of values and ends
pub record Keeps (t : List ℕ) (rs : List ℤ) (C S : Type 0) : Type 1 where
  -- a store may become another, in a visit that ends with a value or not; only after a value is anything else visited
  pub Becomes : Bool → S → S → Type 0
  pub stays : {x : Bool} (m : S) → Becomes x m m
  pub onward : {x : Bool} {m n q : S} → Becomes true m n → Becomes x n q → Becomes x m q
  -- node k may be visited under this context
  pub At : S → ℕ → C → Type 0
  pub at_onward : {m n : S} {k : ℕ} {c : C} → Becomes true m n → At m k c → At n k c
  pub at_mentioned : {m : S} {k n : ℕ} {c : C} {nd : TranslationNode} → translation_node_of t k ≡ nd → Mention nd n → At m k c → At m n c
  -- a constructor, by node and context, that may come out
  pub Built : S → ℕ → C → Type 0
  pub built_tuple : {m : S} {k a : ℕ} {c : C} {ns : List ℕ} → translation_node_of t k ≡ tuple a ns → At m k c → Built m k c
  pub built_field_law : {m : S} {k n : ℕ} {c : C} (i : ℕ) → get_elem? (tuple_fields t k) i ≡ some n → Built m k c → At m n c
  -- a number that may come out
  pub Number : ℤ → Type 0
  pub number_literal : {m : S} {k : ℕ} {c : C} {z : ℤ} → translation_node_of t k ≡ number z → At m k c → Number z
  pub number_reading : (i : ℕ) → Number (get_or rs i (pos 0))
  pub number_tag : {m : S} {k : ℕ} {c : C} → Built m k c → Number (pos (tag_of t k))
  pub number_computed : {x y z : ℤ} (o : ℕ) → Number x → Number y → computed o x y ≡ gives z → Number z
  -- a number that a visit may end with in place of a value
  pub MayEnd : ℕ → Type 0
  pub stop_ends : (n : ℕ) → is_stop n ≡ true → MayEnd n
  pub fault_ends : (n : ℕ) → is_fault n ≡ true → MayEnd n

module _ {t : List ℕ} {rs : List ℤ} {C S : Type 0} (K : Keeps t rs C S) where
  -- an ending that may come out
  pub data Proper (m : S) : Ending C → Type 0 where
    an_integer : {z : ℤ} → K.Number z → Proper m (value (integer z))
    a_constructor : {k : ℕ} {c : C} → K.Built m k c → Proper m (value (constructor k c))
    an_end : {n : ℕ} → K.MayEnd n → Proper m (ended n)

  -- what is kept from a state to the end of a visit
  pub record Kept (s : State S) (r : Reached C S) : Type 0 where
    pub falls : r.state.left ≤ s.left
    pub becomes : K.Becomes (is_value r.ending) s.store r.state.store
    pub proper : Proper r.state.store r.ending

  -- a visit that keeps
  pub record Keeping (visit : Visit C S) : Type 0 where
    pub keeps : (k : ℕ) (c : C) (s : State S) → K.At s.store k c → Kept s (visit k c s)

  -- what the two places that look at contexts owe, at each nesting
  pub record KeepingHooks (M : Contexts C S) : Type 0 where
    pub formal_keeps : (n : ℕ) → Keeping (visited M t rs n) → (k p : ℕ) (c : C) (s : State S)
        → translation_node_of t k ≡ formal p → K.At s.store k c
        → Kept s (M.at_formal (visited M t rs n) p c s)
    pub call_keeps : (n : ℕ) → Keeping (visited M t rs n) → (k l f : ℕ) (c : C) (s : State S)
        → translation_node_of t k ≡ call l f → K.At s.store k c
        → Kept s (M.at_call (visited M t rs n) l f c s)
