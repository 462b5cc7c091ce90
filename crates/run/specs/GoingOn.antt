-- What a visit does with the outcome of an operand.
use Rattle.std.specs.Prelude.{◌≡◌, ℕ, ◌≤◌, ◌<◌, List, ℤ, cond, eqb, Result, Ok, Err}
use Rattle.definitions.specs.Numbers.{no_clause}
use Rattle.definitions.specs.TranslationKinds as kinds
use Rattle.definitions.specs.Records.{field}
use Rattle.definitions.specs.Operators.{computed, is_zero}
use Rattle.definitions.specs.NodeFields.{clause_list, chosen}
use Rattle.definitions.specs.Layouts.{nodes, node_record}
use Rattle.definitions.specs.TranslationNodes.{tag_of}
use Rattle.definitions.specs.Rule as Rule
use Rattle.definitions.specs.Rule.{Ending, Reached, Visit, reach, number_due, constructor_due, node_due, result_of, selected}
use Rattle.lent_rule.specs.Lent.{Lent}
use Rattle.lent_rule.specs.Standing.{Inside}
use Rattle.run.specs.Packed.{outcome_in}
use Rattle.run.specs.States.{below, above, ending_of, Equipped, NodeIs}

-- the kinds of nodes that choose the node to visit after that of their first field
pub data Chooses : ℕ → Type 0 where
  a_select : Chooses kinds.select
  a_conditional : Chooses kinds.conditional
  a_case : Chooses kinds.case_of

-- how the rule goes on with what the visit of the first ended with
module _ (b : List ℕ) (at : ℕ) (e : Ending ℕ) (visit : Visit ℕ Lent) (s : Rule.State Lent) where
  abbrev rec : List ℕ
  rec = node_record b (below at)

  unfoldable pub goes_on : ℕ → Reached ℕ Lent
  goes_on kind =
      cond (eqb kind kinds.select) (constructor_due e s (λ m v u. selected b visit (field rec 1) m v u))
      (cond (eqb kind kinds.conditional) (number_due e s (λ z u. visit (cond (is_zero z) (field rec 2) (field rec 1)) (above at) u))
      (constructor_due e s (λ m v u. node_due (chosen (clause_list rec) (tag_of b m)) no_clause u (λ a. visit a (above at) u))))

-- the next visit, by its node and context in one number, or the end
unfoldable pub next_reached : Visit ℕ Lent → Result ℕ ℕ → Rule.State Lent → Reached ℕ Lent
next_reached visit (Ok p) s = visit (below p) (above p) s
next_reached visit (Err x) s = reach (ending_of (outcome_in x)) s

-- a node of a kind, of which an operand was visited, whose visit ended so
pub record OperandKnown (b tab : List ℕ) (at kind : ℕ) (e : Ending ℕ) : Type 0 where
  pub equipped : Equipped b tab
  pub node : NodeIs b (node_record b (below at)) (below at) kind
  pub most : ℕ
  pub inside : Inside b most e

-- it goes on to a visit, or ends; and the visit is of a node, under a context of the cells written
pub record GoesOn (b : List ℕ) (at kind : ℕ) (e : Ending ℕ) (r : Result ℕ ℕ) : Type 0 where
  pub same : (visit : Visit ℕ Lent) (s : Rule.State Lent) → goes_on b at e visit s kind ≡ next_reached visit r s
  pub there : {p : ℕ} → r ≡ Ok p → below p < nodes b
  pub written : {p most : ℕ} → r ≡ Ok p → Inside b most e → above at ≤ most → above p ≤ most

-- how an operator ends, by its operands
pub record OperatorEnds (code : ℕ) (x y : ℤ) (r : ℕ) : Type 0 where
  pub same : (s : Rule.State Lent) → result_of (computed code x y) s ≡ reach (ending_of (outcome_in r)) s
