-- The evaluator is monotone: where it ends, it ends alike with more fuel.
use mathlib.Core.Path.{◌≡◌, refl}
use Prim.Native.Nat.{ℕ, zero, suc, ◌≤◌}
use native.Mathlib.Nat.{not-suc-le-zero, le_of_suc-le-suc}
use mathlib.Core.List.{List}
use mathlib.Core.Option.{Option, none, some, none-ne-some}
use mathlib.Core.Bool.{cond}
use lib.IntN.{ℤ}
use Rattle.definitions.specs.Layouts.{body_of}
use Rattle.definitions.specs.Operators.{is_zero}
use Rattle.definitions.specs.NodeFields.{chosen}
use Rattle.definitions.specs.SheetNodes.{SheetNode, number, reading, parameter, pattern_variable, operator, conditional, call, build, case_of, sheet_node_of}
use Rattle.agreement.specs.Meaning.{Setting, entered, holding, Closure, argument_of, held_field, integer, built, End, value, fault}
use Rattle.definitions.specs.declared.Layout.TheVariants.{Sheet}
use Rattle.evaluator.specs.Evaluator.{Evaluator, number_due, constructor_due, clause_due, closure_due, end_by, end_within}

-- where the first ends, the second ends alike
abbrev Below : Option End → Option End → Type 0
Below o o' = (e : End) → o ≡ some e → o' ≡ some e

-- a number that is due: monotone in what comes and in how to go on
number_monotone : (o : Option End) {o' : Option End} {k k' : ℤ → Option End}
    → Below o o' → ((z : ℤ) → Below (k z) (k' z)) → Below (number_due o k) (number_due o' k')
unfolding number_due
number_monotone none below on e h = absurd (none-ne-some e h)
number_monotone (some (value (integer z))) below on e h = rw (below _ refl) (on z e h)
number_monotone (some (value (built c ns t))) below on e h = rw (below _ refl) h
number_monotone (some (fault x)) below on e h = rw (below _ refl) h

-- a constructor that is due
constructor_monotone : (o : Option End) {o' : Option End} {k k' : ℕ → List ℕ → Setting → Option End}
    → Below o o' → ((c : ℕ) (ns : List ℕ) (t : Setting) → Below (k c ns t) (k' c ns t))
    → Below (constructor_due o k) (constructor_due o' k')
unfolding constructor_due
constructor_monotone none below on e h = absurd (none-ne-some e h)
constructor_monotone (some (value (integer z))) below on e h = rw (below _ refl) h
constructor_monotone (some (value (built c ns t))) below on e h = rw (below _ refl) (on c ns t e h)
constructor_monotone (some (fault x)) below on e h = rw (below _ refl) h

-- a clause that is due
clause_monotone : (m : Option ℕ) {k k' : ℕ → Option End}
    → ((n : ℕ) → Below (k n) (k' n)) → Below (clause_due m k) (clause_due m k')
unfolding clause_due
clause_monotone none on e h = h
clause_monotone (some n) on e h = on n e h

-- an unevaluated node that is due
closure_monotone : (b : List ℕ) (c : Option Closure) {go go' : Evaluator}
    → ((n : SheetNode) (s : Setting) → Below (go n s) (go' n s)) → Below (closure_due b go c) (closure_due b go' c)
unfolding closure_due
closure_monotone b none on e h = h
closure_monotone b (some c) on e h = on (sheet_node_of b c.node) c.setting e h

-- one node: monotone in the evaluator of the nodes that it asks for
node_monotone : (b : List ℕ) (rs : List ℤ) (go go' : Evaluator)
    → ((n : SheetNode) (s : Setting) → Below (go n s) (go' n s))
    → (n : SheetNode) (s : Setting) → Below (end_by b rs go n s) (end_by b rs go' n s)
unfolding end_by
node_monotone b rs go go' on (number z) s e h = h
node_monotone b rs go go' on (reading i) s e h = h
node_monotone b rs go go' on (parameter i) s e h = closure_monotone b (argument_of s i) on e h
node_monotone b rs go go' on (pattern_variable i) s e h = closure_monotone b (held_field s i) on e h
node_monotone b rs go go' on (operator o l r) s e h =
    number_monotone (go (sheet_node_of b l) s) (on (sheet_node_of b l) s)
    (λ x. number_monotone (go (sheet_node_of b r) s) (on (sheet_node_of b r) s) (λ y e p. p)) e h
node_monotone b rs go go' on (conditional n p q) s e h =
    number_monotone (go (sheet_node_of b n) s) (on (sheet_node_of b n) s)
    (λ z. on (sheet_node_of b (cond (is_zero z) q p)) s) e h
node_monotone b rs go go' on (call f ns) s e h = on (sheet_node_of b (body_of Sheet b f)) (entered ns s) e h
node_monotone b rs go go' on (build c ns) s e h = h
node_monotone b rs go go' on (case_of n cs) s e h =
    constructor_monotone (go (sheet_node_of b n) s) (on (sheet_node_of b n) s)
    (λ c ns t. clause_monotone (chosen cs c) (λ m. on (sheet_node_of b m) (holding s ns t))) e h

-- where the evaluator ends, it ends alike with more fuel
pub monotone : (b : List ℕ) (rs : List ℤ) (fuel more : ℕ) → fuel ≤ more → (n : SheetNode) (s : Setting) {e : End}
    → end_within b rs fuel n s ≡ some e → end_within b rs more n s ≡ some e
unfolding end_within
monotone b rs zero more l n s h = absurd (none-ne-some _ h)
monotone b rs (suc fuel) zero l n s h = absurd (not-suc-le-zero l)
monotone b rs (suc fuel) (suc more) l n s {e} h =
    node_monotone b rs (end_within b rs fuel) (end_within b rs more)
    (λ m t d p. monotone b rs fuel more (le_of_suc-le-suc l) m t p) n s e h
