-- Call by name as a computation (document 01, "Meaning"): what a node ends with in a setting, worked out at most `fuel`
-- nodes deep. It has no result where the fuel is too little, and none where a setting lacks what a node asks it for.
use Rattle.std.specs.Prelude.{ℕ, zero, suc, List, cond, ℤ, pos, get_or}
use Rattle.std.proofs.Math.Option.{Option, none, some, map}
use Rattle.definitions.specs.Layouts.{body_of}
use Rattle.definitions.specs.Numbers.{number_wanted, constructor_wanted, no_clause}
use Rattle.definitions.specs.Operators.{computed, is_zero}
use Rattle.definitions.specs.Outcomes.{Outcome}
use Rattle.definitions.specs.NodeFields.{chosen}
use Rattle.definitions.specs.SheetNodes.{SheetNode, number, reading, parameter, pattern_variable, operator, conditional, call, build, case_of, sheet_node_of}
use Rattle.agreement.specs.Meaning.{Setting, empty, entered, holding, Closure, argument_of, held_field, integer, built, End, value, fault, end_of, outcome_of}
use Rattle.definitions.specs.declared.Layout.TheVariants.{Sheet}

-- a way to work a node out in a setting, where it ends
abbrev pub Evaluator : Type 0
Evaluator = SheetNode → Setting → Option End

-- a number is due: go on with it; a constructor is 14, and a fault ends everything
unfoldable pub number_due : Option End → (ℤ → Option End) → Option End
number_due none go = none
number_due (some (value (integer z))) go = go z
number_due (some (value (built c ns t))) go = some (fault number_wanted)
number_due (some (fault x)) go = some (fault x)

-- a constructor is due: go on with it; a number is 15, and a fault ends everything
unfoldable pub constructor_due : Option End → (ℕ → List ℕ → Setting → Option End) → Option End
constructor_due none go = none
constructor_due (some (value (integer z))) go = some (fault constructor_wanted)
constructor_due (some (value (built c ns t))) go = go c ns t
constructor_due (some (fault x)) go = some (fault x)

-- a clause is due: go on with its node; none is 16
unfoldable pub clause_due : Option ℕ → (ℕ → Option End) → Option End
clause_due none go = some (fault no_clause)
clause_due (some m) go = go m

-- an unevaluated node is due: work it out in its own setting
unfoldable pub closure_due : List ℕ → Evaluator → Option Closure → Option End
closure_due b go none = none
closure_due b go (some c) = go (sheet_node_of b c.node) c.setting

-- what a node ends with, by its kind; the nodes that it asks for are worked out by `go`
unfoldable pub end_by : List ℕ → List ℤ → Evaluator → SheetNode → Setting → Option End
end_by b rs go (number z) s = some (value (integer z))
end_by b rs go (reading i) s = some (value (integer (get_or rs i (pos 0))))
end_by b rs go (parameter i) s = closure_due b go (argument_of s i)
end_by b rs go (pattern_variable i) s = closure_due b go (held_field s i)
end_by b rs go (operator o l r) s =
    number_due (go (sheet_node_of b l) s)
    (λ x. number_due (go (sheet_node_of b r) s) (λ y. some (end_of (computed o x y))))
end_by b rs go (conditional n p q) s =
    number_due (go (sheet_node_of b n) s) (λ z. go (sheet_node_of b (cond (is_zero z) q p)) s)
end_by b rs go (call f ns) s = go (sheet_node_of b (body_of Sheet b f)) (entered ns s)
end_by b rs go (build c ns) s = some (value (built c ns s))
end_by b rs go (case_of n cs) s =
    constructor_due (go (sheet_node_of b n) s)
    (λ c ns t. clause_due (chosen cs c) (λ m. go (sheet_node_of b m) (holding s ns t)))

-- what a node ends with, worked out at most `fuel` nodes deep
unfoldable pub end_within : List ℕ → List ℤ → ℕ → SheetNode → Setting → Option End
end_within b rs zero n s = none
end_within b rs (suc fuel) n s = end_by b rs (end_within b rs fuel) n s

-- the sheet's own answer, worked out at most `fuel` nodes deep
unfoldable pub own_within : List ℕ → List ℤ → ℕ → Option Outcome
own_within b rs fuel = map outcome_of (end_within b rs fuel (sheet_node_of b (body_of Sheet b 0)) empty)
