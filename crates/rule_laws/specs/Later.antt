-- Two evaluations of one file, of which the second has so many more steps left and at least as many visits that may be opened: what
-- they ask of the two places that look at contexts.
use Rattle.std.specs.Prelude.{◌≡◌, ℕ, ◌+◌, ◌≤◌, true, ℤ}
use Rattle.std.proofs.Common.{sym, true≢false}
use Rattle.definitions.specs.Rule.{Ending, value, ended, State, Reached, Visit, Contexts, reach, number_due, constructor_due}
use Rattle.rule_laws.specs.Found.{stopped}
use Rattle.rule_laws.specs.SideBySide.{SideBySide, Both, Beside}
use Rattle.rule_laws.specs.SameNodes.{Made, same_nodes}

-- the state with so many more steps left
abbrev pub later : {S : Type 0} → ℕ → State S → State S
later n s = record { left = s.left + n; store = s.store }

module _ {C S : Type 0} where
  -- what is due from a visit that was stopped is stopped
  pub number_stopped : (x : Ending C) (s : State S) (go : ℤ → State S → Reached C S) → stopped x ≡ true → stopped (number_due x s go).ending ≡ true
  unfolding number_due reach
  number_stopped (value v) s go h = absurd (true≢false (sym h))
  number_stopped (ended n) s go h = h

  pub constructor_stopped : (x : Ending C) (s : State S) (go : ℕ → C → State S → Reached C S) → stopped x ≡ true → stopped (constructor_due x s go).ending ≡ true
  unfolding constructor_due reach
  constructor_stopped (value v) s go h = absurd (true≢false (sym h))
  constructor_stopped (ended n) s go h = h

  -- in step until the first is stopped
  abbrev pub later_made : ℕ → Made C S S
  later_made n =
      record {
        made = later n;
        Nested = λ n m. n ≤ m;
        Cut = λ x. stopped x ≡ true;
        cut_number = number_stopped;
        cut_constructor = constructor_stopped;
      }

  abbrev pub more_steps : ℕ → SideBySide C S C S
  more_steps n = same_nodes (later_made n)

  -- what the two places owe
  pub record LaterHooks (M M' : Contexts C S) (n : ℕ) : Type 0 where
    pub formal_later : {visit visit' : Visit C S} → Beside (more_steps n) visit visit' → (s : State S) (p : ℕ) (c : C)
        → Both (more_steps n) s (M.at_formal visit p c s) (M'.at_formal visit' p c (later n s))
    pub call_later : {visit visit' : Visit C S} → Beside (more_steps n) visit visit' → (s : State S) (l f : ℕ) (c : C)
        → Both (more_steps n) s (M.at_call visit l f c s) (M'.at_call visit' l f c (later n s))
