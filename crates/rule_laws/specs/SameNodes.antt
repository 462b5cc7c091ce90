-- Two evaluations of one file that visit the same nodes under the same contexts, side by side.
use Rattle.std.specs.Prelude.{ℕ, ℤ}
use Rattle.definitions.specs.Rule.{Ending, State, Reached, number_due, constructor_due}
use Rattle.rule_laws.specs.SideBySide.{SideBySide}

-- the same nodes, formals and calls, under the same contexts
pub data Same {A C : Type 0} (a : A) (c : C) : A → C → Type 0 where
  same : Same a c a c

pub data SameCall {C : Type 0} (l f : ℕ) (c : C) : ℕ → ℕ → C → Type 0 where
  same_call : SameCall l f c l f c

-- what joins two such evaluations: the second's states are made from the first's, until the first is cut short
pub record Made (C S T : Type 0) : Type 1 where
  pub made : State S → State T
  pub Nested : ℕ → ℕ → Type 0
  pub Cut : Ending C → Type 0
  pub cut_number : (x : Ending C) (s : State S) (go : ℤ → State S → Reached C S) → Cut x → Cut (number_due x s go).ending
  pub cut_constructor : (x : Ending C) (s : State S) (go : ℕ → C → State S → Reached C S) → Cut x → Cut (constructor_due x s go).ending

abbrev pub same_nodes : {C S T : Type 0} → Made C S T → SideBySide C S C T
same_nodes {S} A =
    record {
      World = State S;
      here = λ w. w;
      there = A.made;
      Leads = λ w v. Unit {0};
      stays = λ w. tt;
      onward = λ p q. tt;
      Steps = λ w v. Unit {0};
      steps_lead = λ p. tt;
      At = λ w k m c d. Same k c m d;
      at_onward = λ l h. h;
      Built = λ w k m c d. Same k c m d;
      AtFormal = λ w p q c d. Same p c q d;
      AtCall = λ w l f l' f' c d. SameCall l f c l' f' d;
      Nested = A.Nested;
      Cut = λ w r q. A.Cut r.ending;
      cut_back = λ l h. h;
      cut_number = λ {w} {r} go go' h. A.cut_number r.ending r.state go h;
      cut_constructor = λ {w} {r} go go' h. A.cut_constructor r.ending r.state go h;
    }
