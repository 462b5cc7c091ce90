-- A visit of contexts that is not stopped is found among the visits of labels: what that says, and what it asks of the two places that
-- look at contexts.
use Rattle.std.specs.Prelude.{◌≡◌, ℕ, suc, List, Bool, false, ℤ}
use Rattle.definitions.specs.Numbers.{is_stop}
use Rattle.definitions.specs.TranslationNodes.{TranslationNode, formal, call, translation_node_of}
use Rattle.definitions.specs.Rule.{Ending, value, ended, State, Reached, Visit, Contexts, visited}
use Rattle.rule_laws.specs.Derivations.{Trace, Derivation}
use Rattle.rule_laws.specs.Reads.{state_of, Reads, Arrives}

-- whether a visit was stopped
abbrev pub stopped : {C : Type 0} → Ending C → Bool
stopped (value v) = false
stopped (ended n) = is_stop n

module _ {t : List ℕ} {C S : Type 0} (R : Reads t C S) (rs : List ℤ) where
  -- a visit of labels that comes to an ending, where one of contexts has reached r
  pub record Comes (nd : TranslationNode) (k : ℕ) (ws : List ℕ) (n : ℕ) (s : State S) (r : Reached C S) (e : Ending (List ℕ)) : Type 0 where
    pub trace : Trace
    pub visits : Derivation t rs nd k ws trace e
    pub arrives : Arrives R n s trace e r

  -- the same with some ending
  pub record Found (nd : TranslationNode) (k : ℕ) (ws : List ℕ) (n : ℕ) (s : State S) (r : Reached C S) : Type 0 where
    pub ending : Ending (List ℕ)
    pub comes : Comes nd k ws n s r ending

  -- a visit that is not stopped is found
  pub record Finding (n : ℕ) (visit : Visit C S) : Type 0 where
    pub finds : (k : ℕ) (w : C) (s : State S) {ws : List ℕ} → R.At s.store k w ws → stopped (visit k w s).ending ≡ false
        → Found (translation_node_of t k) k ws n s (visit k w s)

  -- what the two places that look at contexts owe to that, at each nesting
  pub record FindingHooks (M : Contexts C S) : Type 0 where
    pub formal_found : (n : ℕ) → Finding n (visited M t rs n) → (k p left : ℕ) (w : C) (m : S) {ws : List ℕ}
        → translation_node_of t k ≡ formal p → R.At m k w ws
        → stopped (M.at_formal (visited M t rs n) p w (state_of left m)).ending ≡ false
        → Found (formal p) k ws (suc n) (state_of (suc left) m) (M.at_formal (visited M t rs n) p w (state_of left m))
    pub call_found : (n : ℕ) → Finding n (visited M t rs n) → (k l f left : ℕ) (w : C) (m : S) {ws : List ℕ}
        → translation_node_of t k ≡ call l f → R.At m k w ws
        → stopped (M.at_call (visited M t rs n) l f w (state_of left m)).ending ≡ false
        → Found (call l f) k ws (suc n) (state_of (suc left) m) (M.at_call (visited M t rs n) l f w (state_of left m))
