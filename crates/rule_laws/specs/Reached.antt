-- A visit of labels is reached by a visit of contexts where there is room for it: what that says, and what it asks of the two places
-- that look at contexts.
use Rattle.std.specs.Prelude.{◌≡◌, ℕ, suc, ◌+◌, ◌≤◌, List, [], ◌∷◌, ℤ}
use Rattle.std.proofs.Math.Option.{none, some}
use Rattle.definitions.specs.Numbers.{no_actual}
use Rattle.definitions.specs.Layouts.{body_of}
use Rattle.definitions.specs.TranslationNodes.{formal, call, translation_node_of, actual}
use Rattle.definitions.specs.Rule.{Ending, ended, State, Visit, Contexts, visited}
use Rattle.definitions.specs.declared.Layout.TheVariants.{Translation}
use Rattle.rule_laws.specs.Derivations.{Trace, alone, after, after_call, depth_of, steps_of, cells_of, Derivation}
use Rattle.rule_laws.specs.Reads.{state_of, Reads, Arrives}

module _ {t : List ℕ} {C S : Type 0} (R : Reads t C S) where
  open R use {At, size}

  -- allowances and a state that have room for a trace
  pub record Allowed (cells_allowed : ℕ) (a : Trace) (n : ℕ) (s : State S) : Type 0 where
    pub depth : depth_of a ≤ n
    pub steps : steps_of a ≤ s.left
    pub cells : size s.store + cells_of a ≤ cells_allowed

  module _ (rs : List ℤ) (cells_allowed : ℕ) where
    -- a visit comes to this end wherever there is room
    pub record Reaching (n : ℕ) (visit : Visit C S) (k : ℕ) (ws : List ℕ) (a : Trace) (e : Ending (List ℕ)) : Type 0 where
      pub reaches : (w : C) (s : State S) → At s.store k w ws → Allowed cells_allowed a n s → Arrives R n s a e (visit k w s)

    -- what the two places owe to that
    pub record ReachingHooks (M : Contexts C S) : Type 0 where
      pub formal_actual : (n : ℕ) {k p l j : ℕ} (left : ℕ) (w : C) (m : S) {ws : List ℕ} {a : Trace} {e : Ending (List ℕ)}
          → translation_node_of t k ≡ formal p → At m k w (l ∷ ws) → actual t p l ≡ some j
          → Derivation t rs (translation_node_of t j) j ws a e → Reaching n (visited M t rs n) j ws a e → Allowed cells_allowed a n (state_of left m)
          → Arrives R (suc n) (state_of (suc left) m) (after a) e (M.at_formal (visited M t rs n) p w (state_of left m))
      pub formal_beyond : (n : ℕ) {k p l : ℕ} (left : ℕ) (w : C) (m : S) {ws : List ℕ}
          → translation_node_of t k ≡ formal p → At m k w (l ∷ ws) → actual t p l ≡ none
          → Arrives R (suc n) (state_of (suc left) m) alone (ended no_actual) (M.at_formal (visited M t rs n) p w (state_of left m))
      pub formal_outside : (n : ℕ) {k p : ℕ} (left : ℕ) (w : C) (m : S) → translation_node_of t k ≡ formal p → At m k w []
          → Arrives R (suc n) (state_of (suc left) m) alone (ended no_actual) (M.at_formal (visited M t rs n) p w (state_of left m))
      pub call_body : (n : ℕ) {k l f : ℕ} (left : ℕ) (w : C) (m : S) {ws : List ℕ} {a : Trace} {e : Ending (List ℕ)}
          → translation_node_of t k ≡ call l f → At m k w ws
          → Reaching n (visited M t rs n) (body_of Translation t f) (l ∷ ws) a e → Allowed cells_allowed (after_call a) (suc n) (state_of (suc left) m)
          → Arrives R (suc n) (state_of (suc left) m) (after_call a) e (M.at_call (visited M t rs n) l f w (state_of left m))
