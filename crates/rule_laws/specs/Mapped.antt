-- Two evaluations of one file, of which the second's states are the first's with the store mapped: what they ask of the two places that
-- look at contexts.
use Rattle.std.specs.Prelude.{◌≡◌, ℕ}
use Rattle.definitions.specs.Rule.{State, Visit, Contexts}
use Rattle.rule_laws.specs.SideBySide.{SideBySide, Both, Beside}
use Rattle.rule_laws.specs.SameNodes.{Made, same_nodes}

-- the state with its store mapped
abbrev pub mapped : {S T : Type 0} → (S → T) → State S → State T
mapped f s = record { left = s.left; store = f s.store }

module _ {C S T : Type 0} (f : S → T) where
  -- in step, and never cut short
  abbrev pub mapped_made : Made C S T
  mapped_made =
      record {
        made = mapped f;
        Nested = λ n m. n ≡ m;
        Cut = λ x. ⊥;
        cut_number = λ x s go h. h;
        cut_constructor = λ x s go h. h;
      }

  abbrev pub mapping : SideBySide C S C T
  mapping = same_nodes mapped_made

  -- what the two places owe
  pub record MappedHooks (M : Contexts C S) (N : Contexts C T) : Type 0 where
    pub formal_mapped : {visit : Visit C S} {visit' : Visit C T} → Beside mapping visit visit' → (s : State S) (p : ℕ) (c : C)
        → Both mapping s (M.at_formal visit p c s) (N.at_formal visit' p c (mapped f s))
    pub call_mapped : {visit : Visit C S} {visit' : Visit C T} → Beside mapping visit visit' → (s : State S) (l g : ℕ) (c : C)
        → Both mapping s (M.at_call visit l g c s) (N.at_call visit' l g c (mapped f s))
