-- Two evaluations of one file under the same contexts, the second's states made from the first's: nodes are alike themselves, and
-- endings that are alike are equal.
use mathlib.Core.Path.{◌≡◌, refl}
use Prim.Native.Nat.{ℕ}
use mathlib.Core.List.{List}
use lib.IntN.{ℤ}
use lib.ListN.{get_elem?}
use Rattle.definitions.specs.TranslationNodes.{translation_node_of, tag_of, tuple_fields}
use Rattle.definitions.specs.Rule.{Ending, State, Visit, Contexts}
use Rattle.rule_laws.specs.SideBySide.{AlikeEnds, integers, constructors, ends, Both, Due, Alike}
use Rattle.rule_laws.specs.SameNodes.{Same, same, SameCall, same_call, Made, same_nodes}
use Rattle.rule_laws.proofs.Lockstep.{both_back, due_itself, alike_itself}

pub tags_same : {C : Type 0} (t : List ℕ) {k m : ℕ} {c d : C} → Same k c m d → tag_of t k ≡ tag_of t m
tags_same t same = refl

module _ {C S T : Type 0} (A : Made C S T) where
  pub node_alike : (t : List ℕ) (rs : List ℤ) (w : State S) {k m : ℕ} {c d : C} → Same k c m d
      → Alike (same_nodes A) rs rs w k m c d (translation_node_of t k) (translation_node_of t m)
  node_alike t rs w {k} {c} same =
      alike_itself (same_nodes A) rs w k c c (translation_node_of t k) (λ m g. same) (λ p e. same) (λ l f e. same_call) (λ a ns e. same)

  pub fields_due : (t : List ℕ) (w : State S) {k m : ℕ} {c d : C} → Same k c m d → (i : ℕ)
      → Due (same_nodes A) w c d (get_elem? (tuple_fields t k) i) (get_elem? (tuple_fields t m) i)
  fields_due t w {k} {c} same i = due_itself (same_nodes A) w c c (get_elem? (tuple_fields t k) i) (λ m e. same)

  pub ends_equal : {w : State S} {x y : Ending C} → AlikeEnds (same_nodes A) w x y → x ≡ y
  ends_equal integers = refl
  ends_equal (constructors same) = refl
  ends_equal ends = refl

  -- the two places that look at contexts, from an earlier state
  module _ (M : Contexts C S) (N : Contexts C T) {visit : Visit C S} {visit' : Visit C T} (w v : State S) where
    pub formal_same : ((p : ℕ) (c : C) → Both (same_nodes A) v (M.at_formal visit p c v) (N.at_formal visit' p c (A.made v)))
        → {p q : ℕ} {c d : C} → Same p c q d
        → Both (same_nodes A) w (M.at_formal visit p c v) (N.at_formal visit' q d (A.made v))
    formal_same h {p} {c} same = both_back (same_nodes A) tt (h p c)

    pub call_same : ((l f : ℕ) (c : C) → Both (same_nodes A) v (M.at_call visit l f c v) (N.at_call visit' l f c (A.made v)))
        → {l f l' f' : ℕ} {c d : C} → SameCall l f c l' f' d
        → Both (same_nodes A) w (M.at_call visit l f c v) (N.at_call visit' l' f' d (A.made v))
    call_same h {l} {f} {c} same_call = both_back (same_nodes A) tt (h l f c)
