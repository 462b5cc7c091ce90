-- A visit does not depend on readings that no node of the file names, whatever contexts are and however they are kept.
use mathlib.Core.Path.{◌≡◌, refl, ap, fun_ext}
use Prim.Native.Nat.{ℕ, zero, suc}
use mathlib.Core.List.{List}
use lib.IntN.{ℤ, pos}
use lib.ListN.{get_or}
use Rattle.definitions.specs.TranslationNodes.{TranslationNode, number, reading, formal, select, operator, conditional, call, tuple, case_of, translation_node_of}
use Rattle.definitions.specs.Rule.{State, Reached, Visit, Contexts, with_step, evaluated, visited}

-- two lists of readings with the same reading at each node that names one
module _ {C S : Type 0} (M : Contexts C S) (b : List ℕ) (rs qs : List ℤ)
    (alike : (k i : ℕ) → translation_node_of b k ≡ reading i → get_or rs i (pos 0) ≡ get_or qs i (pos 0)) where
  evaluated_alike : (visit : Visit C S) (nd : TranslationNode) (k : ℕ) (w : C) (s : State S) → translation_node_of b k ≡ nd
      → evaluated M b rs visit nd k w s ≡ evaluated M b qs visit nd k w s
  unfolding evaluated
  evaluated_alike visit (number z) k w s e = refl
  evaluated_alike visit (reading i) k w s e = rw (alike k i e) refl
  evaluated_alike visit (formal p) k w s e = refl
  evaluated_alike visit (select n i) k w s e = refl
  evaluated_alike visit (operator o n m) k w s e = refl
  evaluated_alike visit (conditional n p q) k w s e = refl
  evaluated_alike visit (call l f) k w s e = refl
  evaluated_alike visit (tuple c ns) k w s e = refl
  evaluated_alike visit (case_of n cs) k w s e = refl

  pub visited_alike : (n : ℕ) → visited M b rs n ≡ visited M b qs n
  unfolding visited
  visited_alike zero = fun_ext (λ k. fun_ext (λ w. fun_ext (λ s. refl)))
  visited_alike (suc n) =
      fun_ext (λ k. fun_ext (λ w. fun_ext (λ s.
      rw (visited_alike n) (ap (λ (go : State S → Reached C S). with_step s.left s.store go)
      (fun_ext (λ u. evaluated_alike (visited M b qs n) (translation_node_of b k) k w u refl))))))
