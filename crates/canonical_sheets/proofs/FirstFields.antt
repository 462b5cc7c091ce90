-- The first fields of a record, and one field more: how many nodes are in them, their words, and the records of their nodes.
use mathlib.Core.Path.{◌≡◌, refl}
use Prim.Native.Nat.{ℕ, zero, suc, ◌+◌, ◌≤◌, ◌<◌}
use mathlib.Core.List.{List, [], ◌∷◌, ◌++◌}
use mathlib.Core.Bool.{Bool, true, false}
use native.Mathlib.Omega.{arith}
use native.Mathlib.Decide.{ℕ_discrete}
use Rattle.definitions.specs.Records.{kind_of, field}
use Rattle.definitions.specs.Trees.{names_node}
use Rattle.definitions.specs.Translate.{record_words}
use Rattle.definitions.specs.CanonicalSheet.{Fields, plain, branch, first_fields, size_of, field_words, tree_words}

-- numbers that rise step by step
pub rises : (start : ℕ → ℕ) (i n : ℕ) → i ≤ n → ((j : ℕ) → j < n → start j ≤ start (suc j)) → start i ≤ start n
rises start i zero h f = let e : i ≡ 0 = omega (arith, h) in rw e (omega arith)
rises start i (suc n) h f =
    elim (ℕ_discrete i (suc n)) [
      | yes e ↦ rw e (omega arith)
      | no e ↦ omega (arith, rises start i n (omega (arith, h, e)) (λ j l. f j (omega arith)), f n (omega arith))
    ]

module _ (kind : ℕ → ℕ) (below : ℕ → Fields) (rec : List ℕ) where
  abbrev first : ℕ → Fields
  first n = first_fields kind below rec n

  -- none
  pub size_none : size_of (first 0) ≡ 0
  unfolding first_fields size_of
  size_none = refl

  pub words_none : (s : ℕ) → field_words s (first 0) ≡ []
  unfolding first_fields field_words
  words_none s = refl

  -- one more, which names a node
  module _ (n : ℕ) (e : names_node (kind_of rec) n ≡ true) where
    abbrev node : ℕ
    node = field rec n

    pub first_branch : first (suc n) ≡ branch (first n) (kind node) (below node)
    unfolding first_fields
    first_branch = rw e refl

    pub size_branch : size_of (first (suc n)) ≡ suc (size_of (first n) + size_of (below node))
    unfolding size_of
    size_branch = rw first_branch refl

    -- where the nodes are numbered from s on
    module _ (s : ℕ) where
      abbrev start : ℕ
      start = s + size_of (first n)

      pub words_branch : field_words s (first (suc n)) ≡ field_words s (first n) ++ ((start + size_of (below node)) ∷ [])
      unfolding field_words
      words_branch = rw first_branch refl

      pub records_branch : tree_words s (first (suc n))
          ≡ tree_words s (first n) ++ tree_words start (below node) ++ record_words (kind node) (field_words start (below node))
      unfolding tree_words
      records_branch = rw first_branch refl

  -- one more, which names none
  module _ (n : ℕ) (e : names_node (kind_of rec) n ≡ false) where
    first_plain : first (suc n) ≡ plain (first n) (field rec n)
    unfolding first_fields
    first_plain = rw e refl

    pub size_plain : size_of (first (suc n)) ≡ size_of (first n)
    unfolding size_of
    size_plain = rw first_plain refl

    pub words_plain : (s : ℕ) → field_words s (first (suc n)) ≡ field_words s (first n) ++ (field rec n ∷ [])
    unfolding field_words
    words_plain s = rw first_plain refl

    pub records_plain : (s : ℕ) → tree_words s (first (suc n)) ≡ tree_words s (first n)
    unfolding tree_words
    records_plain s = rw first_plain refl

  size_rises : (n : ℕ) (t : Bool) → names_node (kind_of rec) n ≡ t → size_of (first n) ≤ size_of (first (suc n))
  size_rises n true e = omega (arith, size_branch n e)
  size_rises n false e = omega (arith, size_plain n e)

  pub sizes_rise : (i n : ℕ) → i ≤ n → size_of (first i) ≤ size_of (first n)
  sizes_rise i n h = rises (λ j. size_of (first j)) i n h (λ j l. size_rises j (names_node (kind_of rec) j) refl)
