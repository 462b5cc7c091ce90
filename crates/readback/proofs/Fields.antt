-- The kind, the fields and the clauses of a record that is written as words, read back. A word is read back where 16 bits
-- hold it.
use mathlib.Core.Path.{◌≡◌, refl, sym, ◌∙◌}
use Prim.Native.Nat.{ℕ, zero, suc, ◌+◌, ◌*◌, ◌-◌, ◌≤◌, ◌<◌}
use mathlib.Core.List.{List, [], ◌∷◌}
use mathlib.Core.Option.{some}
use native.Mathlib.Omega.{arith}
use native.Mathlib.Nat.{zero-add, not-suc-le-zero}
use lib.ListN.{length, get_or, get_elem?}
use lib.Seq.{ext_get_or}
use Rattle.definitions.specs.Bytes.{bytes_of}
use Rattle.definitions.specs.Records.{kind_of, field, field_count}
use Rattle.definitions.specs.Lists.{listed}
use Rattle.definitions.specs.References.{clauses, clause_constructor}
use Rattle.definitions.specs.NodeFields.{Clause, fields_from, clause_list}
use Rattle.definitions.specs.Translate.{record_words, clause_words}
use Rattle.laws.proofs.Lists.{listed_length, listed_at}
use Rattle.laws.proofs.Words.{word_read}
use Rattle.readback.proofs.Made.{record_bytes_law}

-- words that 16 bits hold
pub record Fit (ws : List ℕ) : Type 0 where
  pub each : (j : ℕ) → get_or ws j 0 < 65536

pub fit_none : Fit []
fit_none = record { each = λ j. omega arith }

pub fit_more : (w : ℕ) (ws : List ℕ) → w < 65536 → Fit ws → Fit (w ∷ ws)
fit_more w ws h f = record { each = each }
  where
    each : (j : ℕ) → get_or (w ∷ ws) j 0 < 65536
    each zero = h
    each (suc j) = f.each j

-- words of which each element is below a limit
pub fit_below : (ws : List ℕ) (m : ℕ) → m ≤ 65536 → ((j w : ℕ) → get_elem? ws j ≡ some w → w < m) → Fit ws
fit_below [] m h f = fit_none
fit_below (w ∷ ws) m h f = fit_more w ws (omega (arith, f 0 w refl)) (fit_below ws m h (λ j v e. f (suc j) v e))

-- a list made over the first n numbers is the list that has those elements
pub listed_is : {A : Type 0} (n : ℕ) (at : ℕ → A) (xs : List A) (d : A) → length xs ≡ n → ((i : ℕ) → i < n → at i ≡ get_or xs i d)
    → listed n at ≡ xs
listed_is n at xs d l e =
    ext_get_or d (listed n at) xs (listed_length n at ∙ sym l)
    (λ i h. let k : i < n = rw (listed_length n at) at h in listed_at n at d i k ∙ e i k)

-- an element of a list, by its place
pub element_is : {A : Type 0} (d : A) (xs : List A) (i : ℕ) → i < length xs → get_elem? xs i ≡ some (get_or xs i d)
element_is d [] i h = absurd (not-suc-le-zero h)
element_is d (x ∷ xs) zero h = refl
element_is d (x ∷ xs) (suc i) h = element_is d xs i (omega arith)

-- the record's kind and its fields
module _ (k : ℕ) (fs : List ℕ) where
  pub kind_read : k < 65536 → kind_of (bytes_of (record_words k fs)) ≡ k
  unfolding record_words
  kind_read h = word_read ((4 + 2 * length fs) ∷ k ∷ fs) 1 h

  pub count_read : field_count (bytes_of (record_words k fs)) ≡ length fs
  unfolding field_count
  count_read = rw (record_bytes_law k fs) (omega arith)

  module _ (f : Fit fs) where
    pub field_read : (j : ℕ) → field (bytes_of (record_words k fs)) j ≡ get_or fs j 0
    unfolding record_words
    field_read j =
        let e : 2 * suc (suc j) ≡ 4 + 2 * j = omega arith in
        rw e at (word_read ((4 + 2 * length fs) ∷ k ∷ fs) (suc (suc j)) (f.each j))

    pub fields_read : fields_from (bytes_of (record_words k fs)) 0 ≡ fs
    unfolding fields_from
    fields_read =
        listed_is (field_count (bytes_of (record_words k fs)) - 0) (λ i. field (bytes_of (record_words k fs)) (0 + i)) fs 0
        (omega (arith, count_read)) (λ i h. rw zero-add (field_read i))

-- the fields after the first
pub fields_after : (k x : ℕ) (fs : List ℕ) → Fit (x ∷ fs) → fields_from (bytes_of (record_words k (x ∷ fs))) 1 ≡ fs
unfolding fields_from
fields_after k x fs f =
    listed_is (field_count rec - 1) (λ i. field rec (1 + i)) fs 0 (omega (arith, count_read k (x ∷ fs)))
    (λ i h. let e : 1 + i ≡ suc i = omega arith in rw e (field_read k (x ∷ fs) f (suc i)))
  where
    rec : List ℕ
    rec = bytes_of (record_words k (x ∷ fs))

-- the clauses of a case
unfoldable pub no_clause : Clause
no_clause = record { constructor = 0; node = 0 }

pub clause_words_law : (cs : List Clause) → length (clause_words cs) ≡ 2 * length cs
unfolding clause_words
clause_words_law [] = refl
clause_words_law (c ∷ cs) = omega (arith, clause_words_law cs)

pub clause_constructor_law : (cs : List Clause) (j : ℕ) → get_or (clause_words cs) (2 * j) 0 ≡ (get_or cs j no_clause).constructor
unfolding clause_words no_clause
clause_constructor_law [] j = refl
clause_constructor_law (c ∷ cs) zero = refl
clause_constructor_law (c ∷ cs) (suc j) =
    let e : 2 * suc j ≡ suc (suc (2 * j)) = omega arith in rw e (clause_constructor_law cs j)

pub clause_node : (cs : List Clause) (j : ℕ) → get_or (clause_words cs) (suc (2 * j)) 0 ≡ (get_or cs j no_clause).node
unfolding clause_words no_clause
clause_node [] j = refl
clause_node (c ∷ cs) zero = refl
clause_node (c ∷ cs) (suc j) =
    let e : 2 * suc j ≡ suc (suc (2 * j)) = omega arith in rw e (clause_node cs j)

module _ (k n : ℕ) (cs : List Clause) where
  pub clause_count_read : clauses (bytes_of (record_words k (n ∷ clause_words cs))) ≡ length cs
  unfolding clauses
  clause_count_read = rw (count_read k (n ∷ clause_words cs)) (omega (arith, clause_words_law cs))

  pub clauses_read : Fit (n ∷ clause_words cs) → clause_list (bytes_of (record_words k (n ∷ clause_words cs))) ≡ cs
  unfolding clause_list clause_constructor
  clauses_read f =
      listed_is (clauses rec) (λ j. record { constructor = field rec (1 + 2 * j); node = field rec (2 + 2 * j) }) cs no_clause
      (sym clause_count_read)
      (λ j h. two (field rec (1 + 2 * j)) (field rec (2 + 2 * j)) (get_or cs j no_clause) (constructor j) (node j))
    where
      rec : List ℕ
      rec = bytes_of (record_words k (n ∷ clause_words cs))

      two : (x y : ℕ) (c : Clause) → x ≡ c.constructor → y ≡ c.node → record { constructor = x; node = y } ≡ c
      two x y c p q = λ i. record { constructor = p i; node = q i }

      constructor : (j : ℕ) → field rec (1 + 2 * j) ≡ (get_or cs j no_clause).constructor
      constructor j =
          let e : 1 + 2 * j ≡ suc (2 * j) = omega arith in
          rw e (field_read k (n ∷ clause_words cs) f (suc (2 * j)) ∙ clause_constructor_law cs j)

      node : (j : ℕ) → field rec (2 + 2 * j) ≡ (get_or cs j no_clause).node
      node j =
          let e : 2 + 2 * j ≡ suc (suc (2 * j)) = omega arith in
          rw e (field_read k (n ∷ clause_words cs) f (suc (suc (2 * j))) ∙ clause_node cs j)
