-- Laws of the sums over functions' records that an index reaches.
use mathlib.Core.Path.{◌≡◌, refl, sym, ◌∙◌}
use Prim.Native.Nat.{ℕ, ◌+◌}
use mathlib.Core.List.{List}
use Rattle.definitions.specs.Records.{record_of, field}
use Rattle.definitions.specs.Lists.{sum_of}
use Rattle.definitions.specs.Layouts.{first_function, function_record, count_field, node_count}
use Rattle.definitions.specs.declared.Layout.{Layout}
use Rattle.laws.proofs.Lists.{sum_more, sum_none}

-- the sum of field j over the n records from record `first` on
pub record Totalled (b : List ℕ) (first j n total : ℕ) : Type 0 where
  pub is : total ≡ sum_of n (λ i. field (record_of b (first + i)) j)

pub total_none : (b : List ℕ) (first j : ℕ) → Totalled b first j 0 0
total_none b first j = record { is = sym (sum_none (λ i. field (record_of b (first + i)) j)) }

pub total_more : (b : List ℕ) (first j n total x : ℕ) → Totalled b first j n total → x ≡ field (record_of b (first + n)) j
    → Totalled b first j (n + 1) (total + x)
total_more b first j n total x t e =
    record { is = rw (t.is, e) (sym (sum_more n (λ i. field (record_of b (first + i)) j))) }

pub total_fields : (y : Layout) (b : List ℕ) (first j n m total : ℕ) → Totalled b first j n total → first ≡ first_function y b → n ≡ m
    → total ≡ sum_of m (λ f. field (function_record y b f) j)
total_fields y b first j n m total t e g = t.is ∙ rw (e, g) refl

pub total_counts : (y : Layout) (b : List ℕ) (first j n m total : ℕ) → Totalled b first j n total → first ≡ first_function y b → j ≡ count_field y
    → n ≡ m → total ≡ sum_of m (node_count y b)
total_counts y b first j n m total t e f g = total_fields y b first j n m total t e g ∙ rw f refl
