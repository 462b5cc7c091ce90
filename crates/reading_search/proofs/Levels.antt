-- Ranges of signed numbers: how many values a range has, and which. `omega` reads a signed number as the difference of two numbers of ℕ.
use Rattle.std.proofs.Common.{◌≡◌, ℕ, suc, ◌+◌, ◌-◌, ◌≤◌, ◌<◌, ℤ, pos, negsuc, ◌-ℤ◌, arith}
use Rattle.std.proofs.lemmas.Int.{ints, by_lt_z}
use borrow.Author.Differences.{up, down}
use lib.Signed.{mag, ◌≤ℤ◌, ◌<ℤ◌}
use Rattle.definitions.specs.ReadingSearch.{value_at, count_to, value_count}

-- how many values there are, by the difference
count_is : (d : ℤ) → count_to d ≡ suc (up d) - down d
unfolding count_to
count_is (pos n) = omega arith
count_is (negsuc n) = omega arith

count_by : (x z : ℤ) → value_count x z ≡ suc (up (z -ℤ x)) - down (z -ℤ x)
unfolding value_count
count_by x z = count_is (z -ℤ x)

-- a number below a size, on either side of 0
record Below (size : ℕ) (z : ℤ) : Type 0 where
  above : up z < size + down z
  under : down z ≤ size + up z

below : {size : ℕ} (z : ℤ) → mag z < size → Below size z
below (pos n) h = record { above = omega (arith, h); under = omega arith }
below (negsuc n) h = record { above = omega arith; under = omega (arith, h) }

mag_below : {size : ℕ} (z : ℤ) → Below size z → mag z < size
mag_below (pos n) h = omega (arith, h.above)
mag_below (negsuc n) h = omega (arith, h.under)

module _ (size : ℕ) where
  -- a number between two others is no larger than both
  pub between_size : (x y z : ℤ) → mag x < size → mag z < size → x ≤ℤ y → y ≤ℤ z → mag y < size
  between_size x y z p q h k =
      let u = below x p in
      let v = below z q in
      mag_below y (record { above = omega (arith, ints); under = omega (arith, ints) })

  pub value_same : (x : ℤ) → mag x < size → (i j : ℕ) → value_at x i ≡ value_at x j → i ≡ j
  unfolding value_at
  value_same x p i j e = omega (arith, ints)

  -- the values of a range from x to z are between its ends
  module _ (x z : ℤ) (p : mag x < size) (q : mag z < size) where
    pub from_lowest : (i : ℕ) → i < value_count x z → x ≤ℤ value_at x i
    unfolding value_at
    from_lowest i h = omega (arith, ints)

    pub to_highest : (i : ℕ) → i < value_count x z → value_at x i ≤ℤ z
    unfolding value_at
    to_highest i h = omega (arith, ints, count_by x z)

    pub value_size : (i : ℕ) → i < value_count x z → mag (value_at x i) < size
    value_size i h = between_size x (value_at x i) z p q (from_lowest i h) (to_highest i h)

    -- and a number between its ends is one of them, before those above it
    module _ (y : ℤ) (h : x ≤ℤ y) (k : y ≤ℤ z) where
      pub record Indexed : Type 0 where
        pub at : ℕ
        pub inside : at < value_count x z
        pub is : y ≡ value_at x at
        pub before : (j : ℕ) → j < value_count x z → y <ℤ value_at x j → at < j

      pub indexed : Indexed
      unfolding value_at
      indexed =
          record {
            at = up (y -ℤ x) - down (y -ℤ x);
            inside = omega (arith, ints, count_by x z);
            is = omega (arith, ints);
            before = λ j l s. omega (arith, ints);
          }

-- a range whose lowest value is above its highest has none, any other has one
pub none_above : (x z : ℤ) → z <ℤ x → value_count x z < 1
none_above x z h = omega (arith, ints, count_by x z)

pub some_from : (x z : ℤ) → ¬ (z <ℤ x) → 1 ≤ value_count x z
some_from x z h = by_lt_z z x (λ l. absurd (h l)) (λ (l : x ≤ℤ z). omega (arith, ints, count_by x z))
