-- The fields of a cell, and what is past the end.
use mathlib.Core.Path.{◌≡◌, ap, ◌∙◌}
use Prim.Native.Nat.{ℕ, ◌+◌, ◌*◌, ◌-◌, ◌/◌, ◌%◌, ◌≤◌, ◌<◌}
use mathlib.Core.List.{List}
use native.Mathlib.Omega.{arith}
use lib.ListN.{length, get_or}
use Rattle.definitions.specs.Sizes.{cell_size}
use Rattle.definitions.specs.Bytes.{word}
use Rattle.definitions.specs.Listing.{label_at, previous_at}
use Rattle.laws.proofs.Bytes.{word_past}

module _ (b : List ℕ) (c i : ℕ) (e : i ≡ c - 1) where
  pub label_read : (r : ℕ) → r ≡ word b (cell_size * i) → r ≡ label_at b c
  unfolding label_at
  label_read r f = f ∙ ap (λ (k : ℕ). word b (cell_size * k)) e

  pub label_past : length b / cell_size < i → 0 ≡ label_at b c
  label_past h = label_read 0 (word_past b (cell_size * i) (omega arith))

  pub previous_read : (r : ℕ) → r ≡ word b (cell_size * i + 2) → r ≡ previous_at b c
  unfolding previous_at
  previous_read r f = f ∙ ap (λ (k : ℕ). word b (cell_size * k + 2)) e

  pub previous_past : length b ≤ cell_size * i + 2 → 0 ≡ previous_at b c
  previous_past h = previous_read 0 (word_past b (cell_size * i + 2) h)

-- both fields of a cell in one number
pub cell_by_fields : (b : List ℕ) {c x y l p : ℕ} (r : ℕ) → x ≡ c → y ≡ c → l ≡ label_at b x → p ≡ previous_at b y → (r % 65536 ≡ l) × (r / 65536 ≡ p)
    → (r % 65536 ≡ label_at b c) × (r / 65536 ≡ previous_at b c)
cell_by_fields b r ex ey el ep e = (e.0 ∙ el ∙ ap (label_at b) ex, e.1 ∙ ep ∙ ap (previous_at b) ey)

pub cell_by_bytes : (b : List ℕ) {c x l p : ℕ} (r : ℕ) → x ≡ c → 0 < c → l ≡ get_or b (cell_size * x - cell_size) 0 + 256 * get_or b (cell_size * x - cell_size + 1) 0
    → p ≡ get_or b (cell_size * x - cell_size + 2) 0 + 256 * get_or b (cell_size * x - cell_size + 3) 0 → (r % 65536 ≡ l) × (r / 65536 ≡ p)
    → (r % 65536 ≡ label_at b c) × (r / 65536 ≡ previous_at b c)
unfolding label_at previous_at word
cell_by_bytes b {c} {x} r ex h el ep e =
    let at : cell_size * x - cell_size ≡ cell_size * (c - 1) = omega arith in
    let last : cell_size * x - cell_size + 3 ≡ cell_size * (c - 1) + 2 + 1 = omega arith in (
      e.0 ∙ el ∙ ap (λ (i : ℕ). get_or b i 0 + 256 * get_or b (i + 1) 0) at,
      e.1 ∙ ep ∙ ap (λ (i : ℕ). get_or b (i + 2) 0 + 256 * get_or b (cell_size * x - cell_size + 3) 0) at ∙ ap (λ (i : ℕ). get_or b (cell_size * (c - 1) + 2) 0 + 256 * get_or b i 0) last,
    )
