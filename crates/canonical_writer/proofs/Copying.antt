-- The first bytes of a list copied over the front of another, while they are passed.
use mathlib.Core.Path.{◌≡◌, refl, ◌∙◌}
use Prim.Native.Nat.{ℕ, ◌+◌, ◌≤◌, ◌<◌}
use mathlib.Core.List.{List, [], ◌∷◌}
use native.Mathlib.Omega.{arith}
use native.Mathlib.Numerals.{add-one}
use native.Mathlib.Nat.{zero-add}
use lib.ListN.{length, get_or, set, take, length-set}
use lib.Seq.{sets, take-suc, length-take-le}
use Rattle.laws.proofs.Stores.{sets_append}

-- the first i bytes are copied
pub record Copying (b before out : List ℕ) (end i : ℕ) : Type 0 where
  pub reached : i ≤ end
  pub kept : length out ≡ length before
  pub copied : out ≡ sets before 0 (take i b)

pub copying_begins : {b out : List ℕ} {end : ℕ} → Copying b out out end 0
copying_begins = record { reached = omega arith; kept = refl; copied = refl }

module _ {b before out : List ℕ} {end i : ℕ} (w : Copying b before out end i) where
  pub copying_goes_on : i < end → end ≤ length b → Copying b before (set out i (get_or b i 0)) end (i + 1)
  copying_goes_on l h =
      let n : 0 + length (take i b) ≡ i = rw zero-add (length-take-le i b (omega (arith, l, h))) in
      record {
        reached = omega arith;
        kept = length-set out i (get_or b i 0) ∙ w.kept;
        copied = rw (w.copied, add-one, take-suc b i 0 (omega (arith, l, h))) (rw n at (sets_append (take i b) (get_or b i 0 ∷ []) before 0));
      }

  pub copying_done : end ≤ i → out ≡ sets before 0 (take end b)
  copying_done l = let e : i ≡ end = omega (arith, w.reached) in rw e at w.copied
