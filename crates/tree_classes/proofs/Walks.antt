-- A node's chain while it is walked for a node with the same key.
use mathlib.Core.Path.{◌≡◌, sym, ◌∙◌}
use Prim.Native.Nat.{ℕ, suc, ◌-◌, ◌≤◌, ◌<◌}
use mathlib.Core.List.{List}
use mathlib.Core.Bool.{Bool, false, true≢false}
use native.Mathlib.Omega.{arith}
use native.Mathlib.Decide.{dec_lt, ℕ_discrete}
use lib.ListN.{get_or}
use Rattle.std.proofs.Common.{Some}
use Rattle.tree_classes.specs.Keys.{entry_of, equal_keys, SameKey}
use Rattle.tree_classes.specs.Chains.{last_with, node_bucket, Chain, FoundSame}
use Rattle.tree_classes.proofs.SameKeys.{key_passes, bucket_same}
use Rattle.tree_classes.proofs.Chains.{last_with_law}

-- the nodes from `next` on have other keys than node k; the node before `next` is in its bucket
pub record Walking (b places classes : List ℕ) (k next : ℕ) : Type 0 where
  pub limit : next ≤ k
  pub bucket : (j : ℕ) → next ≡ suc j → node_bucket b places classes j ≡ node_bucket b places classes k
  pub others : (j : ℕ) → next ≤ j → j < k → SameKey (entry_of classes) (entry_of places) b j k → ⊥

module _ {b starts places classes earlier rec : List ℕ} {k last : ℕ} (c : Chain b starts places classes earlier rec k last) where
  abbrev bucket_at : ℕ → ℕ
  bucket_at = node_bucket b places classes

  pub walk_begins : Walking b places classes k last
  walk_begins =
      let l = last_with_law bucket_at (bucket_at k) k in
      rw c.begins (record { limit = l.limit; bucket = l.has; others = λ j p q s. l.none j p q (bucket_same s) })

  module _ {next : ℕ} (w : Walking b places classes k next) (h : 0 < next) where
    step_below : next - 1 < k
    step_below = omega (arith, w.limit, h)

    one_before : next ≡ suc (next - 1)
    one_before = omega (arith, h)

    pub walk_finds : SameKey (entry_of classes) (entry_of places) b (next - 1) k → FoundSame b places classes k (Some (next - 1))
    walk_finds s = record { found = (step_below, s); none = λ e. absurd (true≢false e) }

    -- the node is another: on to the one before it in the bucket
    pub walk_goes_on : {before : ℕ} → (SameKey (entry_of classes) (entry_of places) b (next - 1) k → ⊥) → before ≡ get_or earlier (next - 1) 0
        → Walking b places classes k before
    walk_goes_on {before} o e =
        let j = next - 1 in
        let l = last_with_law bucket_at (bucket_at j) j in
        let same = w.bucket j one_before in
        let q : before ≡ last_with bucket_at (bucket_at j) j = e ∙ c.chained.entry j step_below in
        rw q (record {
          limit = omega (arith, l.limit, step_below);
          bucket = λ i z. l.has i z ∙ same;
          others = λ i p g s. elim (dec_lt i j) [
            | yes r ↦ l.none i p r (bucket_same s ∙ sym same)
            | no r ↦ elim (ℕ_discrete i j) [ yes z ↦ o (rw z at s) | no z ↦ w.others i (omega (arith, r, z, one_before)) g s ]
          ];
        })

    pub walk_falls : {before : ℕ} → before ≡ get_or earlier (next - 1) 0 → before < next
    walk_falls e =
        let j = next - 1 in
        omega (arith, e, c.chained.entry j step_below, (last_with_law bucket_at (bucket_at j) j).limit, h)

    -- so it is where comparing says so
    pub other_key : {t : Bool} → t ≡ equal_keys (entry_of classes) (entry_of places) b (next - 1) k → t ≡ false
        → SameKey (entry_of classes) (entry_of places) b (next - 1) k → ⊥
    other_key f g s = true≢false (sym (key_passes s) ∙ sym f ∙ g)
