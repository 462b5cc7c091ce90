-- One node more is numbered: by an earlier node with its key, or anew.
use mathlib.Core.Path.{◌≡◌, refl, sym, ap, ◌∙◌}
use Prim.Native.Nat.{ℕ, ◌+◌, ◌≤◌, ◌<◌}
use mathlib.Core.List.{List}
use mathlib.Core.Bool.{Bool, true, false, cond, true≢false}
use native.Mathlib.Omega.{arith}
use native.Mathlib.Nat.{not-suc-le-zero}
use lib.ListN.{length, get_or, set, replicate, length-set, get_or-replicate}
use lib.Seq.{get_or-set_same, get_or-set_other}
use lib.Dec.{eqb}
use borrow.Author.Tests.{eq-eqb, eqb-true}
use Rattle.definitions.specs.Sizes.{most_nodes}
use Rattle.definitions.specs.Records.{record_at}
use Rattle.definitions.specs.Layouts.{nodes, first_node, node_record}
use Rattle.definitions.specs.Checks.{sheet_verdict}
use Rattle.definitions.specs.declared.Layout.TheVariants.{Sheet}
use Rattle.definitions.specs.Verdict.{Accepted}
use Rattle.file_records.specs.Index.{start_in}
use Rattle.file_records.proofs.Indices.{node_reached}
use Rattle.laws.proofs.Lists.{below_suc}
use Rattle.tree_classes.specs.Keys.{entry_of, buckets, bucket_of, SameKey}
use Rattle.tree_classes.specs.Classes.{Numbered}
use Rattle.tree_classes.specs.Chains.{last_with, node_bucket, Numbering, NodeToNumber, Chain}
use Rattle.tree_classes.proofs.SameKeys.{key_itself, key_swap, key_then}
use Rattle.tree_classes.proofs.KeptKeys.{node_bucket_kept, key_kept}
use Rattle.tree_classes.proofs.Chains.{last_more, last_kept}

-- the number that node k gets
pub data Chosen (class place : ℕ → ℕ) (b : List ℕ) (k : ℕ) : ℕ → Type 0 where
  anew : ((j : ℕ) → j < k → SameKey class place b j k → ⊥) → Chosen class place b k k
  likewise : {j : ℕ} → j < k → SameKey class place b j k → Chosen class place b k (class j)

module _ {b : List ℕ} (accepted : sheet_verdict b ≡ Accepted) {place : ℕ → ℕ} {classes : List ℕ} {k : ℕ} (w : Numbered b place classes k)
    (h : k < nodes b) (narrow : k < most_nodes) where
  abbrev old : ℕ → ℕ
  old = entry_of classes

  chosen_below : {x : ℕ} → Chosen old place b k x → x ≤ k
  chosen_below (anew f) = omega arith
  chosen_below (likewise {j} l s) = omega (arith, w.below j l, l)

  chosen_key : {x m : ℕ} → Chosen old place b k x → m < k → old m ≡ x → SameKey old place b m k
  chosen_key {m} (anew f) l e = absurd (omega (arith, e, w.below m l, l))
  chosen_key {m} (likewise {j} g s) l e = key_then (w.key m j l g e) s

  chosen_class : {x m : ℕ} → Chosen old place b k x → m < k → SameKey old place b m k → old m ≡ x
  chosen_class {m} (anew f) l s = absurd (f m l s)
  chosen_class {m} (likewise {j} g t) l s = w.class m j l g (key_then s (key_swap t))

  module _ (x : ℕ) (chosen : Chosen old place b k x) where
    abbrev new : ℕ → ℕ
    new = entry_of (set classes k x)

    pub earlier_kept : (i : ℕ) → i < k → old i ≡ new i
    earlier_kept i l = sym (get_or-set_other classes k i x 0 (λ e. omega (arith, e, l)))

    here : new k ≡ x
    here = get_or-set_same classes k x 0 (omega (arith, w.size, narrow))

    to_new : {i m : ℕ} → i ≤ k → m ≤ k → SameKey old place b i m → SameKey new place b i m
    to_new {i} {m} p q s = key_kept b accepted old new k earlier_kept p q (omega (arith, p, h)) (omega (arith, q, h)) s

    to_old : {i m : ℕ} → i ≤ k → m ≤ k → SameKey new place b i m → SameKey old place b i m
    to_old {i} {m} p q s = key_kept b accepted new old k (λ y l. sym (earlier_kept y l)) p q (omega (arith, p, h)) (omega (arith, q, h)) s

    -- the number of an earlier node is its own
    kept_first : (y : ℕ) → y < k → new (old y) ≡ old y
    kept_first y l = sym (earlier_kept (old y) (omega (arith, w.below y l, l))) ∙ w.first y l

    chosen_first : (y : ℕ) → Chosen old place b k y → x ≡ y → new y ≡ y
    chosen_first y (anew f) e = here ∙ e
    chosen_first y (likewise {j} l s) e = kept_first j l

    first_below : (i : ℕ) → i < k → new (new i) ≡ new i
    first_below i l = rw (← earlier_kept i l) (kept_first i l)

    key_below : (i m : ℕ) → i < k → m < k → new i ≡ new m → SameKey new place b i m
    key_below i m p q e =
        to_new (omega (arith, p)) (omega (arith, q)) (w.key i m p q (earlier_kept i p ∙ e ∙ sym (earlier_kept m q)))

    key_here : (m : ℕ) → m < k → new m ≡ new k → SameKey new place b m k
    key_here m p e = to_new (omega (arith, p)) (omega arith) (chosen_key chosen p (earlier_kept m p ∙ e ∙ here))

    class_below : (i m : ℕ) → i < k → m < k → SameKey new place b i m → new i ≡ new m
    class_below i m p q s =
        sym (earlier_kept i p) ∙ w.class i m p q (to_old (omega (arith, p)) (omega (arith, q)) s) ∙ earlier_kept m q

    class_here : (m : ℕ) → m < k → SameKey new place b m k → new m ≡ new k
    class_here m p s = sym (earlier_kept m p) ∙ chosen_class chosen p (to_old (omega (arith, p)) (omega arith) s) ∙ sym here

    pub numbered_more : Numbered b place (set classes k x) (k + 1)
    numbered_more =
        record {
          size = length-set classes k x ∙ w.size;
          below = λ i l. below_suc (λ y. new y ≤ y) k (λ y q. rw (← earlier_kept y q) (w.below y q)) (rw here (chosen_below chosen)) i (omega (arith, l));
          first = λ i l. below_suc (λ y. new (new y) ≡ new y) k first_below (rw here (chosen_first x chosen refl)) i (omega (arith, l));
          key = λ i m p q.
              below_suc (λ y. new y ≡ new m → SameKey new place b y m) k
              (λ y r. below_suc (λ z. new y ≡ new z → SameKey new place b y z) k (λ z u. key_below y z r u) (key_here y r) m (omega (arith, q)))
              (λ e. below_suc (λ z. new k ≡ new z → SameKey new place b k z) k (λ z u f. key_swap (key_here z u (sym f))) (λ f. key_itself) m (omega (arith, q)) e)
              i (omega (arith, p));
          class = λ i m p q.
              below_suc (λ y. SameKey new place b y m → new y ≡ new m) k
              (λ y r. below_suc (λ z. SameKey new place b y z → new y ≡ new z) k (λ z u. class_below y z r u) (class_here y r) m (omega (arith, q)))
              (λ e. below_suc (λ z. SameKey new place b k z → new k ≡ new z) k (λ z u f. sym (class_here z u (key_swap f))) (λ f. refl) m (omega (arith, q)) e)
              i (omega (arith, p));
        }

-- and chained
module _ {b places classes lasts earlier : List ℕ} (accepted : sheet_verdict b ≡ Accepted) {k : ℕ} (w : Numbering b places classes lasts earlier k)
    (below : k < nodes b) (narrow : k < most_nodes) (x : ℕ) (chosen : Chosen (entry_of classes) (entry_of places) b k x) where
  abbrev before : ℕ → ℕ
  before = node_bucket b places classes

  abbrev after : ℕ → ℕ
  after = node_bucket b places (set classes k x)

  bucket_stays : (j : ℕ) → j ≤ k → before j ≡ after j
  bucket_stays j l =
      node_bucket_kept b accepted (entry_of classes) (entry_of (set classes k x)) k (earlier_kept accepted w.numbered below narrow x chosen) j (entry_of places j) l
      (omega (arith, l, below))

  last_stays : (g j : ℕ) → j ≤ k → last_with before g j ≡ last_with after g j
  last_stays g j l = last_kept before after g j (λ i p. bucket_stays i (omega (arith, p, l)))

  module _ (h last : ℕ) (bucket : h ≡ before k) (small : h < buckets) (was : last ≡ get_or lasts h 0) where
    last_entry : (g : ℕ) → g < buckets → (t : Bool) → eqb (after k) g ≡ t → get_or (set lasts h (k + 1)) g 0 ≡ cond t (k + 1) (last_with after g k)
    last_entry g l true e =
        let q : h ≡ g = bucket ∙ bucket_stays k (omega arith) ∙ eqb-true (after k) g e in
        rw q (get_or-set_same lasts g (k + 1) 0 (omega (arith, w.size, l)))
    last_entry g l false e =
        let q : g ≡ h → ⊥ = λ z. true≢false (sym (eq-eqb (after k) g (sym (bucket ∙ bucket_stays k (omega arith)) ∙ sym z)) ∙ e) in
        get_or-set_other lasts h g (k + 1) 0 q ∙ w.last g l ∙ last_stays g k (omega arith)

    pub numbering_more : Numbering b places (set classes k x) (set lasts h (k + 1)) (set earlier k last) (k + 1)
    numbering_more =
        record {
          numbered = numbered_more accepted w.numbered below narrow x chosen;
          size = length-set lasts h (k + 1) ∙ w.size;
          last = λ g l. last_entry g l (eqb (after k) g) refl ∙ sym (last_more after g k);
          chained = record {
            size = length-set earlier k last ∙ w.chained.size;
            entry = λ i l. below_suc (λ j. get_or (set earlier k last) j 0 ≡ last_with after (after j) j) k
                (λ j p. get_or-set_other earlier k j last 0 (λ e. omega (arith, e, p)) ∙ w.chained.entry j p ∙ last_stays (before j) j (omega (arith, p))
                ∙ ap (λ (g : ℕ). last_with after g j) (bucket_stays j (omega (arith, p))))
                (get_or-set_same earlier k last 0 (omega (arith, w.chained.size, narrow)) ∙ was ∙ w.last h small ∙ last_stays h k (omega arith)
                ∙ ap (λ (g : ℕ). last_with after g k) (bucket ∙ bucket_stays k (omega arith)))
                i (omega (arith, l));
          };
        }

-- no node is numbered: tables of zeros
pub numbering_begins : {b places classes : List ℕ} → length classes ≡ most_nodes
    → Numbering b places classes (replicate buckets 0) (replicate most_nodes 0) 0
unfolding last_with
numbering_begins s =
    record {
      numbered = record {
        size = s;
        below = λ k h. absurd (not-suc-le-zero h);
        first = λ k h. absurd (not-suc-le-zero h);
        key = λ j k h. absurd (not-suc-le-zero h);
        class = λ j k h. absurd (not-suc-le-zero h);
      };
      size = refl;
      last = λ h l. get_or-replicate buckets h 0 0 l;
      chained = record { size = refl; entry = λ k h. absurd (not-suc-le-zero h) };
    }

-- node k, with its record and its bucket
module _ {b starts places classes lasts earlier : List ℕ} {k : ℕ} (w : NodeToNumber b starts places classes lasts earlier k) where
  pub node_there : {first : ℕ} {rec : List ℕ} → first ≡ first_node b → rec ≡ record_at b (start_in starts (first + k)) → rec ≡ node_record b k
  node_there = node_reached Sheet b starts k _ _ w.sheet.file w.below

  pub chain_begins : {rec : List ℕ} {h last : ℕ} → rec ≡ node_record b k → h ≡ bucket_of (entry_of classes) rec (entry_of places k) → h < buckets → last ≡ get_or lasts h 0
      → Chain b starts places classes earlier rec k last
  chain_begins e g l z =
      record {
        sheet = w.sheet;
        size = w.before.numbered.size;
        chained = w.before.chained;
        below = w.below;
        narrow = w.narrow;
        there = e;
        begins = z ∙ w.before.last _ l ∙ rw (g, e) refl;
      }

  pub node_numbered : {rec : List ℕ} {h last x : ℕ} → rec ≡ node_record b k → h ≡ bucket_of (entry_of classes) rec (entry_of places k) → h < buckets → last ≡ get_or lasts h 0
      → Chosen (entry_of classes) (entry_of places) b k x
      → Numbering b places (set classes k x) (set lasts h (k + 1)) (set earlier k last) (k + 1)
  node_numbered e g l z c = numbering_more w.sheet.accepted w.before w.below w.narrow _ c _ _ (g ∙ rw e refl) l z
