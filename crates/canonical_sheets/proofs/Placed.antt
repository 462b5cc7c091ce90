-- The trees of a sheet in a file where they stand, node by node: each node of the file is a copy of one of the sheet.
use mathlib.Core.Path.{◌≡◌, refl, ap, ◌∙◌}
use Prim.Native.Nat.{ℕ, zero, suc, ◌+◌, ◌*◌, ◌≤◌, ◌<◌}
use mathlib.Core.List.{List, [], ◌∷◌, ◌++◌}
use mathlib.Core.Bool.{Bool, true, false, cond}
use native.Mathlib.Omega.{arith}
use native.Mathlib.Nat.{not-suc-le-zero, add-zero}
use native.Mathlib.Decide.{ℕ_discrete}
use lib.ListN.{length, get_or, get_or-append}
use lib.Seq.{get_or_at}
use Rattle.definitions.specs.Records.{kind_of, field, field_count}
use Rattle.definitions.specs.Layouts.{nodes, node_record, owner_of}
use Rattle.definitions.specs.Checks.{sheet_verdict}
use Rattle.definitions.specs.Trees.{names_node}
use Rattle.definitions.specs.CanonicalSheet.{Fields, plain, branch, first_fields, fields_within, size_of, field_words}
use Rattle.definitions.specs.declared.Layout.TheVariants.{Sheet}
use Rattle.definitions.specs.Verdict.{Accepted}
use Rattle.laws.proofs.ByteFiles.{Bytes}
use Rattle.accepted.proofs.Checks.{trees_pass}
use Rattle.accepted.proofs.Trees.{child_owner}
use Rattle.readback.proofs.Made.{record_bytes_law}
use Rattle.readback.proofs.Fields.{Fit, kind_read, count_read, field_read}
use Rattle.trees.proofs.Parts.{part_child, part_smaller, part_below}
use Rattle.canonical_sheets.proofs.Stands.{words_width, words_fit, Stands, stands_plain, Rooted, stands_last, stands_before}
use Rattle.canonical_sheets.proofs.FirstFields.{size_none, first_branch, size_branch, words_branch, size_plain, words_plain, sizes_rise}
use Rattle.canonical_sheets.proofs.Forms.{first_width, kind_small, tree_formed}

-- node q of file c is a copy of node k of sheet b, which is of function f: of its kind and width, with the same fields where they
-- name no node
pub record Copy (b c : List ℕ) (f k q : ℕ) : Type 0 where
  pub below : k < nodes b
  pub owner : owner_of Sheet b k ≡ f
  pub kinds : kind_of (node_record c q) ≡ kind_of (node_record b k)
  pub counts : field_count (node_record c q) ≡ field_count (node_record b k)
  pub long : length (node_record c q) ≡ 4 + 2 * field_count (node_record b k)
  pub plain : (i : ℕ) → i < field_count (node_record b k) → names_node (kind_of (node_record b k)) i ≡ false
      → field (node_record c q) i ≡ field (node_record b k) i

-- the trees that the fields of node k name follow each other in file c, from node s to before node q: that of field i starts at node
-- `start i`
pub record Starts (b c : List ℕ) (s k q : ℕ) : Type 0 where
  pub start : ℕ → ℕ
  pub from : start 0 ≡ s
  pub to : start (field_count (node_record b k)) ≡ q
  pub stays : (i : ℕ) → i < field_count (node_record b k) → names_node (kind_of (node_record b k)) i ≡ false → start (suc i) ≡ start i
  pub passes : (i : ℕ) → i < field_count (node_record b k) → names_node (kind_of (node_record b k)) i ≡ true
      → start (suc i) ≡ suc (field (node_record c q) i)

-- the tree of node k, in function f of sheet b, stands in file c from node s to its root, node q
pub data Placed (b c : List ℕ) (f : ℕ) : ℕ → ℕ → ℕ → Type 0 where
  placed : {s k q : ℕ} → Copy b c f k q → (w : Starts b c s k q)
      → ((i : ℕ) → i < field_count (node_record b k) → names_node (kind_of (node_record b k)) i ≡ true
      → Placed b c f (w.start i) (field (node_record b k) i) (field (node_record c q) i))
      → Placed b c f s k q

-- the first n fields of a record whose trees stand in a file, and their words
module _ (kind : ℕ → ℕ) (below : ℕ → Fields) (rec : List ℕ) where
  abbrev first : ℕ → Fields
  first n = first_fields kind below rec n

  module _ (c : List ℕ) (s : ℕ) where
    stands_by : (fs gs : Fields) (k x : ℕ) (t : Bool) → Stands c s (cond t (branch fs k gs) (plain fs x)) → Stands c s fs
    stands_by fs gs k x true t = stands_before t
    stands_by fs gs k x false (stands_plain t) = t

    stands_less : (n : ℕ) → Stands c s (first (suc n)) → Stands c s (first n)
    unfolding first_fields
    stands_less n t = stands_by (first n) (below (field rec n)) (kind (field rec n)) (field rec n) (names_node (kind_of rec) n) t

    -- the tree that field i names
    rooted : (n i : ℕ) → Stands c s (first n) → i < n → names_node (kind_of rec) i ≡ true
        → Rooted c (s + size_of (first i)) (kind (field rec i)) (below (field rec i))
    rooted zero i t h e = absurd (not-suc-le-zero h)
    rooted (suc n) i t h e =
        elim (ℕ_discrete i n) [
          | yes q ↦ rw q (stands_last (rw (first_branch kind below rec n (rw q at e)) at t))
          | no q ↦ rooted n i (stands_less n t) (omega (arith, h, q)) e
        ]

    -- the word of field i
    abbrev word_at : ℕ → ℕ
    word_at i = cond (names_node (kind_of rec) i) (s + size_of (first i) + size_of (below (field rec i))) (field rec i)

    words_more : (n : ℕ) (t : Bool) → names_node (kind_of rec) n ≡ t → field_words s (first (suc n)) ≡ field_words s (first n) ++ (word_at n ∷ [])
    words_more n true e = rw e (words_branch kind below rec n e s)
    words_more n false e = rw e (words_plain kind below rec n e s)

    first_words : (n : ℕ) → length (field_words s (first n)) ≡ n
    first_words n = words_width s (first n) ∙ first_width kind below rec n

    word_is : (n i : ℕ) → i < n → get_or (field_words s (first n)) i 0 ≡ word_at i
    word_is zero i h = absurd (not-suc-le-zero h)
    word_is (suc n) i h =
        elim (ℕ_discrete i n) [
          | yes q ↦ rw (words_more n (names_node (kind_of rec) n) refl, q) (get_or_at (field_words s (first n)) (word_at n) [] 0 n (first_words n))
          | no q ↦
              let l : i < n = omega (arith, h, q) in
              rw (words_more n (names_node (kind_of rec) n) refl)
              (get_or-append (field_words s (first n)) (word_at n ∷ []) 0 i (rw (first_words n) l) ∙ word_is n i l)
        ]

-- a tree that stands in the file is placed
module _ (b c : List ℕ) (bytes : Bytes b) (accepted : sheet_verdict b ≡ Accepted) where
  pub place : (d k s f : ℕ) → k < d → k < nodes b → owner_of Sheet b k ≡ f → Rooted c s (kind_of (node_record b k)) (fields_within b d k)
      → s + size_of (fields_within b d k) < 65536
      → Placed b c f s k (s + size_of (fields_within b d k))
  unfolding fields_within
  place zero k s f h l o r m = absurd (not-suc-le-zero h)
  place (suc d) k s f h l o r m =
      let rec = node_record b k in
      let n = field_count rec in
      let kind : ℕ → ℕ = λ x. kind_of (node_record b x) in
      let below = fields_within b d in
      let fs = first_fields kind below rec in
      let q = s + size_of (fs n) in
      let ws = field_words s (fs n) in
      let width : length ws ≡ n = first_words kind below rec c s n in
      let fit : Fit ws = words_fit s (tree_formed b bytes (suc d) k) (omega (arith, m)) in
      let word : (i : ℕ) → i < n → field (node_record c q) i ≡ word_at kind below rec c s i
      = λ i g. rw r.root (field_read (kind_of rec) ws fit i ∙ word_is kind below rec c s n i g) in
      let node : (i : ℕ) → i < n → names_node (kind_of rec) i ≡ true → field (node_record c q) i ≡ s + size_of (fs i) + size_of (below (field rec i))
      = λ i g e. word i g ∙ rw e refl in
      placed {s = s} {q = q}
      (record {
        below = l;
        owner = o;
        kinds = rw r.root (kind_read (kind_of rec) ws (kind_small b bytes k));
        counts = rw r.root (count_read (kind_of rec) ws ∙ width);
        long = rw r.root (record_bytes_law (kind_of rec) ws ∙ rw width refl);
        plain = λ i g e. word i g ∙ rw e refl;
      })
      (record {
        start = λ i. s + size_of (fs i);
        from = rw (size_none kind below rec) (add-zero s);
        to = refl;
        stays = λ i g e. ap (λ (x : ℕ). s + x) (size_plain kind below rec i e);
        passes = λ i g e. omega (arith, size_branch kind below rec i e, node i g e);
      })
      (λ i g e.
      let u = part_smaller b accepted k l i g e in
      let v : size_of (fs (suc i)) ≤ size_of (fs n) = sizes_rise kind below rec (suc i) n g in
      rw (node i g e)
      (place d (field rec i) (s + size_of (fs i)) f (omega (arith, u, h)) (part_below b accepted k l i g e)
      (child_owner b (trees_pass b accepted) k l refl (part_child b accepted k l i g e) ∙ o) (rooted kind below rec c s n i r.tree g e)
      (omega (arith, size_branch kind below rec i e, v, m))))
