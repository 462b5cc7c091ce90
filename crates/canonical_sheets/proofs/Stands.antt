-- Trees whose records are written in post-order stand in the file, and are what is read there.
use mathlib.Core.Path.{◌≡◌, refl, sym, ◌∙◌}
use Prim.Native.Nat.{ℕ, zero, suc, ◌+◌, ◌*◌, ◌≤◌, ◌<◌}
use mathlib.Core.List.{List, [], ◌∷◌, ◌++◌, append_assoc}
use mathlib.Core.Bool.{true, false}
use native.Mathlib.Omega.{arith}
use native.Mathlib.Nat.{add-zero, not-suc-le-zero}
use lib.ListN.{length, get_or, length-append, get_or-append}
use lib.Seq.{get_or_at}
use Rattle.definitions.specs.Bytes.{bytes_of}
use Rattle.definitions.specs.Records.{start_of, record_of, kind_of, field, field_count}
use Rattle.definitions.specs.Layouts.{first_node, node_record}
use Rattle.definitions.specs.Translate.{record_words}
use Rattle.laws.proofs.Words.{bytes_append}
use Rattle.readback.proofs.Made.{Short, record_bytes_law, among_next, among_record}
use Rattle.readback.proofs.Fields.{Fit, fit_none, fit_more, kind_read, count_read, field_read}
use Rattle.definitions.specs.Trees.{names_node}
use Rattle.definitions.specs.CanonicalSheet.{Fields, none, plain, branch, first_fields, fields_within, size_of, field_words, tree_words}

-- how many fields
unfoldable pub width_of : Fields → ℕ
width_of none = 0
width_of (plain fs x) = suc (width_of fs)
width_of (branch fs k gs) = suc (width_of fs)

-- the fields of a record of kind k, each in its place, with trees that are so
pub data Formed : ℕ → Fields → Type 0 where
  formed_none : {k : ℕ} → Formed k none
  formed_plain : {k x : ℕ} {fs : Fields} → Formed k fs → names_node k (width_of fs) ≡ false → x < 65536 → Formed k (plain fs x)
  formed_branch : {k j : ℕ} {fs gs : Fields} → Formed k fs → names_node k (width_of fs) ≡ true
      → j < 65536 → width_of gs < 32766 → Formed j gs → Formed k (branch fs j gs)

pub words_width : (s : ℕ) (fs : Fields) → length (field_words s fs) ≡ width_of fs
unfolding field_words width_of
words_width s none = refl
words_width s (plain fs x) = length-append (field_words s fs) (x ∷ []) ∙ rw (words_width s fs) (omega arith)
words_width s (branch fs k gs) = length-append (field_words s fs) ((s + size_of fs + size_of gs) ∷ []) ∙ rw (words_width s fs) (omega arith)

-- every word fits
fit_end : (ws : List ℕ) (w : ℕ) → Fit ws → w < 65536 → Fit (ws ++ (w ∷ []))
fit_end [] w f h = fit_more w [] h fit_none
fit_end (v ∷ vs) w f h = fit_more v (vs ++ (w ∷ [])) (f.each 0) (fit_end vs w (record { each = λ j. f.each (suc j) }) h)

pub words_fit : (s : ℕ) {k : ℕ} {fs : Fields} → Formed k fs → s + size_of fs ≤ 65536 → Fit (field_words s fs)
unfolding field_words size_of
words_fit s formed_none h = fit_none
words_fit s (formed_plain {x} {fs} f e l) h = fit_end (field_words s fs) x (words_fit s f h) l
words_fit s (formed_branch {fs} {gs} f e l w g) h =
    fit_end (field_words s fs) (s + size_of fs + size_of gs) (words_fit s f (omega (arith, h))) (omega (arith, h))

-- the trees stand in the file, their nodes from number s on
pub data Stands (c : List ℕ) : ℕ → Fields → Type 0 where
  stands_none : {s : ℕ} → Stands c s none
  stands_plain : {s x : ℕ} {fs : Fields} → Stands c s fs → Stands c s (plain fs x)
  stands_branch : {s j : ℕ} {fs gs : Fields} → Stands c s fs → Stands c (s + size_of fs) gs
      → node_record c (s + size_of fs + size_of gs) ≡ bytes_of (record_words j (field_words (s + size_of fs) gs))
      → Stands c s (branch fs j gs)

-- a tree that stands in the file, and its root of kind k after it
pub record Rooted (c : List ℕ) (s k : ℕ) (fs : Fields) : Type 0 where
  pub tree : Stands c s fs
  pub root : node_record c (s + size_of fs) ≡ bytes_of (record_words k (field_words s fs))

-- the last of trees that stand in the file, and those before it
pub stands_last : {c : List ℕ} {s k : ℕ} {fs gs : Fields} → Stands c s (branch fs k gs) → Rooted c (s + size_of fs) k gs
stands_last (stands_branch t u r) = record { tree = u; root = r }

pub stands_before : {c : List ℕ} {s k : ℕ} {fs gs : Fields} → Stands c s (branch fs k gs) → Stands c s fs
stands_before (stands_branch t u r) = t

-- a record where the walk over a file comes to it
module _ (c o q : List ℕ) (k : ℕ) (fs : List ℕ) (t : Short fs) (i : c ≡ o ++ (bytes_of (record_words k fs) ++ q)) where
  record_there : (r : ℕ) → start_of c r ≡ length o → record_of c r ≡ bytes_of (record_words k fs)
  unfolding record_of
  record_there r a = rw a (rw i (among_record o q k fs t))

  next_there : (x y : ℕ) → start_of c (x + y) ≡ length o → start_of c (x + suc y) ≡ length o + (4 + 2 * length fs)
  unfolding start_of
  next_there x y a =
      let n : x + suc y ≡ suc (x + y) = omega arith in
      rw n (rw a (rw i (among_next o q k fs t)))

-- and the walk over the file comes from the start of their records to the end
pub record StandsTo (c : List ℕ) (s : ℕ) (fs : Fields) (end : ℕ) : Type 0 where
  pub trees : Stands c s fs
  pub ends : start_of c (first_node c + (s + size_of fs)) ≡ end

pub stands : (c p q : List ℕ) (s : ℕ) {k : ℕ} {fs : Fields} → Formed k fs → c ≡ p ++ (bytes_of (tree_words s fs) ++ q)
    → start_of c (first_node c + s) ≡ length p → StandsTo c s fs (length p + length (bytes_of (tree_words s fs)))
unfolding tree_words size_of bytes_of
stands c p q s formed_none e m = record { trees = stands_none; ends = rw (add-zero s) (m ∙ omega arith) }
stands c p q s (formed_plain f h l) e m =
    let t = stands c p q s f e m in
    record { trees = stands_plain t.trees; ends = t.ends }
stands c p q s (formed_branch {j} {fs} {gs} f h l w g) e m =
    let ws = bytes_of (tree_words s fs) in
    let vs = bytes_of (tree_words (s + size_of fs) gs) in
    let field_words_law = field_words (s + size_of fs) gs in
    let us = bytes_of (record_words j field_words_law) in
    let short : Short field_words_law = record { short = rw (words_width (s + size_of fs) gs) w } in
    let all : bytes_of (tree_words s fs ++ tree_words (s + size_of fs) gs ++ record_words j field_words_law) ≡ ws ++ (vs ++ us)
    = bytes_append (tree_words s fs ++ tree_words (s + size_of fs) gs) (record_words j field_words_law)
    ∙ rw (bytes_append (tree_words s fs) (tree_words (s + size_of fs) gs)) (append_assoc ws vs us) in
    let x : p ++ (ws ++ (vs ++ us) ++ q) ≡ p ++ (ws ++ (vs ++ (us ++ q))) = simp append_assoc in
    let y : p ++ (ws ++ (vs ++ us) ++ q) ≡ (p ++ ws) ++ (vs ++ (us ++ q)) = simp append_assoc in
    let z : p ++ (ws ++ (vs ++ us) ++ q) ≡ ((p ++ ws) ++ vs) ++ (us ++ q) = simp append_assoc in
    let here : c ≡ p ++ (ws ++ (vs ++ us) ++ q) = rw all at e in
    let one = stands c p (vs ++ (us ++ q)) s f (here ∙ x) m in
    let two = stands c (p ++ ws) (us ++ q) (s + size_of fs) g (here ∙ y) (one.ends ∙ sym (length-append p ws)) in
    let at : start_of c (first_node c + (s + size_of fs + size_of gs)) ≡ length ((p ++ ws) ++ vs) = two.ends ∙ sym (length-append (p ++ ws) vs) in
    let count : s + suc (size_of fs + size_of gs) ≡ suc (s + size_of fs + size_of gs) = omega arith in
    record {
      trees = stands_branch one.trees two.trees
          (record_there c ((p ++ ws) ++ vs) q j field_words_law short (here ∙ z) (first_node c + (s + size_of fs + size_of gs)) at);
      ends = rw (count, all)
          (next_there c ((p ++ ws) ++ vs) q j field_words_law short (here ∙ z) (first_node c) (s + size_of fs + size_of gs) at
          ∙ omega (arith, length-append (p ++ ws) vs, length-append p ws, length-append ws (vs ++ us), length-append vs us, record_bytes_law j field_words_law));
    }

-- a record whose fields are words and one more
fields_split : (rec ws : List ℕ) (w n : ℕ) → length ws ≡ n → ((i : ℕ) → i < suc n → field rec i ≡ get_or (ws ++ (w ∷ [])) i 0)
    → ((i : ℕ) → i < n → field rec i ≡ get_or ws i 0) × (field rec n ≡ w)
fields_split rec ws w n l f =
    ((λ i h. f i (omega arith) ∙ get_or-append ws (w ∷ []) 0 i (rw l h)), f n (omega arith) ∙ get_or_at ws w [] 0 n l)

-- trees that stand in the file are the file's trees
module _ (c : List ℕ) where
  abbrev kind_at : ℕ → ℕ
  kind_at n = kind_of (node_record c n)

  tree_at : (d p : ℕ) {rec : List ℕ} → node_record c p ≡ rec → fields_within c (suc d) p ≡ first_fields kind_at (fields_within c d) rec (field_count rec)
  unfolding fields_within
  tree_at d p e = rw e refl

  fields_back : (d s : ℕ) {k : ℕ} {fs : Fields} → Formed k fs → Stands c s fs → s + size_of fs ≤ 65536 → size_of fs ≤ d
      → (rec : List ℕ) → kind_of rec ≡ k → ((i : ℕ) → i < width_of fs → field rec i ≡ get_or (field_words s fs) i 0)
      → first_fields kind_at (fields_within c d) rec (width_of fs) ≡ fs
  unfolding first_fields width_of field_words size_of
  fields_back d s formed_none stands_none h m rec e f = refl
  fields_back d s (formed_plain {x} {fs} g p l) (stands_plain t) h m rec e f =
      let q = fields_split rec (field_words s fs) x (width_of fs) (words_width s fs) f in
      rw (e, p, q.1, fields_back d s g t h m rec e q.0) refl
  fields_back zero s (formed_branch g p l w o) (stands_branch t u r) h m rec e f = absurd (not-suc-le-zero m)
  fields_back (suc d) s (formed_branch {j} {fs} {gs} g p l w o) (stands_branch t u r) h m rec e f =
      let n = s + size_of fs + size_of gs in
      let ws = field_words (s + size_of fs) gs in
      let q = fields_split rec (field_words s fs) n (width_of fs) (words_width s fs) f in
      let fit = words_fit (s + size_of fs) o (omega (arith, h)) in
      let x : kind_at n ≡ j = rw r (kind_read j ws l) in
      let z : field_count (bytes_of (record_words j ws)) ≡ width_of gs = count_read j ws ∙ words_width (s + size_of fs) gs in
      let y : fields_within c (suc d) n ≡ gs
      = tree_at d n r ∙ rw z (fields_back d (s + size_of fs) o u (omega (arith, h)) (omega (arith, m)) (bytes_of (record_words j ws)) (kind_read j ws l)
      (λ i v. field_read j ws fit i)) in
      rw (e, p, q.1, x, y, fields_back (suc d) s g t (omega (arith, h)) (omega (arith, m)) rec e q.0) refl

  -- so is a tree with its root
  pub tree_back : (d s : ℕ) {k : ℕ} {gs : Fields} → Formed k gs → Rooted c s k gs → s + size_of gs < 65536 → size_of gs < d → k < 65536
      → (kind_at (s + size_of gs) ≡ k) × (fields_within c d (s + size_of gs) ≡ gs)
  tree_back zero s o r h m l = absurd (not-suc-le-zero m)
  tree_back (suc d) s {k} {gs} o r h m l =
      let ws = field_words s gs in
      let rec = bytes_of (record_words k ws) in
      let z : field_count rec ≡ width_of gs = count_read k ws ∙ words_width s gs in
      let fit = words_fit s o (omega (arith, h)) in
      let fields = fields_back d s o r.tree (omega (arith, h)) (omega (arith, m)) rec (kind_read k ws l) (λ i v. field_read k ws fit i) in
      (rw r.root (kind_read k ws l), tree_at d (s + size_of gs) r.root ∙ rw z fields)
