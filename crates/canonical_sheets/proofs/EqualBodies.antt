-- Bodies that are equal trees by position are equal trees as request 4 has it, and the other way about, in sheets with equal sections.
use mathlib.Core.Path.{◌≡◌, refl, sym, ap, ◌∙◌}
use mathlib.Core.Logic.{◌↔◌}
use Prim.Native.Nat.{ℕ, zero, suc, ◌+◌, ◌≤◌, ◌<◌}
use mathlib.Core.List.{List}
use mathlib.Core.Bool.{Bool, true, false}
use native.Mathlib.Omega.{arith}
use Rattle.definitions.specs.Bytes.{word}
use Rattle.definitions.specs.Records.{start_of, kind_of, field, field_count}
use Rattle.definitions.specs.Layouts.{functions, nodes, first_node, node_record, body_of}
use Rattle.definitions.specs.Checks.{sheet_verdict}
use Rattle.definitions.specs.Trees.{names_node, same_tree}
use Rattle.definitions.specs.CanonicalSheet.{Fields, first_fields, fields_within, fields_of, first_bodies, bodies, sections, canonical}
use Rattle.definitions.specs.declared.Layout.TheVariants.{Sheet}
use Rattle.definitions.specs.Verdict.{Accepted}
use Rattle.laws.proofs.Bytes.{word_part}
use Rattle.laws.proofs.ByteFiles.{Bytes}
use Rattle.accepted.proofs.Checks.{sheet_shape}
use Rattle.accepted.proofs.Owners.{body_below}
use Rattle.trees.proofs.Heads.{heads, no_tree, tree_rises}
use Rattle.shared_runs.specs.Reads.{EqualTrees}
use Rattle.shared_runs.proofs.SameTrees.{trees_then, trees_back}
use Rattle.canonical_sheets.proofs.Sizes.{depths}
use Rattle.canonical_sheets.proofs.ReadBack.{same_bytes, head_before}
use Rattle.canonical_sheets.proofs.SameTrees.{alike}

-- the first fields of two records, whose nodes have equal fields and kinds
module _ (a b : List ℕ) (d : ℕ) (x y : List ℕ) (kinds : kind_of x ≡ kind_of y) where
  abbrev fields_one : ℕ → Fields
  fields_one n = first_fields (λ k. kind_of (node_record a k)) (fields_within a d) x n

  abbrev fields_two : ℕ → Fields
  fields_two n = first_fields (λ k. kind_of (node_record b k)) (fields_within b d) y n

  one_more : (n : ℕ) (t : Bool) → names_node (kind_of x) n ≡ t
      → (t ≡ true → (kind_of (node_record a (field x n)) ≡ kind_of (node_record b (field y n))) × (fields_within a d (field x n) ≡ fields_within b d (field y n)))
      → (t ≡ false → field x n ≡ field y n) → fields_one n ≡ fields_two n → fields_one (suc n) ≡ fields_two (suc n)
  unfolding first_fields
  one_more n true e p q s = rw (← kinds, e, s, (p refl).0, (p refl).1) refl
  one_more n false e p q s = rw (← kinds, e, s, q refl) refl

  same_first : (n : ℕ)
      → ((i : ℕ) → i < n → names_node (kind_of x) i ≡ true
      → (kind_of (node_record a (field x i)) ≡ kind_of (node_record b (field y i))) × (fields_within a d (field x i) ≡ fields_within b d (field y i)))
      → ((i : ℕ) → i < n → names_node (kind_of x) i ≡ false → field x i ≡ field y i) → fields_one n ≡ fields_two n
  unfolding first_fields
  same_first zero p q = refl
  same_first (suc n) p q =
      one_more n (names_node (kind_of x) n) refl (p n (omega arith)) (q n (omega arith)) (same_first n (λ i h. p i (omega arith)) (λ i h. q i (omega arith)))

-- equal trees have equal fields, down to their depth
same_kind : (a b : List ℕ) (d k m : ℕ) → same_tree a b d k m ≡ true → kind_of (node_record a k) ≡ kind_of (node_record b m)
same_kind a b zero k m e = no_tree a b k m e
same_kind a b (suc d) k m e = (heads a b d k m e).kinds

same_fields_law : (a b : List ℕ) (d k m : ℕ) → same_tree a b d k m ≡ true → fields_within a d k ≡ fields_within b d m
unfolding fields_within
same_fields_law a b zero k m e = refl
same_fields_law a b (suc d) k m e =
    let h = heads a b d k m e in
    let x = node_record a k in
    let y = node_record b m in
    rw (← h.counts)
    (same_first a b d x y h.kinds (field_count x)
    (λ i l t. (same_kind a b d (field x i) (field y i) (h.parts i l t), same_fields_law a b d (field x i) (field y i) (h.parts i l t))) h.numbers)

-- a head is part of the sections
functions_in : (b : List ℕ) → sheet_verdict b ≡ Accepted → word (sections b) 8 ≡ functions b
unfolding sections
functions_in b accepted = word_part b (start_of b (first_node b)) 0 8 (omega (arith, head_before b (sheet_shape b accepted)))

module _ (a b : List ℕ) (one : sheet_verdict a ≡ Accepted) (two : sheet_verdict b ≡ Accepted) (same : sections a ≡ sections b) where
  functions_same : functions a ≡ functions b
  functions_same = sym (functions_in a one) ∙ ap (λ (s : List ℕ). word s 8) same ∙ functions_in b two

  -- from equal trees by request 4
  body_fields : (f : ℕ) → f < functions a → EqualTrees a b (body_of Sheet a f) (body_of Sheet b f)
      → (kind_of (node_record a (body_of Sheet a f)) ≡ kind_of (node_record b (body_of Sheet b f))) × (fields_of a (body_of Sheet a f) ≡ fields_of b (body_of Sheet b f))
  body_fields f h e =
      let k = body_of Sheet a f in
      let m = body_of Sheet b f in
      let d = e.depth + (nodes a + nodes b) in
      let p = body_below Sheet a (sheet_shape a one) f h in
      let q = body_below Sheet b (sheet_shape b two) f (rw functions_same at h) in
      let t = tree_rises a b e.depth d k m (omega arith) e.equal in (
        same_kind a b d k m t,
        depths a one (nodes a) d k p (omega (arith, p)) p ∙ same_fields_law a b d k m t ∙ depths b two d (nodes b) m (omega (arith, q)) q q,
      )

  first_same : ((f : ℕ) → f < functions a → EqualTrees a b (body_of Sheet a f) (body_of Sheet b f)) → (n : ℕ) → n ≤ functions a → first_bodies a n ≡ first_bodies b n
  unfolding first_bodies
  first_same e zero h = refl
  first_same e (suc n) h =
      let p = body_fields n h (e n h) in
      rw (first_same e n (omega (arith, h)), p.0, p.1) refl

  -- and back, over the canonical form, which is one
  module _ (bytes : Bytes a) (bytes' : Bytes b) where
    body_trees : bodies a ≡ bodies b → (f : ℕ) → f < functions a → EqualTrees a b (body_of Sheet a f) (body_of Sheet b f)
    body_trees e f h =
        let c : canonical a ≡ canonical b = same_bytes a b same e in
        let x = (alike a one bytes).bodies f h in
        let y = (alike b two bytes').bodies f (rw functions_same at h) in
        trees_then x (trees_back (rw (← c) at y))

    pub bodies_exactly : (bodies a ≡ bodies b) ↔ ((f : ℕ) → f < functions a → EqualTrees a b (body_of Sheet a f) (body_of Sheet b f))
    unfolding bodies
    bodies_exactly = (body_trees, λ e. first_same e (functions a) (omega arith) ∙ ap (first_bodies b) functions_same)
