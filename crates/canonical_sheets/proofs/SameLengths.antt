-- The translations of a sheet and of its canonical file are of one length: they have as many labels of each function, and nodes of the
-- same kinds and widths.
use mathlib.Core.Path.{◌≡◌, sym, ap, ◌∙◌}
use Prim.Native.Nat.{ℕ, zero, suc, ◌+◌, ◌≤◌, ◌<◌}
use mathlib.Core.List.{List}
use mathlib.Core.Bool.{true, cond, ◌||◌, and-eq-true_iff}
use native.Mathlib.Omega.{arith}
use native.Mathlib.Decide.{ℕ_discrete}
use lib.ListN.{length}
use lib.Dec.{eqb}
use borrow.Author.Tests.{eqb-true}
use Rattle.definitions.specs.Records.{kind_of, field, field_count}
use Rattle.definitions.specs.SheetKinds
use Rattle.definitions.specs.Lists.{sum_of, count_of}
use Rattle.definitions.specs.Layouts.{functions, nodes, first_node, node_record, body_of, owner_of}
use Rattle.definitions.specs.SheetRules.{parent_of}
use Rattle.definitions.specs.Checks.{sheet_verdict}
use Rattle.definitions.specs.Trees.{equal_trees}
use Rattle.definitions.specs.Labels.{calls, first_call, is_first}
use Rattle.definitions.specs.Translate.{formal_words, node_words, translation}
use Rattle.definitions.specs.CanonicalSheet.{bodies, canonical}
use Rattle.definitions.specs.declared.Layout.TheVariants.{Sheet}
use Rattle.definitions.specs.Verdict.{Accepted}
use Rattle.laws.proofs.ByteFiles.{Bytes}
use Rattle.accepted.proofs.Sums.{sum_same}
use Rattle.accepted.proofs.Counts.{count_into}
use Rattle.accepted.proofs.Records.{record_fields}
use Rattle.accepted.proofs.Owners.{owner_below}
use Rattle.accepted.proofs.Checks.{sheet_shape, trees_pass}
use Rattle.accepted.proofs.Trees.{record_child}
use Rattle.accepted.proofs.Parents.{record_parent_there}
use Rattle.readback.proofs.Labels.{calls_node, call_passes}
use Rattle.readback.proofs.FirstCalls.{FirstOf, itself, earlier, first_limit, first_of, first_same, first_listed}
use Rattle.readback.proofs.Size.{two_fields, node_length_law, formal_size, words_size, translation_length}
use Rattle.trees.proofs.Equal.{equal_itself, equal_swap, equal_then, equal_at}
use Rattle.shared_runs.specs.Reads.{EqualTrees}
use Rattle.shared_runs.proofs.SameTrees.{trees_then, trees_back, same_calls}
use Rattle.shared_runs.proofs.Shared.{equal_shares}
use Rattle.canonical_sheets.proofs.ReadBack.{functions_read, nodes_read, bodies_read}
use Rattle.canonical_sheets.proofs.ChildFields.{child_named}
use Rattle.canonical_sheets.proofs.Sizes.{tally}
use Rattle.canonical_sheets.proofs.Lengths.{tally_of_nodes}
use Rattle.canonical_sheets.proofs.Kept.{parameters_kept}
use Rattle.canonical_sheets.proofs.Twins.{Twin, pair, twin_below, twin_child, twin_body, twin_of}
use Rattle.canonical_sheets.proofs.SameTrees.{twins_equal}
use Rattle.canonical_sheets.proofs.Accepted.{canonical_accepted}

-- a node of sheet b with the tree of node k of sheet a
record Partner (a b : List ℕ) (k : ℕ) : Type 0 where
  node : ℕ
  below : node < nodes b
  equal : EqualTrees a b k node

first_tree : (b : List ℕ) → sheet_verdict b ≡ Accepted → (f k : ℕ) → k < nodes b → {m : ℕ} → FirstOf (equal_trees b) b f k m → equal_trees b m k ≡ true
first_tree b accepted f k h itself = equal_itself b accepted k h
first_tree b accepted f k h (earlier l e) = e.is_same

-- sheets where each node of the one has a partner in the other: the other has at least as many labels
module _ (a b : List ℕ) (one : sheet_verdict a ≡ Accepted) (two : sheet_verdict b ≡ Accepted) (partner : (k : ℕ) → k < nodes a → Partner a b k) (f : ℕ) where
  first_is : (k : ℕ) → is_first (equal_trees a) a f k ≡ true → (calls a f k ≡ true) × (first_call (equal_trees a) a f k ≡ k)
  unfolding is_first
  first_is k e =
      let p = (and-eq-true_iff (calls a f k) (eqb (first_call (equal_trees a) a f k) k)).0 e in
      (p.0, eqb-true (first_call (equal_trees a) a f k) k p.1)

  partner_calls : (k : ℕ) (h : k < nodes a) → calls a f k ≡ true → calls b f (partner k h).node ≡ true
  partner_calls k h e =
      let p = partner k h in
      call_passes b two f p.node p.below (same_calls a b one h (calls_node a f k e) p.equal).is

  -- the first call of its partner
  abbrev at : (k : ℕ) → k < nodes a → is_first (equal_trees a) a f k ≡ true → ℕ
  at k h e = first_call (equal_trees b) b f (partner k h).node

  apart : (k m : ℕ) (h : k < nodes a) (l : m < nodes a) (e : is_first (equal_trees a) a f k ≡ true) (d : is_first (equal_trees a) a f m ≡ true)
      → at k h e ≡ at m l d → k ≡ m
  apart k m h l e d g =
      let p = partner k h in
      let q = partner m l in
      let x : equal_trees b (at k h e) p.node ≡ true = first_tree b two f p.node p.below (first_of (equal_trees b) b f p.node) in
      let y : equal_trees b (at m l d) q.node ≡ true = first_tree b two f q.node q.below (first_of (equal_trees b) b f q.node) in
      let z : equal_trees b p.node q.node ≡ true = equal_then b p.node (at k h e) q.node (equal_swap b (at k h e) p.node x) (rw g y) in
      let same = trees_then (trees_then p.equal ((equal_shares b).equal p.node q.node z)) (trees_back q.equal) in
      let v = first_same (equal_trees a) (equal_swap a) (equal_then a) a f k m (first_is k e).0 (first_is m d).0 (equal_at a one same.depth k m h same.equal) in
      sym (first_is k e).1 ∙ v ∙ (first_is m d).1

  labels_at_most : count_of (nodes a) (is_first (equal_trees a) a f) ≤ count_of (nodes b) (is_first (equal_trees b) b f)
  labels_at_most =
      count_into (nodes a) (nodes b) (is_first (equal_trees a) a f) (is_first (equal_trees b) b f) at
      (λ k h e. omega (arith, first_limit (equal_trees b) b f (partner k h).node, (partner k h).below))
      (λ k h e. first_listed (equal_trees b) (equal_swap b) (equal_then b) b f (partner k h).node (partner_calls k h (first_is k e).0))
      apart

-- the words of a node's record in the translation, by its kind and width
abbrev node_width : ℕ → ℕ → ℕ
node_width k w = cond (eqb k SheetKinds.call || eqb k SheetKinds.pattern_variable) 4 (2 + w)

nodes_words : (b : List ℕ) → sheet_verdict b ≡ Accepted → sum_of (nodes b) (λ k. length (node_words (equal_trees b) b k)) ≡ tally node_width (bodies b)
nodes_words b accepted =
    sum_same (nodes b) (λ k. length (node_words (equal_trees b) b k)) (λ k. node_width (kind_of (node_record b k)) (field_count (node_record b k)))
    (λ k h. node_length_law (equal_trees b) b accepted k h
    ∙ ap (cond (two_fields (node_record b k)) 4) (omega (arith, record_fields Sheet b (sheet_shape b accepted) (first_node b + k) (omega arith))))
    ∙ sym (tally_of_nodes b accepted node_width)

module _ (b : List ℕ) (bytes : Bytes b) (accepted : sheet_verdict b ≡ Accepted) where
  abbrev form : List ℕ
  form = canonical b

  -- where node k comes out
  record Position (k : ℕ) : Type 0 where
    node : ℕ
    twin : Twin b (owner_of Sheet b k) k node

  moved : {f g k m q : ℕ} → g ≡ f → m ≡ k → Twin b f m q → Twin b g k q
  moved e p t = rw e (rw p at t)

  -- as the body of its function, or below its parent
  position : (n k : ℕ) → nodes b ≤ n + k → k < nodes b → Position k
  position zero k l h = absurd (omega (arith, l, h))
  position (suc n) k l h =
      elim (ℕ_discrete k (body_of Sheet b (owner_of Sheet b k))) [
        | yes e ↦ record { node = k; twin = rw (← e) at (twin_body b accepted bytes (owner_of Sheet b k) (owner_below Sheet b (sheet_shape b accepted) k h)) }
        | no e ↦
            let t = record_parent_there b (trees_pass b accepted) k h e in
            let p = parent_of b k in
            let r = record_child b (trees_pass b accepted) p k t.0 t.1 in
            let x = position n p (omega (arith, l, r.smaller)) t.0 in
            let place = t.1.place in
            let there = t.1.there in
            let i = child_named (node_record b p) place there.below in
            let w = twin_child b accepted x.twin i.at i.below i.holds.0 in
            let z : field (node_record b p) i.at ≡ k = sym i.holds.1 ∙ there.is in
            record { node = field (node_record form x.node) i.at; twin = moved r.owner z w }
      ]

  partner_in : (k : ℕ) → k < nodes b → Partner b form k
  partner_in k h =
      let t = (position (nodes b) k (omega arith) h).twin in
      record { node = _; below = twin_below b accepted t; equal = twins_equal b accepted bytes t }

  partner_of : (q : ℕ) → q < nodes form → Partner form b q
  partner_of q g =
      let t = (twin_of b accepted bytes q (rw (nodes_read b accepted) at g)).holds in
      record { node = _; below = (pair t).below; equal = trees_back (twins_equal b accepted bytes t) }

  labels_kept : (f : ℕ) → count_of (nodes form) (is_first (equal_trees form) form f) ≡ count_of (nodes b) (is_first (equal_trees b) b f)
  labels_kept f =
      let d = canonical_accepted b bytes accepted in
      omega (arith, labels_at_most b form accepted d partner_in f, labels_at_most form b d accepted partner_of f)

  -- lengths
  formals_kept : sum_of (functions form) (λ f. length (formal_words (equal_trees form) form f))
      ≡ sum_of (functions b) (λ f. length (formal_words (equal_trees b) b f))
  formals_kept =
      rw (functions_read b accepted)
      (sum_same (functions b) (λ f. length (formal_words (equal_trees form) form f)) (λ f. length (formal_words (equal_trees b) b f))
      (λ f h. formal_size (equal_trees form) form (canonical_accepted b bytes accepted) f
      ∙ rw (parameters_kept b accepted f h, labels_kept f) (sym (formal_size (equal_trees b) b accepted f))))

  pub lengths_kept : length (translation form) ≡ length (translation b)
  unfolding translation
  lengths_kept =
      let d = canonical_accepted b bytes accepted in
      let n : sum_of (nodes form) (λ k. length (node_words (equal_trees form) form k)) ≡ sum_of (nodes b) (λ k. length (node_words (equal_trees b) b k))
      = nodes_words form d ∙ ap (tally node_width) (bodies_read b accepted bytes) ∙ sym (nodes_words b accepted) in
      omega (
        arith,
        translation_length (equal_trees form) form d,
        translation_length (equal_trees b) b accepted,
        words_size (equal_trees form) form d,
        words_size (equal_trees b) b accepted,
        functions_read b accepted,
        formals_kept,
        n,
      )
