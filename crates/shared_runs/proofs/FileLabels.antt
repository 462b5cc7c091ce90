-- The labels that a sheet's translation shows: one for calls with equal arguments and no others, numbered at first calls, whose arguments
-- the formals list.
use mathlib.Core.Path.{◌≡◌, refl, sym, ap, ◌∙◌}
use mathlib.Core.Logic.{◌↔◌}
use Prim.Native.Nat.{ℕ, ◌+◌, ◌<◌}
use mathlib.Core.List.{List, [], ◌∷◌}
use mathlib.Core.Option.{some}
use mathlib.Core.Bool.{true, and-eq-true_iff}
use native.Mathlib.Omega.{arith}
use native.Mathlib.Decide.{dec_lt}
use lib.ListN.{length, get_elem?}
use lib.Dec.{eqb}
use borrow.Author.Tests.{eqb-true}
use Rattle.definitions.specs.Records.{field}
use Rattle.definitions.specs.Lists.{count_of}
use Rattle.definitions.specs.Layouts.{functions, nodes, node_record}
use Rattle.definitions.specs.References.{parameters}
use Rattle.definitions.specs.NodeFields.{fields_from}
use Rattle.definitions.specs.SheetNodes.{call, sheet_node_of}
use Rattle.definitions.specs.TranslationNodes
use Rattle.definitions.specs.TranslationNodes.{TranslationNode, translation_node_of, actual}
use Rattle.definitions.specs.Checks.{sheet_verdict}
use Rattle.definitions.specs.Trees.{equal_trees}
use Rattle.definitions.specs.Labels.{calls, first_call, is_first, label_of, actuals}
use Rattle.definitions.specs.Translate.{formal_of, translation}
use Rattle.definitions.specs.Verdict.{Accepted}
use Rattle.accepted.proofs.Counts.{count_term, count_reached, count_found}
use Rattle.accepted.proofs.Elements.{element_there}
use Rattle.accepted.proofs.SheetRecords.{node_is}
use Rattle.accepted.proofs.Checks.{sheet_shape}
use Rattle.accepted.proofs.Names.{call_below, call_count}
use Rattle.readback.proofs.Picked.{picked_found}
use Rattle.readback.proofs.Labels.{calls_node, call_passes, call_field, first_called}
use Rattle.readback.proofs.FirstCalls.{FirstOf, itself, earlier, first_limit, first_of, first_listed, label_same, listed_argument}
use Rattle.readback.proofs.Nodes.{call_becomes, actual_read}
use Rattle.trees.proofs.Equal.{equal_swap, equal_then}
use Rattle.trees.specs.SameNodes.{Pairs, no_pair}
use Rattle.shared_runs.specs.Reads.{EqualArguments}
use Rattle.shared_runs.specs.FileLabels.{FirstInOrder, LabelBefore, NewLabel}
use Rattle.shared_runs.proofs.OneLabel.{one_label}

call_label : {l j f : ℕ} → ◌≡◌ {A = TranslationNode} (TranslationNodes.call l f) (TranslationNodes.call j f) → l ≡ j
call_label e = cc e

-- lists without elements go pair by pair
no_elements : {R : ℕ → ℕ → Type 0} (xs ys : List ℕ) → length xs ≡ 0 → length ys ≡ 0 → Pairs R xs ys
no_elements [] [] e d = no_pair
no_elements [] (y ∷ ys) e d = absurd (omega (arith, d))
no_elements (x ∷ xs) ys e d = absurd (omega (arith, e))

module _ (b : List ℕ) (accepted : sheet_verdict b ≡ Accepted) where
  label_written : {f k : ℕ} {ns : List ℕ} → k < nodes b → sheet_node_of b k ≡ call f ns
      → translation_node_of (translation b) k ≡ TranslationNodes.call (label_of (equal_trees b) b f k) f
  unfolding translation
  label_written {k} h e = call_becomes (equal_trees b) b accepted k h e

  label_read : {f k l : ℕ} {ns : List ℕ} → k < nodes b → sheet_node_of b k ≡ call f ns → translation_node_of (translation b) k ≡ TranslationNodes.call l f
      → label_of (equal_trees b) b f k ≡ l
  label_read h e p = call_label (sym (label_written h e) ∙ p)

  -- calls of one function have one label exactly if their arguments are equal trees
  pub labels_equal : (f k m l j : ℕ) {ns ms : List ℕ} → k < nodes b → m < nodes b → sheet_node_of b k ≡ call f ns → sheet_node_of b m ≡ call f ms
      → translation_node_of (translation b) k ≡ TranslationNodes.call l f → translation_node_of (translation b) m ≡ TranslationNodes.call j f
      → (l ≡ j) ↔ EqualArguments b ns ms
  labels_equal f k m l j h g e d p q =
      let o = one_label b accepted f k m h g e d in
      let x = label_read h e p in
      let y = label_read g d q in
      (λ r. o.0 (x ∙ r ∙ sym y), λ r. sym x ∙ o.1 r ∙ y)

  module _ (f : ℕ) where
    -- the label of a first call is the number of those before it
    first_label : (k : ℕ) → is_first (equal_trees b) b f k ≡ true → label_of (equal_trees b) b f k ≡ count_of k (is_first (equal_trees b) b f)
    unfolding is_first label_of
    first_label k e =
        let n = first_call (equal_trees b) b f k in
        rw (eqb-true n k ((and-eq-true_iff (calls b f k) (eqb n k)).0 e).1) refl

    first_before : (k m l : ℕ) → m < k → m < nodes b → is_first (equal_trees b) b f m ≡ true → count_of m (is_first (equal_trees b) b f) ≡ l
        → LabelBefore b (translation b) f k l
    first_before k m l h g e c =
        let d = calls_node b f m (first_called (equal_trees b) b f m e) in
        record {
          node = m;
          before = h;
          arguments = fields_from (node_record b m) 1;
          is = d;
          label = label_written g d ∙ ap (λ (j : ℕ). TranslationNodes.call j f) (first_label m e ∙ c);
        }

    -- the calls of a function without parameters have label 0: a first call before the first of them would have its label
    only_label : (k : ℕ) {ns : List ℕ} → k < nodes b → sheet_node_of b k ≡ call f ns → parameters b f ≡ 0 → label_of (equal_trees b) b f k < 1
    unfolding label_of
    only_label k {ns} h e p =
        let same = equal_trees b in
        let n = first_call same b f k in
        elim (dec_lt 0 (count_of n (is_first same b f))) [
          | no l ↦ omega (arith, l)
          | yes l ↦
              let r = count_found n (is_first same b f) l in
              let m = r.at in
              let g : m < nodes b = omega (arith, r.below, first_limit same b f k, h) in
              let d = calls_node b f m (first_called same b f m r.holds) in
              let ms = fields_from (node_record b m) 1 in
              let x = (one_label b accepted f m k g h d e).1 (no_elements ms ns (call_count b accepted m g d ∙ p) (call_count b accepted k h e ∙ p)) in
              absurd (omega (arith, sym (first_label m r.holds) ∙ x, count_term m n (is_first same b f) r.below r.holds))
        ]

    pub label_alone : (k l : ℕ) {ns : List ℕ} → k < nodes b → sheet_node_of b k ≡ call f ns → parameters b f ≡ 0
        → translation_node_of (translation b) k ≡ TranslationNodes.call l f → l ≡ 0
    label_alone k l h e p q = omega (arith, label_read h e q, only_label k h e p)

    -- a formal lists actuals for the labels of calls only
    pub listed_label : (i l : ℕ) {x : ℕ} → f < functions b → i < parameters b f → actual (translation b) (formal_of b f i) l ≡ some x
        → LabelBefore b (translation b) f (nodes b) l
    unfolding translation actuals
    listed_label i l h g e =
        let p = picked_found (is_first (equal_trees b) b f) (λ m. field (node_record b m) (1 + i)) (nodes b) l
        (sym (actual_read (equal_trees b) b accepted f i l h g) ∙ e) in
        first_before (nodes b) p.at l p.below p.below p.holds.passes p.holds.before

    module _ (k : ℕ) {ns : List ℕ} (h : k < nodes b) (first : FirstInOrder b f k ns) where
      called : calls b f k ≡ true
      called = call_passes b accepted f k h first.is

      first_only : (m : ℕ) → FirstOf (equal_trees b) b f k m → m ≡ k
      first_only m itself = refl
      first_only m (earlier l e) =
          let d = calls_node b f m e.is_call in
          let p = label_same (equal_trees b) (equal_swap b) (equal_then b) b f m k e.is_call called e.is_same in
          absurd (first.none_before m l d ((one_label b accepted f m k (omega (arith, l, h)) h d first.is).0 p))

      first_itself : first_call (equal_trees b) b f k ≡ k
      first_itself = first_only _ (first_of (equal_trees b) b f k)

      counted : label_of (equal_trees b) b f k ≡ count_of k (is_first (equal_trees b) b f)
      unfolding label_of
      counted = rw first_itself refl

      before_below : (j : ℕ) → LabelBefore b (translation b) f k j → j < label_of (equal_trees b) b f k
      unfolding label_of
      before_below j x =
          let m = x.node in
          let g : m < nodes b = omega (arith, h, x.before) in
          let c = call_passes b accepted f m g x.is in
          let n = first_call (equal_trees b) b f m in
          let t = count_term n k (is_first (equal_trees b) b f) (omega (arith, x.before, first_limit (equal_trees b) b f m))
          (first_listed (equal_trees b) (equal_swap b) (equal_then b) b f m c) in
          let y = label_read g x.is x.label in
          omega (arith, t, y, counted)

      below_before : (j : ℕ) → j < label_of (equal_trees b) b f k → LabelBefore b (translation b) f k j
      below_before j l =
          let r = count_reached k j (is_first (equal_trees b) b f) (rw counted at l) in
          first_before k r.at j r.below (omega (arith, r.below, h)) r.holds.0 r.holds.1

      argument_listed : (i : ℕ) → i < parameters b f → actual (translation b) (formal_of b f i) (label_of (equal_trees b) b f k) ≡ get_elem? ns i
      unfolding translation
      argument_listed i g =
          let x = element_there ns i (rw (call_count b accepted k h first.is) g) in
          let s = call_field (node_record b k) i (node_is b (sheet_shape b accepted) k h first.is) x.there in
          actual_read (equal_trees b) b accepted f i (label_of (equal_trees b) b f k) (call_below b accepted k h first.is) g
          ∙ listed_argument (equal_trees b) (equal_swap b) (equal_then b) b f k i h called
          ∙ rw (first_itself, s) (sym x.there)

      -- the label of a first call in node order is new
      pub label_new : (l : ℕ) → translation_node_of (translation b) k ≡ TranslationNodes.call l f → NewLabel b (translation b) f k ns l
      label_new l e =
          rw (← label_read h first.is e)
          (record { next = λ j. (before_below j, below_before j); lists = argument_listed })
