-- Laws of the first calls in order of function and label: their places, while calls are put there, and the actuals that they list.
use mathlib.Core.Path.{◌≡◌, refl, sym, ap, ◌∙◌}
use Prim.Native.Nat.{ℕ, ◌+◌, ◌*◌, ◌≤◌, ◌<◌}
use mathlib.Core.List.{List, [], ◌∷◌}
use mathlib.Core.Bool.{Bool, true, false, cond, true≢false}
use native.Mathlib.Omega.{arith}
use native.Mathlib.Decide.{ℕ_discrete, dec_lt}
use lib.ListN.{get_or, set, length-set}
use lib.Seq.{get_or-set_same, get_or-set_other}
use lib.Dec.{eqb}
use Rattle.definitions.specs.Sizes.{most_nodes}
use Rattle.definitions.specs.Records.{kind_of, field}
use Rattle.definitions.specs.SheetKinds
use Rattle.definitions.specs.Lists.{joined, sum_of, count_of}
use Rattle.definitions.specs.Layouts.{functions, nodes, node_record}
use Rattle.definitions.specs.Shape.{file_shape}
use Rattle.definitions.specs.Trees.{equal_trees}
use Rattle.definitions.specs.Labels.{calls, is_first, actuals}
use Rattle.definitions.specs.declared.Layout.TheVariants.{Sheet}
use Rattle.definitions.specs.Verdict.{Accepted}
use Rattle.laws.proofs.Lists.{below_suc}
use Rattle.accepted.proofs.Sums.{sum_term, sum_same, sum_limit}
use Rattle.accepted.proofs.Counts.{count_term, count_reached}
use Rattle.accepted.proofs.Head.{nodes_limit}
use Rattle.readback.proofs.Picked.{picked_tabled}
use Rattle.readback.proofs.Totals.{count_weighed}
use Rattle.readback.proofs.Labels.{first_called}
use Rattle.readback.proofs.Size.{listed_some, no_arguments, call_arguments}
use Rattle.tree_classes.specs.Keys.{entry_of}
use Rattle.call_labels.specs.Tables.{label_count}
use Rattle.call_labels.proofs.CallLabels.{calls_same, CallOf, first_here, label_here}
use Rattle.translator.specs.Tables.{labels_before, CallOrder, Placing}

-- the calls are no more than the nodes
module _ (b : List ℕ) where
  abbrev is_first_of : ℕ → ℕ → Bool
  is_first_of = is_first (equal_trees b) b

  one_called : (k : ℕ) (t : Bool) → eqb (kind_of (node_record b k)) SheetKinds.call ≡ t → sum_of (functions b) (λ f. cond (calls b f k) 1 0) ≤ 1
  unfolding calls
  one_called k true e = call_arguments (functions b) (λ f. 1) (node_record b k) e
  one_called k false e = omega (arith, no_arguments (functions b) (λ f. 1) (node_record b k) e)

  all_calls : sum_of (functions b) (label_count b) ≤ nodes b
  all_calls =
      let n = nodes b in
      let m = functions b in
      let once = sum_same m (label_count b) (λ f. 1 * label_count b f) (λ f h. omega arith) in
      let each = sum_limit n 1 (λ k. sum_of m (λ f. cond (is_first_of f k) 1 0))
      (λ k h. omega (arith, listed_some (equal_trees b) b (λ f. 1) k, one_called k (eqb (kind_of (node_record b k)) SheetKinds.call) refl)) in
      omega (arith, once, count_weighed m n (λ f. 1) is_first_of, each)

  -- so each place is below their number
  pub place_within : (f j : ℕ) → f < functions b → j < label_count b f → labels_before b f + j < nodes b
  place_within f j h l = omega (arith, sum_term f (functions b) (label_count b) h, all_calls, l)

  pub labels_few : file_shape Sheet b ≡ Accepted → sum_of (functions b) (label_count b) ≤ most_nodes
  labels_few shaped = omega (arith, all_calls, nodes_limit Sheet b shaped)

  label_within : (f k : ℕ) → k < nodes b → is_first_of f k ≡ true → count_of k (is_first_of f) < label_count b f
  label_within f k h p = count_term k (nodes b) (is_first_of f) h p

  -- and each first call has a place of its own
  abbrev place : ℕ → ℕ → ℕ
  place f k = labels_before b f + count_of k (is_first_of f)

  place_before : (f g i k : ℕ) → f < g → i < nodes b → is_first_of f i ≡ true → place f i < place g k
  place_before f g i k h l p = omega (arith, label_within f i l p, sum_term f g (label_count b) h)

  place_later : (f i k : ℕ) → i < k → is_first_of f i ≡ true → place f i < place f k
  place_later f i k h p = omega (arith, count_term i k (is_first_of f) h p)

  place_own : (f g i k : ℕ) → i < k → k < nodes b → is_first_of f i ≡ true → is_first_of g k ≡ true → place f i ≡ place g k → ⊥
  place_own f g i k h l p q e =
      elim (ℕ_discrete f g) [
        | yes s ↦ omega (arith, rw s at (place_later f i k h p), rw s at e)
        | no s ↦ elim (dec_lt f g) [
          | yes r ↦ omega (arith, e, place_before f g i k r (omega arith) p)
          | no r ↦ omega (arith, e, place_before g f k i (omega (arith, r, s)) l q)
        ]
      ]

  -- node k, a first call of function f, is put in its place
  module _ {order : List ℕ} {f k x : ℕ} (w : CallOrder b order k) (o : CallOf b f k) (t : is_first_of f k ≡ true) (e : x ≡ place f k) where
    pub place_narrow : x < nodes b
    place_narrow = omega (arith, e, place_within f (count_of k (is_first_of f)) o.function (label_within f k o.below t))

    before_kept : (g i : ℕ) → i < k → is_first_of g i ≡ true → get_or (set order x k) (place g i) 0 ≡ i
    before_kept g i n q =
        get_or-set_other order x (place g i) k 0 (λ r. place_own g f i k n o.below q t (r ∙ e)) ∙ w.entry g i n q

    here_placed : nodes b ≤ most_nodes → (g : ℕ) → is_first_of g k ≡ true → get_or (set order x k) (place g k) 0 ≡ k
    here_placed l g q =
        let r : place g k ≡ x = ap (λ (n : ℕ). place n k) (calls_same b g f k (first_called (equal_trees b) b g k q) o.test) ∙ sym e in
        rw r (get_or-set_same order x k 0 (omega (arith, w.size, l, place_narrow)))

    pub call_ordered : nodes b ≤ most_nodes → CallOrder b (set order x k) (k + 1)
    call_ordered l =
        record {
          size = length-set order x k ∙ w.size;
          entry =
              λ g i n. below_suc (λ j. is_first_of g j ≡ true → get_or (set order x k) (place g j) 0 ≡ j) k
              (before_kept g) (here_placed l g) i (omega (arith, n));
        }

  -- a node that is no first call leaves the table
  pub other_ordered : (order : List ℕ) (k : ℕ) → ((f : ℕ) → is_first_of f k ≡ false) → CallOrder b order k → CallOrder b order (k + 1)
  other_ordered order k p w =
      record {
        size = w.size;
        entry =
            λ f i n. below_suc (λ j. is_first_of f j ≡ true → get_or order (place f j) 0 ≡ j) k (w.entry f)
            (λ q. absurd (true≢false (sym q ∙ p f))) i (omega (arith, n));
      }

  -- the place of a first call, by the tables
  pub place_read : {starts classes labels firsts : List ℕ} {f k x y : ℕ} → Placing b starts classes labels firsts → CallOf b f k → {z : ℕ} → z ≡ entry_of classes k → k ≤ z
      → x ≡ get_or firsts f 0 → y ≡ get_or labels k 0 → x + y ≡ place f k
  place_read {f} {k} {x} {y} w o r h e g =
      let p : x ≡ labels_before b f = e ∙ w.first.entry f (omega (arith, o.function)) in
      let q : y ≡ count_of k (is_first_of f) = g ∙ w.labelled.entry f k o.below o.test ∙ sym (label_here w.trees.sheet.accepted w.trees.found o (rw (← r) h)) in
      rw (p, q) refl

  pub is_first_law : {starts classes labels firsts : List ℕ} {f k z : ℕ} → Placing b starts classes labels firsts → CallOf b f k → z ≡ entry_of classes k → k ≤ z → is_first_of f k ≡ true
  is_first_law w o r h = first_here w.trees.sheet.accepted w.trees.found o (rw (← r) h)

  -- the table of all first calls: its entries are nodes, and list the actuals
  module _ (order : List ℕ) (w : CallOrder b order (nodes b)) (f : ℕ) where
    pub ordered_node : (j : ℕ) → j < label_count b f → get_or order (labels_before b f + j) 0 < nodes b
    ordered_node j h =
        let r = count_reached (nodes b) j (is_first_of f) h in
        let e : get_or order (labels_before b f + j) 0 ≡ r.at =
        ap (λ (n : ℕ). get_or order (labels_before b f + n) 0) (sym r.holds.1) ∙ w.entry f r.at r.below r.holds.0 in
        omega (arith, e, r.below)

    pub ordered_actuals : (i : ℕ) → actuals (equal_trees b) b f i ≡ joined (label_count b f) (λ j. field (node_record b (get_or order (labels_before b f + j) 0)) (1 + i) ∷ [])
    unfolding actuals
    ordered_actuals i =
        picked_tabled (is_first_of f) (λ k. field (node_record b k) (1 + i)) (λ j. get_or order (labels_before b f + j) 0) (nodes b) (w.entry f)
