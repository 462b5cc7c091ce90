-- Laws of the steps that write the head, the functions and the formals: the words written are those of the definition.
use mathlib.Core.Path.{◌≡◌, refl, sym, ap, ◌∙◌}
use Prim.Native.Nat.{ℕ, ◌+◌, ◌-◌, ◌≤◌, ◌<◌}
use mathlib.Core.List.{List, [], ◌∷◌}
use native.Mathlib.Omega.{arith}
use lib.ListN.{length, get_or}
use Rattle.definitions.specs.Sizes.{most_nodes}
use Rattle.definitions.specs.Records.{record_at, record_of, field}
use Rattle.definitions.specs.TranslationKinds
use Rattle.definitions.specs.Lists.{joined}
use Rattle.definitions.specs.Layouts.{readings, functions, nodes, first_function, first_node, due, node_record}
use Rattle.definitions.specs.References.{parameters}
use Rattle.definitions.specs.Trees.{equal_trees}
use Rattle.definitions.specs.Labels.{is_first, actuals}
use Rattle.definitions.specs.Translate.{record_words, formals, head_words, function_words}
use Rattle.definitions.specs.declared.Layout.TheVariants.{Sheet}
use Rattle.laws.proofs.Lists.{sum_more}
use Rattle.accepted.proofs.Head.{nodes_limit}
use Rattle.readback.proofs.Picked.{picked_length}
use Rattle.file_records.specs.Index.{Opened, start_in}
use Rattle.file_records.proofs.Indices.{indexed_field, node_reached}
use Rattle.translation_words.specs.Writing.{WroteWords}
use Rattle.call_labels.specs.Tables.{label_count}
use Rattle.translator.specs.Tables.{Sums, labels_before, FormalAt}
use Rattle.translation_words.proofs.Writing.{wrote_then, wrote_record}
use Rattle.translator.proofs.CallOrder.{place_within, ordered_node, ordered_actuals}

-- the argument at position i of the call in a place
abbrev pub argument_of : List ℕ → List ℕ → ℕ → ℕ → List ℕ
argument_of b order i place = field (node_record b (get_or order place 0)) (1 + i) ∷ []

-- the formal of function f at position i: the calls of f are at the places from x to y
module _ {b starts firsts order : List ℕ} {f i x y : ℕ} (w : FormalAt b starts firsts order f i) (e : x ≡ get_or firsts f 0) (g : y ≡ get_or firsts (f + 1) 0) where
  first_is : x ≡ labels_before b f
  first_is = e ∙ w.tables.first.entry f (omega (arith, w.below))

  end_is : y ≡ labels_before b f + label_count b f
  end_is = g ∙ w.tables.first.entry (f + 1) (omega (arith, w.below)) ∙ sum_more f (label_count b)

  count_is : y - x ≡ label_count b f
  count_is = omega (arith, first_is, end_is)

  pub range_right : x ≤ y
  range_right = omega (arith, first_is, end_is)

  pub place_small : {j : ℕ} → j < y - x → x + j < most_nodes
  place_small {j} h =
      omega (arith, first_is, count_is, h, place_within b f j w.below (omega (arith, count_is, h)), nodes_limit Sheet b w.tables.file.accepted)

  -- the argument of the call in a place
  pub argument_read : {j first node u v : ℕ} {rec : List ℕ} → j < y - x → first ≡ first_node b → node ≡ get_or order (x + j) 0
      → rec ≡ record_at b (start_in starts (first + node)) → u ≡ field rec (1 + i) → v ≡ u → v ∷ [] ≡ argument_of b order i (x + j)
  argument_read {j} {first} {node} {rec} h p q r s t =
      let n : node ≡ get_or order (labels_before b f + j) 0 = q ∙ ap (λ (m : ℕ). get_or order (m + j) 0) first_is in
      let l : node < nodes b = omega (arith, n, ordered_node b order w.tables.ordered f j (omega (arith, count_is, h))) in
      rw (t, s, node_reached Sheet b starts node first rec w.tables.file l p r, q) refl

  -- all of them
  pub actuals_are : joined (y - x) (λ j. argument_of b order i (x + j)) ≡ actuals (equal_trees b) b f i
  actuals_are = rw (count_is, first_is) (sym (ordered_actuals b order w.tables.ordered f i))

  pub actuals_length : y - x ≡ length (actuals (equal_trees b) b f i)
  unfolding actuals
  actuals_length = count_is ∙ sym (picked_length (is_first (equal_trees b) b f) (λ k. field (node_record b k) (1 + i)) (nodes b))

-- a function's record
pub function_words_law : {b starts : List ℕ} {first f x y : ℕ} {rec : List ℕ} → Opened Sheet b starts → f < functions b → first ≡ first_function Sheet b
    → rec ≡ record_at b (start_in starts (first + f)) → x ≡ field rec 1 → y ≡ field rec 0
    → record_words TranslationKinds.function (x ∷ y ∷ []) ≡ function_words b f
unfolding function_words
function_words_law {b} {starts} {first} {f} {x} {y} {rec} o h e p q r =
    let c : x ≡ field (record_of b (first + f)) 1 = indexed_field b starts (due b) (first + f) 1 x rec o.index (omega (arith, e, h)) p q in
    let a : y ≡ field (record_of b (first + f)) 0 = indexed_field b starts (due b) (first + f) 0 y rec o.index (omega (arith, e, h)) p r in
    rw (c, a, e) refl

-- the number of all formals, by the table
pub formals_read : (b : List ℕ) {formals' : List ℕ} {c x : ℕ} → Sums (functions b) (parameters b) formals' → c ≡ functions b → x ≡ get_or formals' c 0 → x ≡ formals b
unfolding formals
formals_read b w e f = f ∙ rw (e, w.entry (functions b) (omega arith)) refl

-- the head
pub wrote_head : (b : List ℕ) {out : List ℕ} {at : ℕ} {n0 : ℕ} {o0 : List ℕ} {x n1 : ℕ} {o1 : List ℕ} {y n2 : ℕ} {o2 : List ℕ}
    {z n3 : ℕ} {o3 : List ℕ} {u n4 : ℕ} {o4 : List ℕ}
    → WroteWords out at (12 ∷ TranslationKinds.head ∷ []) n0 o0 → WroteWords o0 n0 (x ∷ []) n1 o1 → WroteWords o1 n1 (y ∷ []) n2 o2
    → WroteWords o2 n2 (z ∷ []) n3 o3 → WroteWords o3 n3 (u ∷ []) n4 o4
    → x ≡ readings b → y ≡ formals b → z ≡ functions b → u ≡ nodes b → WroteWords out at (head_words b) n4 o4
unfolding head_words
wrote_head b s p q r t e f g h =
    rw (← e, ← f, ← g, ← h)
    (wrote_record s (wrote_then (wrote_then (wrote_then p q) r) t) refl)
