-- The bodies entered into the table of order, function by function.
use mathlib.Core.Path.{◌≡◌, refl, sym, ◌∙◌}
use Prim.Native.Nat.{ℕ, suc, ◌+◌, ◌-◌, ◌≤◌, ◌<◌}
use mathlib.Core.List.{List, ◌++◌, append-nil}
use native.Mathlib.Omega.{arith}
use native.Mathlib.Nat.{zero-add}
use native.Mathlib.Numerals.{add-one}
use lib.ListN.{length, get_or, set, length-set}
use Rattle.definitions.specs.Sizes.{most_functions, most_nodes}
use Rattle.definitions.specs.Records.{kind_of}
use Rattle.definitions.specs.Lists.{joined}
use Rattle.definitions.specs.Layouts.{functions, nodes, node_record, run_end, body_of}
use Rattle.definitions.specs.Checks.{sheet_verdict}
use Rattle.definitions.specs.Translate.{record_words}
use Rattle.definitions.specs.CanonicalSheet.{first_bodies, bodies, fields_of, size_of, field_words, tree_words}
use Rattle.definitions.specs.declared.Layout.TheVariants.{Sheet}
use Rattle.definitions.specs.Verdict.{Accepted}
use Rattle.accepted.proofs.Head.{functions_limit, nodes_limit}
use Rattle.accepted.proofs.Sections.{node_counts_sum}
use Rattle.accepted.proofs.Owners.{end_within_law, body_before_end, body_below}
use Rattle.accepted.proofs.Checks.{sheet_shape}
use Rattle.canonical_sheets.proofs.Sizes as CanonicalSizes
use Rattle.canonical_writer.specs.Sizes.{tree_size}
use Rattle.canonical_writer.specs.Order.{Roots, OrderFrom, EnterBodies}
use Rattle.canonical_writer.proofs.Roots.{roots_more, no_roots}

-- the bodies of the first f functions are entered
pub record Bodies (b order : List ℕ) (count start f : ℕ) : Type 0 where
  pub reached : f ≤ count
  pub counts : count ≡ functions b
  pub full : length order ≡ most_nodes
  pub begun : start ≡ size_of (first_bodies b f)
  pub roots : Roots b order start (tree_words 0 (first_bodies b f))

pub bodies_begin : {b order : List ℕ} {count start : ℕ} → count ≡ functions b → length order ≡ most_nodes → start ≡ 0 → Bodies b order count start 0
unfolding first_bodies size_of tree_words
bodies_begin e f g = record { reached = omega arith; counts = e; full = f; begun = g; roots = rw g no_roots }

-- one body more
module _ (b : List ℕ) (f : ℕ) where
  size_more : size_of (first_bodies b (suc f)) ≡ size_of (first_bodies b f) + tree_size b (body_of Sheet b f)
  unfolding first_bodies size_of
  size_more = omega arith

  words_more : tree_words 0 (first_bodies b (suc f))
      ≡ tree_words 0 (first_bodies b f) ++ tree_words (size_of (first_bodies b f)) (fields_of b (body_of Sheet b f))
      ++ record_words (kind_of (node_record b (body_of Sheet b f))) (field_words (size_of (first_bodies b f)) (fields_of b (body_of Sheet b f)))
  unfolding first_bodies tree_words
  words_more = rw zero-add refl

-- one turn of the loop
module _ {b ends sizes order₀ : List ℕ} (p : EnterBodies b ends sizes order₀) {order : List ℕ} {count start f : ℕ} (w : Bodies b order count start f)
    (l : f < count) where
  below : f < functions b
  below = omega (arith, w.counts)

  pub function_few : f < most_functions
  function_few = omega (arith, below, functions_limit Sheet b (sheet_shape b p.accepted))

  -- the end of the run, and the body before it
  pub run_end_law : get_or ends f 0 ≡ suc (body_of Sheet b f)
  run_end_law = p.runs.entry f below ∙ sym (body_before_end Sheet b (sheet_shape b p.accepted) f below)

  -- the body, as it is read and as an index
  module _ {y body : ℕ} (q : y ≡ body) (g : body ≡ get_or ends f 0 - 1) where
    e : body ≡ body_of Sheet b f
    e = omega (arith, g, run_end_law)

    body_node : body < nodes b
    body_node = rw e (body_below Sheet b (sheet_shape b p.accepted) f below)

    pub body_few : y < most_nodes
    body_few = omega (arith, q, body_node, nodes_limit Sheet b (sheet_shape b p.accepted))

    pub body_size : {x : ℕ} → x ≡ get_or sizes y 0 → x ≡ tree_size b body
    body_size h = h ∙ rw q (p.sized.entry body body_node)

    size_body : size_of (first_bodies b (suc f)) ≡ start + tree_size b body
    size_body = rw e (omega (arith, w.begun, size_more b f))

    bodies_within : start + tree_size b body ≤ most_nodes
    unfolding run_end
    bodies_within =
        omega (
          arith,
          size_body,
          CanonicalSizes.sizes b p.accepted (suc f) below,
          end_within_law Sheet b (sheet_shape b p.accepted) f below,
          nodes_limit Sheet b (sheet_shape b p.accepted),
        )

    -- the next start is above this one, and no later than the table's end
    pub body_step : {x : ℕ} → x ≡ get_or sizes y 0 → (0 < x) × (start + x ≤ most_nodes)
    body_step h =
        let size = body_size h in
        (omega (arith, size), omega (arith, size, bodies_within))

    pub bodies_go_on : {m n : ℕ} → n ≡ start + tree_size b body → suc m ≡ n → Bodies b (set order m body) count n (f + 1)
    bodies_go_on {m} {n} i h =
        record {
          reached = omega arith;
          counts = w.counts;
          full = length-set order m body ∙ w.full;
          begun = rw add-one (omega (arith, i, size_body));
          roots =
              roots_more w.roots body_node i h (omega (arith, i, bodies_within, w.full))
              (rw (add-one, e, w.begun) (words_more b f));
        }

-- all bodies are entered, and no node after them
pub bodies_done : {b order : List ℕ} {count start f : ℕ} → sheet_verdict b ≡ Accepted → Bodies b order count start f → count ≤ f → OrderFrom b order (nodes b)
unfolding bodies joined
bodies_done {b} {order} {start} {f} accepted w l =
    let e : f ≡ functions b = omega (arith, w.reached, w.counts) in
    let s = CanonicalSizes.sizes b accepted f (omega (arith, e)) in
    let n : start ≡ nodes b = w.begun ∙ s ∙ rw e (node_counts_sum Sheet b (sheet_shape b accepted)) in
    let z : nodes b - nodes b ≡ 0 = omega arith in
    record {
      full = w.full;
      words = tree_words 0 (first_bodies b f);
      roots = rw n at w.roots;
      rest = rw (z, append-nil, e) refl;
      entry = λ i g h. absurd (omega (arith, g, h));
    }
