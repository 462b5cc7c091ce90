-- The tree of a body has as many nodes as its function counts: of the nodes of the run each but the body is a child once, in the run.
use mathlib.Core.Path.{◌≡◌, refl, sym, ap, ◌∙◌}
use Prim.Native.Nat.{ℕ, zero, suc, ◌+◌, ◌*◌, ◌-◌, ◌≤◌, ◌<◌}
use mathlib.Core.List.{List}
use mathlib.Core.Bool.{true, cond}
use native.Mathlib.Omega.{arith}
use native.Mathlib.Nat.{not-suc-le-zero, mul-zero, mul-one}
use lib.Dec.{eqb}
use borrow.Author.Tests.{eq-eqb, ne_eqb}
use Rattle.definitions.specs.Records.{kind_of, field, field_count}
use Rattle.definitions.specs.Lists.{sum_of}
use Rattle.definitions.specs.Layouts.{functions, nodes, node_record, node_count, run_end, body_of, owner_of}
use Rattle.definitions.specs.Shape.{file_shape}
use Rattle.definitions.specs.References.{children, child}
use Rattle.definitions.specs.SheetRules.{times_child}
use Rattle.definitions.specs.Checks.{sheet_verdict}
use Rattle.definitions.specs.Trees.{names_node}
use Rattle.definitions.specs.CanonicalSheet.{Fields, none, plain, branch, first_fields, fields_within, fields_of, first_bodies, size_of}
use Rattle.definitions.specs.declared.Layout.TheVariants.{Sheet}
use Rattle.definitions.specs.Verdict.{Accepted}
use Rattle.accepted.proofs.Sums.{sum_same}
use Rattle.accepted.proofs.Sections.{node_count_least}
use Rattle.accepted.proofs.Owners.{run_start, body_before_end, end_within_law, owner_unique, owner_of_body, owner_started, owner_not_ended}
use Rattle.accepted.proofs.Checks.{sheet_shape, trees_pass}
use Rattle.accepted.proofs.Trees.{record_child, record_child_no_body}
use Rattle.accepted.proofs.Parents as Parents
use Rattle.accepted.proofs.Parents.{times_found, child_once}
use Rattle.readback.proofs.Totals.{sum_both, sum_constant, sum_parts, count_weighed}
use Rattle.trees.proofs.Parts.{part_smaller, part_below}
use Rattle.canonical_sheets.proofs.Stands.{width_of}
use Rattle.canonical_sheets.proofs.Forms.{field_by_field}
use Rattle.canonical_sheets.proofs.Sums.{sum_zero, sum_single, sum_swap, sum_scale}
use Rattle.canonical_sheets.proofs.ChildFields.{over_nodes, over_children}

-- a number for each node by its kind and width, summed over trees
unfoldable pub tally : (ℕ → ℕ → ℕ) → Fields → ℕ
tally v none = 0
tally v (plain fs x) = tally v fs
tally v (branch fs k gs) = tally v fs + (tally v gs + v k (width_of gs))

-- of a tree whose root is of kind k, the root included
abbrev with_root : (ℕ → ℕ → ℕ) → ℕ → Fields → ℕ
with_root v k fs = tally v fs + v k (width_of fs)

size_tally : (fs : Fields) → size_of fs ≡ tally (λ k w. 1) fs
unfolding size_of tally
size_tally none = refl
size_tally (plain fs x) = size_tally fs
size_tally (branch fs k gs) = omega (arith, size_tally fs, size_tally gs)

tally_first : (v : ℕ → ℕ → ℕ) (kind : ℕ → ℕ) (below : ℕ → Fields) (rec : List ℕ) (n : ℕ)
    → tally v (first_fields kind below rec n) ≡ over_nodes rec (λ x. with_root v (kind x) (below x)) n
unfolding tally sum_of
tally_first v kind below rec n =
    field_by_field kind below rec (λ m fs. tally v fs ≡ over_nodes rec (λ x. with_root v (kind x) (below x)) m) (λ m t e. rw (t, e) refl)
    (λ m t e. rw (t, e) (omega arith)) refl n

-- fields of a record depend on the nodes that they name
pub first_fields_same : (kind : ℕ → ℕ) (p q : ℕ → Fields) (rec : List ℕ) (n : ℕ)
    → ((i : ℕ) → i < n → names_node (kind_of rec) i ≡ true → p (field rec i) ≡ q (field rec i))
    → first_fields kind p rec n ≡ first_fields kind q rec n
unfolding first_fields
first_fields_same kind p q rec n =
    field_by_field kind p rec
    (λ m fs. ((i : ℕ) → i < m → names_node (kind_of rec) i ≡ true → p (field rec i) ≡ q (field rec i)) → fs ≡ first_fields kind q rec m)
    (λ m t e f. rw (t, e (λ i h. f i (omega arith)), f m (omega arith) t) refl) (λ m t e f. rw (t, e (λ i h. f i (omega arith))) refl) (λ f. refl) n

-- how often node x is a child of node k
abbrev pub times : List ℕ → ℕ → ℕ → ℕ
times b k x = Parents.times (node_record b k) x

is_zero_law : (n : ℕ) → (0 < n → ⊥) → n ≡ 0
is_zero_law zero f = refl
is_zero_law (suc n) f = absurd (f (omega arith))

module _ (b : List ℕ) (accepted : sheet_verdict b ≡ Accepted) where
  -- a tree is no deeper than its root's number
  pub depths : (d e k : ℕ) → k < d → k < e → k < nodes b → fields_within b d k ≡ fields_within b e k
  unfolding fields_within
  depths zero e k p q h = absurd (not-suc-le-zero p)
  depths (suc d) zero k p q h = absurd (not-suc-le-zero q)
  depths (suc d) (suc e) k p q h =
      first_fields_same (λ n. kind_of (node_record b n)) (fields_within b d) (fields_within b e) (node_record b k) (field_count (node_record b k))
      (λ i l t.
      let s = part_smaller b accepted k h i l t in
      depths d e (field (node_record b k) i) (omega (arith, s, p)) (omega (arith, s, q)) (part_below b accepted k h i l t))

module _ (b : List ℕ) (accepted : sheet_verdict b ≡ Accepted) (v : ℕ → ℕ → ℕ) where
  abbrev shaped : file_shape Sheet b ≡ Accepted
  shaped = sheet_shape b accepted

  -- the number of node k, and those of its tree
  abbrev own : ℕ → ℕ
  own k = v (kind_of (node_record b k)) (width_of (fields_of b k))

  abbrev weight : ℕ → ℕ
  weight k = with_root v (kind_of (node_record b k)) (fields_of b k)

  child_smaller : (k j : ℕ) → k < nodes b → j < children (node_record b k) → child (node_record b k) j < k
  child_smaller k j h l =
      (record_child b (trees_pass b accepted) k (child (node_record b k) j) h (record { place = j; there = record { below = l; is = refl } })).smaller

  -- a tree weighs what its children weigh, and its root's number
  weight_by : (d k : ℕ) → nodes b ≡ suc d → k < nodes b
      → tally v (fields_within b (suc d) k) ≡ sum_of (children (node_record b k)) (λ j. weight (child (node_record b k) j))
  unfolding fields_within
  weight_by d k e h =
      let rec = node_record b k in
      tally_first v (λ n. kind_of (node_record b n)) (fields_within b d) rec (field_count rec)
      ∙ over_children rec (λ x. with_root v (kind_of (node_record b x)) (fields_within b d x))
      ∙ sum_same (children rec) (λ j. with_root v (kind_of (node_record b (child rec j))) (fields_within b d (child rec j))) (λ j. weight (child rec j))
      (λ j l.
      let s = child_smaller k j h l in
      ap (λ (fs : Fields). with_root v (kind_of (node_record b (child rec j))) fs)
      (depths b accepted d (nodes b) (child rec j) (omega (arith, s, h, e)) (omega (arith, s, h)) (omega (arith, s, h))))

  child_weighed : (k j : ℕ) → k < nodes b → j < children (node_record b k)
      → sum_of (nodes b) (λ x. cond (eqb (child (node_record b k) j) x) (weight x) 0) ≡ weight (child (node_record b k) j)
  child_weighed k j h l =
      let n = child (node_record b k) j in
      let s = child_smaller k j h l in
      sum_single (nodes b) n (λ x. cond (eqb n x) (weight x) 0) (omega (arith, s, h)) (λ x d. rw (ne_eqb n x (λ e. d (sym e))) refl)
      ∙ rw (eq-eqb n n refl) refl

  weight_children : (k : ℕ) → k < nodes b → weight k ≡ own k + sum_of (nodes b) (λ x. weight x * times b k x)
  weight_children k h =
      let rec = node_record b k in
      let n = nodes b - 1 in
      let e : nodes b ≡ suc n = omega (arith, h) in
      let x : tally v (fields_of b k) ≡ sum_of (children rec) (λ j. weight (child rec j))
      = ap (λ (d : ℕ). tally v (fields_within b d k)) e ∙ weight_by n k e h in
      let y = count_weighed (nodes b) (children rec) weight (λ x j. eqb (child rec j) x)
      ∙ sum_same (children rec) (λ j. sum_of (nodes b) (λ x. cond (eqb (child rec j) x) (weight x) 0)) (λ j. weight (child rec j))
      (λ j l. child_weighed k j h l) in
      omega (arith, x, y)

  -- one function
  module _ (f : ℕ) (g : f < functions b) where
    abbrev start : ℕ
    start = sum_of f (node_count Sheet b)

    abbrev count : ℕ
    count = node_count Sheet b f

    ends : start + count ≤ nodes b
    ends = omega (arith, run_start Sheet b shaped f, end_within_law Sheet b shaped f g)

    -- the nodes of the run are those of the function
    owner_in : (x : ℕ) → start ≤ x → x < start + count → owner_of Sheet b x ≡ f
    owner_in x l h = owner_unique Sheet b shaped x f g l (omega (arith, h, run_start Sheet b shaped f))

    in_run : (x : ℕ) → x < nodes b → owner_of Sheet b x ≡ f → (start ≤ x) × (x < start + count)
    in_run x h o =
        let p : sum_of (owner_of Sheet b x) (node_count Sheet b) ≤ x = owner_started Sheet b shaped x in
        let q : x < run_end Sheet b (owner_of Sheet b x) = owner_not_ended Sheet b shaped x h in
        (rw o at p, rw (run_start Sheet b shaped f) at (rw o at q))

    -- and the last is the body
    body_last : start + (count - 1) ≡ body_of Sheet b f
    body_last = omega (arith, run_start Sheet b shaped f, body_before_end Sheet b shaped f g, node_count_least Sheet b shaped f g)

    -- a child is of its parent's function, and no body
    child_in : (k x : ℕ) → k < nodes b → 0 < times b k x
        → (owner_of Sheet b k ≡ owner_of Sheet b x) × (x ≡ body_of Sheet b (owner_of Sheet b x) → ⊥)
    child_in k x h t =
        let c = times_found (node_record b k) x t in
        (sym (record_child b (trees_pass b accepted) k x h c).owner, record_child_no_body b (trees_pass b accepted) k x h c)

    apart : (x k : ℕ) → k < nodes b → owner_of Sheet b x ≡ f → (owner_of Sheet b k ≡ f → ⊥) → times b k x ≡ 0
    apart x k l o n = is_zero_law (times b k x) (λ t. n ((child_in k x l t).0 ∙ o))

    -- how often node x is a child of a node of the run
    abbrev inside : ℕ → ℕ
    inside x = sum_of count (λ j. times b (start + j) x)

    inside_none : (x : ℕ) → ((j : ℕ) → j < count → 0 < times b (start + j) x → ⊥) → inside x ≡ 0
    inside_none x n = sum_zero count (λ j. times b (start + j) x) (λ j l. is_zero_law (times b (start + j) x) (n j l))

    inside_out : (x : ℕ) → (owner_of Sheet b x ≡ f → ⊥) → inside x ≡ 0
    inside_out x o =
        inside_none x (λ j l t. o (sym (child_in (start + j) x (omega (arith, l, ends)) t).0 ∙ owner_in (start + j) (omega arith) (omega (arith, l))))

    inside_body : inside (body_of Sheet b f) ≡ 0
    inside_body =
        let o = owner_of_body Sheet b shaped f g in
        inside_none (body_of Sheet b f)
        (λ j l t. (child_in (start + j) (body_of Sheet b f) (omega (arith, l, ends)) t).1 (ap (body_of Sheet b) (sym o)))

    inside_once : (x : ℕ) → x < nodes b → owner_of Sheet b x ≡ f → (x ≡ body_of Sheet b (owner_of Sheet b x) → ⊥) → inside x ≡ 1
    unfolding times_child
    inside_once x h o n =
        let m = nodes b - (start + count) in
        let e : start + count + m ≡ nodes b = omega (arith, ends) in
        let all : sum_of (start + count + m) (λ k. times b k x) ≡ 1 = rw e (child_once b (trees_pass b accepted) x h n) in
        let before : sum_of start (λ k. times b k x) ≡ 0
        = sum_zero start (λ k. times b k x)
        (λ k l. apart x k (omega (arith, l, ends)) o (λ r. omega (arith, (in_run k (omega (arith, l, ends)) r).0, l))) in
        let after : sum_of m (λ j. times b (start + count + j) x) ≡ 0
        = sum_zero m (λ j. times b (start + count + j) x)
        (λ j l. apart x (start + count + j) (omega (arith, l, e)) o (λ r. omega (arith, (in_run (start + count + j) (omega (arith, l, e)) r).1))) in
        omega (arith, all, sum_parts (start + count) m (λ k. times b k x), sum_parts start count (λ k. times b k x), before, after)

    -- each node of the run before the body is a child there once; others never
    run_once : (i : ℕ) → i < count - 1 → inside (start + i) ≡ 1
    run_once i l =
        let o = owner_in (start + i) (omega arith) (omega (arith, l)) in
        inside_once (start + i) (omega (arith, l, ends)) o (λ r. let s : start + i ≡ body_of Sheet b f = rw o at r in omega (arith, s, body_last, l))

    run_before : (x : ℕ) → x < start → inside x ≡ 0
    run_before x l = inside_out x (λ r. omega (arith, (in_run x (omega (arith, l, ends)) r).0, l))

    run_after : (j : ℕ) → start + (count - 1) + j < nodes b → inside (start + (count - 1) + j) ≡ 0
    run_after zero h = let e : start + (count - 1) + 0 ≡ body_of Sheet b f = omega (arith, body_last) in rw e inside_body
    run_after (suc j) h =
        let x = start + (count - 1) + suc j in
        inside_out x (λ r. omega (arith, (in_run x h r).1, node_count_least Sheet b shaped f g))

    -- what the children of the run weigh
    weighed : sum_of (nodes b) (λ x. weight x * inside x) ≡ sum_of (count - 1) (λ i. weight (start + i))
    weighed =
        let n = count - 1 in
        let m = nodes b - (start + n) in
        let e : start + n + m ≡ nodes b = omega (arith, ends) in
        let weighs : ℕ → ℕ = λ x. weight x * inside x in
        let nil : (x : ℕ) → inside x ≡ 0 → weighs x ≡ 0 = λ x z. rw z (mul-zero (weight x)) in
        let before : sum_of start weighs ≡ 0 = sum_zero start weighs (λ x l. nil x (run_before x l)) in
        let after : sum_of m (λ j. weighs (start + n + j)) ≡ 0
        = sum_zero m (λ j. weighs (start + n + j)) (λ j l. nil (start + n + j) (run_after j (omega (arith, l, e)))) in
        let here : sum_of n (λ i. weighs (start + i)) ≡ sum_of n (λ i. weight (start + i))
        = sum_same n (λ i. weighs (start + i)) (λ i. weight (start + i)) (λ i l. rw (run_once i l) (mul-one (weight (start + i)))) in
        let all : sum_of (start + n + m) weighs ≡ sum_of n (λ i. weight (start + i))
        = omega (arith, sum_parts (start + n) m weighs, sum_parts start n weighs, before, after, here) in
        rw e at all

    body_tally : weight (body_of Sheet b f) ≡ sum_of count (λ j. own (start + j))
    unfolding sum_of
    body_tally =
        let n = count - 1 in
        let c : count ≡ suc n = omega (arith, node_count_least Sheet b shaped f g) in
        let below : ℕ → ℕ = λ j. sum_of (nodes b) (λ x. weight x * times b (start + j) x) in
        let each : sum_of count (λ j. weight (start + j)) ≡ sum_of count (λ j. own (start + j)) + sum_of count below
        = sum_same count (λ j. weight (start + j)) (λ j. own (start + j) + below j)
        (λ j l. omega (arith, weight_children (start + j) (omega (arith, l, ends))))
        ∙ sum_both count (λ j. own (start + j)) below in
        let lower : sum_of count below ≡ sum_of n (λ i. weight (start + i))
        = sum_swap count (nodes b) (λ j x. weight x * times b (start + j) x)
        ∙ sum_same (nodes b) (λ x. sum_of count (λ j. weight x * times b (start + j) x)) (λ x. weight x * inside x)
        (λ x l. sum_scale count (weight x) (λ j. times b (start + j) x))
        ∙ weighed in
        let parts : sum_of count (λ j. weight (start + j)) ≡ sum_of n (λ j. weight (start + j)) + weight (start + n)
        = ap (λ (z : ℕ). sum_of z (λ j. weight (start + j))) c in
        let x : weight (start + n) ≡ sum_of count (λ j. own (start + j)) = omega (arith, each, lower, parts) in
        rw body_last at x

-- nodes, and tallies
module _ (b : List ℕ) (accepted : sheet_verdict b ≡ Accepted) where
  pub body_size : (f : ℕ) → f < functions b → suc (size_of (fields_of b (body_of Sheet b f))) ≡ node_count Sheet b f
  body_size f h =
      let e = body_tally b accepted (λ k w. 1) f h in
      let n = node_count Sheet b f in
      omega (arith, e, size_tally (fields_of b (body_of Sheet b f)), sum_constant n 1 ∙ mul-one n)

  -- the body comes after its tree, in the run of its function
  pub body_number : (f : ℕ) → f < functions b → sum_of f (node_count Sheet b) + size_of (fields_of b (body_of Sheet b f)) ≡ body_of Sheet b f
  body_number f h =
      let s = sheet_shape b accepted in
      omega (arith, body_size f h, run_start Sheet b s f, body_before_end Sheet b s f h)

  pub sizes : (f : ℕ) → f ≤ functions b → size_of (first_bodies b f) ≡ sum_of f (node_count Sheet b)
  unfolding first_bodies size_of sum_of
  sizes zero h = refl
  sizes (suc f) h = omega (arith, sizes f (omega arith), body_size f h)

  pub tallies : (v : ℕ → ℕ → ℕ) (f : ℕ) → f ≤ functions b
      → tally v (first_bodies b f) ≡ sum_of (sum_of f (node_count Sheet b)) (λ k. v (kind_of (node_record b k)) (width_of (fields_of b k)))
  unfolding first_bodies tally sum_of
  tallies v zero h = refl
  tallies v (suc f) h =
      let own : ℕ → ℕ = λ k. v (kind_of (node_record b k)) (width_of (fields_of b k)) in
      omega (arith, tallies v f (omega arith), body_tally b accepted v f h, sum_parts (sum_of f (node_count Sheet b)) (node_count Sheet b f) own)
