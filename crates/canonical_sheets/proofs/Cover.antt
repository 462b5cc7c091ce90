-- Every node of the canonical file is a copy of a node of the sheet.
use mathlib.Core.Path.{◌≡◌, refl}
use Prim.Native.Nat.{ℕ, zero, suc, ◌+◌, ◌-◌, ◌≤◌, ◌<◌}
use mathlib.Core.List.{List}
use mathlib.Core.Bool.{Bool, true, false}
use native.Mathlib.Omega.{arith}
use native.Mathlib.Nat.{zero-add}
use native.Mathlib.Decide.{ℕ_discrete, dec_lt}
use Rattle.definitions.specs.Records.{kind_of, field, field_count}
use Rattle.definitions.specs.Lists.{sum_of}
use Rattle.definitions.specs.Layouts.{functions, nodes, node_record, node_count, body_of, owner_of}
use Rattle.definitions.specs.Shape.{file_shape}
use Rattle.definitions.specs.Checks.{sheet_verdict}
use Rattle.definitions.specs.Trees.{names_node}
use Rattle.definitions.specs.CanonicalSheet.{fields_of, first_bodies, size_of, canonical}
use Rattle.definitions.specs.declared.Layout.TheVariants.{Sheet}
use Rattle.definitions.specs.Verdict.{Accepted}
use Rattle.laws.proofs.ByteFiles.{Bytes}
use Rattle.accepted.proofs.Sums.{SomeBelow, one_more}
use Rattle.accepted.proofs.Head.{nodes_limit}
use Rattle.accepted.proofs.Owners.{body_before_end, body_below, owner_of_body, owner_below, owner_started, owner_not_ended}
use Rattle.accepted.proofs.Checks.{sheet_shape, trees_pass}
use Rattle.accepted.proofs.Trees.{child_no_body}
use Rattle.trees.proofs.Parts.{part_child}
use Rattle.canonical_sheets.proofs.Stands.{Stands, Rooted, stands_last, stands_before}
use Rattle.canonical_sheets.proofs.Sizes.{body_number, sizes}
use Rattle.canonical_sheets.proofs.ReadBack.{trees_stand}
use Rattle.canonical_sheets.proofs.Placed.{Copy, Starts, Placed, placed, place}
use Rattle.canonical_sheets.proofs.FirstFields.{rises}

-- a number that lies between two of a row
between : (start : ℕ → ℕ) (n q : ℕ) → start 0 ≤ q → q < start n → SomeBelow n (λ i. (start i ≤ q) × (q < start (suc i)))
between start zero q l h = absurd (omega (arith, l, h))
between start (suc n) q l h =
    elim (dec_lt q (start n)) [
      | yes g ↦ one_more n (λ i. (start i ≤ q) × (q < start (suc i))) (between start n q l g)
      | no g ↦ record { at = n; below = omega arith; holds = (omega (arith, g), h) }
    ]

-- the root of a tree that is placed
pub copy : {b c : List ℕ} {f s k q : ℕ} → Placed b c f s k q → Copy b c f k q
copy (placed y w below) = y

-- a tree starts no later than its root
step_by : (x y r : ℕ) (n t : Bool) → n ≡ t → (n ≡ false → y ≡ x) → (n ≡ true → y ≡ suc r) → (n ≡ true → x ≤ r) → x ≤ y
step_by x y r n true e stays passes h = omega (arith, passes e, h e)
step_by x y r n false e stays passes h = omega (arith, stays e)

step_rises : {b c : List ℕ} {s k q : ℕ} (w : Starts b c s k q) (i : ℕ) → i < field_count (node_record b k)
    → (names_node (kind_of (node_record b k)) i ≡ true → w.start i ≤ field (node_record c q) i) → w.start i ≤ w.start (suc i)
step_rises {b} {c} {k} {q} w i h f =
    let n = names_node (kind_of (node_record b k)) i in
    step_by (w.start i) (w.start (suc i)) (field (node_record c q) i) n n refl (w.stays i h) (w.passes i h) f

pub tree_order : {b c : List ℕ} {f s k q : ℕ} → Placed b c f s k q → s ≤ q
tree_order {b} (placed {k} y w below) =
    let n = field_count (node_record b k) in
    omega (arith, w.from, w.to, rises w.start 0 n (omega arith) (λ i h. step_rises w i h (λ t. tree_order (below i h t))))

-- the tree of node k, with its root at node p, stands between node s and node q
pub record Between (b c : List ℕ) (f s q k p : ℕ) : Type 0 where
  pub first : ℕ
  pub tree : Placed b c f first k p
  pub from : s ≤ first
  pub before : p < q

-- so do the trees that a node's fields name
pub subtree : {b c : List ℕ} {f s k q : ℕ} → Placed b c f s k q → (i : ℕ) → i < field_count (node_record b k)
    → names_node (kind_of (node_record b k)) i ≡ true
    → Between b c f s q (field (node_record b k) i) (field (node_record c q) i)
subtree {b} (placed {k} y w below) i h t =
    let n = field_count (node_record b k) in
    let steps : (j : ℕ) → j < n → w.start j ≤ w.start (suc j) = λ j m. step_rises w j m (λ u. tree_order (below j m u)) in
    record {
      first = w.start i;
      tree = below i h t;
      from = omega (arith, w.from, rises w.start 0 i (omega arith) (λ j m. steps j (omega (arith, m, h))));
      before = omega (arith, w.to, w.passes i h t, rises w.start (suc i) n h steps);
    }

-- what passes from a node and its copy to the nodes that their fields name
pub record PassedDown (P : ℕ → ℕ → Type 0) (b c : List ℕ) : Type 0 where
  pub down : {k q : ℕ} (i : ℕ) → i < field_count (node_record b k) → names_node (kind_of (node_record b k)) i ≡ true → P k q
      → P (field (node_record b k) i) (field (node_record c q) i)

-- what node q is a copy of, in the tree of node k with its root at node p: no body but at the root
pub record Found (P : ℕ → ℕ → Type 0) (b : List ℕ) (k p q : ℕ) : Type 0 where
  pub node : ℕ
  pub holds : P node q
  pub body : node ≡ body_of Sheet b (owner_of Sheet b node) → (node ≡ k) × (q ≡ p)

-- what node q is a copy of, in the tree of its function's body
abbrev pub Original : (ℕ → ℕ → Type 0) → List ℕ → ℕ → Type 0
Original P b q = Found P b (body_of Sheet b (owner_of Sheet b q)) (body_of Sheet b (owner_of Sheet b q)) q

module _ (P : ℕ → ℕ → Type 0) {b c : List ℕ} (accepted : sheet_verdict b ≡ Accepted) (passed : PassedDown P b c) where
  -- in the tree of node m, which a field names
  deeper : {k p q m r x u : ℕ} (n t : Bool) → n ≡ t → (n ≡ true → m ≡ body_of Sheet b (owner_of Sheet b m) → ⊥)
      → (n ≡ false → u ≡ x) → (n ≡ true → u ≡ suc r) → x ≤ q → q < u → (n ≡ true → q ≤ r → Found P b m r q) → Found P b k p q
  deeper n true e no_body stays passes g h f =
      let v = f e (omega (arith, passes e, h)) in
      record { node = v.node; holds = v.holds; body = λ z. absurd (no_body e (let y = (v.body z).0 in rw y at z)) }
  deeper n false e no_body stays passes g h f = absurd (omega (arith, stays e, g, h))

  -- each node of a tree that is placed
  cover : {f s k p : ℕ} → Placed b c f s k p → P k p → (q : ℕ) → s ≤ q → q ≤ p → Found P b k p q
  cover (placed {k} {q = p} y w below) h q g l =
      elim (ℕ_discrete q p) [
        | yes e ↦ record { node = k; holds = rw e h; body = λ v. (refl, e) }
        | no e ↦
            let rec = node_record b k in
            let i = between w.start (field_count rec) q (omega (arith, g, w.from)) (omega (arith, l, e, w.to)) in
            let j = i.at in
            let n = names_node (kind_of rec) j in
            deeper n n refl (λ t. child_no_body b (trees_pass b accepted) k y.below refl (part_child b accepted k y.below j i.below t))
            (w.stays j i.below) (w.passes j i.below) i.holds.0 i.holds.1
            (λ t v. cover (below j i.below t) (passed.down j i.below t h) q i.holds.0 v)
      ]

-- the trees of the functions
module _ (b : List ℕ) (bytes : Bytes b) (accepted : sheet_verdict b ≡ Accepted) where
  abbrev shaped : file_shape Sheet b ≡ Accepted
  shaped = sheet_shape b accepted

  stands_first : (n f : ℕ) → Stands (canonical b) 0 (first_bodies b (n + f)) → Stands (canonical b) 0 (first_bodies b f)
  unfolding first_bodies
  stands_first zero f t = rw zero-add at t
  stands_first (suc n) f t =
      let e : suc n + f ≡ suc (n + f) = omega arith in
      stands_first n f (stands_before (rw e at t))

  body_rooted : (f : ℕ) → f < functions b
      → Rooted (canonical b) (sum_of f (node_count Sheet b)) (kind_of (node_record b (body_of Sheet b f))) (fields_of b (body_of Sheet b f))
  unfolding first_bodies
  body_rooted f h =
      let e : functions b - suc f + suc f ≡ functions b = omega (arith, h) in
      let z : 0 + size_of (first_bodies b f) ≡ sum_of f (node_count Sheet b) = omega (arith, sizes b accepted f (omega (arith, h))) in
      rw z at (stands_last (stands_first (functions b - suc f) (suc f) (rw e (trees_stand b accepted bytes))))

  pub body_placed : (f : ℕ) → f < functions b → Placed b (canonical b) f (sum_of f (node_count Sheet b)) (body_of Sheet b f) (body_of Sheet b f)
  body_placed f h =
      let n = body_number b accepted f h in
      let l = body_below Sheet b shaped f h in
      rw n
      at (place b (canonical b) bytes accepted (nodes b) (body_of Sheet b f) (sum_of f (node_count Sheet b)) f l l (owner_of_body Sheet b shaped f h)
      (body_rooted f h) (omega (arith, n, l, nodes_limit Sheet b shaped)))

  -- every node, where a relation passes down and holds for the node's body
  pub original : (P : ℕ → ℕ → Type 0) → PassedDown P b (canonical b) → (q : ℕ) → q < nodes b
      → P (body_of Sheet b (owner_of Sheet b q)) (body_of Sheet b (owner_of Sheet b q))
      → Original P b q
  original P passed q h w =
      let f = owner_of Sheet b q in
      let g = owner_below Sheet b shaped q h in
      cover P accepted passed (body_placed f g) w q (owner_started Sheet b shaped q)
      (omega (arith, owner_not_ended Sheet b shaped q h, body_before_end Sheet b shaped f g))
