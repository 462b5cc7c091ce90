-- Labels and actuals of an accepted sheet, by any labelling: a label is below the number of nodes, and a formal lists an argument of
-- each first call.
use mathlib.Core.Path.{◌≡◌, refl, sym, ◌∙◌}
use Prim.Native.Nat.{ℕ, ◌+◌, ◌≤◌, ◌<◌}
use mathlib.Core.List.{List}
use mathlib.Core.Option.{some}
use mathlib.Core.Bool.{true, ◌&&◌, and-eq-true_iff}
use native.Mathlib.Omega.{arith}
use lib.ListN.{length, get_elem?}
use lib.Dec.{eqb}
use borrow.Author.Tests.{eqb-true, eq-eqb}
use Rattle.definitions.specs.Records.{kind_of, field}
use Rattle.definitions.specs.SheetKinds
use Rattle.definitions.specs.Lists.{count_of}
use Rattle.definitions.specs.Layouts.{nodes, node_record}
use Rattle.definitions.specs.References.{parameters}
use Rattle.definitions.specs.NodeFields.{fields_from}
use Rattle.definitions.specs.SheetNodes.{call, sheet_node, sheet_node_of}
use Rattle.definitions.specs.Checks.{sheet_verdict}
use Rattle.definitions.specs.Labels.{Labelling, calls, first_call, is_first, label_of, actuals}
use Rattle.definitions.specs.Verdict.{Accepted}
use Rattle.accepted.specs.Child.{argument}
use Rattle.accepted.proofs.Counts.{count_limit}
use Rattle.accepted.proofs.Elements.{element_there}
use Rattle.accepted.proofs.SheetRecords.{SheetRecord, is_call, node_is}
use Rattle.accepted.proofs.Children.{argument_found}
use Rattle.accepted.proofs.Checks.{sheet_shape, trees_pass}
use Rattle.accepted.proofs.Names.{call_count}
use Rattle.accepted.proofs.Trees.{child_below}
use Rattle.readback.proofs.Picked.{picked_length, picked_found}
use Rattle.readback.proofs.FirstCalls.{first_limit}

-- a record that passes the test for a call is one
called : (rec : List ℕ) (f : ℕ) → (eqb (kind_of rec) SheetKinds.call && eqb (field rec 0) f) ≡ true
    → sheet_node rec ≡ call f (fields_from rec 1)
unfolding sheet_node
called rec f e =
    let p = (and-eq-true_iff (eqb (kind_of rec) SheetKinds.call) (eqb (field rec 0) f)).0 e in
    rw (eqb-true (kind_of rec) SheetKinds.call p.0, eqb-true (field rec 0) f p.1) refl

pub calls_node : (b : List ℕ) (f k : ℕ) → calls b f k ≡ true → sheet_node_of b k ≡ call f (fields_from (node_record b k) 1)
unfolding calls sheet_node_of
calls_node b f k e = called (node_record b k) f e

call_test : (rec : List ℕ) {f : ℕ} {ns : List ℕ} → SheetRecord rec (call f ns)
    → (eqb (kind_of rec) SheetKinds.call && eqb (field rec 0) f) ≡ true
call_test rec (is_call e l g) = rw (e, eq-eqb (field rec 0) (field rec 0) refl) refl

pub call_passes : (b : List ℕ) → sheet_verdict b ≡ Accepted → (f k : ℕ) {ns : List ℕ} → k < nodes b → sheet_node_of b k ≡ call f ns
    → calls b f k ≡ true
unfolding calls
call_passes b accepted f k h e = call_test (node_record b k) (node_is b (sheet_shape b accepted) k h e)

-- argument i of a call is field 1 + i of its record
pub call_field : (rec : List ℕ) {f n : ℕ} {ns : List ℕ} (i : ℕ) → SheetRecord rec (call f ns) → get_elem? ns i ≡ some n
    → field rec (1 + i) ≡ n
call_field rec i (is_call e l g) p = (argument_found rec i p).is

module _ (same : Labelling) (b : List ℕ) (f : ℕ) where
  -- the first calls are some of the calls
  pub first_called : (k : ℕ) → is_first same b f k ≡ true → calls b f k ≡ true
  unfolding is_first
  first_called k e = ((and-eq-true_iff (calls b f k) (eqb (first_call same b f k) k)).0 e).0

  pub label_below : (k : ℕ) → k < nodes b → label_of same b f k < nodes b
  unfolding label_of
  label_below k h = omega (arith, h, first_limit same b f k, count_limit (first_call same b f k) (is_first same b f))

  -- a formal lists as many actuals as there are first calls
  pub actuals_length : (i : ℕ) → length (actuals same b f i) ≡ count_of (nodes b) (is_first same b f)
  unfolding actuals
  actuals_length i = picked_length (is_first same b f) (λ k. field (node_record b k) (1 + i)) (nodes b)

  pub actuals_limit : (i : ℕ) → length (actuals same b f i) ≤ nodes b
  actuals_limit i = omega (arith, actuals_length i, count_limit (nodes b) (is_first same b f))

-- an actual of a parameter is a node
pub actuals_below : (same : Labelling) (b : List ℕ) → sheet_verdict b ≡ Accepted → (f i l : ℕ) {n : ℕ} → i < parameters b f
    → get_elem? (actuals same b f i) l ≡ some n → n < nodes b
unfolding actuals
actuals_below same b accepted f i l h p =
    let r = picked_found (is_first same b f) (λ m. field (node_record b m) (1 + i)) (nodes b) l p in
    let k = r.at in
    let e = calls_node b f k (first_called same b f k r.holds.passes) in
    let c = call_count b accepted k r.below e in
    let a = element_there (fields_from (node_record b k) 1) i (rw c h) in
    let x = argument_found (node_record b k) i a.there in
    let d = child_below b (trees_pass b accepted) k r.below e (argument i a.there) in
    let m = sym x.is ∙ r.holds.is in
    rw m at d
