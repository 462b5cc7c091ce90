-- "Two calls of one function whose arguments are equal trees get one label" (document 02, request 4), and no others do.
use mathlib.Core.Path.{◌≡◌, refl, sym, ◌∙◌}
use mathlib.Core.Logic.{◌↔◌}
use Prim.Native.Nat.{ℕ, zero, suc, ◌+◌, ◌-◌, ◌<◌}
use mathlib.Core.List.{List}
use mathlib.Core.Bool.{true, false, false≢true}
use native.Mathlib.Omega.{arith}
use lib.ListN.{length}
use borrow.Author.Tests.{le-leb}
use Rattle.definitions.specs.Records.{kind_of, field, field_count}
use Rattle.definitions.specs.Layouts.{nodes, node_record}
use Rattle.definitions.specs.References.{every_other, from_first, from_second}
use Rattle.definitions.specs.SheetKinds
use Rattle.definitions.specs.NodeFields.{fields_from}
use Rattle.definitions.specs.SheetNodes.{call, sheet_node_of}
use Rattle.definitions.specs.Checks.{sheet_verdict}
use Rattle.definitions.specs.Trees.{names_node, equal_trees}
use Rattle.definitions.specs.Labels.{label_of}
use Rattle.definitions.specs.Verdict.{Accepted}
use Rattle.laws.proofs.Lists.{listed_length}
use Rattle.accepted.proofs.SheetRecords.{SheetRecord, is_call, node_is}
use Rattle.accepted.proofs.Checks.{sheet_shape}
use Rattle.readback.proofs.Labels.{call_passes}
use Rattle.readback.proofs.FirstCalls.{label_same, label_shared}
use Rattle.trees.specs.SameNodes.{Heads, Pairs, no_pair, pair, SameNode, same_call}
use Rattle.trees.proofs.KindByKind.{kind_by_kind}
use Rattle.trees.proofs.Parts.{argument_element}
use Rattle.trees.proofs.Equal.{equal_itself, equal_swap, equal_then, equal_unfolds, equal_folds}
use Rattle.shared_runs.specs.Reads.{EqualArguments}
use Rattle.shared_runs.proofs.SameTrees.{pairs_at}

pairs_length : {R : ℕ → ℕ → Type 0} {xs ys : List ℕ} → Pairs R xs ys → length xs ≡ length ys
pairs_length no_pair = refl
pairs_length (pair r p) = rw (pairs_length p) refl

arguments_count : (rec : List ℕ) → length (fields_from rec 1) ≡ field_count rec - 1
unfolding fields_from
arguments_count rec = listed_length (field_count rec - 1) (λ i. field rec (1 + i))

-- calls of one function, field by field, whose arguments go pair by pair
module _ {R : ℕ → ℕ → Type 0} (x y : List ℕ) (kind : kind_of x ≡ SheetKinds.call) (f : field x 0 ≡ field y 0)
    (count : field_count x ≡ field_count y) (p : Pairs R (fields_from x 1) (fields_from y 1)) where
  argument_pairs : (i : ℕ) → i < field_count x → names_node (kind_of x) i ≡ true → R (field x i) (field y i)
  unfolding names_node every_other from_first from_second
  argument_pairs zero l t = absurd (false≢true (rw kind at t))
  argument_pairs (suc i) l t = pairs_at i p (argument_element x i l) (argument_element y i (rw count at l))

  function_same : (i : ℕ) → names_node (kind_of x) i ≡ false → field x i ≡ field y i
  unfolding names_node every_other from_first from_second
  function_same zero t = f
  function_same (suc i) t = absurd (false≢true (sym (rw (kind, le-leb 1 (suc i) (omega arith)) at t)))

call_heads : {R : ℕ → ℕ → Type 0} (a b : List ℕ) (k m : ℕ) {f g : ℕ} {ns ms : List ℕ} → SheetRecord (node_record a k) (call f ns)
    → SheetRecord (node_record b m) (call g ms) → f ≡ g → Pairs R ns ms → Heads R a b k m
call_heads a b k m (is_call e l l') (is_call d h h') q p =
    let x = node_record a k in
    let y = node_record b m in
    let c : field_count x ≡ field_count y = omega (arith, l, h, pairs_length p, arguments_count x, arguments_count y) in
    record {
      kinds = e ∙ sym d;
      counts = c;
      parts = argument_pairs x y e q c p;
      numbers = λ i u. function_same x y e q c p i;
      owners = λ u. absurd (omega (arith, e, u));
      scrutinees = λ u. absurd (omega (arith, e, u));
    }

call_arguments : {R : ℕ → ℕ → Type 0} {a b : List ℕ} {k m f g : ℕ} {ns ms : List ℕ} → SameNode R a b k m (call f ns) (call g ms) → Pairs R ns ms
call_arguments (same_call p) = p

module _ (b : List ℕ) (accepted : sheet_verdict b ≡ Accepted) (f k m : ℕ) {ns ms : List ℕ} (h : k < nodes b) (g : m < nodes b)
    (e : sheet_node_of b k ≡ call f ns) (d : sheet_node_of b m ≡ call f ms) where
  -- calls of one function are equal trees exactly if their arguments are
  arguments_equal : equal_trees b k m ≡ true → EqualArguments b ns ms
  unfolding sheet_node_of
  arguments_equal q =
      call_arguments (rw d at (kind_by_kind b b k m (equal_unfolds b k m q) (node_is b (sheet_shape b accepted) k h e)))

  calls_equal : EqualArguments b ns ms → equal_trees b k m ≡ true
  calls_equal p =
      let s = sheet_shape b accepted in
      equal_folds b accepted k m h (call_heads b b k m (node_is b s k h e) (node_is b s m g d) refl p)

  pub one_label : (label_of (equal_trees b) b f k ≡ label_of (equal_trees b) b f m) ↔ EqualArguments b ns ms
  one_label =
      let c = call_passes b accepted f k h e in
      let u = call_passes b accepted f m g d in (
        λ l. arguments_equal (label_shared (equal_trees b) (equal_swap b) (equal_then b) b f k m c u (equal_itself b accepted k h) (equal_itself b accepted m g) l),
        λ p. label_same (equal_trees b) (equal_swap b) (equal_then b) b f k m c u (calls_equal p),
      )
