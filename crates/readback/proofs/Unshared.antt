-- The labelling in which no calls share a label: each call is its own first, its label is the number of the calls before it, and the
-- actual that its label names is its own argument.
use mathlib.Core.Path.{◌≡◌, refl, ap, ◌∙◌, fun_ext}
use Prim.Native.Nat.{ℕ, zero, suc, ◌<◌}
use mathlib.Core.List.{List}
use mathlib.Core.Option.{some}
use mathlib.Core.Bool.{Bool, false, ◌&&◌, and-false, and-true}
use native.Mathlib.Omega.{arith}
use lib.ListN.{get_elem?}
use borrow.Author.Tests.{eq-eqb, le-ltb}
use Rattle.definitions.specs.Lists.{count_of, first_passing}
use Rattle.definitions.specs.Layouts.{nodes, node_record}
use Rattle.definitions.specs.References.{parameters}
use Rattle.definitions.specs.SheetNodes.{call, sheet_node_of}
use Rattle.definitions.specs.TranslationNodes.{actual}
use Rattle.definitions.specs.Checks.{sheet_verdict}
use Rattle.definitions.specs.Labels.{never_shared, calls, first_call, is_first, label_of, actuals}
use Rattle.definitions.specs.Translate.{formal_of, translation_by}
use Rattle.definitions.specs.Verdict.{Accepted}
use Rattle.accepted.proofs.Elements.{element_below}
use Rattle.accepted.proofs.SheetRecords.{node_is}
use Rattle.accepted.proofs.Checks.{sheet_shape}
use Rattle.accepted.proofs.Names.{call_below, call_count}
use Rattle.readback.proofs.FirstCalls.{listed_argument}
use Rattle.readback.proofs.Labels.{call_passes, call_field}
use Rattle.readback.proofs.Nodes.{actual_read}

none_passing : (n : ℕ) (test : ℕ → Bool) → ((i : ℕ) → test i ≡ false) → first_passing n test ≡ n
unfolding first_passing
none_passing zero test h = refl
none_passing (suc n) test h = rw (none_passing n test h, le-ltb n n (omega arith), h n) refl

module _ (b : List ℕ) (f : ℕ) where
  pub first_itself : (k : ℕ) → first_call never_shared b f k ≡ k
  unfolding first_call never_shared
  first_itself k = none_passing k (λ m. calls b f m && false) (λ m. and-false (calls b f m))

  pub all_first : is_first never_shared b f ≡ calls b f
  unfolding is_first
  all_first = fun_ext (λ k. rw (first_itself k, eq-eqb k k refl) (and-true (calls b f k)))

  pub unshared_label : (k : ℕ) → label_of never_shared b f k ≡ count_of k (calls b f)
  unfolding label_of
  unshared_label k = rw (first_itself k, all_first) refl

module _ (b : List ℕ) (accepted : sheet_verdict b ≡ Accepted) (f k i : ℕ) {n : ℕ} {ns : List ℕ} (h : k < nodes b)
    (e : sheet_node_of b k ≡ call f ns) (p : get_elem? ns i ≡ some n) where
  actuals_argument : get_elem? (actuals never_shared b f i) (label_of never_shared b f k) ≡ some n
  unfolding never_shared
  actuals_argument =
      listed_argument never_shared (λ m k x. x) (λ m k n x y. x) b f k i h (call_passes b accepted f k h e)
      ∙ ap some (rw (first_itself b f k) (call_field (node_record b k) i (node_is b (sheet_shape b accepted) k h e) p))

  pub actual_argument : actual (translation_by never_shared b) (formal_of b f i) (label_of never_shared b f k) ≡ some n
  actual_argument =
      let g : i < parameters b f = rw (call_count b accepted k h e) at (element_below ns i p) in
      actual_read never_shared b accepted f i (label_of never_shared b f k) (call_below b accepted k h e) g ∙ actuals_argument
