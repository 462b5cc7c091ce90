-- Laws of the check of a set: of one node, and of the nodes passed.
use mathlib.Core.Path.{◌≡◌, refl, sym, ◌∙◌}
use Prim.Native.Nat.{ℕ, ◌+◌, ◌≤◌, ◌<◌}
use native.Mathlib.Omega.{arith}
use mathlib.Core.List.{List}
use mathlib.Core.Bool.{Bool, true, false}
use lib.ListN.{get_or}
use borrow.Author.Tests.{eq-eqb, ne_eqb}
use Rattle.definitions.specs.Sizes.{most_nodes, most_readings}
use Rattle.definitions.specs.Numbers.{closed_reading}
use Rattle.definitions.specs.TranslationKinds as kinds
use Rattle.definitions.specs.Records.{kind_of, field}
use Rattle.definitions.specs.Layouts.{nodes, first_node, node_record}
use Rattle.definitions.specs.Hirer.{reading_allowed, node_allowed, closed_at, closed_verdict}
use Rattle.definitions.specs.declared.Layout.TheVariants.{Translation}
use Rattle.definitions.specs.Verdict.{Accepted, Refused}
use Rattle.laws.proofs.Verdicts.{require_true, require_false, Passed, passed_more, passed_refused, passed_all}
use Rattle.accepted.proofs.Head.{readings_limit, nodes_limit}
use Rattle.accepted.proofs.Checks.{translation_shape}
use Rattle.accepted.proofs.TranslationNames.{translation_reading_below}
use Rattle.run.specs.NodeTable.{kind_part, first_part, Readable}
use Rattle.run.proofs.NodeKinds.{is_reading, node_is}

-- a node by its entry in the table
module _ {b tab : List ℕ} (t : Readable b tab) {k : ℕ} (h : k < nodes b) where
  pub node_place : k < most_nodes
  node_place = let l = nodes_limit Translation b (translation_shape b t.accepted) in omega arith

  module _ {x kind : ℕ} (ex : x ≡ get_or tab k 0) (ek : kind ≡ kind_part x) where
    kind_is : kind ≡ kind_of (node_record b k)
    kind_is = ek ∙ rw ex (t.table.entry k h).kind

    pub other_allowed : (kind ≡ kinds.reading → ⊥) → (set : ℕ) → true ≡ node_allowed b set k
    unfolding node_allowed
    other_allowed f set = rw (ne_eqb (kind_of (node_record b k)) kinds.reading (λ e. f (kind_is ∙ e))) refl

    module _ (e : kind ≡ kinds.reading) {i : ℕ} (ei : i ≡ first_part x) where
      first_is : i ≡ field (node_record b k) 0
      first_is = ei ∙ rw ex ((t.table.entry k h).first (λ q. omega (arith, q, kind_is, e)))

      pub reading_narrow : i < most_readings
      reading_narrow =
          let l = readings_limit Translation b (translation_shape b t.accepted) in
          let g = translation_reading_below b t.accepted k h (is_reading (node_is h refl kind_is e)) in
          rw first_is (omega arith)

      pub reading_by : (set : ℕ) {r : Bool} → r ≡ reading_allowed set i → r ≡ node_allowed b set k
      unfolding node_allowed
      reading_by set g = g ∙ rw (first_is, eq-eqb (kind_of (node_record b k)) kinds.reading (sym kind_is ∙ e)) refl

-- the nodes passed are allowed
pub record Closing (b tab : List ℕ) (set first count k : ℕ) : Type 0 where
  pub readable : Readable b tab
  pub start : first ≡ first_node b
  pub low : first ≤ 131071
  pub counts : count ≡ nodes b
  pub reached : k ≤ count
  pub passed : Passed k (closed_at b set)

module _ {b tab : List ℕ} {set first count k : ℕ} (w : Closing b tab set first count k) where
  pub closing_node : k < count → k < nodes b
  closing_node h = omega (arith, w.counts, h)

  pub closing_more : {t : Bool} → k < count → t ≡ node_allowed b set k → t ≡ true → Closing b tab set first count (k + 1)
  unfolding closed_at
  closing_more {t} h e f =
      record {
        readable = w.readable;
        start = w.start;
        low = w.low;
        counts = w.counts;
        reached = omega (arith, h);
        passed = passed_more k (closed_at b set) Accepted w.passed (sym (require_true _ closed_reading (first_node b + k) (sym e ∙ f))) refl;
      }

  pub closing_refused : {t : Bool} {n : ℕ} → k < count → t ≡ node_allowed b set k → t ≡ false → n ≡ k → Refused closed_reading (first + n) ≡ closed_verdict b set
  unfolding closed_at closed_verdict
  closing_refused {t} {n} h e f g =
      passed_refused k count (nodes b) (closed_at b set) (Refused closed_reading (first + n)) closed_reading (first + n) w.counts h w.passed
      (rw (w.start, g) (sym (require_false _ closed_reading (first_node b + k) (sym e ∙ f)))) refl

  pub closing_done : count ≤ k → Accepted ≡ closed_verdict b set
  unfolding closed_verdict
  closing_done h = passed_all k count (nodes b) (closed_at b set) w.counts w.reached h w.passed
