-- Tuples of an accepted translation, and what its nodes go on to: nodes.
use mathlib.Core.Path.{◌≡◌, refl, ◌∙◌}
use Prim.Native.Nat.{ℕ, ◌<◌}
use mathlib.Core.List.{List}
use mathlib.Core.Option.{some}
use mathlib.Core.Bool.{Bool, cond}
use lib.ListN.{get_elem?}
use Rattle.definitions.specs.Records.{kind_of, field}
use Rattle.definitions.specs.Layouts.{nodes, node_record}
use Rattle.definitions.specs.NodeFields.{Clause, chosen, fields_from}
use Rattle.definitions.specs.TranslationKinds as kinds
use Rattle.definitions.specs.TranslationNodes.{conditional, tuple, case_of, translation_node_of, tag_of, tuple_fields}
use Rattle.definitions.specs.Checks.{translation_verdict}
use Rattle.definitions.specs.Verdict.{Accepted}
use Rattle.accepted.specs.Mention as Mention
use Rattle.accepted.proofs.TranslationRecords.{TranslationRecord, is_tuple, translation_node_is}
use Rattle.accepted.proofs.Checks.{translation_shape}
use Rattle.accepted.proofs.TranslationNames.{mention_below}
use Rattle.rule_laws.proofs.Mentions.{branch_mentioned, clause_mentioned}
use Rattle.lent_rule.specs.Standing.{TupleAt}

tuple_by : (rec : List ℕ) {c : ℕ} {ns : List ℕ} → TranslationRecord rec (tuple c ns) → tuple c ns ≡ tuple (field rec 0) (fields_from rec 1)
tuple_by rec (is_tuple e l g) = refl

tuple_kind : (rec : List ℕ) {c : ℕ} {ns : List ℕ} → TranslationRecord rec (tuple c ns) → kind_of rec ≡ kinds.tuple
tuple_kind rec (is_tuple e l g) = e

module _ (b : List ℕ) (accepted : translation_verdict b ≡ Accepted) where
  pub tuple_at : (k c : ℕ) (ns : List ℕ) → k < nodes b → translation_node_of b k ≡ tuple c ns → TupleAt b k
  unfolding tag_of tuple_fields
  tuple_at k c ns h e =
      let t = translation_node_is b (translation_shape b accepted) k h e in
      record { below = h; kind = tuple_kind (node_record b k) t; is = e ∙ tuple_by (node_record b k) t }

  -- a field of a tuple is a node
  pub member_below : (k i n : ℕ) → TupleAt b k → get_elem? (tuple_fields b k) i ≡ some n → n < nodes b
  member_below k i n t e = mention_below b accepted k t.below t.is (Mention.component i e)

  -- the node of the clause that a case takes is a node
  pub clause_below : (k x c n : ℕ) (cs : List Clause) → k < nodes b → translation_node_of b k ≡ case_of x cs → chosen cs c ≡ some n → n < nodes b
  clause_below k x c n cs h e g = mention_below b accepted k h e (clause_mentioned cs c g)

  pub branch_below : (k x p q : ℕ) (t : Bool) → k < nodes b → translation_node_of b k ≡ conditional x p q → cond t q p < nodes b
  branch_below k x p q t h e = mention_below b accepted k h e (branch_mentioned t)
