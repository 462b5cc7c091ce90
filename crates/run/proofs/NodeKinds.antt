-- The node of an accepted translation, by the kind of its record.
use mathlib.Core.Path.{◌≡◌, refl, sym, ◌∙◌}
use Prim.Native.Nat.{ℕ, suc, ◌≤◌, ◌<◌}
use mathlib.Core.List.{List}
use native.Mathlib.Omega.{arith}
use native.Mathlib.Nat.{le_antisymm}
use Rattle.definitions.specs.TranslationKinds as kinds
use Rattle.definitions.specs.Bytes.{signed}
use Rattle.definitions.specs.Records.{kind_of, field}
use Rattle.definitions.specs.NodeFields.{fields_from, clause_list}
use Rattle.definitions.specs.Layouts.{nodes, node_record}
use Rattle.definitions.specs.TranslationNodes.{number, reading, formal, select, operator, conditional, call, tuple, case_of, translation_node, translation_node_of}
use Rattle.definitions.specs.Checks.{translation_verdict}
use Rattle.definitions.specs.declared.Layout.TheVariants.{Translation}
use Rattle.definitions.specs.Verdict.{Accepted}
use Rattle.accepted.proofs.Checks.{translation_shape}
use Rattle.accepted.proofs.Sections.{node_kind_law}
use Rattle.run.specs.States.{NodeIs}

-- the node of a kind
module _ {b rec : List ℕ} {k : ℕ} where
  pub is_number : NodeIs b rec k kinds.number → translation_node_of b k ≡ number (signed rec 4)
  unfolding translation_node_of translation_node
  is_number h = rw (← h.is, h.of) refl

  pub is_reading : NodeIs b rec k kinds.reading → translation_node_of b k ≡ reading (field rec 0)
  unfolding translation_node_of translation_node
  is_reading h = rw (← h.is, h.of) refl

  pub is_formal : NodeIs b rec k kinds.formal → translation_node_of b k ≡ formal (field rec 0)
  unfolding translation_node_of translation_node
  is_formal h = rw (← h.is, h.of) refl

  pub is_select : NodeIs b rec k kinds.select → translation_node_of b k ≡ select (field rec 0) (field rec 1)
  unfolding translation_node_of translation_node
  is_select h = rw (← h.is, h.of) refl

  pub is_operator : NodeIs b rec k kinds.operator → translation_node_of b k ≡ operator (field rec 0) (field rec 1) (field rec 2)
  unfolding translation_node_of translation_node
  is_operator h = rw (← h.is, h.of) refl

  pub is_conditional : NodeIs b rec k kinds.conditional → translation_node_of b k ≡ conditional (field rec 0) (field rec 1) (field rec 2)
  unfolding translation_node_of translation_node
  is_conditional h = rw (← h.is, h.of) refl

  pub is_call : NodeIs b rec k kinds.call → translation_node_of b k ≡ call (field rec 0) (field rec 1)
  unfolding translation_node_of translation_node
  is_call h = rw (← h.is, h.of) refl

  pub is_tuple : NodeIs b rec k kinds.tuple → translation_node_of b k ≡ tuple (field rec 0) (fields_from rec 1)
  unfolding translation_node_of translation_node
  is_tuple h = rw (← h.is, h.of) refl

  pub is_case_law : NodeIs b rec k kinds.case_of → translation_node_of b k ≡ case_of (field rec 0) (clause_list rec)
  unfolding translation_node_of translation_node
  is_case_law h = rw (← h.is, h.of) refl

-- a node's record, with the kind that was read
pub node_is : {b rec : List ℕ} {k kind n : ℕ} → k < nodes b → rec ≡ node_record b k → kind ≡ kind_of rec → kind ≡ n → NodeIs b rec k n
node_is h e f g = record { below = h; is = e; of = sym f ∙ g }

past : (k n : ℕ) → n ≤ k → (k ≡ n → ⊥) → suc n ≤ k
past k n h e = omega arith

last_of : (k : ℕ) → kinds.number ≤ k → k ≤ kinds.case_of → (k ≡ kinds.number → ⊥) → (k ≡ kinds.reading → ⊥) → (k ≡ kinds.formal → ⊥)
    → (k ≡ kinds.select → ⊥) → (k ≡ kinds.operator → ⊥) → (k ≡ kinds.conditional → ⊥) → (k ≡ kinds.call → ⊥) → (k ≡ kinds.tuple → ⊥)
    → k ≡ kinds.case_of
last_of k l g n0 n1 n2 n3 n4 n5 n6 n7 =
    le_antisymm g (past k kinds.tuple (past k kinds.call (past k kinds.conditional (past k kinds.operator (past k kinds.select (past k kinds.formal
    (past k kinds.reading (past k kinds.number l n0) n1) n2) n3) n4) n5) n6) n7)

-- the last kind, where the record has none of the others
pub node_last : {b rec : List ℕ} {k kind : ℕ} → translation_verdict b ≡ Accepted → k < nodes b → rec ≡ node_record b k → kind ≡ kind_of rec
    → (kind ≡ kinds.number → ⊥) → (kind ≡ kinds.reading → ⊥) → (kind ≡ kinds.formal → ⊥) → (kind ≡ kinds.select → ⊥)
    → (kind ≡ kinds.operator → ⊥) → (kind ≡ kinds.conditional → ⊥) → (kind ≡ kinds.call → ⊥) → (kind ≡ kinds.tuple → ⊥)
    → NodeIs b rec k kinds.case_of
node_last {b} {rec} {k} {kind} accepted h e f n0 n1 n2 n3 n4 n5 n6 n7 =
    let l = node_kind_law Translation b (translation_shape b accepted) k h in
    node_is h e f (last_of kind (rw (f, e) l.least) (rw (f, e) l.greatest) n0 n1 n2 n3 n4 n5 n6 n7)
