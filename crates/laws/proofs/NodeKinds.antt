-- The node that a translation's record is, one kind after the other.
use Prim.Native.Nat.{ℕ}
use mathlib.Core.List.{List}
use mathlib.Core.Bool.{Bool, true, false, cond}
use lib.Dec.{eqb}
use Rattle.definitions.specs.Bytes.{signed}
use Rattle.definitions.specs.Records.{kind_of, field}
use Rattle.definitions.specs.NodeFields.{fields_from, clause_list}
use Rattle.definitions.specs.TranslationKinds as Kinds
use Rattle.definitions.specs.TranslationNodes.{TranslationNode, number, reading, formal, select, operator, conditional, call, tuple, case_of, translation_node}

-- what holds of a record as a node of each kind
pub record OfEachKind (P : TranslationNode → Type 0) (rec : List ℕ) : Type 0 where
  pub of_number : P (number (signed rec 4))
  pub of_reading : P (reading (field rec 0))
  pub of_formal : P (formal (field rec 0))
  pub of_select : P (select (field rec 0) (field rec 1))
  pub of_operator : P (operator (field rec 0) (field rec 1) (field rec 2))
  pub of_conditional : P (conditional (field rec 0) (field rec 1) (field rec 2))
  pub of_call : P (call (field rec 0) (field rec 1))
  pub of_tuple : P (tuple (field rec 0) (fields_from rec 1))
  pub of_case : P (case_of (field rec 0) (clause_list rec))

-- holds of the node that it is
module _ (P : TranslationNode → Type 0) where
  either : (t : Bool) {x y : TranslationNode} → P x → P y → P (cond t x y)
  either true h k = h
  either false h k = k

  pub of_its_kind : (rec : List ℕ) → OfEachKind P rec → P (translation_node rec)
  unfolding translation_node
  of_its_kind rec h =
      let is : ℕ → Bool = λ k. eqb (kind_of rec) k in
      either (is Kinds.number) h.of_number
      (either (is Kinds.reading) h.of_reading
      (either (is Kinds.formal) h.of_formal
      (either (is Kinds.select) h.of_select
      (either (is Kinds.operator) h.of_operator
      (either (is Kinds.conditional) h.of_conditional
      (either (is Kinds.call) h.of_call
      (either (is Kinds.tuple) h.of_tuple h.of_case)))))))
