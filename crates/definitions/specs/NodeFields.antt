-- The fields of a node's record, in a sheet and in a translation alike (document 01, "Files").
use Rattle.std.specs.Prelude.{ℕ, ◌+◌, ◌*◌, ◌-◌, List, [], ◌∷◌, cond, eqb}
use Rattle.std.proofs.Math.Option.{Option, none, some}
use Rattle.definitions.specs.Records.{field, field_count}
use Rattle.definitions.specs.Lists.{listed}
use Rattle.definitions.specs.References.{clauses, clause_constructor}

-- "constructor and node for each clause"; in a translation the constructor is the tag
pub record Clause : Type 0 where
  pub constructor : ℕ
  pub node : ℕ

-- the fields from field j on
unfoldable pub fields_from : List ℕ → ℕ → List ℕ
fields_from rec j = listed (field_count rec - j) (λ i. field rec (j + i))

-- a case's clauses
unfoldable pub clause_list : List ℕ → List Clause
clause_list rec = listed (clauses rec) (λ j. record { constructor = clause_constructor rec j; node = field rec (2 + 2 * j) })

-- the node of the first clause with a constructor
unfoldable pub chosen : List Clause → ℕ → Option ℕ
chosen [] c = none
chosen (l ∷ ls) c = cond (eqb l.constructor c) (some l.node) (chosen ls c)
