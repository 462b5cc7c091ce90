-- When a setting of a sheet fits a place in a function, outside its case's clauses or in the clause of a constructor, and when an end
-- is of a type.
use Rattle.std.specs.Prelude.{◌≡◌, ℕ, ◌<◌, List, ℤ}
use Rattle.std.proofs.Math.Option.{Option, none, some}
use Rattle.definitions.specs.Layouts.{nodes, owner_of}
use Rattle.definitions.specs.SheetNodes.{call, build, sheet_node_of}
use Rattle.definitions.specs.SheetRules.{clause_within}
use Rattle.definitions.specs.Types.{number_type, own_type}
use Rattle.definitions.specs.declared.Layout.TheVariants.{Sheet}
use Rattle.agreement.specs.Meaning.{Setting, empty, entered, holding, End, value, fault, integer, built}
use Rattle.typed_sheets.specs.TypeErrors.{NoTypeError}

-- in function f, in the clause of this constructor or in none, this setting
pub data Fits (b : List ℕ) : ℕ → Option ℕ → Setting → Type 0 where
  -- function 0 at the start
  outset : Fits b 0 none empty
  -- a function that the call at node k has entered
  called : {k f : ℕ} {ns : List ℕ} {s : Setting}
      → k < nodes b
      → sheet_node_of b k ≡ call f ns
      → Fits b (owner_of Sheet b k) (clause_within b (nodes b) k) s
      → Fits b f none (entered ns s)
  -- a clause: the constructor that the setting holds was built at node m
  held : {f m c : ℕ} {ns : List ℕ} {s u : Setting}
      → m < nodes b
      → sheet_node_of b m ≡ build c ns
      → Fits b (owner_of Sheet b m) (clause_within b (nodes b) m) u
      → Fits b f none s
      → Fits b f (some c) (holding s ns u)

-- node k of the sheet, in its own place
pub record At (b : List ℕ) (k : ℕ) (s : Setting) : Type 0 where
  pub below : k < nodes b
  pub fits : Fits b (owner_of Sheet b k) (clause_within b (nodes b) k) s

-- an end of a type: a number, a constructor of that type, or a fault that is no type error
pub data OfType (b : List ℕ) : ℕ → End → Type 0 where
  a_number : {z : ℤ} → OfType b number_type (value (integer z))
  a_constructor : {m c t : ℕ} {ns : List ℕ} {s : Setting}
      → At b m s
      → sheet_node_of b m ≡ build c ns
      → own_type b c ≡ t
      → OfType b t (value (built c ns s))
  a_fault : {n t : ℕ} → NoTypeError n → OfType b t (fault n)
