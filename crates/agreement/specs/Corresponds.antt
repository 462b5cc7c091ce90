-- When a context of the translation with a label for each call and a setting of the sheet correspond (document 01, "Meaning" and
-- "Run"), for a place in a function: outside its case's clauses, or in the clause of a constructor.
use Rattle.std.specs.Prelude.{◌≡◌, ℕ, ◌<◌, List, [], ◌∷◌, ℤ}
use Rattle.std.proofs.Math.Option.{Option, none, some}
use Rattle.definitions.specs.Layouts.{nodes, body_of, owner_of}
use Rattle.definitions.specs.NodeFields.{Clause}
use Rattle.definitions.specs.SheetNodes.{SheetNode, call, build, case_of, sheet_node_of}
use Rattle.definitions.specs.TranslationNodes.{translation_node_of}
use Rattle.definitions.specs.SheetRules.{clause_within}
use Rattle.definitions.specs.Labels.{never_shared, label_of}
use Rattle.definitions.specs.Translate.{unshared_translation}
use Rattle.definitions.specs.Rule.{Ending, value, ended, integer, constructor}
use Rattle.agreement.specs.Meaning.{Setting, empty, entered, holding, End, Means}
use Rattle.agreement.specs.Meaning
use Rattle.definitions.specs.declared.Layout.TheVariants.{Sheet}
use Rattle.rule_laws.specs.Derivations.{Trace, Derivation}

-- in function f, in the clause of this constructor or in none, these labels and this setting
pub data Corresponds (b : List ℕ) (rs : List ℤ) : ℕ → Option ℕ → List ℕ → Setting → Type 0 where
  -- function 0 at the start
  outset : Corresponds b rs 0 none [] empty
  -- a function that the call at node k has entered: the head label is that call's
  called : {k f l : ℕ} {ns ws : List ℕ} {s : Setting}
      → k < nodes b
      → sheet_node_of b k ≡ call f ns
      → label_of never_shared b f k ≡ l
      → Corresponds b rs (owner_of Sheet b k) (clause_within b (nodes b) k) ws s
      → Corresponds b rs f none (l ∷ ws) (entered ns s)
  -- a clause: the scrutinee, visited under these labels, ends with the constructor that the setting holds
  held : {f n m c : ℕ} {cs : List Clause} {a : Trace} {ws vs ns : List ℕ} {s u : Setting}
      → sheet_node_of b (body_of Sheet b f) ≡ case_of n cs
      → Derivation (unshared_translation b) rs (translation_node_of (unshared_translation b) n) n ws a (value (constructor m vs))
      → m < nodes b
      → sheet_node_of b m ≡ build c ns
      → Corresponds b rs (owner_of Sheet b m) (clause_within b (nodes b) m) vs u
      → Corresponds b rs f none ws s
      → Corresponds b rs f (some c) ws (holding s ns u)

-- node k of the sheet, in its own place
pub record At (b : List ℕ) (rs : List ℤ) (k : ℕ) (ws : List ℕ) (s : Setting) : Type 0 where
  pub below : k < nodes b
  pub corresponds : Corresponds b rs (owner_of Sheet b k) (clause_within b (nodes b) k) ws s

-- an ending of the translation is this end of the sheet: constructors were built by one node
pub data Agrees (b : List ℕ) (rs : List ℤ) : Ending (List ℕ) → End → Type 0 where
  integers : {z : ℤ} → Agrees b rs (value (integer z)) (Meaning.value (Meaning.integer z))
  constructors : {k c : ℕ} {ns ws : List ℕ} {s : Setting}
      → At b rs k ws s
      → sheet_node_of b k ≡ build c ns
      → Agrees b rs (value (constructor k ws)) (Meaning.value (Meaning.built c ns s))
  ends : {n : ℕ} → Agrees b rs (ended n) (Meaning.fault n)

-- the node means, in the setting, what this ending is
pub record Meant (b : List ℕ) (rs : List ℤ) (n : SheetNode) (s : Setting) (e : Ending (List ℕ)) : Type 0 where
  pub end : End
  pub means : Means b rs n s end
  pub agrees : Agrees b rs e end

-- visiting node k ends with what this end is
pub record Visited (b : List ℕ) (rs : List ℤ) (k : ℕ) (ws : List ℕ) (d : End) : Type 0 where
  pub trace : Trace
  pub ending : Ending (List ℕ)
  pub visits : Derivation (unshared_translation b) rs (translation_node_of (unshared_translation b) k) k ws trace ending
  pub agrees : Agrees b rs ending d
