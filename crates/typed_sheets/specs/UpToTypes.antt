-- Two sheets that are equal up to their types.
use Rattle.std.specs.Prelude.{◌≡◌, ℕ, List}
use Rattle.definitions.specs.Layouts.{readings, items, functions, nodes, node_record, node_count}
use Rattle.definitions.specs.References.{parameters, arity}
use Rattle.definitions.specs.declared.Layout.TheVariants.{Sheet}

-- equal heads, arities, parameter counts and node counts, and equal nodes
pub record EqualUpToTypes (a b : List ℕ) : Type 0 where
  pub readings : readings a ≡ readings b
  pub items : items a ≡ items b
  pub functions : functions a ≡ functions b
  pub nodes : nodes a ≡ nodes b
  pub arities : (c : ℕ) → arity a c ≡ arity b c
  pub parameters : (f : ℕ) → parameters a f ≡ parameters b f
  pub counts : (f : ℕ) → node_count Sheet a f ≡ node_count Sheet b f
  pub records : (k : ℕ) → node_record a k ≡ node_record b k
