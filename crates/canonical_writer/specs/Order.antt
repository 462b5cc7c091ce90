-- The table of order: which node of the sheet each node of the canonical form is.
use Rattle.std.specs.Prelude.{◌≡◌, ℕ, ◌+◌, ◌-◌, ◌≤◌, ◌<◌, List, [], ◌++◌, length, get_or}
use Rattle.definitions.specs.Sizes.{most_nodes}
use Rattle.definitions.specs.Records.{kind_of}
use Rattle.definitions.specs.Lists.{joined}
use Rattle.definitions.specs.Layouts.{nodes, node_record}
use Rattle.definitions.specs.Checks.{sheet_verdict}
use Rattle.definitions.specs.Translate.{record_words}
use Rattle.definitions.specs.CanonicalSheet.{fields_of, bodies, size_of, field_words, tree_words}
use Rattle.definitions.specs.declared.Layout.TheVariants.{Sheet}
use Rattle.definitions.specs.Verdict.{Accepted}
use Rattle.file_runs.specs.Runs.{RunEndTable}
use Rattle.canonical_writer.specs.Sizes.{tree_size, Sizes, SizedSheet}

-- the node of the sheet that is entered at place q
abbrev pub entry_at : List ℕ → ℕ → ℕ
entry_at order q = get_or order q 0

-- the number of the first node in the fields of node k, where it gets number q
abbrev pub first_number : List ℕ → ℕ → ℕ → ℕ
first_number b q k = q - size_of (fields_of b k)

-- the record of node k, where it gets number q
unfoldable pub numbered_words : List ℕ → ℕ → ℕ → List ℕ
numbered_words b q k = record_words (kind_of (node_record b k)) (field_words (first_number b q k) (fields_of b k))

-- trees side by side, numbered from 0 up to n, whose records are `words`: of each the root is entered, at the place of its number
pub data Roots (b order : List ℕ) : ℕ → List ℕ → Type 0 where
  none : {n : ℕ} {words : List ℕ} → n ≡ 0 → words ≡ [] → Roots b order n words
  more : {s n : ℕ} {before words : List ℕ} (k : ℕ) → Roots b order s before → k < nodes b → n ≡ s + tree_size b k
      → entry_at order (s + size_of (fields_of b k)) ≡ k
      → words ≡ before ++ tree_words s (fields_of b k) ++ numbered_words b (s + size_of (fields_of b k)) k
      → Roots b order n words

-- node k is one of the sheet, and the numbers before q are enough for the nodes in its fields
pub record Numbered (b : List ℕ) (q k : ℕ) : Type 0 where
  pub below : k < nodes b
  pub room : size_of (fields_of b k) ≤ q

-- node k of an accepted sheet with sizes, where it gets number q
pub record Renumbered (b sizes : List ℕ) (q k : ℕ) : Type 0 where
  pub accepted : sheet_verdict b ≡ Accepted
  pub sized : Sizes b sizes (nodes b)
  pub below : q < nodes b
  pub numbered : Numbered b q k

-- the nodes with numbers from q on are entered, and before them the roots of trees; their records make up the canonical form's
pub record OrderFrom (b order : List ℕ) (q : ℕ) : Type 0 where
  pub full : length order ≡ most_nodes
  pub words : List ℕ
  pub roots : Roots b order q words
  pub rest : tree_words 0 (bodies b) ≡ words ++ joined (nodes b - q) (λ i. numbered_words b (q + i) (entry_at order (q + i)))
  pub entry : (i : ℕ) → q ≤ i → i < nodes b → Numbered b i (entry_at order i)

-- all nodes are entered
pub record Ordered (b order : List ℕ) : Type 0 where
  pub words : tree_words 0 (bodies b) ≡ joined (nodes b) (λ q. numbered_words b q (entry_at order q))
  pub entry : (q : ℕ) → q < nodes b → Numbered b q (entry_at order q)

-- an accepted sheet with the ends of its runs and the sizes of its nodes, and a table of full length
pub record EnterBodies (b ends sizes order : List ℕ) : Type 0 where
  pub accepted : sheet_verdict b ≡ Accepted
  pub runs : RunEndTable Sheet b ends
  pub sized : Sizes b sizes (nodes b)
  pub full : length order ≡ most_nodes

-- a sheet with sizes, where the nodes with numbers above q are entered
pub record EnterAt (b starts sizes order : List ℕ) (q : ℕ) : Type 0 where
  pub sheet : SizedSheet b starts sizes
  pub below : q < nodes b
  pub above : OrderFrom b order (q + 1)

-- a sheet with sizes and the ends of its runs, and a table of full length
pub record FillOrder (b starts ends sizes order : List ℕ) : Type 0 where
  pub sheet : SizedSheet b starts sizes
  pub runs : RunEndTable Sheet b ends
  pub full : length order ≡ most_nodes
