-- Labels as a translation file shows them (document 02, request 4): "A new label is the next number at its first call in node order, and
-- the formal lists that call's argument nodes."
use Rattle.std.specs.Prelude.{◌≡◌, ◌↔◌, ℕ, ◌<◌, List}
use Rattle.std.proofs.Math.ListN.{get_elem?}
use Rattle.definitions.specs.References.{parameters}
use Rattle.definitions.specs.SheetNodes.{call, sheet_node_of}
use Rattle.definitions.specs.TranslationNodes
use Rattle.definitions.specs.TranslationNodes.{translation_node_of, actual}
use Rattle.definitions.specs.Translate.{formal_of}
use Rattle.shared_runs.specs.Reads.{EqualArguments}

-- node k of sheet b is a call of f, and no earlier call of f has equal arguments
pub record FirstInOrder (b : List ℕ) (f k : ℕ) (ns : List ℕ) : Type 0 where
  pub is : sheet_node_of b k ≡ call f ns
  pub none_before : (m : ℕ) {ms : List ℕ} → m < k → sheet_node_of b m ≡ call f ms → EqualArguments b ms ns → ⊥

-- a call of f before node k of sheet b has label l in file t
pub record LabelBefore (b t : List ℕ) (f k l : ℕ) : Type 0 where
  pub node : ℕ
  pub before : node < k
  pub arguments : List ℕ
  pub is : sheet_node_of b node ≡ call f arguments
  pub label : translation_node_of t node ≡ TranslationNodes.call l f

-- node k of file t, a call of f with these arguments, has label l: the next number, as the calls of f before it have the labels below it
-- and no others; and each formal of f lists its argument in the label's place
pub record NewLabel (b t : List ℕ) (f k : ℕ) (ns : List ℕ) (l : ℕ) : Type 0 where
  pub next : (j : ℕ) → LabelBefore b t f k j ↔ (j < l)
  pub lists : (i : ℕ) → i < parameters b f → actual t (formal_of b f i) l ≡ get_elem? ns i
