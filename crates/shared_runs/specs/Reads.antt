-- A translation file that reads as the translation of a sheet by a labelling, and sheets with equal trees.
use Rattle.std.specs.Prelude.{◌≡◌, ℕ, ◌<◌, List, true}
use Rattle.std.proofs.Math.Option.{some}
use Rattle.std.proofs.Math.ListN.{get_elem?}
use Rattle.definitions.specs.Layouts.{functions, nodes, parameter_count, body_of}
use Rattle.definitions.specs.References.{parameters}
use Rattle.definitions.specs.SheetNodes.{call, build, sheet_node_of}
use Rattle.definitions.specs.TranslationNodes.{translation_node_of, actual, tag_of, tuple_fields}
use Rattle.definitions.specs.Trees.{same_tree, equal_trees}
use Rattle.definitions.specs.Labels.{Labelling, label_of}
use Rattle.definitions.specs.Translate.{formal_of}
use Rattle.definitions.specs.declared.Layout.TheVariants.{Sheet, Translation}
use Rattle.readback.specs.TranslatedNode.{translated_node}
use Rattle.trees.specs.SameNodes.{Pairs}

-- node k of sheet a and node m of sheet b have equal trees, at some depth
pub record EqualTrees (a b : List ℕ) (k m : ℕ) : Type 0 where
  pub depth : ℕ
  pub equal : same_tree a b depth k m ≡ true

-- "calls .. whose arguments are equal trees", in one sheet
abbrev pub EqualArguments : List ℕ → List ℕ → List ℕ → Type 0
EqualArguments b ns ms = Pairs (λ x y. equal_trees b x y ≡ true) ns ms

-- sheets with the same functions: as many, with as many parameters, and bodies that have equal trees
pub record AlikeSheets (a b : List ℕ) : Type 0 where
  pub count : functions a ≡ functions b
  pub parameters : (f : ℕ) → f < functions a → parameters a f ≡ parameters b f
  pub bodies : (f : ℕ) → f < functions a → EqualTrees a b (body_of Sheet a f) (body_of Sheet b f)

-- label l names in formal i of function f, in file t, argument i of a call of f whose tree equals that of node k
pub record Named (b t : List ℕ) (f k i l : ℕ) : Type 0 where
  pub first : ℕ
  pub below : first < nodes b
  pub arguments : List ℕ
  pub is : sheet_node_of b first ≡ call f arguments
  pub equal : EqualTrees b b k first
  pub node : ℕ
  pub there : get_elem? arguments i ≡ some node
  pub listed : actual t (formal_of b f i) l ≡ some node

-- file t reads as the translation of sheet b by a labelling: a label names arguments of a call with an equal tree
pub record Reads (same : Labelling) (b t : List ℕ) : Type 0 where
  pub becomes : (k : ℕ) → k < nodes b → translation_node_of t k ≡ translated_node same b k (sheet_node_of b k)
  pub count : functions t ≡ functions b
  pub body : (f : ℕ) → f < functions b → body_of Translation t f ≡ body_of Sheet b f
  pub takes : (f : ℕ) → f < functions b → parameter_count t f ≡ parameters b f
  pub names : (f k i : ℕ) {ns : List ℕ} → k < nodes b → sheet_node_of b k ≡ call f ns → i < parameters b f → Named b t f k i (label_of same b f k)
  pub tag : (k : ℕ) {c : ℕ} {ns : List ℕ} → k < nodes b → sheet_node_of b k ≡ build c ns → tag_of t k ≡ c
  pub fields : (k : ℕ) {c : ℕ} {ns : List ℕ} → k < nodes b → sheet_node_of b k ≡ build c ns → tuple_fields t k ≡ ns

-- a labelling, symmetric and transitive, that shares labels among nodes of sheet b with equal trees only
pub record SharesEqual (same : Labelling) (b : List ℕ) : Type 0 where
  pub swap : (k m : ℕ) → same k m ≡ true → same m k ≡ true
  pub onward : (k m n : ℕ) → same k m ≡ true → same m n ≡ true → same k n ≡ true
  pub equal : (k m : ℕ) → same k m ≡ true → EqualTrees b b k m
