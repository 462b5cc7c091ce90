-- The checks that an accepted sheet and an accepted translation have passed, each by itself.
use mathlib.Core.Path.{◌≡◌}
use Prim.Native.Nat.{ℕ, ◌+◌, ◌<◌}
use mathlib.Core.List.{List}
use mathlib.Core.Bool.{true}
use Rattle.definitions.specs.Records.{record_of}
use Rattle.definitions.specs.Numbers.{out_of_range, bad_tree, bad_arguments, ill_typed}
use Rattle.definitions.specs.Verdicts.{◌and_then◌, first_of}
use Rattle.definitions.specs.Layouts.{is_typed, nodes, first_node, due}
use Rattle.definitions.specs.Shape.{file_shape}
use Rattle.definitions.specs.References.{in_range, references}
use Rattle.definitions.specs.SheetRules.{arguments_match, arguments, tree_right, tree, pattern_right, pattern}
use Rattle.definitions.specs.Types.{type_right, typing, types}
use Rattle.definitions.specs.Checks.{checks_to_six, sheet_verdict, translation_verdict}
use Rattle.definitions.specs.declared.Layout.TheVariants.{Sheet, Translation}
use Rattle.definitions.specs.Verdict.{Accepted}
use Rattle.laws.proofs.Verdicts.{both_accepted, required, first_each}

-- the five passes over a sheet
pub record SheetChecks (b : List ℕ) : Type 0 where
  pub shape : file_shape Sheet b ≡ Accepted
  pub names : first_of (due b) (λ r. references b r and_then arguments b r) ≡ Accepted
  pub trees : first_of (nodes b) (tree b) ≡ Accepted
  pub patterns : first_of (nodes b) (pattern b) ≡ Accepted
  pub types : types b ≡ Accepted

sheet_checks : (b : List ℕ) → sheet_verdict b ≡ Accepted → SheetChecks b
unfolding sheet_verdict checks_to_six
sheet_checks b e =
    let o = both_accepted _ _ e in
    let p = both_accepted _ _ o.0 in
    let q = both_accepted _ _ p.0 in
    let s = both_accepted _ _ q.0 in
    record { shape = s.0; names = s.1; trees = q.1; patterns = p.1; types = o.1 }

module _ (b : List ℕ) (accepted : sheet_verdict b ≡ Accepted) where
  pub sheet_shape : file_shape Sheet b ≡ Accepted
  sheet_shape = (sheet_checks b accepted).shape

  names_checked : (r : ℕ) → r < due b → (references b r ≡ Accepted) × (arguments b r ≡ Accepted)
  names_checked r h =
      both_accepted (references b r) (arguments b r)
      (first_each (due b) (λ i. references b i and_then arguments b i) (sheet_checks b accepted).names r h)

  pub sheet_in_range : (r : ℕ) → r < due b → in_range b r (record_of b r) ≡ true
  unfolding references
  sheet_in_range r h = required (in_range b r (record_of b r)) out_of_range r (names_checked r h).0

  pub arguments_match_law : (r : ℕ) → r < due b → arguments_match b r (record_of b r) ≡ true
  unfolding arguments
  arguments_match_law r h = required (arguments_match b r (record_of b r)) bad_arguments r (names_checked r h).1

  pub tree_right_law : (k : ℕ) → k < nodes b → tree_right b k ≡ true
  unfolding tree
  tree_right_law k h =
      required (tree_right b k) bad_tree (first_node b + k) (first_each (nodes b) (tree b) (sheet_checks b accepted).trees k h)

  pub pattern_right_law : (k : ℕ) → k < nodes b → pattern_right b k ≡ true
  unfolding pattern
  pattern_right_law k h =
      required (pattern_right b k) bad_tree (first_node b + k) (first_each (nodes b) (pattern b) (sheet_checks b accepted).patterns k h)

  -- a typed sheet keeps the rules of types
  pub type_right_law : is_typed b ≡ true → (k : ℕ) → k < nodes b → type_right b k ≡ true
  unfolding types typing
  type_right_law t k h =
      required (type_right b k) ill_typed (first_node b + k) (first_each (nodes b) (typing b) (rw t at (sheet_checks b accepted).types) k h)

-- a sheet whose shape and trees pass, whatever its patterns and types
pub record TreesPass (b : List ℕ) : Type 0 where
  pub shape : file_shape Sheet b ≡ Accepted
  pub right : (k : ℕ) → k < nodes b → tree_right b k ≡ true

pub trees_pass : (b : List ℕ) → sheet_verdict b ≡ Accepted → TreesPass b
trees_pass b accepted = record { shape = sheet_shape b accepted; right = tree_right_law b accepted }

module _ (b : List ℕ) (accepted : translation_verdict b ≡ Accepted) where
  pub translation_shape : file_shape Translation b ≡ Accepted
  unfolding translation_verdict
  translation_shape = (both_accepted (file_shape Translation b) (first_of (due b) (references b)) accepted).0

  pub translation_in_range : (r : ℕ) → r < due b → in_range b r (record_of b r) ≡ true
  unfolding translation_verdict references
  translation_in_range r h =
      required (in_range b r (record_of b r)) out_of_range r
      (first_each (due b) (references b) (both_accepted (file_shape Translation b) (first_of (due b) (references b)) accepted).1 r h)
