-- Laws of the tables of places and of scrutinees' classes while they are filled.
use mathlib.Core.Path.{◌≡◌, refl, sym, ◌∙◌}
use Prim.Native.Nat.{ℕ, suc, ◌+◌, ◌-◌, ◌<◌}
use mathlib.Core.List.{List}
use native.Mathlib.Omega.{arith}
use lib.ListN.{get_or, set, length-set}
use Rattle.definitions.specs.Sizes.{most_functions, most_nodes}
use Rattle.definitions.specs.Records.{record_at, kind_of, field}
use Rattle.definitions.specs.Layouts.{functions, nodes, first_node, node_record, body_of, owner_of}
use Rattle.definitions.specs.declared.Layout.TheVariants.{Sheet}
use Rattle.accepted.proofs.Head.{nodes_limit, functions_limit}
use Rattle.accepted.proofs.Owners.{owner_below, body_before_end, body_below}
use Rattle.file_records.specs.Index.{start_in}
use Rattle.file_records.proofs.Indices.{node_reached}
use Rattle.file_runs.proofs.RunTables.{entry_more}
use Rattle.tree_classes.specs.Classes.{OwnedSheet, EndedSheet}
use Rattle.tree_classes.specs.Places.{place_of, Placed, ScrutineeClasses}

-- node k, whose owner and kind are read through the tables
module _ {b starts owners : List ℕ} {k count : ℕ} (w : OwnedSheet b starts owners) (h : k < count) (e : count ≡ nodes b) where
  below : k < nodes b
  below = omega (arith, h, e)

  pub place_narrow : k < most_nodes
  place_narrow = omega (arith, below, nodes_limit Sheet b w.sheet.file.accepted)

  pub owner_narrow : {f : ℕ} → f ≡ get_or owners k 0 → f < most_functions
  owner_narrow {f} g =
      let o : f ≡ owner_of Sheet b k = g ∙ w.owned.entry k below in
      omega (arith, o, owner_below Sheet b w.sheet.file.accepted k below, functions_limit Sheet b w.sheet.file.accepted)

  pub placed_more : {scrutinee : ℕ → ℕ} {places rec : List ℕ} {first kind f x : ℕ} → Placed b scrutinee places k → first ≡ first_node b
      → rec ≡ record_at b (start_in starts (first + k)) → kind ≡ kind_of rec → f ≡ get_or owners k 0 → x ≡ place_of scrutinee kind f
      → Placed b scrutinee (set places k x) (k + 1)
  placed_more {scrutinee} {places} {rec} {first} {kind} {f} {x} d p q z g y =
      let r = node_reached Sheet b starts k first rec w.sheet.file below p q in
      let here : x ≡ place_of scrutinee (kind_of (node_record b k)) (owner_of Sheet b k) = y ∙ rw (z, r, g, w.owned.entry k below) refl in
      record {
        size = length-set places k x ∙ d.size;
        entry = entry_more (λ i v. v ≡ place_of scrutinee (kind_of (node_record b i)) (owner_of Sheet b i)) places k x (omega (arith, d.size, place_narrow)) d.entry here;
      }

-- function f, whose body is read through the table of ends
module _ {b starts ends : List ℕ} {f count : ℕ} (w : EndedSheet b starts ends) (h : f < count) (e : count ≡ functions b) where
  among : f < functions b
  among = omega (arith, h, e)

  pub function_narrow : f < most_functions
  function_narrow = omega (arith, among, functions_limit Sheet b w.sheet.file.accepted)

  pub end_is : (x : ℕ) → x ≡ get_or ends f 0 → x ≡ suc (body_of Sheet b f)
  end_is x g = g ∙ w.runs.entry f among ∙ sym (body_before_end Sheet b w.sheet.file.accepted f among)

  pub classed_more : {class : ℕ → ℕ} {scrutinees rec : List ℕ} {first x n y : ℕ} → ScrutineeClasses b class scrutinees f → first ≡ first_node b → x ≡ get_or ends f 0
      → rec ≡ record_at b (start_in starts (first + (x - 1))) → n ≡ field rec 0 → y ≡ class n → ScrutineeClasses b class (set scrutinees f y) (f + 1)
  classed_more {class} {scrutinees} {rec} {first} {x} {n} {y} d p g q z u =
      let body : x - 1 ≡ body_of Sheet b f = omega (arith, end_is x g) in
      let inside = body_below Sheet b w.sheet.file.accepted f among in
      let r = node_reached Sheet b starts (x - 1) first rec w.sheet.file (omega (arith, body, inside)) p q in
      let here : y ≡ class (field (node_record b (body_of Sheet b f)) 0) = u ∙ rw (z, r, body) refl in
      record {
        size = length-set scrutinees f y ∙ d.size;
        entry = entry_more (λ g v. v ≡ class (field (node_record b (body_of Sheet b g)) 0)) scrutinees f y (omega (arith, d.size, function_narrow)) d.entry here;
      }
