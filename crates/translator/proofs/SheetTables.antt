-- Laws of a table of sums while it is filled, and of what is read through the tables of owners, of runs and of first formals.
use mathlib.Core.Path.{◌≡◌, refl, sym, ◌∙◌}
use Prim.Native.Nat.{ℕ, suc, ◌+◌, ◌-◌, ◌≤◌, ◌<◌}
use mathlib.Core.List.{List}
use native.Mathlib.Omega.{arith}
use lib.ListN.{length, get_or, set, length-set}
use Rattle.definitions.specs.Sizes.{most_functions, most_nodes, most_formals, most_fields}
use Rattle.definitions.specs.Records.{record_at, field}
use Rattle.definitions.specs.Lists.{sum_of}
use Rattle.definitions.specs.Layouts.{functions, nodes, first_node, owner_of, body_of}
use Rattle.definitions.specs.References.{parameters}
use Rattle.definitions.specs.Shape.{file_shape}
use Rattle.definitions.specs.Verdict.{Accepted}
use Rattle.definitions.specs.SheetNodes.{scrutinee_of}
use Rattle.definitions.specs.Translate.{formal_of}
use Rattle.definitions.specs.declared.Layout.TheVariants.{Sheet}
use Rattle.laws.proofs.Lists.{sum_more}
use Rattle.accepted.proofs.Sums.{sum_limit}
use Rattle.accepted.proofs.Head.{nodes_limit, functions_limit}
use Rattle.accepted.proofs.Sections.{parameters_limit}
use Rattle.accepted.proofs.Owners.{owner_below, body_before_end, body_below}
use Rattle.file_records.specs.Index.{start_in}
use Rattle.file_records.proofs.Indices.{node_reached}
use Rattle.file_runs.proofs.RunTables.{entry_more}
use Rattle.tree_classes.specs.Classes.{ReadTables}
use Rattle.translator.specs.Tables.{OwnerFormals}

-- all formals
pub formals_few : (b : List ℕ) → file_shape Sheet b ≡ Accepted → sum_of (functions b) (parameters b) ≤ most_formals
formals_few b shaped = omega (arith, sum_limit (functions b) most_fields (parameters b) (parameters_limit b shaped), functions_limit Sheet b shaped)

-- the sums of the terms of the first f functions are in the table
pub record Summing (at : ℕ → ℕ) (sums : List ℕ) (count total f : ℕ) : Type 0 where
  pub reached : f ≤ count
  pub few : count ≤ most_functions
  pub size : length sums ≡ most_functions + 1
  pub summed : total ≡ sum_of f at
  pub entry : (i : ℕ) → i < f + 1 → get_or sums i 0 ≡ sum_of i at

module _ {at : ℕ → ℕ} where
  pub summing_begins : {sums : List ℕ} {count : ℕ} → count ≤ most_functions → length sums ≡ most_functions + 1 → get_or sums 0 0 ≡ 0
      → Summing at sums count 0 0
  unfolding sum_of
  summing_begins l s z =
      record {
        reached = omega arith;
        few = l;
        size = s;
        summed = refl;
        entry = λ i h. let q : i ≡ 0 = omega arith in rw q z;
      }

  pub summing_goes_on : {sums : List ℕ} {count total f x : ℕ} → Summing at sums count total f → f < count → x ≡ at f
      → Summing at (set sums (f + 1) (total + x)) count (total + x) (f + 1)
  summing_goes_on {sums} {total} {f} {x} w h e =
      let s : total + x ≡ sum_of (f + 1) at = rw (sum_more f at, w.summed, e) refl in
      record {
        reached = omega (arith, h);
        few = w.few;
        size = length-set sums (f + 1) (total + x) ∙ w.size;
        summed = s;
        entry = entry_more (λ i v. v ≡ sum_of i at) sums (f + 1) (total + x) (omega (arith, w.size, w.few, h)) w.entry s;
      }

-- the formal of a parameter, by the tables of owners and of first formals
module _ {b owners formals : List ℕ} {k : ℕ} (w : OwnerFormals b owners formals k) where
  pub formal_narrow : k < most_nodes
  formal_narrow = omega (arith, w.below, nodes_limit Sheet b w.shaped)

  pub formal_owner : {x : ℕ} → x ≡ get_or owners k 0 → x < most_functions
  formal_owner {x} e =
      let o : x ≡ owner_of Sheet b k = e ∙ w.owned.entry k w.below in
      omega (arith, o, owner_below Sheet b w.shaped k w.below, functions_limit Sheet b w.shaped)

  pub formal_is : {x y z i : ℕ} → x ≡ get_or owners k 0 → y ≡ get_or formals x 0 → z ≡ i → y + z ≡ formal_of b (owner_of Sheet b k) i
  unfolding formal_of
  formal_is {x} e f g =
      let o : x ≡ owner_of Sheet b k = e ∙ w.owned.entry k w.below in
      let h : owner_of Sheet b k < functions b = owner_below Sheet b w.shaped k w.below in
      rw (f, o, g, w.summed.entry (owner_of Sheet b k) (omega (arith, h))) refl

-- the scrutinee, by the tables of owners and of runs
module _ {b starts ends owners : List ℕ} {k : ℕ} (w : ReadTables b starts ends owners) (h : k < nodes b) where
  pub scrutinee_narrow : k < most_nodes
  scrutinee_narrow = omega (arith, h, nodes_limit Sheet b w.sheet.file.accepted)

  owner_few : owner_of Sheet b k < functions b
  owner_few = owner_below Sheet b w.sheet.file.accepted k h

  pub scrutinee_owner : {x : ℕ} → x ≡ get_or owners k 0 → x < most_functions
  scrutinee_owner {x} e =
      let o : x ≡ owner_of Sheet b k = e ∙ w.owned.entry k h in
      omega (arith, o, owner_few, functions_limit Sheet b w.sheet.file.accepted)

  pub scrutinee_end : (x y : ℕ) → x ≡ get_or owners k 0 → y ≡ get_or ends x 0 → y ≡ suc (body_of Sheet b (owner_of Sheet b k))
  scrutinee_end x y e f =
      let o : x ≡ owner_of Sheet b k = e ∙ w.owned.entry k h in
      f ∙ rw (o, w.runs.entry (owner_of Sheet b k) owner_few) (sym (body_before_end Sheet b w.sheet.file.accepted (owner_of Sheet b k) owner_few))

  pub scrutinee_read : {x y first z : ℕ} {rec : List ℕ} → x ≡ get_or owners k 0 → y ≡ get_or ends x 0 → first ≡ first_node b
      → rec ≡ record_at b (start_in starts (first + (y - 1))) → z ≡ field rec 0 → z ≡ scrutinee_of b k
  unfolding scrutinee_of
  scrutinee_read {x} {y} {first} {rec} e f g p q =
      let n : y - 1 ≡ body_of Sheet b (owner_of Sheet b k) = omega (arith, scrutinee_end x y e f) in
      q ∙ rw (node_reached Sheet b starts (y - 1) first rec w.sheet.file (omega (arith, n, body_below Sheet b w.sheet.file.accepted (owner_of Sheet b k) owner_few)) g p, n) refl
