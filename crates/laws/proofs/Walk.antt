-- Laws of the walk over a file's records: what the acceptance of a record says of the next place, and how the walk's
-- verdict comes about.
use mathlib.Core.Path.{◌≡◌}
use Prim.Native.Nat.{ℕ, ◌+◌, ◌≤◌}
use mathlib.Core.List.{List}
use mathlib.Core.Bool.{true, and-eq-true_iff}
use native.Mathlib.Omega.{arith}
use borrow.Author.Tests.{leb-true}
use Rattle.definitions.specs.Bytes.{word}
use Rattle.definitions.specs.Records.{whole, record_at}
use Rattle.definitions.specs.Kinds.{row_of, allows}
use Rattle.definitions.specs.Layouts.{readings, items, functions, nodes, due, is_due}
use Rattle.definitions.specs.Shape.{item_limit, head_counts, counts, operator_code, shape_at}
use Rattle.definitions.specs.Sizes.{most_readings, most_functions, most_nodes, most_formals, most_records}
use Rattle.laws.proofs.Ranges.{within_by}
use Rattle.definitions.specs.declared.Layout.{Layout}
use Rattle.definitions.specs.declared.Layout.TheVariants.{Sheet, Translation}
use Rattle.definitions.specs.Verdict.{Accepted}
use Rattle.laws.proofs.Records.{is_whole}
use Rattle.laws.proofs.KindRows.{allowed_least}
use Rattle.laws.proofs.Verdicts.{both_accepted, required}

-- what the acceptance of the record at a place says
pub record Shaped (y : Layout) (b : List ℕ) (r at : ℕ) : Type 0 where
  pub due : is_due y b r (word b (at + 2)) ≡ true
  pub allowed : allows (row_of (word b (at + 2))) (word b at) ≡ true
  pub whole : whole b at ≡ true
  pub code : operator_code (record_at b at) ≡ true
  pub counts : counts y b r (record_at b at) ≡ true

pub shaped : (y : Layout) (b : List ℕ) (r at : ℕ) → shape_at y b r at ≡ Accepted → Shaped y b r at
unfolding shape_at
shaped y b r at e =
    let k₄ = both_accepted _ _ e in
    let k₃ = both_accepted _ _ k₄.0 in
    let k₂ = both_accepted _ _ k₃.0 in
    let k₁ = both_accepted _ _ k₂.0 in
    let p = (and-eq-true_iff _ _).0 (required _ 3 r k₁.1) in
    record {
      due = p.0;
      allowed = p.1;
      whole = is_whole b at (record { least = allowed_least _ _ p.1; inside = leb-true _ _ (required _ 1 r k₂.1) });
      code = required _ 3 r k₃.1;
      counts = required _ 4 r k₄.1;
    }

-- the head's ranges
pub record HeadRanges (y : Layout) (b : List ℕ) : Type 0 where
  pub readings : readings b ≤ most_readings
  pub items : items b ≤ item_limit y
  pub function : 1 ≤ functions b
  pub functions : functions b ≤ most_functions
  pub node : 1 ≤ nodes b
  pub nodes : nodes b ≤ most_nodes

pub head_ranges : (y : Layout) (b rec : List ℕ) → counts y b 0 rec ≡ true → HeadRanges y b
unfolding counts head_counts
head_ranges y b rec e =
    let k₃ = (and-eq-true_iff _ _).0 e in
    let k₂ = (and-eq-true_iff _ _).0 k₃.0 in
    let k₁ = (and-eq-true_iff _ _).0 k₂.0 in
    let f = within_by 1 most_functions (functions b) k₂.1 in
    let n = within_by 1 most_nodes (nodes b) k₃.1 in
    record {
      readings = (within_by 0 most_readings (readings b) k₁.0).greatest;
      items = (within_by 0 (item_limit y) (items b) k₁.1).greatest;
      function = f.least;
      functions = f.greatest;
      node = n.least;
      nodes = n.greatest;
    }

item_room : (y : Layout) → item_limit y ≤ most_formals
item_room Sheet = omega arith
item_room Translation = omega arith

pub due_room : (y : Layout) (b : List ℕ) → HeadRanges y b → due b ≤ most_records
due_room y b h = omega (arith, item_room y, h.items, h.functions, h.nodes)
