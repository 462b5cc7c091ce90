-- The clauses of an accepted sheet's cases: how many there are, that they name the sheet's constructors, and that what a
-- constructor chooses is one of them.
use mathlib.Core.Path.{◌≡◌, refl}
use Prim.Native.Nat.{ℕ, suc, ◌+◌, ◌*◌, ◌≤◌, ◌<◌}
use mathlib.Core.List.{List, [], ◌∷◌}
use mathlib.Core.Option.{some, none-ne-some}
use mathlib.Core.Bool.{Bool, true, false, cond}
use lib.ListN.{length, get_elem?}
use lib.Dec.{ltb, eqb}
use borrow.Author.Tests.{ltb-true, eqb-true}
use Rattle.definitions.specs.Records.{field}
use Rattle.definitions.specs.Lists.{all_of}
use Rattle.definitions.specs.Layouts.{items, nodes, first_node, node_record}
use Rattle.definitions.specs.References.{clauses, clause_constructor, names_in_range}
use Rattle.definitions.specs.NodeFields.{Clause, clause_list, chosen}
use Rattle.definitions.specs.SheetNodes.{case_of, sheet_node_of}
use Rattle.definitions.specs.Checks.{sheet_verdict}
use Rattle.definitions.specs.Verdict.{Accepted}
use Rattle.laws.proofs.Lists.{listed_length, all_each}
use Rattle.accepted.proofs.SheetRecords.{SheetRecord, is_case_law, node_is}
use Rattle.accepted.proofs.Children.{clause_found}
use Rattle.accepted.proofs.Checks.{sheet_shape}
use Rattle.accepted.proofs.Names.{node_names}

-- the clause that a constructor chooses
pub record ChosenClause (cs : List Clause) (c m : ℕ) : Type 0 where
  pub place : ℕ
  pub clause : Clause
  pub there : get_elem? cs place ≡ some clause
  pub names : clause.constructor ≡ c
  pub leads : clause.node ≡ m

further : (l : Clause) (ls : List Clause) (c m : ℕ) → ChosenClause ls c m → ChosenClause (l ∷ ls) c m
further l ls c m f =
    record { place = suc f.place; clause = f.clause; there = f.there; names = f.names; leads = f.leads }

chosen_by : (l : Clause) (ls : List Clause) (c m : ℕ) (t : Bool) → eqb l.constructor c ≡ t
    → (chosen ls c ≡ some m → ChosenClause ls c m)
    → cond t (some l.node) (chosen ls c) ≡ some m → ChosenClause (l ∷ ls) c m
chosen_by l ls c m true e f g = record { place = 0; clause = l; there = refl; names = eqb-true l.constructor c e; leads = cc }
chosen_by l ls c m false e f g = further l ls c m (f g)

pub chosen_found : (cs : List Clause) (c m : ℕ) → chosen cs c ≡ some m → ChosenClause cs c m
unfolding chosen
chosen_found [] c m e = absurd (none-ne-some m e)
chosen_found (l ∷ ls) c m e = chosen_by l ls c m (eqb l.constructor c) refl (chosen_found ls c m) e

-- over a case's record
module _ (b rec : List ℕ) (r : ℕ) where
  constructors_named : {n : ℕ} {cs : List Clause} → SheetRecord rec (case_of n cs) → names_in_range b r rec ≡ true
      → (j : ℕ) {c : Clause} → get_elem? cs j ≡ some c → c.constructor < items b
  unfolding names_in_range
  constructors_named (is_case_law e m l g) h j p =
      let f = clause_found rec j p in
      let t : all_of (clauses rec) (λ i. ltb (clause_constructor rec i) (items b)) ≡ true = rw e at h in
      let u = ltb-true (clause_constructor rec j) (items b) (all_each (clauses rec) (λ i. ltb (clause_constructor rec i) (items b)) t j f.below) in
      rw f.names at u

clause_count : (rec : List ℕ) {n : ℕ} {cs : List Clause} → SheetRecord rec (case_of n cs) → (1 ≤ length cs) × (length cs ≤ 64)
unfolding clause_list
clause_count rec (is_case_law e m l g) =
    let c = listed_length {A = Clause} (clauses rec) (λ j. record { constructor = clause_constructor rec j; node = field rec (2 + 2 * j) }) in
    (rw c l, rw c g)

module _ (b : List ℕ) (accepted : sheet_verdict b ≡ Accepted) (k : ℕ) (h : k < nodes b) {n : ℕ} {cs : List Clause} (e : sheet_node_of b k ≡ case_of n cs) where
  -- there is at least one clause, and at most 64 are
  pub clauses_least : 1 ≤ length cs
  clauses_least = (clause_count (node_record b k) (node_is b (sheet_shape b accepted) k h e)).0

  pub clauses_limit : length cs ≤ 64
  clauses_limit = (clause_count (node_record b k) (node_is b (sheet_shape b accepted) k h e)).1

  -- a clause names one of the sheet's constructors
  pub clause_below : (j : ℕ) {c : Clause} → get_elem? cs j ≡ some c → c.constructor < items b
  clause_below j p =
      constructors_named b (node_record b k) (first_node b + k) (node_is b (sheet_shape b accepted) k h e) (node_names b accepted k h) j p
