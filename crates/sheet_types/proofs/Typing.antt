-- The loop over a sheet's nodes that finds the type of each and tests its rules.
use mathlib.Core.Path.{◌≡◌, refl, ◌∙◌}
use Prim.Native.Nat.{ℕ, ◌+◌, ◌≤◌, ◌<◌}
use mathlib.Core.List.{List}
use mathlib.Core.Bool.{Bool, true, false, cond, ◌||◌}
use native.Mathlib.Omega.{arith}
use lib.ListN.{set, length, length-set}
use lib.Dec.{eqb}
use Rattle.definitions.specs.Sizes.{most_nodes}
use Rattle.definitions.specs.Numbers.{ill_typed}
use Rattle.definitions.specs.Records.{record_at}
use Rattle.definitions.specs.Verdicts.{first_of}
use Rattle.definitions.specs.Layouts.{nodes, first_node, node_record, owner_of}
use Rattle.definitions.specs.SheetRules.{is_body}
use Rattle.definitions.specs.Types.{result_type, type_by, type_of, children_typed, is_clause, typing}
use Rattle.definitions.specs.declared.Layout.TheVariants.{Sheet}
use Rattle.definitions.specs.Verdict.{Refused}
use Rattle.file_records.specs.Index.{start_in}
use Rattle.file_records.proofs.Indices.{opened_record}
use Rattle.sheet_rules.specs.Nodes.{NodeAt}
use Rattle.sheet_rules.specs.Clauses.{ClausesOf, Ruled}
use Rattle.sheet_rules.proofs.Ruling.{Ruling, ruling_begins, ruling_below, ruling_more, ruling_refused}
use Rattle.sheet_types.specs.Tables.{type_in, TypesBelow, NamedAt, TypedAt}
use Rattle.sheet_types.proofs.TypeSteps.{node_in_table, type_found, children_found, types_none, types_more, children_ill_typed, result_ill_typed, well_typed}

-- before node k: the nodes before it keep the rules, and their types are in the table
pub record Typing (b starts ends owners parents held types : List ℕ) (first count k : ℕ) : Type 0 where
  pub ruling : Ruling b starts first count k (typing b)
  pub ruled : Ruled b starts ends owners parents
  pub clauses : ClausesOf b held
  pub table : TypesBelow b types k
  pub size : length types ≡ most_nodes

pub typing_begins : {b starts ends owners parents held types : List ℕ} {first count : ℕ} → Ruled b starts ends owners parents → ClausesOf b held
    → length types ≡ most_nodes → (first ≡ first_node b) × (first ≤ 131071) → count ≡ nodes b
    → Typing b starts ends owners parents held types first count 0
typing_begins u c l f n = record { ruling = ruling_begins u.file f n; ruled = u; clauses = c; table = types_none; size = l }

module _ {b starts ends owners parents held types : List ℕ} {first count k : ℕ} (w : Typing b starts ends owners parents held types first count k)
    (h : k < count) where
  pub named_at : NamedAt b starts k
  named_at = record { file = w.ruled.file; checks = w.ruled.checks; below = ruling_below w.ruling h }

  pub typed_at : TypedAt b starts owners held k
  typed_at = record { node = named_at; owned = w.ruled.owned; clauses = w.clauses }

  pub node_at : NodeAt b starts ends owners k
  node_at = record { file = w.ruled.file; runs = w.ruled.runs; owned = w.ruled.owned; below = ruling_below w.ruling h }

  pub typing_room : k < most_nodes
  typing_room = node_in_table named_at

  module _ {rec : List ℕ} (er : rec ≡ record_at b (start_in starts (first + k))) where
    pub typing_record : rec ≡ node_record b k
    typing_record =
        let below = ruling_below w.ruling h in
        let start = w.ruling.start in
        opened_record Sheet b starts (first + k) rec w.ruled.file (omega (arith, start, below)) er ∙ rw start refl

    module _ {t : ℕ} (et : t ≡ type_by b (type_in types) k rec) where
      found : t ≡ type_of b k
      found = type_found named_at typing_record w.table et

      table_after : TypesBelow b (set types k t) (k + 1)
      table_after = types_more w.table w.size typing_room found

      module _ {c : Bool} (ec : c ≡ children_typed b (type_in (set types k t)) rec) where
        asked : c ≡ children_typed b (type_of b) (node_record b k)
        asked = children_found named_at typing_record table_after ec

        pub children_refused : c ≡ false → Refused ill_typed (first + k) ≡ first_of (nodes b) (typing b)
        children_refused e = ruling_refused w.ruling h (children_ill_typed b k w.ruling.start asked e)

        module _ (hc : c ≡ true) {r : Bool} (eq : r ≡ cond (is_body b k || is_clause b k) (eqb t (result_type b (owner_of Sheet b k))) true) where
          pub result_refused : r ≡ false → Refused ill_typed (first + k) ≡ first_of (nodes b) (typing b)
          result_refused e = ruling_refused w.ruling h (result_ill_typed b k w.ruling.start asked hc found eq e)

          pub typing_goes_on : r ≡ true → Typing b starts ends owners parents held (set types k t) first count (k + 1)
          typing_goes_on e =
              record {
                ruling = ruling_more w.ruling h (well_typed b k w.ruling.start asked hc found eq e) refl;
                ruled = w.ruled;
                clauses = w.clauses;
                table = table_after;
                size = length-set types k t ∙ w.size;
              }
