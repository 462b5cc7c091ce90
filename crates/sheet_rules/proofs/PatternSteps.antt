-- Laws of the pattern rules over an opened sheet's tables.
use mathlib.Core.Path.{◌≡◌, refl, sym, ◌∙◌}
use Prim.Native.Nat.{ℕ, ◌+◌, ◌-◌, ◌≤◌, ◌<◌}
use mathlib.Core.List.{List}
use mathlib.Core.Option.{Option, none, some}
use mathlib.Core.Bool.{Bool, true, false}
use native.Mathlib.Omega.{arith}
use native.Mathlib.Decide.{ℕ_discrete}
use native.Mathlib.Nat.{add-sub_cancel_left}
use lib.ListN.{get_or, set, length, length-set}
use lib.Seq.{get_or-set_same, get_or-set_other}
use lib.Dec.{ltb}
use Rattle.definitions.specs.Numbers.{bad_tree}
use Rattle.definitions.specs.SheetKinds
use Rattle.definitions.specs.Sizes.{most_nodes}
use borrow.Author.Tests.{ne_eqb}
use Rattle.definitions.specs.Records.{record_at, kind_of, field}
use Rattle.definitions.specs.Layouts.{items, nodes, first_node, node_record}
use Rattle.definitions.specs.References.{arity, clauses}
use Rattle.definitions.specs.SheetRules.{is_body, parent_of, clause_of, clause_within, below_arity, pattern_right, pattern}
use Rattle.definitions.specs.declared.Layout.TheVariants.{Sheet}
use Rattle.definitions.specs.Verdict.{Accepted, Refused}
use Rattle.laws.proofs.Verdicts.{require_true, require_false}
use Rattle.accepted.proofs.Head.{nodes_limit}
use Rattle.file_records.specs.Index.{Opened, start_in}
use Rattle.sheet_rules.specs.Nodes.{NodeAt}
use Rattle.sheet_rules.specs.Seen.{ParentsOf, TreesAccepted}
use Rattle.sheet_rules.specs.Clauses.{entry_of, ClausesOf, ClausesFrom, Ruled}
use Rattle.file_records.proofs.Indices.{opened_record}
use Rattle.sheet_rules.proofs.ClauseTable.{parent_above, entry_of_body, entry_of_clause, entry_of_parent, within_below}

-- the parent of a node that is no body
module _ {b starts ends owners parents : List ℕ} {k : ℕ} (w : NodeAt b starts ends owners k) (q : ParentsOf b parents) (a : TreesAccepted b) where
  pub body_entry : {t : Bool} → t ≡ is_body b k → t ≡ true → 0 ≡ entry_of (clause_within b (nodes b) k)
  body_entry {t} e f = entry_of_body b a.trees k t w.below e f

  module _ {t : Bool} (et : t ≡ is_body b k) (ht : t ≡ false) {p : ℕ} (ep : p ≡ get_or parents k 0) where
    pub parent_is : p ≡ parent_of b k
    parent_is = ep ∙ q.entry k w.below

    parent_larger : k < p
    parent_larger = rw parent_is (parent_above b a.trees k w.below (sym et ∙ ht)).0

    parent_node : p < nodes b
    parent_node = rw parent_is (parent_above b a.trees k w.below (sym et ∙ ht)).1

    pub parent_in_table : p < most_nodes
    parent_in_table = omega (arith, parent_node, nodes_limit Sheet b w.file.accepted)

    module _ {f : ℕ} (ef : f ≡ first_node b) {rec : List ℕ} (er : rec ≡ record_at b (start_in starts (f + p))) {i : ℕ} (ei : i ≡ kind_of rec) where
      pub parent_record : rec ≡ node_record b p
      parent_record = opened_record Sheet b starts (f + p) rec w.file (omega (arith, ef, parent_node)) er ∙ rw ef refl

      pub clause_entry : {x : ℕ} → i ≡ SheetKinds.case_of → x ≡ entry_of (clause_of rec (clauses rec) k) → x ≡ entry_of (clause_within b (nodes b) k)
      clause_entry {x} e g = entry_of_clause b a.trees k w.below t et ht p parent_is rec parent_record i ei x e g

      pub parent_entry : {held : List ℕ} → ClausesFrom b held (k + 1) → (i ≡ SheetKinds.case_of → ⊥) → get_or held p 0 ≡ entry_of (clause_within b (nodes b) k)
      parent_entry {held} c e =
          entry_of_parent b a.trees k w.below t et ht p parent_is rec parent_record i ei (get_or held p 0) e
          (c.entry p (omega (arith, parent_larger)) parent_node)

-- the table while it is filled
pub record FillingClauses (b starts ends owners parents held : List ℕ) (k : ℕ) : Type 0 where
  pub ruled : Ruled b starts ends owners parents
  pub size : length held ≡ most_nodes
  pub reached : k ≤ nodes b
  pub room : k ≤ most_nodes
  pub right : ClausesFrom b held k

pub filling_begins : {b starts ends owners parents held : List ℕ} {k : ℕ} → Ruled b starts ends owners parents → length held ≡ most_nodes → k ≡ nodes b
    → FillingClauses b starts ends owners parents held k
filling_begins {b} u s e =
    record {
      ruled = u;
      size = s;
      reached = omega (arith, e);
      room = omega (arith, e, nodes_limit Sheet b u.file.accepted);
      right = record { entry = λ j h l. absurd (omega (arith, e, h, l)) };
    }

module _ {b starts ends owners parents held : List ℕ} {k : ℕ} (w : FillingClauses b starts ends owners parents held k) (h : 0 < k) where
  pub filling_node : NodeAt b starts ends owners (k - 1)
  filling_node = record { file = w.ruled.file; runs = w.ruled.runs; owned = w.ruled.owned; below = omega (arith, w.reached, h) }

  pub filling_from : ClausesFrom b held (k - 1 + 1)
  filling_from = record { entry = λ j i l. w.right.entry j (omega (arith, i, h)) l }

  entry_after : (x j : ℕ) → x ≡ entry_of (clause_within b (nodes b) (k - 1)) → k - 1 ≤ j → j < nodes b → Dec (j ≡ k - 1)
      → get_or (set held (k - 1) x) j 0 ≡ entry_of (clause_within b (nodes b) j)
  entry_after x j e i l (yes q) = rw q (get_or-set_same held (k - 1) x 0 (omega (arith, w.size, w.room, h)) ∙ e)
  entry_after x j e i l (no q) = get_or-set_other held (k - 1) j x 0 q ∙ w.right.entry j (omega (arith, i, q, h)) l

  pub filling_goes_on : {x : ℕ} → x ≡ entry_of (clause_within b (nodes b) (k - 1)) → FillingClauses b starts ends owners parents (set held (k - 1) x) (k - 1)
  filling_goes_on {x} e =
      record {
        ruled = w.ruled;
        size = length-set held (k - 1) x ∙ w.size;
        reached = omega (arith, w.reached);
        room = omega (arith, w.room);
        right = record { entry = λ j i l. entry_after x j e i l (ℕ_discrete j (k - 1)) };
      }

pub filling_done : {b starts ends owners parents held : List ℕ} {k : ℕ} → FillingClauses b starts ends owners parents held k → k ≤ 0 → ClausesOf b held
filling_done w h = record { entry = λ j l. w.right.entry j (omega arith) l }

-- an entry is 0 where there is no clause, and one more than the constructor where there is one
pub entry_none : (o : Option ℕ) (h : ℕ) → h ≡ entry_of o → h < 1 → o ≡ none
unfolding entry_of
entry_none none h e l = refl
entry_none (some c) h e l = absurd (omega (arith, e, l))

pub entry_some : (o : Option ℕ) (h : ℕ) → h ≡ entry_of o → 1 ≤ h → o ≡ some (h - 1)
unfolding entry_of
entry_some none h e l = absurd (omega (arith, e, l))
entry_some (some c) h e l = rw (e, add-sub_cancel_left) refl

-- the rule of node k
module _ {b starts held : List ℕ} {k : ℕ} (o : Opened Sheet b starts) (w : ClausesOf b held) (a : TreesAccepted b) (hk : k < nodes b) where
  pub entry_in_table : k < most_nodes
  entry_in_table = omega (arith, hk, nodes_limit Sheet b o.accepted)

  module _ (h : ℕ) (eh : h ≡ get_or held k 0) where
    entry_is : h ≡ entry_of (clause_within b (nodes b) k)
    entry_is = eh ∙ w.entry k hk

    pub constructor_there : 1 ≤ h → h - 1 < items b
    constructor_there l = within_below b a.trees a.names (nodes b) k (h - 1) hk (entry_some (clause_within b (nodes b) k) h entry_is l)

  module _ {f : ℕ} (ef : f ≡ first_node b) {rec : List ℕ} (er : rec ≡ record_at b (start_in starts (f + k))) {i : ℕ} (ei : i ≡ kind_of rec) where
    own_record : rec ≡ node_record b k
    own_record = opened_record Sheet b starts (f + k) rec o (omega (arith, ef, hk)) er ∙ rw ef refl

    pub pattern_other : (i ≡ SheetKinds.pattern_variable → ⊥) → true ≡ pattern_right b k
    unfolding pattern_right
    pattern_other e = rw (← own_record, ← ei, ne_eqb i SheetKinds.pattern_variable e) refl

    module _ (e : i ≡ SheetKinds.pattern_variable) {h : ℕ} (eh : h ≡ get_or held k 0) where
      pub pattern_outside : h < 1 → false ≡ pattern_right b k
      unfolding pattern_right below_arity
      pattern_outside l = rw (← own_record, ← ei, e, entry_none (clause_within b (nodes b) k) h (entry_is h eh) l) refl

      pub pattern_held : {x n : ℕ} → 1 ≤ h → x ≡ field rec 0 → n ≡ arity b (h - 1) → ltb x n ≡ pattern_right b k
      unfolding pattern_right below_arity
      pattern_held l q r =
          rw (← own_record, ← ei, e, entry_some (clause_within b (nodes b) k) h (entry_is h eh) l, ← q, r) refl

-- the verdict on node k
pub pattern_refused : (b : List ℕ) (k f : ℕ) (t : Bool) → f ≡ first_node b → t ≡ pattern_right b k → t ≡ false → Refused bad_tree (f + k) ≡ pattern b k
unfolding pattern
pattern_refused b k f t e g h = rw e (sym (require_false (pattern_right b k) bad_tree (first_node b + k) (sym g ∙ h)))

pub pattern_accepted : (b : List ℕ) (k : ℕ) (t : Bool) → t ≡ pattern_right b k → t ≡ true → Accepted ≡ pattern b k
unfolding pattern
pattern_accepted b k t g h = sym (require_true (pattern_right b k) bad_tree (first_node b + k) (sym g ∙ h))
