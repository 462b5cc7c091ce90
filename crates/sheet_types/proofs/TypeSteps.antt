-- Laws of the types and their rules over an opened sheet's tables.
use mathlib.Core.Path.{◌≡◌, refl, sym, ap, ◌∙◌}
use Prim.Native.Nat.{ℕ, ◌+◌, ◌-◌, ◌≤◌, ◌<◌}
use mathlib.Core.List.{List}
use mathlib.Core.Bool.{Bool, true, false, cond, not, ◌||◌}
use native.Mathlib.Omega.{arith}
use native.Mathlib.Decide.{ℕ_discrete}
use lib.ListN.{get_or, set, length}
use lib.Seq.{get_or-set_same, get_or-set_other}
use lib.Dec.{eqb}
use borrow.Author.Tests.{lt-ltb, le-ltb, ne_eqb}
use Rattle.definitions.specs.Sizes.{most_nodes}
use Rattle.definitions.specs.Numbers.{ill_typed}
use Rattle.definitions.specs.SheetKinds
use Rattle.definitions.specs.Records.{record_at, kind_of, field, field_count}
use Rattle.definitions.specs.Layouts.{items, functions, nodes, first_item, first_function, first_node, item_record, function_record, node_record, owner_of}
use Rattle.definitions.specs.References.{clauses, clause_constructor}
use Rattle.definitions.specs.SheetNodes.{SheetNode}
use Rattle.definitions.specs.SheetRules.{is_body, parent_of, clause_within}
use Rattle.definitions.specs.Types.{number_type, own_type, result_type, pattern_type, type_by, type_of, children_typed, is_clause_of, is_clause, result_typed, type_right, typing}
use Rattle.definitions.specs.declared.Layout.TheVariants.{Sheet}
use Rattle.definitions.specs.Verdict.{Accepted, Refused}
use Rattle.laws.proofs.Verdicts.{require_true, require_false}
use Rattle.accepted.proofs.Head.{nodes_limit}
use Rattle.accepted.proofs.Owners.{owner_below}
use Rattle.accepted.proofs.SheetRecords.{SheetRecord, is_number, is_reading, is_parameter, is_pattern_variable, is_operator, is_conditional, is_call, is_build, is_case_law, node_record_law}
use Rattle.accepted.proofs.Children.{ChildOf}
use Rattle.accepted.proofs.Types.{same_type_by, same_children, type_of_node}
use Rattle.file_records.specs.Index.{start_in}
use Rattle.file_records.proofs.Indices.{opened_record}
use Rattle.file_runs.specs.Runs.{Owners}
use Rattle.sheet_rules.specs.Nodes.{NodeAt}
use Rattle.sheet_rules.specs.Seen.{ParentsOf, TreesAccepted}
use Rattle.sheet_rules.specs.Clauses.{entry_of, ClausesOf}
use Rattle.sheet_rules.proofs.SheetTables.{opened_function, opened_constructor}
use Rattle.sheet_rules.proofs.PassedRules.{child_smaller, callee_below, constructor_below, clause_constructor_below}
use Rattle.sheet_rules.proofs.PatternSteps.{entry_none, entry_some, constructor_there, parent_is, parent_record}
use Rattle.sheet_types.specs.Tables.{type_in, TypesBelow, NamedAt, CaseAt}

-- an entry of the table
pub type_inside : (types : List ℕ) {c d : ℕ} → d ≡ c → d < most_nodes → get_or types d number_type ≡ type_in types c
unfolding type_in
type_inside types {c} {d} e h = rw (← e, lt-ltb d most_nodes h) refl

pub type_past : (types : List ℕ) {c d : ℕ} → d ≡ c → most_nodes ≤ d → number_type ≡ type_in types c
unfolding type_in
type_past types {c} {d} e h = rw (← e, le-ltb d most_nodes h) refl

-- a node that is no case has at most nine fields
few_fields : (rec : List ℕ) {nd : SheetNode} → SheetRecord rec nd → (kind_of rec ≡ SheetKinds.case_of → ⊥) → field_count rec ≤ 9
few_fields rec (is_number e c) n = omega (arith, c)
few_fields rec (is_reading e c) n = omega (arith, c)
few_fields rec (is_parameter e c) n = omega (arith, c)
few_fields rec (is_pattern_variable e c) n = omega (arith, c)
few_fields rec (is_operator e c) n = omega (arith, c)
few_fields rec (is_conditional e c) n = omega (arith, c)
few_fields rec (is_call e l g) n = g
few_fields rec (is_build e l g) n = g
few_fields rec (is_case_law e c l g) n = absurd (n e)

module _ {b starts : List ℕ} {k : ℕ} (w : NamedAt b starts k) where
  pub node_in_table : k < most_nodes
  node_in_table = omega (arith, w.below, nodes_limit Sheet b w.file.accepted)

  -- a field of the function that owns the node
  pub owner_field : {owners : List ℕ} → Owners b owners → {x : ℕ} → x ≡ get_or owners k 0 → (j : ℕ) {y : ℕ}
      → y ≡ field (record_at b (start_in starts (first_function Sheet b + x))) j
      → y ≡ field (function_record Sheet b (owner_of Sheet b k)) j
  owner_field o {x} e j h =
      let is : x ≡ owner_of Sheet b k = e ∙ o.entry k w.below in
      let below = owner_below Sheet b w.file.accepted k w.below in
      opened_function b starts (owner_of Sheet b k) j w.file below (rw is at h)

  -- the type of a pattern variable
  module _ {held : List ℕ} (c : ClausesOf b held) {h : ℕ} (eh : h ≡ get_or held k 0) (i : ℕ) where
    entry_is : h ≡ entry_of (clause_within b (nodes b) k)
    entry_is = eh ∙ c.entry k w.below

    pub pattern_outside : h < 1 → number_type ≡ pattern_type b i (clause_within b (nodes b) k)
    pattern_outside l = rw (entry_none (clause_within b (nodes b) k) h entry_is l) refl

    pub pattern_inside : {y : ℕ} → 1 ≤ h → y ≡ field (record_at b (start_in starts (first_item Sheet b + (h - 1)))) (2 + i)
        → y ≡ pattern_type b i (clause_within b (nodes b) k)
    pattern_inside l e =
        rw (entry_some (clause_within b (nodes b) k) h entry_is l)
        (opened_constructor b starts (h - 1) (2 + i) w.file (constructor_there w.file c w.checks w.below h eh l) e)

  pub few_arguments : {rec : List ℕ} → rec ≡ node_record b k → {i : ℕ} → i ≡ kind_of rec → (i ≡ SheetKinds.case_of → ⊥) → field_count rec ≤ 9
  few_arguments er ei n = rw er (few_fields (node_record b k) (node_record_law b w.file.accepted k w.below) (λ e. n (ei ∙ ap kind_of er ∙ e)))

  -- what a call and a build name
  module _ {rec : List ℕ} (er : rec ≡ node_record b k) {i : ℕ} (ei : i ≡ kind_of rec) {x : ℕ} (ex : x ≡ field rec 0) where
    callee_there : i ≡ SheetKinds.call → x < functions b
    callee_there e = rw (ex, er) (callee_below b w.checks.names k w.below (ap kind_of (sym er) ∙ sym ei ∙ e))

    constructor_named : i ≡ SheetKinds.build → x < items b
    constructor_named e = rw (ex, er) (constructor_below b w.checks.names k w.below (ap kind_of (sym er) ∙ sym ei ∙ e))

    pub callee_field : i ≡ SheetKinds.call → (j : ℕ) {y : ℕ} → y ≡ field (record_at b (start_in starts (first_function Sheet b + x))) j
        → y ≡ field (function_record Sheet b (field rec 0)) j
    callee_field e j h = rw (← ex) (opened_function b starts x j w.file (callee_there e) h)

    pub constructor_field : i ≡ SheetKinds.build → (j : ℕ) {y : ℕ} → y ≡ field (record_at b (start_in starts (first_item Sheet b + x))) j
        → y ≡ field (item_record Sheet b (field rec 0)) j
    constructor_field e j h = rw (← ex) (opened_constructor b starts x j w.file (constructor_named e) h)

    pub callee_record : i ≡ SheetKinds.call → {f : ℕ} {callee : List ℕ} → f ≡ first_function Sheet b → callee ≡ record_at b (start_in starts (f + x))
        → callee ≡ function_record Sheet b (field rec 0)
    callee_record e {f} {callee} g h =
        rw (← ex) (opened_record Sheet b starts (f + x) callee w.file (omega (arith, g, callee_there e)) h ∙ rw g refl)

    pub constructor_record : i ≡ SheetKinds.build → {f : ℕ} {declared : List ℕ} → f ≡ first_item Sheet b → declared ≡ record_at b (start_in starts (f + x))
        → declared ≡ item_record Sheet b (field rec 0)
    constructor_record e {f} {declared} g h =
        rw (← ex) (opened_record Sheet b starts (f + x) declared w.file (omega (arith, g, constructor_named e)) h ∙ rw g refl)

-- a clause of the node, which is a case
pub clause_type : {b starts rec : List ℕ} {k : ℕ} → CaseAt b starts k rec → {n j : ℕ} → n ≡ clauses rec → j < n → {c y : ℕ} → c ≡ clause_constructor rec j
    → y ≡ field (record_at b (start_in starts (first_item Sheet b + c))) 1
    → y ≡ own_type b (clause_constructor rec j)
clause_type {b} {starts} {rec} {k} w {n} {j} m h {c} e g =
    let at = w.node in
    let l : j < clauses rec = rw m at h in
    let below = clause_constructor_below b at.checks.names k at.below (rw w.is at w.kind) j (rw w.is at l) in
    rw (← e) (opened_constructor b starts c 1 at.file (rw (e, w.is) below) g)

-- whether node k is a body or a clause's node
module _ {b starts ends owners parents : List ℕ} {k : ℕ} (w : NodeAt b starts ends owners k) (q : ParentsOf b parents) (a : TreesAccepted b)
    {t : Bool} (et : t ≡ is_body b k) where
  pub result_body : t ≡ true → true ≡ (is_body b k || is_clause b k)
  result_body e = rw (← et, e) refl

  module _ (ht : t ≡ false) {p : ℕ} (ep : p ≡ get_or parents k 0) {f : ℕ} (ef : f ≡ first_node b) {rec : List ℕ}
      (er : rec ≡ record_at b (start_in starts (f + p))) {i : ℕ} (ei : i ≡ kind_of rec) where
    own_parent : rec ≡ node_record b (parent_of b k)
    own_parent = parent_record w q a et ht ep ef er ei ∙ ap (node_record b) (parent_is w q a et ht ep)

    pub result_no_case : (i ≡ SheetKinds.case_of → ⊥) → false ≡ (is_body b k || is_clause b k)
    unfolding is_clause is_clause_of
    result_no_case e = rw (← et, ht, ← own_parent, ← ei, ne_eqb i SheetKinds.case_of e) refl

    pub result_clause : i ≡ SheetKinds.case_of → {x : ℕ} → x ≡ field rec 0 → not (eqb x k) ≡ (is_body b k || is_clause b k)
    unfolding is_clause is_clause_of
    result_clause e g = rw (← et, ht, ← own_parent, ← ei, e, ← g) refl

-- the result type of the function, where node k is one of these
pub result_elsewhere : (x : Bool) {t u : Bool} → t ≡ u → t ≡ false → true ≡ cond u x true
result_elsewhere x e f = rw (← e, f) refl

pub result_compared : {b starts ends owners : List ℕ} {k : ℕ} → NodeAt b starts ends owners k → TreesAccepted b → {t u : Bool} → t ≡ u → t ≡ true
    → {x : ℕ} → x ≡ get_or owners k 0 → (s : ℕ) {y : ℕ} → y ≡ field (record_at b (start_in starts (first_function Sheet b + x))) 2
    → eqb s y ≡ cond u (eqb s (result_type b (owner_of Sheet b k))) true
result_compared {b} {k} w a e f g s h =
    let at : NamedAt b _ k = record { file = w.file; checks = a; below = w.below } in
    rw (← e, f) (ap (eqb s) (owner_field at w.owned g 2 h))

-- the table while it is filled
module _ {b starts : List ℕ} {k : ℕ} (w : NamedAt b starts k) where
  smaller : (k n : ℕ) → k < nodes b → ChildOf (node_record b k) n → n < k
  smaller = child_smaller b w.checks.trees

  pub type_found : {rec types : List ℕ} → rec ≡ node_record b k → TypesBelow b types k → {t : ℕ} → t ≡ type_by b (type_in types) k rec → t ≡ type_of b k
  type_found {types} er u e =
      e ∙ rw er
      (same_type_by b (node_record b k) (type_in types) (type_of b) (λ n c. u.entry n (smaller k n w.below c)) k (node_record_law b w.file.accepted k w.below)
      ∙ sym (type_of_node b w.file.accepted smaller k w.below))

  pub children_found : {rec types : List ℕ} → rec ≡ node_record b k → TypesBelow b types (k + 1) → {t : Bool} → t ≡ children_typed b (type_in types) rec
      → t ≡ children_typed b (type_of b) (node_record b k)
  children_found {types} er u e =
      e ∙ rw er
      (same_children b (node_record b k) (type_in types) (type_of b) (λ n c. u.entry n (omega (arith, smaller k n w.below c)))
      (node_record_law b w.file.accepted k w.below))

pub types_none : {b types : List ℕ} → TypesBelow b types 0
types_none = record { entry = λ j h. absurd (omega arith) }

module _ {b types : List ℕ} {k : ℕ} (u : TypesBelow b types k) (long : length types ≡ most_nodes) (room : k < most_nodes) {t : ℕ} (e : t ≡ type_of b k) where
  entry_after : (j : ℕ) → j < k + 1 → Dec (j ≡ k) → type_in (set types k t) j ≡ type_of b j
  unfolding type_in
  entry_after j h (yes q) = rw (q, lt-ltb k most_nodes room) (get_or-set_same types k t 0 (omega (arith, long, room)) ∙ e)
  entry_after j h (no q) =
      let l : j < most_nodes = omega (arith, h, room) in
      rw (lt-ltb j most_nodes l) (get_or-set_other types k j t 0 q ∙ rw (lt-ltb j most_nodes l) at (u.entry j (omega (arith, h, q))))

  pub types_more : TypesBelow b (set types k t) (k + 1)
  types_more = record { entry = λ j h. entry_after j h (ℕ_discrete j k) }

-- the verdict on node k
module _ (b : List ℕ) (k : ℕ) {f : ℕ} (ef : f ≡ first_node b) {c : Bool} (ec : c ≡ children_typed b (type_of b) (node_record b k)) where
  pub children_ill_typed : c ≡ false → Refused ill_typed (f + k) ≡ typing b k
  unfolding typing type_right
  children_ill_typed h = rw ef (sym (require_false (type_right b k) ill_typed (first_node b + k) (rw (← ec, h) refl)))

  module _ (hc : c ≡ true) {t : ℕ} (et : t ≡ type_of b k) {r : Bool}
      (er : r ≡ cond (is_body b k || is_clause b k) (eqb t (result_type b (owner_of Sheet b k))) true) where
    result_is : r ≡ result_typed b k
    unfolding result_typed
    result_is = er ∙ rw et refl

    pub result_ill_typed : r ≡ false → Refused ill_typed (f + k) ≡ typing b k
    unfolding typing type_right
    result_ill_typed h = rw ef (sym (require_false (type_right b k) ill_typed (first_node b + k) (rw (← ec, hc, ← result_is, h) refl)))

    pub well_typed : r ≡ true → Accepted ≡ typing b k
    unfolding typing type_right
    well_typed h = sym (require_true (type_right b k) ill_typed (first_node b + k) (rw (← ec, hc, ← result_is, h) refl))
