-- The pattern variables of an accepted sheet: each stands in a clause of its function's body, which is a case, and is below
-- the arity of that clause's constructor.
use mathlib.Core.Path.{◌≡◌, refl, sym, ◌∙◌}
use Prim.Native.Nat.{ℕ, zero, suc, ◌+◌, ◌*◌, ◌<◌}
use mathlib.Core.List.{List}
use mathlib.Core.Option.{Option, none, some, none-ne-some}
use mathlib.Core.Bool.{Bool, true, false, cond, false≢true}
use native.Mathlib.Omega.{arith}
use native.Mathlib.Decide.{ℕ_discrete}
use lib.ListN.{get_elem?}
use lib.Dec.{eqb}
use borrow.Author.Tests.{ltb-true, eqb-true}
use Rattle.definitions.specs.Records.{kind_of, field}
use Rattle.definitions.specs.SheetKinds
use Rattle.definitions.specs.Layouts.{items, nodes, node_record, body_of, owner_of}
use Rattle.definitions.specs.References.{arity, child, clauses, clause_constructor}
use Rattle.definitions.specs.NodeFields.{Clause, clause_list}
use Rattle.definitions.specs.SheetNodes.{pattern_variable, case_of, sheet_node, sheet_node_of, scrutinee_of}
use Rattle.definitions.specs.SheetRules.{parent_of, clause_of, clause_within, below_arity, pattern_right}
use Rattle.definitions.specs.Checks.{sheet_verdict}
use Rattle.definitions.specs.declared.Layout.TheVariants.{Sheet}
use Rattle.definitions.specs.Verdict.{Accepted}
use Rattle.accepted.proofs.Sums.{SomeBelow, one_more}
use Rattle.accepted.proofs.Owners.{owner_below, body_below}
use Rattle.accepted.proofs.SheetRecords.{SheetRecord, is_pattern_variable, is_case_law, node_is}
use Rattle.accepted.proofs.Children.{clause_element}
use Rattle.accepted.proofs.Checks.{sheet_shape, trees_pass, pattern_right_law}
use Rattle.accepted.proofs.Trees.{record_child, case_body}
use Rattle.accepted.proofs.Parents.{record_parent_there}
use Rattle.accepted.proofs.Clauses.{clause_below}
use Rattle.accepted.proofs.Places.{step_up, body_place}

-- the body of node k's function is a case, with a clause for constructor c
pub record InClause (b : List ℕ) (k c : ℕ) : Type 0 where
  pub scrutinee : ℕ
  pub clauses : List Clause
  pub body : sheet_node_of b (body_of Sheet b (owner_of Sheet b k)) ≡ case_of scrutinee clauses
  pub place : ℕ
  pub clause : Clause
  pub there : get_elem? clauses place ≡ some clause
  pub names : clause.constructor ≡ c

same_owner : (b : List ℕ) (k p c : ℕ) → owner_of Sheet b k ≡ owner_of Sheet b p → InClause b p c → InClause b k c
same_owner b k p c e i =
    record {
      scrutinee = i.scrutinee;
      clauses = i.clauses;
      body = rw e i.body;
      place = i.place;
      clause = i.clause;
      there = i.there;
      names = i.names;
    }

-- a record of the kind of a case is one
case_decoded : (rec : List ℕ) → eqb (kind_of rec) SheetKinds.case_of ≡ true → sheet_node rec ≡ case_of (field rec 0) (clause_list rec)
unfolding sheet_node
case_decoded rec e = rw (eqb-true (kind_of rec) SheetKinds.case_of e) refl

-- a clause that is found is one of the record's
found_by : (rec : List ℕ) (n k c : ℕ) (t : Bool) → eqb (child rec (suc n)) k ≡ t
    → (clause_of rec n k ≡ some c → SomeBelow n (λ j. clause_constructor rec j ≡ c))
    → cond t (some (clause_constructor rec n)) (clause_of rec n k) ≡ some c → SomeBelow (suc n) (λ j. clause_constructor rec j ≡ c)
found_by rec n k c true e f g = record { at = n; below = omega arith; holds = cc }
found_by rec n k c false e f g = one_more n (λ j. clause_constructor rec j ≡ c) (f g)

clause_of_found : (rec : List ℕ) (n k c : ℕ) → clause_of rec n k ≡ some c → SomeBelow n (λ j. clause_constructor rec j ≡ c)
unfolding clause_of
clause_of_found rec zero k c e = absurd (none-ne-some c e)
clause_of_found rec (suc n) k c e = found_by rec n k c (eqb (child rec (suc n)) k) refl (clause_of_found rec n k c) e

module _ (b : List ℕ) (accepted : sheet_verdict b ≡ Accepted) where
  case_above : (p c : ℕ) → p < nodes b → (t : Bool) → eqb (kind_of (node_record b p)) SheetKinds.case_of ≡ t
      → (k d : ℕ) → owner_of Sheet b k ≡ owner_of Sheet b p
      → (clause_within b d p ≡ some c → InClause b p c)
      → cond t (clause_of (node_record b p) (clauses (node_record b p)) k) (clause_within b d p) ≡ some c
      → InClause b k c
  unfolding sheet_node_of
  case_above p c h true e k d o f g =
      let rec = node_record b p in
      let s : sheet_node_of b p ≡ case_of (field rec 0) (clause_list rec) = case_decoded rec e in
      let q : p ≡ body_of Sheet b (owner_of Sheet b p) = case_body b (trees_pass b accepted) p h s in
      let u = clause_of_found rec (clauses rec) k c g in
      record {
        scrutinee = field rec 0;
        clauses = clause_list rec;
        body = rw (o, ← q) s;
        place = u.at;
        clause = record { constructor = clause_constructor rec u.at; node = field rec (2 + 2 * u.at) };
        there = clause_element rec u.at u.below;
        names = u.holds;
      }
  case_above p c h false e k d o f g = same_owner b k p c o (f g)

  nothing_within : (k : ℕ) → clause_within b 0 k ≡ none
  unfolding clause_within
  nothing_within k = refl

  -- a node that stands in a clause stands in one of its function's body
  pub in_clause : (d k c : ℕ) → k < nodes b → clause_within b d k ≡ some c → InClause b k c
  in_clause zero k c h e = absurd (none-ne-some c (sym (nothing_within k) ∙ e))
  in_clause (suc d) k c h e =
      elim (ℕ_discrete k (body_of Sheet b (owner_of Sheet b k))) [
        | yes x ↦ absurd (none-ne-some c (sym (body_place b k (suc d) x) ∙ e))
        | no x ↦
            let p = parent_of b k in
            let t = record_parent_there b (trees_pass b accepted) k h x in
            case_above p c t.0 (eqb (kind_of (node_record b p)) SheetKinds.case_of) refl k d
            (record_child b (trees_pass b accepted) p k t.0 t.1).owner
            (in_clause d p c t.0)
            (sym (step_up b k p d x refl) ∙ e)
      ]

  -- the constructor of the clause is the sheet's
  pub clause_within_below : (d k c : ℕ) → k < nodes b → clause_within b d k ≡ some c → c < items b
  clause_within_below d k c h e =
      let i = in_clause d k c h e in
      let s = sheet_shape b accepted in
      let f = owner_below Sheet b s k h in
      rw i.names at (clause_below b accepted (body_of Sheet b (owner_of Sheet b k)) (body_below Sheet b s (owner_of Sheet b k) f) i.body i.place i.there)

  -- the scrutinee that the translation selects from is that case's
  pub scrutinee_is : (k : ℕ) → k < nodes b → {n : ℕ} {cs : List Clause}
      → sheet_node_of b (body_of Sheet b (owner_of Sheet b k)) ≡ case_of n cs → scrutinee_of b k ≡ n
  unfolding scrutinee_of
  scrutinee_is k h e =
      let s = sheet_shape b accepted in
      let f = owner_below Sheet b s k h in
      first_field (node_is b s (body_of Sheet b (owner_of Sheet b k)) (body_below Sheet b s (owner_of Sheet b k) f) e)
    where
      first_field : {rec : List ℕ} {n : ℕ} {cs : List Clause} → SheetRecord rec (case_of n cs) → field rec 0 ≡ n
      first_field (is_case_law e c l g) = refl

-- a pattern variable i in the clause of a constructor
pub record PatternInClause (b : List ℕ) (k i : ℕ) : Type 0 where
  pub constructor : ℕ
  pub within : clause_within b (nodes b) k ≡ some constructor
  pub below : i < arity b constructor

held_by : (b : List ℕ) (k i : ℕ) (o : Option ℕ) → clause_within b (nodes b) k ≡ o → below_arity b i o ≡ true → PatternInClause b k i
unfolding below_arity
held_by b k i none e f = absurd (false≢true f)
held_by b k i (some c) e f = record { constructor = c; within = e; below = ltb-true i (arity b c) f }

pattern_by : (b rec : List ℕ) (k : ℕ) {i : ℕ} → SheetRecord rec (pattern_variable i)
    → cond (eqb (kind_of rec) SheetKinds.pattern_variable) (below_arity b (field rec 0) (clause_within b (nodes b) k)) true ≡ true
    → PatternInClause b k i
pattern_by b rec k (is_pattern_variable e c) h = held_by b k (field rec 0) (clause_within b (nodes b) k) refl (rw e at h)

-- "A pattern variable stands only in a clause and is below that constructor's arity"
pub pattern_held : (b : List ℕ) → sheet_verdict b ≡ Accepted → (k : ℕ) → k < nodes b → {i : ℕ}
    → sheet_node_of b k ≡ pattern_variable i → PatternInClause b k i
unfolding pattern_right
pattern_held b accepted k h e = pattern_by b (node_record b k) k (node_is b (sheet_shape b accepted) k h e) (pattern_right_law b accepted k h)
