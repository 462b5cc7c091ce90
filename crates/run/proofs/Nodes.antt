-- The nodes that a visit goes on to are there, the steps left fall, and a constructor that it gives is a tuple's.
use mathlib.Core.Path.{◌≡◌}
use Prim.Native.Nat.{ℕ, ◌*◌, ◌≤◌, ◌<◌}
use mathlib.Core.List.{List}
use mathlib.Core.Bool.{cond}
use native.Mathlib.Omega.{arith}
use native.Mathlib.Nat.{le_trans}
use lib.IntN.{ℤ}
use lib.ListN.{get_elem?}
use denote.MutBor.{MutBor}
use Rattle.std.specs.Prelude.{Some}
use Rattle.definitions.specs.TranslationKinds as kinds
use Rattle.definitions.specs.Records.{field}
use Rattle.definitions.specs.Operators.{is_zero}
use Rattle.definitions.specs.NodeFields.{fields_from, clause_list, chosen}
use Rattle.definitions.specs.Layouts.{nodes, body_of, node_record, item_record}
use Rattle.definitions.specs.TranslationNodes.{actual, tuple_fields}
use Rattle.definitions.specs.Checks.{translation_verdict}
use Rattle.definitions.specs.Rule.{reach}
use Rattle.definitions.specs.declared.Layout.TheVariants.{Translation}
use Rattle.definitions.specs.Verdict.{Accepted}
use Rattle.accepted.proofs.Owners.{body_below}
use Rattle.accepted.proofs.Checks.{translation_shape}
use Rattle.accepted.proofs.TranslationNames.{formal_below, translation_call_below, actual_below}
use Rattle.laws.proofs.ByteFiles.{Bytes}
use Rattle.live_counts.specs.declared.Counts.{Counts}
use Rattle.lent_rule.specs.Standing.{TupleAt, NarrowReadings, Standing, Inside, Good}
use Rattle.lent_rule.proofs.Tuples.{member_below, clause_below, branch_below}
use Rattle.lent_rule.proofs.Good.{visit_good}
use Rattle.run.specs.Packed.{outcome_in}
use Rattle.run.specs.States.{Found, below, above, found_of, ending_of, state_of, lent_of, counted_state, reached_of, NodeIs, visits, Equipped, InContext, Visits}
use Rattle.run.proofs.Endings.{found_some}
use Rattle.run.proofs.NodeKinds.{is_formal, is_conditional, is_call, is_case_law}

pub falls_on : {l left t : ℕ} → l ≤ left → 2 * left < t → 2 * l < t
falls_on h e = omega arith

module _ {b rec : List ℕ} {k x : ℕ} (accepted : translation_verdict b ≡ Accepted) where
  pub branch_child : (z : ℤ) → NodeIs b rec k kinds.conditional → x ≡ cond (is_zero z) (field rec 2) (field rec 1) → x < nodes b
  branch_child z h e = rw e (branch_below b accepted k (field rec 0) (field rec 1) (field rec 2) (is_zero z) h.below (is_conditional h))

  pub body_child : NodeIs b rec k kinds.call → x ≡ body_of Translation b (field rec 1) → x < nodes b
  body_child h e =
      rw e (body_below Translation b (translation_shape b accepted) (field rec 1) (translation_call_below b accepted k h.below (is_call h)))

  module _ {o : Found} where
    pub actual_child : (label : ℕ) → NodeIs b rec k kinds.formal
        → found_of o ≡ get_elem? (fields_from (item_record Translation b (field rec 0)) 0) label → o ≡ Some x → x < nodes b
    unfolding actual
    actual_child label h e f =
        actual_below b accepted (field rec 0) label (formal_below b accepted k h.below (is_formal h)) (found_some e f)

    pub clause_child : (tag : ℕ) → NodeIs b rec k kinds.case_of → found_of o ≡ chosen (clause_list rec) tag → o ≡ Some x → x < nodes b
    clause_child tag h e f = clause_below b accepted k (field rec 0) tag x (clause_list rec) h.below (is_case_law h) (found_some e f)

pub member_child : {b : List ℕ} {k x : ℕ} {o : Found} (i : ℕ) → translation_verdict b ≡ Accepted → TupleAt b k
    → found_of o ≡ get_elem? (fields_from (node_record b k) 1) i → o ≡ Some x → x < nodes b
unfolding tuple_fields
member_child {b} {k} {x} i accepted t e f = member_below b accepted k i x t (found_some e f)

-- after a visit, from lent bytes that hold cells in order
module _ (b : List ℕ) (accepted : translation_verdict b ≡ Accepted) (bytes : Bytes b) (rs : List ℤ) (narrow : NarrowReadings rs)
    (cells_allowed n k w : ℕ) (counts : Counts) (before : List ℕ) (x : ℕ) (counts' : Counts) (during : List ℕ) (below : k < nodes b)
    (stands : Standing b cells_allowed (lent_of counts before)) (context : w ≤ counts.most)
    (g : reached_of x counts' during ≡ visits b rs cells_allowed n k w (counted_state counts before)) where
  reached_good : Good b cells_allowed counts.left counts.most (reached_of x counts' during)
  unfolding visits state_of
  reached_good = rw (← g) at (visit_good b accepted bytes rs narrow cells_allowed n k w (counted_state counts before) stands below context)

  reached_falls : counts'.left ≤ counts.left
  unfolding reached_of reach state_of
  reached_falls = reached_good.falls

  reached_grows : counts.most ≤ counts'.most
  unfolding reached_of reach state_of
  reached_grows = reached_good.grows

  reached_stands : Standing b cells_allowed (lent_of counts' during)
  unfolding reached_of reach state_of
  reached_stands = reached_good.standing

  reached_inside : Inside b counts'.most (ending_of (outcome_in x))
  unfolding reached_of reach state_of
  reached_inside = reached_good.inside

module _ {b tab : List ℕ} {limits p k w : ℕ} {counts : Counts} {cells : MutBor (List ℕ)} {x : ℕ} {counts' : Counts} {cells' : MutBor (List ℕ)}
    (q : Equipped b tab) (at : (below p ≡ k) × (above p ≡ w)) (there : k < nodes b) (c : InContext b (above limits) w counts cells.now)
    (v : Visits b tab limits p counts cells x counts' cells') where
  here : below p < nodes b
  here = rw at.0 there

  under : above p ≤ counts.most
  under = rw at.1 c.written

  pub visit_falls : counts'.left ≤ counts.left
  visit_falls =
      reached_falls b q.accepted q.bytes q.readings q.narrow _ _ _ _ counts _ x _ _ here c.standing under (v.same q.readings q.held)

  -- what an earlier context stands in
  pub visit_context : {u : ℕ} → u ≤ counts.most → InContext b (above limits) u counts' cells'.now
  visit_context h =
      let same = v.same q.readings q.held in
      let grows = reached_grows b q.accepted q.bytes q.readings q.narrow _ _ _ _ counts _ x _ _ here c.standing under same in
      record {
        standing = reached_stands b q.accepted q.bytes q.readings q.narrow _ _ _ _ counts _ x _ _ here c.standing under same;
        written = le_trans h grows;
      }

  pub visit_inside : Inside b counts'.most (ending_of (outcome_in x))
  visit_inside =
      reached_inside b q.accepted q.bytes q.readings q.narrow _ _ _ _ counts _ x _ _ here c.standing under (v.same q.readings q.held)
