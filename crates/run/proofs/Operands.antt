-- The operands that a node visits under its own context: the field that names one, what the rule does with what its visit ended with,
-- what the visit asks, and what is known after it.
use mathlib.Core.Path.{◌≡◌, refl, ◌∙◌}
use Prim.Native.Nat.{ℕ, ◌*◌, ◌<◌}
use mathlib.Core.List.{List}
use native.Mathlib.Omega.{arith}
use lib.IntN.{ℤ}
use lib.ListN.{get_or}
use denote.MutBor.{MutBor}
use Rattle.std.specs.Prelude.{Result, Ok, Err}
use Rattle.definitions.specs.TranslationKinds as kinds
use Rattle.definitions.specs.Records.{field}
use Rattle.definitions.specs.Operators.{computed}
use Rattle.definitions.specs.Layouts.{nodes, node_record}
use Rattle.definitions.specs.TranslationNodes.{TranslationNode, translation_node_of}
use Rattle.definitions.specs.Rule as Rule
use Rattle.definitions.specs.Rule.{Ending, Reached, value, integer, reach, number_due, result_of, evaluated}
use Rattle.accepted.specs.Mention as Mention
use Rattle.accepted.proofs.TranslationNames.{mention_below}
use Rattle.live_counts.specs.declared.Counts.{Counts}
use Rattle.lent_rule.specs.Lent.{Lent}
use Rattle.lent_rule.specs.Standing.{Inside}
use Rattle.run.specs.NodeTable.{first_part, second_part, third_part}
use Rattle.run.specs.Packed.{outcome_in}
use Rattle.run.specs.States.{below, above, ending_of, reached_of, counted_state, visits, evaluates, NodeIs, Visitable, Evaluable, Visits, Evaluates}
use Rattle.run.specs.GoingOn.{Chooses, a_select, a_conditional, a_case, goes_on, next_reached, OperandKnown, GoesOn, OperatorEnds}
use Rattle.run.proofs.Endings.{number_goes}
use Rattle.run.proofs.NodeKinds.{is_select, is_operator, is_conditional, is_case_law}
use Rattle.run.proofs.EntryReads.{plain_operator, first_read, second_read, third_read}
use Rattle.run.proofs.Steps.{worked_out_law}
use Rattle.run.proofs.Counting.{visitable_at, visits_at}
use Rattle.run.proofs.Nodes.{falls_on, visit_falls, visit_context, visit_inside}
use Rattle.run.proofs.Remains.{Asked, asked_falls, Remains, Onward, remains_as, remains_ends}

-- how the rule goes on with what a visit ended with
abbrev pub Way : Type 0
Way = Ending ℕ → Rule.State Lent → Reached ℕ Lent

abbrev pub awaited : Way → Reached ℕ Lent → Reached ℕ Lent
awaited d q = d q.ending q.state

-- with the operand of a node that chooses what to visit next, and with the two of an operator
module _ (b : List ℕ) (rs : List ℤ) (limits at : ℕ) where
  abbrev named : ℕ → ℕ
  named i = field (node_record b (below at)) i

  abbrev visited : ℕ → ℕ → Rule.State Lent → Reached ℕ Lent
  visited = visits b rs (above limits) (below limits)

  abbrev pub choice : ℕ → Way
  choice kind e s = goes_on b at e visited s kind

  abbrev pub result : ℤ → Way
  result x e s = number_due e s (λ y u. result_of (computed (named 0) x y) u)

  abbrev pub operation : Way
  operation e s = number_due e s (λ x u. awaited (result x) (visited (named 2) (above at) u))

  choice_awaited : {kind x : ℕ} (c : Chooses kind) (s : Rule.State Lent) → NodeIs b (node_record b (below at)) (below at) kind → x ≡ named 0
      → evaluates b rs (above limits) (below limits) (below at) (above at) s ≡ awaited (choice kind) (visited x (above at) s)
  unfolding evaluated goes_on
  choice_awaited a_select s h e = worked_out_law b rs limits at s (is_select h) ∙ rw (← e) refl
  choice_awaited a_conditional s h e = worked_out_law b rs limits at s (is_conditional h) ∙ rw (← e) refl
  choice_awaited a_case s h e = worked_out_law b rs limits at s (is_case_law h) ∙ rw (← e) refl

  operation_awaited : {x : ℕ} (s : Rule.State Lent) → NodeIs b (node_record b (below at)) (below at) kinds.operator → x ≡ named 1
      → evaluates b rs (above limits) (below limits) (below at) (above at) s ≡ awaited operation (visited x (above at) s)
  unfolding evaluated
  operation_awaited s h e = worked_out_law b rs limits at s (is_operator h) ∙ rw (← e) refl

-- the node x that field i of node k names
pub record Named (b : List ℕ) (k i x : ℕ) : Type 0 where
  pub is : x ≡ field (node_record b k) i
  pub there : x < nodes b

module _ {b tab : List ℕ} {limits at : ℕ} {counts : Counts} {bytes : List ℕ} {x : ℕ} where
  named_by : {kind i : ℕ} {nd : TranslationNode} → Evaluable b tab limits at counts bytes kind → x ≡ field (node_record b (below at)) i
      → translation_node_of b (below at) ≡ nd → Mention.Mention nd (field (node_record b (below at)) i) → Named b (below at) i x
  named_by a e is m = record { is = e; there = rw e (mention_below b a.equipped.accepted (below at) a.node.below is m) }

  module _ {e : ℕ} where
    choice_named : {kind : ℕ} → Chooses kind → Evaluable b tab limits at counts bytes kind → e ≡ get_or tab (below at) 0 → x ≡ first_part e
        → Named b (below at) 0 x
    choice_named a_select a f g = named_by a (first_read a.equipped a.node f (λ q. omega (arith, q)) g) (is_select a.node) Mention.selected
    choice_named a_conditional a f g = named_by a (first_read a.equipped a.node f (λ q. omega (arith, q)) g) (is_conditional a.node) Mention.condition
    choice_named a_case a f g = named_by a (first_read a.equipped a.node f (λ q. omega (arith, q)) g) (is_case_law a.node) Mention.scrutinee

    module _ (a : Evaluable b tab limits at counts bytes kinds.operator) (f : e ≡ get_or tab (below at) 0) where
      left_named : x ≡ second_part e → Named b (below at) 1 x
      left_named g = named_by a (second_read a.equipped a.node f plain_operator g) (is_operator a.node) Mention.left

      right_named : x ≡ third_part e → Named b (below at) 2 x
      right_named g = named_by a (third_read a.equipped a.node f plain_operator g) (is_operator a.node) Mention.right

-- a node of a kind waits for the visit of its operand k under its own context
pub record Awaits (b tab : List ℕ) (t limits at : ℕ) (counts : Counts) (cells : MutBor (List ℕ)) (counts' : Counts) (cells' : MutBor (List ℕ))
    (kind k : ℕ) (d : List ℤ → Way) : Type 0 where
  pub node : Evaluable b tab limits at counts cells.now kind
  pub remains : Remains b tab t limits at counts cells counts' cells'
      (λ rs. awaited (d rs) (visits b rs (above limits) (below limits) k (above at) (counted_state counts' cells'.now)))
  pub there : k < nodes b

-- an operand was visited for a node of a kind, and x returned: what remains, and that a constructor is a tuple's, under a context of the cells written
pub record OperandVisited (b tab : List ℕ) (t limits at : ℕ) (counts : Counts) (cells : MutBor (List ℕ)) (x : ℕ) (counts' : Counts)
    (cells' : MutBor (List ℕ)) (kind : ℕ) (d : List ℤ → Way) : Type 0 where
  pub node : Evaluable b tab limits at counts cells.now kind
  pub remains : Remains b tab t limits at counts cells counts' cells' (λ rs. d rs (ending_of (outcome_in x)) (counted_state counts' cells'.now))
  pub inside : Inside b counts'.most (ending_of (outcome_in x))

-- the operand that is visited first
module _ {b tab : List ℕ} {t limits at : ℕ} {counts : Counts} {cells : MutBor (List ℕ)} where
  first_awaits : {kind k i : ℕ} {d : List ℤ → Way} → Asked b tab t limits at counts cells.now kind → Named b (below at) i k
      → ((rs : List ℤ) → evaluates b rs (above limits) (below limits) (below at) (above at) (counted_state counts cells.now)
      ≡ awaited (d rs) (visits b rs (above limits) (below limits) k (above at) (counted_state counts cells.now)))
      → Awaits b tab t limits at counts cells counts cells kind k d
  first_awaits a n s =
      record {
        node = a.1;
        remains = record { equipped = a.1.equipped; same = λ rs h. s rs; falls = asked_falls a; context = a.1.context; stays = refl };
        there = n.there;
      }

  pub choice_awaits : {kind e k : ℕ} → Asked b tab t limits at counts cells.now kind → Chooses kind → e ≡ get_or tab (below at) 0 → k ≡ first_part e
      → Awaits b tab t limits at counts cells counts cells kind k (λ rs. choice b rs limits at kind)
  choice_awaits a c f g =
      let n = choice_named c a.1 f g in
      first_awaits a n (λ rs. choice_awaited b rs limits at c (counted_state counts cells.now) a.1.node n.is)

  pub left_awaits : {e k : ℕ} → Asked b tab t limits at counts cells.now kinds.operator → e ≡ get_or tab (below at) 0 → k ≡ second_part e
      → Awaits b tab t limits at counts cells counts cells kinds.operator k (λ rs. operation b rs limits at)
  left_awaits a f g =
      let n = left_named a.1 f g in
      first_awaits a n (λ rs. operation_awaited b rs limits at (counted_state counts cells.now) a.1.node n.is)

-- the visit of an operand: what it asks, and what is known after it
module _ {b tab : List ℕ} {t limits at : ℕ} {counts : Counts} {cells : MutBor (List ℕ)} {counts' : Counts} {cells' : MutBor (List ℕ)} {kind k p : ℕ}
    {d : List ℤ → Way} (a : Awaits b tab t limits at counts cells counts' cells' kind k d) (q : (below p ≡ k) × (above p ≡ above at)) where
  pub operand_asked : (2 * counts'.left < t) × Visitable b tab limits p counts' cells'.now
  operand_asked = (a.remains.falls, visitable_at q a.remains.equipped a.there a.remains.context)

  pub operand_visited : {x : ℕ} {counts'' : Counts} {cells'' : MutBor (List ℕ)} → Visits b tab limits p counts' cells' x counts'' cells''
      → OperandVisited b tab t limits at counts cells x counts'' cells'' kind d
  unfolding reached_of reach
  operand_visited v =
      record {
        node = a.node;
        remains = record {
          equipped = a.remains.equipped;
          same = λ rs h. a.remains.same rs h ∙ rw (← visits_at q v rs h) refl;
          falls = falls_on (visit_falls a.remains.equipped q a.there a.remains.context v) a.remains.falls;
          context = visit_context a.remains.equipped q a.there a.remains.context v a.remains.context.written;
          stays = v.stays ∙ a.remains.stays;
        };
        inside = visit_inside a.remains.equipped q a.there a.remains.context v;
      }

module _ {b tab : List ℕ} {t limits at : ℕ} {counts : Counts} {cells : MutBor (List ℕ)} {x : ℕ} {counts' : Counts} {cells' : MutBor (List ℕ)} where
  -- the operand that is visited first, once it was
  pub choice_visited : {kind e k p : ℕ} → Asked b tab t limits at counts cells.now kind → Chooses kind → e ≡ get_or tab (below at) 0 → k ≡ first_part e
      → (below p ≡ k) × (above p ≡ above at) → Visits b tab limits p counts cells x counts' cells'
      → OperandVisited b tab t limits at counts cells x counts' cells' kind (λ rs. choice b rs limits at kind)
  choice_visited a c f g q v = operand_visited (choice_awaits a c f g) q v

  pub left_visited : {e k p : ℕ} → Asked b tab t limits at counts cells.now kinds.operator → e ≡ get_or tab (below at) 0 → k ≡ second_part e
      → (below p ≡ k) × (above p ≡ above at) → Visits b tab limits p counts cells x counts' cells'
      → OperandVisited b tab t limits at counts cells x counts' cells' kinds.operator (λ rs. operation b rs limits at)
  left_visited a f g q v = operand_visited (left_awaits a f g) q v

  -- a node that chooses: what it chooses by, and the visit that it goes on to, or its end
  module _ {kind : ℕ} {e : Ending ℕ} (v : OperandVisited b tab t limits at counts cells x counts' cells' kind (λ rs. choice b rs limits at kind))
      (f : ending_of (outcome_in x) ≡ e) where
    pub choice_known : OperandKnown b tab at kind e
    choice_known = record { equipped = v.node.equipped; node = v.node.node; most = counts'.most; inside = rw f at v.inside }

    module _ {r : Result ℕ ℕ} (g : GoesOn b at kind e r) where
      chosen_next : (rs : List ℤ) → choice b rs limits at kind (ending_of (outcome_in x)) (counted_state counts' cells'.now)
          ≡ next_reached (visits b rs (above limits) (below limits)) r (counted_state counts' cells'.now)
      chosen_next rs = rw f (g.same (visits b rs (above limits) (below limits)) (counted_state counts' cells'.now))

      pub choice_visits : {p : ℕ} → r ≡ Ok p → Onward b tab t limits at counts cells counts' cells' (below p) (above p)
      unfolding next_reached
      choice_visits h =
          record {
            remains = remains_as v.remains (λ rs. chosen_next rs ∙ rw h refl);
            there = g.there h;
            written = g.written h (rw f at v.inside) v.remains.context.written;
          }

      pub choice_ends : {y : ℕ} → r ≡ Err y → Evaluates b tab limits at counts cells y counts' cells'
      unfolding next_reached
      choice_ends h = remains_ends (remains_as v.remains (λ rs. chosen_next rs ∙ rw h refl)) refl refl

  -- what the visit of an operand ended with ends its node, or another ending in its place
  pub operand_ends : {kind y : ℕ} {d : List ℤ → Way} → OperandVisited b tab t limits at counts cells x counts' cells' kind d
      → ((rs : List ℤ) (s : Rule.State Lent) → d rs (ending_of (outcome_in x)) s ≡ reach (ending_of (outcome_in y)) s)
      → Evaluates b tab limits at counts cells y counts' cells'
  operand_ends v h = remains_ends (remains_as v.remains (λ rs. h rs _)) refl refl

  -- an operator: its right operand after the left, and its result
  pub right_awaits : {i : ℤ} {e k : ℕ} → OperandVisited b tab t limits at counts cells x counts' cells' kinds.operator (λ rs. operation b rs limits at)
      → ending_of (outcome_in x) ≡ value (integer i) → e ≡ get_or tab (below at) 0 → k ≡ third_part e
      → Awaits b tab t limits at counts cells counts' cells' kinds.operator k (λ rs. result b rs limits at i)
  right_awaits v h ee ek =
      let n = right_named v.node ee ek in
      record { node = v.node; remains = remains_as v.remains (λ rs. number_goes _ _ h ∙ rw n.is refl); there = n.there }

  pub operator_returned : {i j : ℤ} {e code y : ℕ}
      → OperandVisited b tab t limits at counts cells x counts' cells' kinds.operator (λ rs. result b rs limits at i)
      → ending_of (outcome_in x) ≡ value (integer j) → e ≡ get_or tab (below at) 0 → code ≡ first_part e → OperatorEnds code i j y
      → Evaluates b tab limits at counts cells y counts' cells'
  operator_returned v h ee ec o =
      let c = first_read v.node.equipped v.node.node ee (λ q. omega (arith, q)) ec in
      operand_ends v (λ rs s. number_goes _ _ h ∙ rw (← c) (o.same s))
