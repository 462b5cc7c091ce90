-- What working out a call does: where no cell is left it ends; else one cell more is alive, the body is visited under it, and the call is
-- closed.
use mathlib.Core.Path.{◌≡◌, refl, sym, ap, ◌∙◌}
use Prim.Native.Nat.{ℕ, suc, ◌+◌, ◌*◌, ◌%◌, ◌≤◌, ◌<◌}
use mathlib.Core.List.{List}
use mathlib.Core.Bool.{cond}
use native.Mathlib.Omega.{arith}
use native.Mathlib.Nat.{le_trans, le-max_left, le-max_right}
use native.Mathlib.Numerals.{add-one}
use lib.IntN.{ℤ}
use lib.ListN.{get_or}
use lib.Dec.{ltb}
use borrow.Author.Tests.{lt-ltb, le-ltb, ne_eqb}
use denote.MutBor.{MutBor}
use Rattle.definitions.specs.Sizes.{most_cells}
use Rattle.definitions.specs.Numbers.{no_cell}
use Rattle.definitions.specs.TranslationKinds as kinds
use Rattle.definitions.specs.Records.{field}
use Rattle.definitions.specs.Layouts.{nodes, body_of, node_record}
use Rattle.definitions.specs.Rule as Rule
use Rattle.definitions.specs.Rule.{reach, ended, evaluated, where_cell}
use Rattle.definitions.specs.declared.Layout.TheVariants.{Translation}
use Rattle.definitions.specs.LiveCells.{live_after}
use Rattle.cells.specs.LentCells.{cell_added}
use Rattle.live_counts.specs.Counts.{call_opened, gives_back, call_closed}
use Rattle.live_counts.specs.declared.Counts.{Counts}
use Rattle.lent_rule.specs.Lent.{Lent, with_lent_cell, closing_lent, closed_lent, call_by_lent, by_lent}
use Rattle.lent_rule.proofs.NodeNumbers.{call_label, call_function}
use Rattle.lent_rule.proofs.Stands.{added_stands}
use Rattle.run.specs.NodeTable.{first_part, second_part, third_part}
use Rattle.run.specs.Packed.{Outcome, outcome_in}
use Rattle.run.specs.States.{below, above, value_of, ending_of, state_of, counted_state, reached_of, visits, evaluates, NodeIs, InContext, Visitable, Visits, Evaluates}
use Rattle.run.proofs.Packing.{outcome_number, outcome_constructor, outcome_ended}
use Rattle.run.proofs.Remembered.{Held, a_number, a_constructor, an_end, held}
use Rattle.run.proofs.NodeKinds.{is_call}
use Rattle.run.proofs.Counting.{visitable_at, visits_at}
use Rattle.run.proofs.EntryReads.{first_read, callee_read, body_read}
use Rattle.run.proofs.Nodes.{body_child}
use Rattle.run.proofs.Steps.{worked_out_law}
use Rattle.run.proofs.Remains.{Asked, asked_falls, Remains, at_context, node_ends}

-- the call of `at` worked out
module _ (b : List ℕ) (rs : List ℤ) (limits at : ℕ) (s : Rule.State Lent) where
  abbrev rec : List ℕ
  rec = node_record b (below at)

  call_as : NodeIs b rec (below at) kinds.call
      → evaluates b rs (above limits) (below limits) (below at) (above at) s ≡ where_cell (ltb s.store.live (above limits)) s
      (λ u. closed_lent u.store.live u.store.oldest (visits b rs (above limits) (below limits) (body_of Translation b (field rec 1))
      (suc u.store.live) (with_lent_cell (field rec 0) (above at) (field rec 1) u)))
  unfolding evaluated by_lent call_by_lent
  call_as h = worked_out_law b rs limits at s (is_call h)

-- how many cells are alive after a call, by the kind of the number that its visit returned
live_by_kind : (x own oldest before live : ℕ) → Held x → cond (gives_back (x % 65536) own oldest) before live ≡ live_after (ending_of (outcome_in x)) own oldest before live
unfolding gives_back live_after ending_of value_of
live_by_kind x own oldest before live (a_number q) = rw (outcome_number x q, q) refl
live_by_kind x own oldest before live (a_constructor q) = rw (outcome_constructor x q, q) refl
live_by_kind x own oldest before live (an_end n m) = rw (outcome_ended x n m, ne_eqb (x % 65536) 1 n) refl

-- what a visit under its cell reached, with the call closed
closed_reached : (live oldest x : ℕ) (counts : Counts) (bytes : List ℕ)
    → reached_of x (call_closed live oldest (x % 65536) counts) bytes ≡ closed_lent live oldest (reached_of x counts bytes)
unfolding reached_of reach state_of call_closed closed_lent closing_lent
closed_reached live oldest x counts bytes = rw (live_by_kind x (suc live) counts.oldest live counts.live (held x)) refl

-- its cell was added: what remains is the visit of node k under it, and the call is closed
pub record BodyDue (b tab : List ℕ) (t limits at : ℕ) (counts : Counts) (cells : MutBor (List ℕ)) (counts' : Counts) (cells' : MutBor (List ℕ)) (k : ℕ) : Type 0 where
  pub remains : Remains b tab t limits at counts cells counts' cells'
      (λ rs. closed_lent counts.live counts.oldest (visits b rs (above limits) (below limits) k (counts.live + 1) (counted_state counts' cells'.now)))
  pub there : k < nodes b
  pub written : counts.live + 1 ≤ counts'.most

-- the lent bytes and the counts are told by equations of which they are the left sides
abbrev pub BodyBy : {b tab : List ℕ} {t limits at : ℕ} {counts : Counts} {bytes : List ℕ} → Asked b tab t limits at counts bytes kinds.call → MutBor (List ℕ)
    → {list added : List ℕ} → list ≡ added → {counts' opened : Counts} → counts' ≡ opened → ℕ → Type 0
BodyBy {b} {tab} {t} {limits} {at} {counts} a cells {list} e {counts'} f k =
    BodyDue b tab t limits at counts cells counts' (record { ref_ptr = cells.ref_ptr; ghost_name = cells.ghost_name; now = list }) k

-- there is room for its cell
pub live_below : {b tab : List ℕ} {t limits at : ℕ} {counts : Counts} {bytes : List ℕ} → Asked b tab t limits at counts bytes kinds.call
    → counts.live < above limits → counts.live < most_cells
live_below a l = let ceiling = a.1.context.standing.ceiling in omega arith

module _ {b tab : List ℕ} {t limits at : ℕ} {counts : Counts} (cells : MutBor (List ℕ)) (a : Asked b tab t limits at counts cells.now kinds.call) where
  pub call_ends : {x : ℕ} {o : Outcome} → above limits ≤ counts.live → outcome_in x ≡ o → ending_of o ≡ ended no_cell
      → Evaluates b tab limits at counts cells x counts cells
  unfolding where_cell state_of
  call_ends l = node_ends a.1 (λ rs h. call_as b rs limits at _ a.1.node ∙ rw (le-ltb counts.live (above limits) l) refl)

  module _ {list : List ℕ} {counts' : Counts} {label callee : ℕ} (l : counts.live < above limits) (el : label ≡ field (node_record b (below at)) 0)
      (ec : callee ≡ field (node_record b (below at)) 1) (added : list ≡ cell_added cells.now counts.live label (above at) callee)
      (opened : counts' ≡ call_opened counts) where
    opened_context : InContext b (above limits) (above at) counts' list
    unfolding call_opened
    opened_context =
        let c = a.1.context in
        let bytes = a.1.equipped.bytes in
        let is = is_call a.1.node in
        let p : label < 65536 = rw el (call_label b bytes (below at) _ _ is) in
        let q : callee < 65536 = rw ec (call_function b bytes (below at) _ _ is) in
        record {
          standing = rw (opened, added) (added_stands c.standing label (above at) callee l p q c.written);
          written = rw opened (le_trans c.written (le-max_left counts.most (suc counts.live)));
        }

    opened_same : {k : ℕ} → k ≡ body_of Translation b (field (node_record b (below at)) 1) → (rs : List ℤ)
        → evaluates b rs (above limits) (below limits) (below at) (above at) (counted_state counts cells.now)
        ≡ closed_lent counts.live counts.oldest
        (visits b rs (above limits) (below limits) k (counts.live + 1) (counted_state counts' list))
    unfolding where_cell state_of with_lent_cell call_opened
    opened_same e rs =
        call_as b rs limits at _ a.1.node
        ∙ rw (lt-ltb counts.live (above limits) l, opened, added, el, ec, e, add-one counts.live) refl

  pub body_due : {list : List ℕ} {counts' : Counts} {e label callee k : ℕ} → counts.live < above limits
      → e ≡ get_or tab (below at) 0 → label ≡ first_part e → callee ≡ second_part e → k ≡ third_part e
      → (added : list ≡ cell_added cells.now counts.live label (above at) callee) (opened : counts' ≡ call_opened counts) → BodyBy a cells added opened k
  unfolding call_opened
  body_due {list} {label = label} {callee = callee} l f el ec ek added opened =
      let body = body_read a.1 f ek in
      let first = first_read a.1.equipped a.1.node f (λ q. omega (arith, q)) el in
      let second = callee_read a.1 f ec in
      let falls = asked_falls a in
      record {
        remains = record {
          equipped = a.1.equipped;
          same = λ rs h. opened_same l first second added opened body rs;
          falls = rw opened falls;
          context = opened_context l first second added opened;
          stays = refl;
        };
        there = body_child a.1.equipped.accepted a.1.node body;
        written = rw (opened, add-one counts.live) (le-max_right counts.most (suc counts.live));
      }

module _ {b tab : List ℕ} {t limits at : ℕ} {counts : Counts} {cells : MutBor (List ℕ)} {counts' : Counts} {cells' : MutBor (List ℕ)} {k p : ℕ}
    (r : BodyDue b tab t limits at counts cells counts' cells' k) (e : (below p ≡ k) × (above p ≡ counts.live + 1)) where
  -- what the visit of the body asks
  pub body_asked : (2 * counts'.left < t) × Visitable b tab limits p counts' cells'.now
  body_asked = (r.remains.falls, visitable_at e r.remains.equipped r.there (at_context r.remains.context r.written))

  -- what it gives is returned, with the call closed
  pub body_returned : {x kind : ℕ} {counts'' counts''' : Counts} {cells'' : MutBor (List ℕ)} → Visits b tab limits p counts' cells' x counts'' cells''
      → kind ≡ x % 65536 → counts''' ≡ call_closed counts.live counts.oldest kind counts''
      → Evaluates b tab limits at counts cells x counts''' cells''
  unfolding call_closed
  body_returned {x} {counts'' = counts''} {cells'' = cells''} v ek closed =
      record {
        same = λ rs h.
            ap (λ (c : Counts). reached_of x c cells''.now) (closed ∙ ap (λ (n : ℕ). call_closed counts.live counts.oldest n counts'') ek)
            ∙ closed_reached counts.live counts.oldest x counts'' cells''.now
            ∙ ap (closed_lent counts.live counts.oldest) (visits_at e v rs h)
            ∙ sym (r.remains.same rs h);
        stays = v.stays ∙ r.remains.stays;
      }
