-- What working out a formal does: under the empty context it ends; what its own cell remembers is used; else the actual that the head
-- label names is visited under the tail, and a value is remembered.
use mathlib.Core.Path.{◌≡◌, refl, sym, ap, ◌∙◌}
use Prim.Native.Nat.{ℕ, ◌+◌, ◌*◌, ◌/◌, ◌%◌, ◌≤◌, ◌<◌}
use mathlib.Core.List.{List}
use mathlib.Core.Option.{none, some}
use mathlib.Core.Bool.{Bool, true, false, cond}
use native.Mathlib.Omega.{arith}
use lib.IntN.{ℤ}
use lib.ListN.{get_or}
use lib.Dec.{eqb, ltb}
use borrow.Author.Tests.{eq-eqb, ne_eqb}
use denote.MutBor.{MutBor}
use Rattle.std.specs.Prelude.{Some, None}
use Rattle.definitions.specs.Numbers.{no_actual}
use Rattle.definitions.specs.TranslationKinds as kinds
use Rattle.definitions.specs.Bytes.{word}
use Rattle.definitions.specs.Records.{field}
use Rattle.definitions.specs.Layouts.{nodes, node_record}
use Rattle.definitions.specs.FormalPlaces.{function_of, position_of}
use Rattle.definitions.specs.Listing.{label_at, previous_at}
use Rattle.definitions.specs.TranslationNodes.{actual}
use Rattle.definitions.specs.Rule as Rule
use Rattle.definitions.specs.Rule.{Reached, ended, node_due, evaluated}
use Rattle.definitions.specs.Cells.{recalled}
use Rattle.cells.specs.LentCells.{callee_at, entry_number, entry_of}
use Rattle.live_counts.specs.Counts.{constructor_noted}
use Rattle.live_counts.specs.declared.Counts.{Counts}
use Rattle.lent_rule.specs.Lent.{Lent, under_lent, formal_by_lent, by_lent}
use Rattle.lent_rule.proofs.Stands.{previous_made}
use Rattle.run.specs.NodeTable.{first_part, second_part, third_part}
use Rattle.run.specs.Packed.{Outcome, outcome_in, is_value_in}
use Rattle.run.specs.States.{Found, below, above, ending_of, found_of, state_of, reached_of, counted_state, visits, evaluates, bytes_remembering}
use Rattle.run.specs.States.{NodeIs, Visitable, Visits, Evaluates}
use Rattle.run.proofs.NodeKinds.{is_formal}
use Rattle.run.proofs.Endings.{node_missing, node_there}
use Rattle.run.proofs.Counting.{visitable_at, visits_at}
use Rattle.run.proofs.EntryReads.{function_read, position_read, actual_read}
use Rattle.run.proofs.Remembered.{remembered_where, own_or_not, end_kept, reached_remembered, value_recalled, nothing_recalled}
use Rattle.run.proofs.Nodes.{actual_child}
use Rattle.run.proofs.Steps.{worked_out_law}
use Rattle.run.proofs.Remains.{worked_out, Asked, asked_falls, Remains, remains_as, remains_ends, at_context, node_ends}

-- the formal of `at` worked out
module _ (b : List ℕ) (rs : List ℤ) (limits at : ℕ) (s : Rule.State Lent) where
  abbrev rec : List ℕ
  rec = node_record b (below at)

  abbrev visited : ℕ → ℕ → Rule.State Lent → Reached ℕ Lent
  visited = visits b rs (above limits) (below limits)

  formal_as : NodeIs b rec (below at) kinds.formal
      → evaluates b rs (above limits) (below limits) (below at) (above at) s ≡ under_lent b visited (field rec 0) (above at) s (eqb (above at) 0)
  unfolding evaluated by_lent formal_by_lent
  formal_as h = worked_out_law b rs limits at s (is_formal h)

  -- the visit of the actual, by the head label and the tail
  abbrev actual_visit : Reached ℕ Lent
  actual_visit =
      node_due (actual b (field rec 0) (label_at s.store.bytes (above at))) no_actual s (λ n. visited n (previous_at s.store.bytes (above at)) s)

  formal_under : {f i : ℕ} {own : Bool} → NodeIs b rec (below at) kinds.formal → (above at ≡ 0 → ⊥) → f ≡ function_of b (field rec 0) → i ≡ position_of b (field rec 0)
      → own ≡ eqb f (callee_at s.store.bytes (above at))
      → evaluates b rs (above limits) (below limits) (below at) (above at) s
      ≡ recalled (entry_of (cond own (entry_number s.store.bytes (above at) i) 0)) s (remembered_where own (above at) i actual_visit)
  unfolding under_lent
  formal_under {i = i} {own = own} h z ef ei eo =
      formal_as h
      ∙ rw (ne_eqb (above at) 0 z, ← ef, ← ei, ← eo) (own_or_not own (above at) i (entry_number s.store.bytes (above at) i) s actual_visit)

module _ {b tab : List ℕ} {t limits at : ℕ} {counts : Counts} {cells : MutBor (List ℕ)} (a : Asked b tab t limits at counts cells.now kinds.formal) where
  -- under the empty context
  pub formal_ends : {x : ℕ} {o : Outcome} → above at ≡ 0 → outcome_in x ≡ o → ending_of o ≡ ended no_actual
      → Evaluates b tab limits at counts cells x counts cells
  unfolding under_lent
  formal_ends z = node_ends a.1 (λ rs h. formal_as b rs limits at _ a.1.node ∙ rw (eq-eqb (above at) 0 z) refl)

-- the formal's cell was read, which left the lent bytes: whether the cell is the formal's own, and the number of its entry there
pub record CellRead (b tab : List ℕ) (t limits at : ℕ) (counts : Counts) (cells : MutBor (List ℕ)) (own : Bool) (i known : ℕ) (list : List ℕ) : Type 0 where
  pub asked : Asked b tab t limits at counts cells.now kinds.formal
  pub head : above at ≡ 0 → ⊥
  pub kept : list ≡ cells.now
  pub recalls : (rs : List ℤ)
      → evaluates b rs (above limits) (below limits) (below at) (above at) (counted_state counts list)
      ≡ recalled (entry_of known) (counted_state counts list) (remembered_where own (above at) i (actual_visit b rs limits at (counted_state counts list)))

-- its actual was sought: what remains is the visit of the node that was found, or a fault, and a value is remembered
pub record ActualSought (b tab : List ℕ) (t limits at : ℕ) (counts : Counts) (cells : MutBor (List ℕ)) (own : Bool) (i tail : ℕ) (cells' : MutBor (List ℕ)) (o : Found) : Type 0 where
  pub remains : Remains b tab t limits at counts cells counts cells'
      (λ rs. remembered_where own (above at) i (node_due (found_of o) no_actual (counted_state counts cells'.now)
      (λ k. visits b rs (above limits) (below limits) k tail (counted_state counts cells'.now))))
  pub there : {k : ℕ} → o ≡ Some k → k < nodes b
  pub written : tail ≤ counts.most

-- lent bytes behind a slice
abbrev pub behind : MutBor (List ℕ) → List ℕ → MutBor (List ℕ)
behind cells list = record { ref_ptr = cells.ref_ptr; ghost_name = cells.ghost_name; now = list }

module _ {b tab : List ℕ} {t limits at : ℕ} {counts : Counts} {cells : MutBor (List ℕ)} where
  pub cell_read : {e place known : ℕ} {own : Bool} {first list : List ℕ} → Asked b tab t limits at counts cells.now kinds.formal → (above at ≡ 0 → ⊥)
      → e ≡ get_or tab (below at) 0 → place ≡ first_part e → (own ≡ eqb (place / 8) (callee_at cells.now (above at))) × (first ≡ cells.now)
      → (known ≡ cond own (entry_number first (above at) (place % 8)) 0) × (list ≡ first)
      → CellRead b tab t limits at counts cells own (place % 8) known list
  unfolding state_of
  cell_read {place = place} {own = own} {list = list} a z f g eo ek =
      let same : list ≡ cells.now = ek.1 ∙ eo.1 in
      record {
        asked = a;
        head = z;
        kept = same;
        recalls = λ rs.
            formal_under b rs limits at (counted_state counts list) a.1.node z (function_read a.1 f g) (position_read a.1 f g) (eo.0 ∙ rw (← same) refl)
            ∙ rw (ek.0, ← ek.1) refl;
      }

  module _ {own : Bool} {i known : ℕ} {list : List ℕ} (r : CellRead b tab t limits at counts cells own i known list) where
    -- what it remembers is returned
    pub known_returned : is_value_in known ≡ true → Evaluates b tab limits at counts cells known counts (behind cells list)
    unfolding reached_of state_of
    known_returned h =
        record {
          same = λ rs q. sym (value_recalled known (counted_state counts list) _ h) ∙ sym (r.recalls rs) ∙ rw r.kept refl;
          stays = refl;
        }

    -- or the actual is sought
    abbrev pub SoughtBy : {label tail : ℕ} {list' : List ℕ} → (label ≡ label_at list (above at)) × (tail ≡ previous_at list (above at)) × (list' ≡ list) → Found → Type 0
    SoughtBy {tail = tail} {list' = list'} read o = ActualSought b tab t limits at counts cells own i tail (behind cells list') o

    pub formal_seeks : {e s c label tail : ℕ} {list' : List ℕ} {o : Found} → is_value_in known ≡ false → e ≡ get_or tab (below at) 0
        → (read : (label ≡ label_at list (above at)) × (tail ≡ previous_at list (above at)) × (list' ≡ list))
        → s ≡ second_part e → c ≡ third_part e → found_of o ≡ cond (ltb label c) (some (word b (s + 4 + 2 * label))) none → SoughtBy read o
    unfolding actual state_of
    formal_seeks {tail = tail} n f read es ec g =
        let a = r.asked in
        let eo = actual_read a.1 f es ec _ _ g in
        let context = a.1.context in
        let head : 0 < above at = let z = r.head in omega arith in
        record {
          remains = record {
            equipped = a.1.equipped;
            same = λ rs h.
                ap (worked_out b rs limits at counts) (sym r.kept)
                ∙ r.recalls rs
                ∙ nothing_recalled known (counted_state counts list) _ n
                ∙ rw (read.2, read.1, ← read.0, ← eo) refl;
            falls = asked_falls a;
            context = rw (read.2 ∙ r.kept) context;
            stays = refl;
          };
          there = λ q. actual_child a.1.equipped.accepted _ a.1.node eo q;
          written = rw (read.1 ∙ ap (λ (l : List ℕ). previous_at l (above at)) r.kept) (previous_made context.standing (above at) head context.written);
        }

module _ {b tab : List ℕ} {t limits at : ℕ} {counts : Counts} {cells : MutBor (List ℕ)} {own : Bool} {i tail : ℕ} {cells' : MutBor (List ℕ)} {o : Found}
    (s : ActualSought b tab t limits at counts cells own i tail cells' o) where
  -- there is none
  pub actual_missed : {x : ℕ} {q : Outcome} → o ≡ None → outcome_in x ≡ q → ending_of q ≡ ended no_actual → Evaluates b tab limits at counts cells x counts cells'
  actual_missed e = remains_ends (remains_as s.remains (λ rs. ap (remembered_where own (above at) i) (node_missing no_actual _ _ e) ∙ end_kept own (above at) i no_actual _))

  module _ {k p : ℕ} (e : o ≡ Some k) (q : (below p ≡ k) × (above p ≡ tail)) where
    -- what its visit asks
    pub actual_asked : (2 * counts.left < t) × Visitable b tab limits p counts cells'.now
    actual_asked = (s.remains.falls, visitable_at q s.remains.equipped (s.there e) (at_context s.remains.context s.written))

    -- what it gives is returned, and remembered
    pub actual_returned : {x kind : ℕ} {counts'' counts''' : Counts} {list : List ℕ} {cells'' : MutBor (List ℕ)} → Visits b tab limits p counts cells' x counts'' cells''
        → list ≡ bytes_remembering own cells''.now (above at) i (ending_of (outcome_in x))
        → kind ≡ x % 65536 → counts''' ≡ constructor_noted own (above at) kind counts''
        → Evaluates b tab limits at counts cells x counts''' (behind cells'' list)
    unfolding constructor_noted
    actual_returned {x} {counts'' = counts''} {list = list} {cells''} v el ek ec =
        record {
          same = λ rs h.
              rw (el, ec, ek) (reached_remembered own (above at) i x counts'' cells''.now)
              ∙ ap (remembered_where own (above at) i) (visits_at q v rs h ∙ sym (node_there no_actual _ _ e))
              ∙ sym (s.remains.same rs h);
          stays = v.stays ∙ s.remains.stays;
        }
