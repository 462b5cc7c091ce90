-- Laws of runs in turn: a row among the rows, and one row more.
use mathlib.Core.Path.{◌≡◌, refl, sym, ap, ◌∙◌}
use Prim.Native.Nat.{ℕ, suc, ◌+◌, ◌*◌, ◌-◌, ◌≤◌, ◌<◌}
use mathlib.Core.List.{List, [], ◌++◌, append_assoc, append-nil}
use mathlib.Core.Bool.{true}
use native.Mathlib.Omega.{arith}
use native.Mathlib.Numerals.{add-one}
use native.Mathlib.Nat.{le_trans, le_of_eq, add-sub_cancel_left, suc-mul, mul-le-mul_right}
use lib.IntN.{ℤ}
use lib.ListN.{length, take, drop, length-append, length-drop, drop_of_length-le}
use lib.Dec.{leb}
use lib.Seq.{take_all, take-append_seam, drop-append-add, drop-drop}
use borrow.Author.Tests.{le-leb}
use borrow.Rule.Slice.PartMut.{mid_of, put_mid}
use denote.MutBor.{MutBor}
use Rattle.definitions.specs.Sizes.{answer_size}
use Rattle.definitions.specs.Lists.{joined}
use Rattle.definitions.specs.Layouts.{readings}
use Rattle.definitions.specs.Run.{Answer}
use Rattle.definitions.specs.AnswerRecord.{answer_bytes}
use Rattle.definitions.specs.RunsInTurn.{row_of, cells_in_turn, answer_in_turn, records_in_turn}
use Rattle.definitions.specs.Verdict.{Verdict}
use Rattle.answer.specs.declared.Answer as answers
use Rattle.answer.specs.Answers.{answer_of, Writes}
use Rattle.run.specs.NodeTable.{Readable}
use Rattle.run.specs.Promise.{Runs}
use Rattle.laws.proofs.Joined.{joined_even}
use Rattle.answer.proofs.Records.{answer_length}
use Rattle.batch.specs.Rows.{RowFits, RowsFit, record_put, RanRow, records_over, RanRows}

-- the part of a list that is a row
pub row_is : (b : List ℕ) (rs : List ℤ) (row : ℕ) {width : ℕ} → width ≡ readings b → take (row * width + width - row * width) (drop (row * width) rs) ≡ row_of b rs row
unfolding row_of
row_is b rs row e = rw e (ap (λ (k : ℕ). take k (drop (row * readings b) rs)) (add-sub_cancel_left (row * readings b) (readings b)))

-- part n of equal parts lies below a limit of all
pub next_below : (size n rows limit : ℕ) → n < rows → rows * size ≤ limit → n * size + size ≤ limit
next_below size n rows limit h l = le_trans (le_of_eq (sym (suc-mul n size))) (le_trans (mul-le-mul_right size h) l)

-- a record written over the front of what stands from a row's place on
pub put_is : (room : List ℕ) {part : List ℕ} (row : ℕ) (a : answers.Answer) {v : Verdict} → row * answer_size + answer_size ≤ length room
    → Writes a (mid_of (row * answer_size) (length room - row * answer_size) room) part v
    → put_mid (row * answer_size) (length room - row * answer_size) room part ≡ record_put room row (answer_of a)
unfolding record_put
put_is room {part} row a h w =
    let start = row * answer_size in
    let size : length (drop start room) ≡ length room - start = length-drop start room in
    let mid : take (length room - start) (drop start room) ≡ drop start room = take_all (length room - start) (drop start room) (omega (arith, size)) in
    let rest : drop (length room - start) (drop start room) ≡ [] = drop_of_length-le (drop start room) {i = length room - start} (omega (arith, size)) in
    let fits : leb answer_size (length (drop start room)) ≡ true = le-leb answer_size (length (drop start room)) (omega (arith, size, h)) in
    let bytes : part ≡ answer_bytes (answer_of a) ++ drop answer_size (drop start room) = w.bytes ∙ rw (mid, fits) refl in
    rw (rest, bytes, append-nil, drop-drop) (sym (append_assoc (take start room) (answer_bytes (answer_of a)) (drop (start + answer_size) room)))

-- one row was run
pub ran_row : {b : List ℕ} {rs part : List ℤ} {row steps nesting cells_allowed : ℕ} {before room after room' : List ℕ} {r : answers.Answer} → part ≡ row_of b rs row
    → Runs b part steps nesting cells_allowed before r after → room' ≡ record_put room row (answer_of r) → RanRow b row rs steps nesting cells_allowed before room after room'
ran_row e run put = record { cells = run.cells ∙ rw e refl; written = put ∙ rw (run.answer, e) refl }

-- a record put after the records of the rows before it
put_next : (recs room : List ℕ) (n : ℕ) (a : Answer) → length recs ≡ n * answer_size
    → record_put (recs ++ drop (n * answer_size) room) n a ≡ (recs ++ answer_bytes a) ++ drop (suc n * answer_size) room
unfolding record_put
put_next recs room n a e =
    let front : take (n * answer_size) (recs ++ drop (n * answer_size) room) ≡ recs = rw (← e) (take-append_seam recs (drop (length recs) room)) in
    let size : suc n * answer_size ≡ n * answer_size + answer_size = suc-mul n answer_size in
    let back : drop (n * answer_size + answer_size) (recs ++ drop (n * answer_size) room) ≡ drop (n * answer_size + answer_size) room =
    rw (← e) (drop-append-add recs (drop (length recs) room) answer_size ∙ drop-drop answer_size (length recs) room) in
    rw (front, back, size) refl

pub records_length : (b : List ℕ) (rs : List ℤ) (steps nesting cells_allowed : ℕ) (before : List ℕ) (n : ℕ)
    → length (records_in_turn b (row_of b rs) steps nesting cells_allowed n before) ≡ n * answer_size
unfolding records_in_turn
records_length b rs steps nesting cells_allowed before = joined_even _ answer_size (λ i. answer_length _)

module _ {b : List ℕ} {rs : List ℤ} {steps nesting cells_allowed : ℕ} {before room : List ℕ} where
  -- the lent records stay as long
  records_kept : (n : ℕ) {cells records : List ℕ} → n * answer_size ≤ length room → RanRows b n rs steps nesting cells_allowed before room cells records → length records ≡ length room
  unfolding records_over
  records_kept n h ran =
      ap length ran.written ∙ length-append (records_in_turn b (row_of b rs) steps nesting cells_allowed n before) (drop (n * answer_size) room)
      ∙ (let e = records_length b rs steps nesting cells_allowed before n in let f = length-drop (n * answer_size) room in omega arith)

  -- no row was run yet
  pub ran_none : RanRows b 0 rs steps nesting cells_allowed before room before room
  unfolding cells_in_turn records_over records_in_turn joined
  ran_none = record { cells = refl; written = refl }

  -- one row more
  pub ran_more : {n : ℕ} {cells cells' records records' : List ℕ} → RanRows b n rs steps nesting cells_allowed before room cells records
      → RanRow b n rs steps nesting cells_allowed cells records cells' records' → RanRows b (n + 1) rs steps nesting cells_allowed before room cells' records'
  unfolding cells_in_turn records_over records_in_turn answer_in_turn joined
  ran_more {n} ran row =
      let recs = records_in_turn b (row_of b rs) steps nesting cells_allowed n before in
      let next = put_next recs room n (answer_in_turn b (row_of b rs) steps nesting cells_allowed n before) (records_length b rs steps nesting cells_allowed before n) in
      rw (add-one n) (record { cells = row.cells ∙ rw ran.cells refl; written = row.written ∙ rw (ran.written, ran.cells) next })

  -- a row has its readings and room for its record while rows are left
  pub row_fits : {n rows : ℕ} {cells records : List ℕ} → RowsFit b rs (length room) rows → RanRows b n rs steps nesting cells_allowed before room cells records → n < rows
      → RowFits b rs (length records) n
  row_fits {n} {rows} fit ran h =
      record {
        given = next_below (readings b) n rows (length rs) h (le_of_eq (sym fit.given));
        roomy = rw (records_kept n (omega (arith, fit.roomy, h)) ran) (next_below answer_size n rows (length room) h fit.roomy);
      }

-- the loop over the rows, with the first `row` of them run
pub record Running (b tab : List ℕ) (rows : ℕ) (rs : List ℤ) (steps nesting cells_allowed : ℕ) (cells₀ : MutBor (List ℕ)) (room : List ℕ) (cells : MutBor (List ℕ)) (records : List ℕ)
    (row : ℕ) : Type 0 where
  pub reached : row ≤ rows
  pub fit : RowsFit b rs (length room) rows
  pub readable : Readable b tab
  pub ran : RanRows b row rs steps nesting cells_allowed cells₀.now room cells.now records
  pub stays : cells.ref_ptr ≡ cells₀.ref_ptr

module _ {b tab : List ℕ} {rows : ℕ} {rs : List ℤ} {steps nesting cells_allowed : ℕ} {cells₀ : MutBor (List ℕ)} {room : List ℕ} {cells : MutBor (List ℕ)} {records : List ℕ} {row : ℕ}
    (w : Running b tab rows rs steps nesting cells_allowed cells₀ room cells records row) where
  pub running_kept : length records ≡ length room
  running_kept = records_kept row (omega (arith, w.reached, w.fit.roomy)) w.ran

  pub all_ran : rows ≤ row → RanRows b rows rs steps nesting cells_allowed cells₀.now room cells.now records × (cells.ref_ptr ≡ cells₀.ref_ptr)
  all_ran h =
      let e : row ≡ rows = omega (arith, w.reached, h) in
      (rw e at w.ran, w.stays)
