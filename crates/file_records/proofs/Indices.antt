-- Laws of an index: it shows the same records as walking, and it grows by the place of the next record.
use mathlib.Core.Path.{◌≡◌, refl, sym, ap, ◌∙◌}
use Prim.Native.Nat.{ℕ, ◌+◌, ◌≤◌, ◌<◌}
use mathlib.Core.List.{List}
use native.Mathlib.Omega.{arith}
use lib.ListN.{get_or}
use Rattle.definitions.specs.Sizes.{most_records}
use Rattle.definitions.specs.SheetKinds
use Rattle.definitions.specs.TranslationKinds
use Rattle.definitions.specs.Records.{record_at, record_of, kind_of, field}
use Rattle.definitions.specs.Layouts.{due, nodes, first_node, node_record}
use Rattle.definitions.specs.declared.Layout.{Layout}
use Rattle.definitions.specs.declared.Layout.TheVariants.{Sheet, Translation}
use Rattle.laws.proofs.Names.{sheet_kind, translation_kind}
use Rattle.accepted.proofs.Records.{kind_due}
use Rattle.file_records.specs.Index.{Indexed, Opened, start_in}
use borrow.Author.Tests.{lt-ltb, le-ltb}

-- an entry, and past the end
pub start_inside : (starts : List ℕ) (r x : ℕ) → r < most_records → x ≡ get_or starts r 0 → x ≡ start_in starts r
unfolding start_in
start_inside starts r x h e = rw (lt-ltb r most_records h) e

pub start_past : (starts : List ℕ) (r : ℕ) → most_records ≤ r → 0 ≡ start_in starts r
unfolding start_in
start_past starts r h = rw (le-ltb r most_records h) refl

-- past the end, the record at place 0
pub record_past : (b starts rec : List ℕ) (r : ℕ) → most_records ≤ r → rec ≡ record_at b 0 → rec ≡ record_at b (start_in starts r)
record_past b starts rec r h e = e ∙ ap (record_at b) (start_past starts r h)

-- a field of the record that an index shows a number of records after a first one
pub shown_field : (b starts : List ℕ) {first g : ℕ} (i j : ℕ) {x : ℕ} {rec : List ℕ} → g ≡ first → rec ≡ record_at b (start_in starts (g + i)) → x ≡ field rec j
    → x ≡ field (record_at b (start_in starts (first + i))) j
shown_field b starts i j e f h = h ∙ rw (f, e) refl

-- the record at an entry's place is the record of that number
pub same_record : (b starts : List ℕ) (n r : ℕ) → Indexed b starts n → r < n → record_at b (start_in starts r) ≡ record_of b r
unfolding record_of
same_record b starts n r i h =
    ap (record_at b) (sym (start_inside starts r (get_or starts r 0) (omega (arith, i.room, h)) refl) ∙ i.entry r h)

pub indexed_record : (b starts : List ℕ) (n r : ℕ) (rec : List ℕ) → Indexed b starts n → r < n → rec ≡ record_at b (start_in starts r) → rec ≡ record_of b r
indexed_record b starts n r rec i h e = e ∙ same_record b starts n r i h

pub indexed_field : (b starts : List ℕ) (n r j x : ℕ) (rec : List ℕ) → Indexed b starts n → r < n → rec ≡ record_at b (start_in starts r) → x ≡ field rec j
    → x ≡ field (record_of b r) j
indexed_field b starts n r j x rec i h e f = f ∙ rw (indexed_record b starts n r rec i h e) refl

-- an index of as many records, said in other words
pub as_many : {b starts : List ℕ} {n m : ℕ} → Indexed b starts n → n ≡ m → Indexed b starts m
as_many i e = rw e at i

-- an index of fewer records
pub fewer : (b starts : List ℕ) (n m : ℕ) → m ≤ n → Indexed b starts n → Indexed b starts m
fewer b starts n m h i = record { entry = λ r k. i.entry r (omega arith); room = omega (arith, i.room) }

-- the kind of a record that an opened file's index reaches
pub opened_record : (y : Layout) (b starts : List ℕ) (r : ℕ) (rec : List ℕ) → Opened y b starts → r < due b → rec ≡ record_at b (start_in starts r) → rec ≡ record_of b r
opened_record y b starts r rec o h e = indexed_record b starts (due b) r rec o.index h e

-- the record of node k, as an index reaches it
pub node_reached : (y : Layout) (b starts : List ℕ) (k first : ℕ) (rec : List ℕ) → Opened y b starts → k < nodes b → first ≡ first_node b
    → rec ≡ record_at b (start_in starts (first + k)) → rec ≡ node_record b k
node_reached y b starts k first rec o h e f = opened_record y b starts (first + k) rec o (omega (arith, h, e)) f ∙ rw e refl

pub opened_translation_kind : {b starts : List ℕ} {r : ℕ} {rec : List ℕ} → Opened Translation b starts → r < due b
    → rec ≡ record_at b (start_in starts r) → TranslationKinds.head ≤ kind_of rec
opened_translation_kind {b} {starts} {r} {rec} o h e =
    rw (opened_record Translation b starts r rec o h e)
    (translation_kind b r (kind_of (record_of b r)) (kind_due Translation b o.accepted r h))

pub numbered_sheet_kind : {b starts : List ℕ} {r : ℕ} {rec : List ℕ} → Opened Sheet b starts → r < due b → rec ≡ record_of b r → kind_of rec ≤ SheetKinds.case_of
numbered_sheet_kind {b} {r} o h e = rw e (sheet_kind b r (kind_of (record_of b r)) (kind_due Sheet b o.accepted r h))
