-- Laws of filling the table of nodes: an entry's parts, and the table while it is filled.
use mathlib.Core.Path.{◌≡◌, refl, sym, ap, ◌∙◌}
use Prim.Native.Nat.{ℕ, ◌+◌, ◌*◌, ◌/◌, ◌%◌, ◌≤◌, ◌<◌}
use mathlib.Core.List.{List}
use mathlib.Core.Bool.{true}
use native.Mathlib.Omega.{arith}
use native.Mathlib.Nat.{not-suc-le-zero, mod-eq_of_lt}
use lib.IntN.{ℤ, pos, negsuc}
use lib.ListN.{length, get_or, set, length-set}
use mir.Syntax.{w32}
use mir.Val.{to_z, SFits}
use mir.ValLaws.{to_z-of_z}
use Rattle.definitions.specs.Sizes.{translation_bytes, most_nodes, most_formals}
use Rattle.definitions.specs.TranslationKinds as kinds
use Rattle.definitions.specs.Bytes.{word}
use Rattle.definitions.specs.Records.{whole, start_of, record_at, record_of, kind_of, field, field_count}
use Rattle.definitions.specs.Operators.{residue}
use Rattle.definitions.specs.Layouts.{items, functions, nodes, first_node, due, node_record, body_of}
use Rattle.definitions.specs.Shape.{file_shape}
use Rattle.definitions.specs.declared.Layout.TheVariants.{Translation}
use Rattle.definitions.specs.Verdict.{Accepted}
use Rattle.laws.proofs.Records.{whole_is, record_length_law, record_word}
use Rattle.accepted.proofs.Head.{items_limit, nodes_limit}
use Rattle.accepted.proofs.Records.{within_limit, record_whole, record_fields}
use Rattle.accepted.proofs.Checks.{translation_shape}
use Rattle.accepted.proofs.TranslationNames.{formal_below, translation_call_below}
use Rattle.file_records.specs.Index.{Indexed, Opened, start_in}
use Rattle.file_records.proofs.Indices.{start_inside, indexed_record}
use Rattle.file_runs.proofs.RunTables.{entry_more}
use Rattle.run.specs.FormalTable.{place_of, FormalTable}
use Rattle.run.specs.NodeTable.{table_entries, Parts, EntryOf, NodeTable, ListEntry}
use Rattle.run.specs.States.{Ready}
use Rattle.run.proofs.NodeKinds.{is_formal, is_call, node_is}

start_reached : (b index : List ℕ) (r : ℕ) → Indexed b index (due b) → r < due b → start_in index r ≡ start_of b r
start_reached b index r i h = sym (start_inside index r (get_or index r 0) (omega (arith, i.room, h)) refl) ∙ i.entry r h

pub recorded : (b : List ℕ) (r : ℕ) → whole b (start_of b r) ≡ true → length (record_of b r) ≡ word b (start_of b r)
unfolding record_of
recorded b r w = record_length_law b (start_of b r) w

pub recorded_word : (b : List ℕ) (r j : ℕ) → whole b (start_of b r) ≡ true → j + 1 < word b (start_of b r) → word (record_of b r) j ≡ word b (start_of b r + j)
unfolding record_of
recorded_word b r j w h = record_word b (start_of b r) j w h

-- a record has no more fields than its file has bytes
fields_limit : (b : List ℕ) → file_shape Translation b ≡ Accepted → (r : ℕ) → r < due b → field_count (record_of b r) < 65536
fields_limit b shaped r h =
    let w = record_whole Translation b shaped r h in
    let i = (whole_is b (start_of b r) w).inside in
    let n = recorded b r w in
    let f = record_fields Translation b shaped r h in
    let l : length b ≤ translation_bytes = within_limit Translation b shaped in
    omega arith

-- the entry of a node with a list of nodes
pub list_entry : (b index : List ℕ) (kind first r start count x : ℕ) (rec : List ℕ) → Opened Translation b index → r < due b
    → start ≡ start_in index r → start < 65536 → rec ≡ record_at b (start_in index r) → count ≡ field_count rec
    → Parts x kind first (start % 65536) (count % 65536) → ListEntry b kind first r x
list_entry b index kind first r start count x rec o h es hs er ec t =
    let d : rec ≡ record_of b r = indexed_record b index (due b) r rec o.index h er in
    let c : count ≡ field_count (record_of b r) = ec ∙ rw d refl in
    let l : count < 65536 = rw c (fields_limit b o.accepted r h) in
    let z : start ≡ start_of b r = es ∙ start_reached b index r o.index h in
    record {
      part_0 = t.part_0;
      part_1 = t.part_1;
      list = record { start = t.part_2 ∙ mod-eq_of_lt hs ∙ z; fields = t.part_3 ∙ mod-eq_of_lt l ∙ c };
    }

-- a number of 32 bits from its bits
pub bits_back : (z : ℤ) → SFits w32 z → to_z w32 (residue w32 z) ≡ z
unfolding residue
bits_back (pos n) f =
    let h : n < 2147483648 = f.sfits in
    let k : n < 4294967296 = omega arith in
    ap (to_z w32) (mod-eq_of_lt k) ∙ to_z-of_z w32 (pos n) f
bits_back (negsuc n) f =
    let h : n < 2147483648 = f.sfits in
    let k : n < 4294967296 = omega arith in
    rw (mod-eq_of_lt k) (to_z-of_z w32 (negsuc n) f)

pub split : (x : ℕ) → x / 65536 % 4294967296 ≡ x / 65536 % 65536 + 65536 * (x / 4294967296 % 65536)
split x = omega arith

pub halves : (n : ℕ) → n < 4294967296 → n % 65536 + 65536 * (n / 65536) ≡ n
halves n h = omega arith

-- an entry by its parts, by the kind of the node
module _ (b rec : List ℕ) (k kind x first : ℕ) (er : rec ≡ node_record b k) (e : kind ≡ kind_of rec) (ef : first ≡ field rec 0) where
  kind_is : kind ≡ kind_of (node_record b k)
  kind_is = e ∙ ap kind_of er

  first_is : first ≡ field (node_record b k) 0
  first_is = ef ∙ ap (λ l. field l 0) er

  pub entry_of_formal : (r p : ℕ) → kind ≡ kinds.formal → r ≡ 1 + functions b + first → p ≡ place_of b first → ListEntry b kind p r x → EntryOf b k x
  entry_of_formal r p n g ep t =
      let q : kind_of (node_record b k) ≡ kinds.formal = sym kind_is ∙ n in
      record {
        kind = t.part_0 ∙ kind_is;
        first = λ d. absurd (d q);
        place = λ d. t.part_1 ∙ ep ∙ ap (place_of b) first_is;
        second = λ d. absurd (d.no_formal q);
        third = λ d. absurd (d.no_formal q);
        actuals = λ d. rw (g, first_is) at t.list;
        callee = λ d. absurd (omega (arith, q, d));
        body = λ d. absurd (omega (arith, q, d));
        list = λ d. absurd (omega (arith, q, d));
      }

  pub entry_of_call : (f y : ℕ) → kind ≡ kinds.call → f ≡ field rec 1 → y ≡ body_of Translation b f → Parts x kind first f y → EntryOf b k x
  entry_of_call f y n g ey t =
      let q : kind_of (node_record b k) ≡ kinds.call = sym kind_is ∙ n in
      record {
        kind = t.part_0 ∙ kind_is;
        first = λ d. t.part_1 ∙ first_is;
        place = λ d. absurd (omega (arith, q, d));
        second = λ d. absurd (d.no_call q);
        third = λ d. absurd (d.no_call q);
        actuals = λ d. absurd (omega (arith, q, d));
        callee = λ d. t.part_2 ∙ g ∙ ap (λ l. field l 1) er;
        body = λ d. t.part_3 ∙ ey ∙ ap (body_of Translation b) (g ∙ ap (λ l. field l 1) er);
        list = λ d. absurd (omega (arith, q, d));
      }

  pub entry_of_list : (r : ℕ) → kinds.tuple ≤ kind → r ≡ first_node b + k → ListEntry b kind first r x → EntryOf b k x
  entry_of_list r n g t =
      let q = kind_is in
      record {
        kind = t.part_0 ∙ kind_is;
        first = λ d. t.part_1 ∙ first_is;
        place = λ d. absurd (omega (arith, q, n, d));
        second = λ d. absurd (let l = d.no_list in omega arith);
        third = λ d. absurd (let l = d.no_list in omega arith);
        actuals = λ d. absurd (omega (arith, q, n, d));
        callee = λ d. absurd (omega (arith, q, n, d));
        body = λ d. absurd (omega (arith, q, n, d));
        list = λ d. rw g at t.list;
      }

  pub entry_of_fields : (y z : ℕ) → (kind ≡ kinds.formal → ⊥) → (kind ≡ kinds.call → ⊥) → kind < kinds.tuple → y ≡ field rec 1 → z ≡ field rec 2
      → Parts x kind first y z → EntryOf b k x
  entry_of_fields y z n1 n2 l ey ez t =
      let q = kind_is in
      record {
        kind = t.part_0 ∙ kind_is;
        first = λ d. t.part_1 ∙ first_is;
        place = λ d. absurd (n1 (q ∙ d));
        second = λ d. t.part_2 ∙ ey ∙ ap (λ l. field l 1) er;
        third = λ d. t.part_3 ∙ ez ∙ ap (λ l. field l 2) er;
        actuals = λ d. absurd (n1 (q ∙ d));
        callee = λ d. absurd (n2 (q ∙ d));
        body = λ d. absurd (n2 (q ∙ d));
        list = λ d. absurd (omega (arith, q, l, d));
      }

-- what the entry of a node asks
module _ (b index ends rec : List ℕ) (k kind : ℕ) (ready : Ready b index ends) (h : k < nodes b) (er : rec ≡ node_record b k) (e : kind ≡ kind_of rec) where
  pub formal_record : (first y f : ℕ) → kind ≡ kinds.formal → first ≡ field rec 0 → y ≡ first → f ≡ 1 + functions b → f + y < due b
  formal_record first y f n ef ey eg =
      let l = formal_below b ready.accepted k h (is_formal (node_is h er e n)) in omega arith

  pub formal_entry : (places : List ℕ) (first y : ℕ) → FormalTable b places → kind ≡ kinds.formal → first ≡ field rec 0 → y ≡ first
      → (y < most_formals) × (get_or places y 0 ≡ place_of b first)
  formal_entry places first y t n ef ey =
      let l = formal_below b ready.accepted k h (is_formal (node_is h er e n)) in
      let m = items_limit Translation b (translation_shape b ready.accepted) in
      let p : first < items b = rw ef l in
      (omega arith, rw ey (t.place first p))

  pub function_there : (f : ℕ) → kind ≡ kinds.call → f ≡ field rec 1 → f < functions b
  function_there f n ef = rw ef (translation_call_below b ready.accepted k h (is_call (node_is h er e n)))

-- where the record of a formal and of a node stands
pub formal_place : (b : List ℕ) (first y f : ℕ) → y ≡ first → f ≡ 1 + functions b → f + y ≡ 1 + functions b + first
formal_place b first y f ey eg = rw (ey, eg) refl

pub node_place : (b : List ℕ) (k y f : ℕ) → y ≡ k → f ≡ first_node b → f + y ≡ first_node b + k
node_place b k y f ey eg = rw (ey, eg) refl

pub node_within : (b : List ℕ) (k y f : ℕ) → k < nodes b → y ≡ k → f ≡ first_node b → f + y < due b
node_within b k y f h ey eg = omega arith

pub opens : (b index ends : List ℕ) → Ready b index ends → Opened Translation b index
opens b index ends ready = record { accepted = translation_shape b ready.accepted; index = ready.index }

-- the first k entries are right
pub record FillingEntries (b tab : List ℕ) (count k : ℕ) : Type 0 where
  pub reached : k ≤ count
  pub counted : count ≡ nodes b
  pub room : count ≤ most_nodes
  pub size : length tab ≡ table_entries
  pub entry : (i : ℕ) → i < k → EntryOf b i (get_or tab i 0)

pub filling_begins : (b index ends tab : List ℕ) (count : ℕ) → Ready b index ends → count ≡ nodes b → length tab ≡ table_entries → FillingEntries b tab count 0
filling_begins b index ends tab count ready e s =
    record {
      reached = omega arith;
      counted = e;
      room = rw e (nodes_limit Translation b (translation_shape b ready.accepted));
      size = s;
      entry = λ i h. absurd (not-suc-le-zero h);
    }

module _ (b tab : List ℕ) (count k : ℕ) (w : FillingEntries b tab count k) where
  pub filling_below : k < count → k < nodes b
  filling_below h = let c = w.counted in omega arith

  pub filling_room : (x : ℕ) → k < count → x ≡ k → x < table_entries
  filling_room x h e = let c = w.room in omega arith

  pub filling_goes_on : (y x : ℕ) → k < count → y ≡ k → EntryOf b k x → FillingEntries b (set tab y x) count (k + 1)
  filling_goes_on y x h e g =
      rw e (record {
        reached = omega arith;
        counted = w.counted;
        room = w.room;
        size = length-set tab k x ∙ w.size;
        entry = entry_more (EntryOf b) tab k x (omega (arith, w.size, w.room, h)) w.entry g;
      })

  pub filled : count ≤ k → NodeTable b tab × (length tab ≡ table_entries)
  filled h = let c = w.counted in (record { entry = λ i l. w.entry i (omega arith) }, w.size)
