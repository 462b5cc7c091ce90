-- Laws of the readings in the table of a run: set, read, and beside nodes that stay.
use mathlib.Core.Path.{◌≡◌, refl, sym, ap, ◌∙◌}
use Prim.Native.Nat.{ℕ, ◌+◌, ◌%◌, ◌≤◌, ◌<◌}
use mathlib.Core.List.{List}
use native.Mathlib.Omega.{arith}
use native.Mathlib.Numerals.{add-one}
use native.Mathlib.Decide.{ℕ_discrete, dec_lt}
use native.Mathlib.Nat.{not-suc-le-zero, mod-eq_of_lt}
use lib.IntN.{ℤ, pos}
use lib.ListN.{length, get_or, set, length-set, get_or-eq_default}
use lib.Seq.{get_or-set_same, get_or-set_other, ext_get_or}
use mir.Syntax.{w32}
use mir.Val.{to_z, SFits}
use Rattle.definitions.specs.Sizes.{most_nodes, most_readings}
use Rattle.definitions.specs.Lists.{listed}
use Rattle.definitions.specs.Operators.{residue}
use Rattle.definitions.specs.Layouts.{readings}
use Rattle.definitions.specs.Checks.{translation_verdict}
use Rattle.definitions.specs.declared.Layout.TheVariants.{Translation}
use Rattle.definitions.specs.Verdict.{Accepted}
use Rattle.laws.proofs.Lists.{below_suc, listed_length, listed_at}
use Rattle.laws.proofs.ByteFiles.{Bytes}
use Rattle.accepted.proofs.Head.{nodes_limit, readings_limit}
use Rattle.accepted.proofs.Checks.{translation_shape}
use Rattle.lent_rule.specs.Standing.{Narrow, NarrowReadings}
use Rattle.lent_rule.proofs.Narrow.{narrow_read}
use Rattle.operators.proofs.Residues.{residue_below}
use Rattle.run.specs.NodeTable.{table_entries, reading_in, reading_set, readings_held, ReadingsIn, ReadingsSet, Readable}
use Rattle.run.specs.States.{Equipped}
use Rattle.run.proofs.Entries.{bits_back}

-- the first i readings are set
pub record SettingReadings (tab : List ℕ) (rs : List ℤ) (tab' : List ℕ) (i : ℕ) : Type 0 where
  pub reached : i ≤ length rs
  pub narrow : length rs ≤ most_readings
  pub room : length tab' ≡ table_entries
  pub kept : (k : ℕ) → k < most_nodes → get_or tab' k 0 ≡ get_or tab k 0
  pub set : (j : ℕ) → j < i → reading_in tab' j ≡ get_or rs j (pos 0)

pub setting_begins : (tab : List ℕ) (rs : List ℤ) → length tab ≡ table_entries → length rs ≤ most_readings → SettingReadings tab rs tab 0
setting_begins tab rs e h =
    record { reached = omega arith; narrow = h; room = e; kept = λ k l. refl; set = λ j l. absurd (not-suc-le-zero l) }

-- a reading that is set, beside the other entries
module _ (tab : List ℕ) (i : ℕ) (z : ℤ) where
  set_read : length tab ≡ table_entries → i < most_readings → SFits w32 z → reading_in (reading_set tab i z) i ≡ z
  set_read room h f = rw (get_or-set_same tab (most_nodes + i) (residue w32 z) 0 (omega (arith, room, h)), mod-eq_of_lt (residue_below w32 z)) (bits_back z f)

  set_beside : (j : ℕ) → (j ≡ i → ⊥) → reading_in (reading_set tab i z) j ≡ reading_in tab j
  set_beside j d = ap (λ v. to_z w32 (v % 4294967296)) (get_or-set_other tab (most_nodes + i) (most_nodes + j) (residue w32 z) 0 (λ q. d (omega (arith, q))))

  set_nodes : (k : ℕ) → k < most_nodes → get_or (reading_set tab i z) k 0 ≡ get_or tab k 0
  set_nodes k l = get_or-set_other tab (most_nodes + i) k (residue w32 z) 0 (λ q. omega (arith, q, l))

module _ (tab : List ℕ) (rs : List ℤ) (tab' : List ℕ) (i : ℕ) (w : SettingReadings tab rs tab' i) where
  pub setting_goes_on : (z : ℤ) → i < length rs → SFits w32 z → z ≡ get_or rs i (pos 0) → SettingReadings tab rs (reading_set tab' i z) (i + 1)
  setting_goes_on z h f e =
      record {
        reached = omega (arith, h);
        narrow = w.narrow;
        room = length-set tab' (most_nodes + i) (residue w32 z) ∙ w.room;
        kept = λ k b. set_nodes tab' i z k b ∙ w.kept k b;
        set = λ j b.
            below_suc (λ m. reading_in (reading_set tab' i z) m ≡ get_or rs m (pos 0)) i
            (λ m c. set_beside tab' i z m (λ q. omega (arith, q, c)) ∙ w.set m c)
            (set_read tab' i z w.room (omega (arith, h, w.narrow)) f ∙ e) j (rw (add-one i) at b);
      }

  pub setting_ends : length rs ≤ i → ReadingsSet tab rs tab'
  setting_ends h = record { room = w.room; kept = w.kept; set = λ j l. w.set j (omega arith) }

-- a table that keeps the nodes of another holds the same translation
kept_readable : {b tab tab' : List ℕ} → Readable b tab → length tab' ≡ table_entries → ((k : ℕ) → k < most_nodes → get_or tab' k 0 ≡ get_or tab k 0) → Readable b tab'
kept_readable {b} r room kept =
    let n = nodes_limit Translation b (translation_shape b r.accepted) in
    record { accepted = r.accepted; room = room; table = record { entry = λ k h. rw (kept k (omega (arith, h, n))) (r.table.entry k h) } }

pub still_readable : {b : List ℕ} {rs : List ℤ} {tab tab' : List ℕ} → Readable b tab → ReadingsSet tab rs tab' → Readable b tab'
still_readable r s = kept_readable r s.room s.kept

-- the readings that a table holds: it holds them, they have 32 bits, and it is equipped with them
pub held_in : (b tab : List ℕ) → ReadingsIn b (readings_held b tab) tab
unfolding readings_held
held_in b tab = record { reading = λ i h. sym (listed_at (readings b) (reading_in tab) (pos 0) i h) }

pub held_narrow : (b tab : List ℕ) → NarrowReadings (readings_held b tab)
unfolding readings_held
held_narrow b tab = record { reading = λ i. by i (dec_lt i (readings b)) }
  where
    by : (i : ℕ) → Dec (i < readings b) → Narrow (get_or (listed (readings b) (reading_in tab)) i (pos 0))
    by i (yes h) = rw (listed_at (readings b) (reading_in tab) (pos 0) i h) (narrow_read (get_or tab (most_nodes + i) 0 % 4294967296))
    by i (no h) = rw (get_or-eq_default (listed (readings b) (reading_in tab)) (pos 0) {n = i} (rw (listed_length (readings b) (reading_in tab)) (omega (arith, h)))) (narrow_read 0)

pub equips : {b tab : List ℕ} → Bytes b → Readable b tab → Equipped b tab
equips {b} {tab} bytes r =
    record {
      accepted = r.accepted;
      table = r.table;
      bytes = bytes;
      readings = readings_held b tab;
      held = held_in b tab;
      narrow = held_narrow b tab;
    }

-- readings that are set are those that the table holds
pub set_held : (b : List ℕ) {rs : List ℤ} {tab tab' : List ℕ} → ReadingsSet tab rs tab' → length rs ≡ readings b → readings_held b tab' ≡ rs
unfolding readings_held
set_held b {rs} {tab' = tab'} s e =
    let n = listed_length (readings b) (reading_in tab') in
    ext_get_or (pos 0) _ rs (n ∙ sym e) (λ i h. let l : i < readings b = rw n at h in listed_at (readings b) (reading_in tab') (pos 0) i l ∙ s.set i (rw e l))

-- one more reading set among them
pub one_readable : {b tab : List ℕ} (i : ℕ) (z : ℤ) → Readable b tab → Readable b (reading_set tab i z)
one_readable {tab = tab} i z r = kept_readable r (length-set tab (most_nodes + i) (residue w32 z) ∙ r.room) (set_nodes tab i z)

module _ {b tab : List ℕ} (i : ℕ) (z : ℤ) (r : Readable b tab) (h : i < readings b) where
  asked : i < most_readings
  asked = omega (arith, h, readings_limit Translation b (translation_shape b r.accepted))

  pub one_held : SFits w32 z → readings_held b (reading_set tab i z) ≡ set (readings_held b tab) i z
  unfolding readings_held
  one_held f =
      let n = listed_length (readings b) (reading_in tab) in
      let m = listed_length (readings b) (reading_in (reading_set tab i z)) in
      ext_get_or (pos 0) _ _ (m ∙ sym n ∙ sym (length-set (listed (readings b) (reading_in tab)) i z)) (λ j l. by j (rw m at l) (ℕ_discrete j i))
    where
      by : (j : ℕ) → j < readings b → Dec (j ≡ i) → get_or (listed (readings b) (reading_in (reading_set tab i z))) j (pos 0) ≡ get_or (set (listed (readings b) (reading_in tab)) i z) j (pos 0)
      by j l (yes e) =
          let n = listed_length (readings b) (reading_in tab) in
          listed_at (readings b) (reading_in (reading_set tab i z)) (pos 0) j l
          ∙ rw e (set_read tab i z r.room asked f ∙ sym (get_or-set_same (listed (readings b) (reading_in tab)) i z (pos 0) (rw n h)))
      by j l (no d) =
          listed_at (readings b) (reading_in (reading_set tab i z)) (pos 0) j l ∙ set_beside tab i z j d
          ∙ sym (get_or-set_other (listed (readings b) (reading_in tab)) i j z (pos 0) d ∙ listed_at (readings b) (reading_in tab) (pos 0) j l)

-- as many readings as the file asks for have room
pub readings_room : (b : List ℕ) (rs : List ℤ) → translation_verdict b ≡ Accepted → length rs ≡ readings b → length rs ≤ most_readings
readings_room b rs accepted e = rw e (readings_limit Translation b (translation_shape b accepted))

-- the reading at a number's place
pub reading_at : (tab : List ℕ) (i x : ℕ) (z : ℤ) → x ≡ i → z ≡ to_z w32 (get_or tab (most_nodes + x) 0 % 4294967296) → z ≡ reading_in tab i
reading_at tab i x z e f = f ∙ rw e refl
