-- Laws of words that are written into the space, and of the walk over records.
use mathlib.Core.Path.{◌≡◌, refl}
use Prim.Native.Nat.{ℕ, ◌+◌, ◌*◌, ◌≤◌, ◌<◌, ◌/◌, ◌%◌}
use mathlib.Core.List.{List}
use native.Mathlib.Omega.{arith}
use native.Mathlib.Numerals.{add-one}
use lib.ListN.{length, get_or, set}
use lib.Seq.{sets}
use borrow.Author.Tests.{le-leb, lt-leb, lt-ltb, le-ltb}
use Rattle.file_writer.specs.Writing.{space_bytes, word_places, word_bytes, fits, written, after, Written, word_at, skipped, start_of}

-- bytes that fit are set, and bytes that do not fit change nothing
pub all_written : (file : List ℕ) (at : ℕ) (bytes : List ℕ) → at + length bytes ≤ space_bytes
    → Written file at bytes (sets file at bytes) (at + length bytes)
unfolding written after fits
all_written file at bytes h =
    let e : _ = le-leb (at + length bytes) space_bytes h in
    record { content = rw e refl; place = rw e refl }

pub none_written : (file : List ℕ) (at : ℕ) (bytes : List ℕ) → space_bytes < at + length bytes → Written file at bytes file at
unfolding written after fits
none_written file at bytes h =
    let e : _ = lt-leb (at + length bytes) space_bytes h in
    record { content = rw e refl; place = rw e refl }

-- one word, stored byte by byte
pub word_written : (file : List ℕ) (at w : ℕ) → at < word_places
    → Written file at (word_bytes w) (set (set file at (w % 256)) (at + 1) (w / 256)) (at + 2)
unfolding word_bytes
word_written file at w h = rw add-one (all_written file at (word_bytes w) (omega arith))

pub word_unwritten : (file : List ℕ) (at w : ℕ) → word_places ≤ at → Written file at (word_bytes w) file at
unfolding word_bytes
word_unwritten file at w h = none_written file at (word_bytes w) (omega arith)

-- where the records start
pub skip_moves : (file : List ℕ) {at x y : ℕ} → at < word_places → x ≡ get_or file at 0 → y ≡ get_or file (at + 1) 0
    → at + (x + 256 * y) ≡ skipped file at
unfolding skipped word_at
skip_moves file {at} h p q = rw (lt-ltb at word_places h, p, q) refl

pub skip_stays : (file : List ℕ) (at : ℕ) → word_places ≤ at → word_places ≡ skipped file at
unfolding skipped
skip_stays file at h = rw (le-ltb at word_places h) refl

pub start_first : (file : List ℕ) → 0 ≡ start_of file 0
unfolding start_of
start_first file = refl

pub start_more : (file : List ℕ) (at i next : ℕ) → at ≡ start_of file i → next ≡ skipped file at → next ≡ start_of file (i + 1)
unfolding start_of
start_more file at i next e s = rw (add-one, ← e) s

pub word_changed : {entry exit : List ℕ} (r j : ℕ) {at : ℕ} (w : ℕ) {next : ℕ} → at ≡ start_of entry r
    → Written entry (at + 2 * j) (word_bytes w) exit next → exit ≡ written entry (start_of entry r + 2 * j) (word_bytes w)
word_changed r j {at} w e p = rw e at p.content
