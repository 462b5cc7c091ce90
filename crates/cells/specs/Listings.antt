-- What the call that lists a context answers and writes.
use Rattle.std.specs.Prelude.{◌≡◌, ℕ, ◌*◌, ◌≤◌, List, ◌++◌, length, drop}
use Rattle.std.proofs.lemmas.List.Edits.{sets}
use Rattle.definitions.specs.Bytes.{bytes_of}
use Rattle.definitions.specs.Listing.{Listing, labels, refused, labels_within, listing}
use Rattle.cells.specs.Listed.{Listed, Count, Refused}

-- the answer: the count of labels, or the refusal's number and place
unfoldable pub counted : Listing → Listed
counted (labels ls) = Count (length ls)
counted (refused n p) = Refused n p

-- the output at the end: the labels, then the bytes that were there; a refusal leaves the output
unfoldable pub listed_over : List ℕ → Listing → List ℕ
listed_over before (labels ls) = bytes_of ls ++ drop (2 * length ls) before
listed_over before (refused n p) = before

pub record Lists (b : List ℕ) (c : ℕ) (before after : List ℕ) (r : Listed) : Type 0 where
  pub answer : r ≡ counted (listing b c (length before))
  pub bytes : after ≡ listed_over before (listing b c (length before))

-- the output with the labels written from a place on
unfoldable pub written : Listing → ℕ → List ℕ → List ℕ
written (labels ls) at out = sets out at (bytes_of ls)
written (refused n p) at out = out

-- a context that has so many labels, and room for them
pub record Listable (b : List ℕ) (c count room : ℕ) : Type 0 where
  pub labelled : counted (labels_within b c c) ≡ Count count
  pub fits : 2 * count ≤ room
