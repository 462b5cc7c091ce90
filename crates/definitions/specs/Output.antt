-- What a call that writes into a lent output answers, and what the output holds at exit.
use Rattle.std.specs.Prelude.{ℕ, List, ◌++◌, length, drop}
use Rattle.definitions.specs.Verdict.{Verdict, Accepted, Refused}
use Rattle.definitions.specs.Written.{Written}
use Rattle.definitions.specs.Written as written

-- the answer: the length of what was written, or the refusal
unfoldable pub written_of : Verdict → ℕ → Written
written_of Accepted n = written.Length n
written_of (Refused number place) n = written.Refused number place

-- document 02, request 1: "Here and in every call, output bytes past those written stay as they were"; after a refusal all do
unfoldable pub output_of : Verdict → List ℕ → List ℕ → List ℕ
output_of Accepted bytes out = bytes ++ drop (length bytes) out
output_of (Refused number place) bytes out = out
