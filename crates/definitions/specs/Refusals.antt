-- What the code answers, as document 01 says it: a value, or a "numbered refusal with its place".
use Rattle.std.specs.Prelude.{ℕ, ℤ, Option, Some, None, Result, Ok, Err}
use Rattle.definitions.specs.Numbers as numbers
use Rattle.definitions.specs.Verdict.{Verdict, Accepted, Refused}
use Rattle.definitions.specs.Written as written
use Rattle.definitions.specs.Searched as searched
use Rattle.definitions.specs.declared.refusals.Reason.{Reason}
use Rattle.definitions.specs.declared.refusals.Reason.TheVariants as reasons
use Rattle.definitions.specs.declared.refusals.Refusal.{Refusal}

-- the table's number of each reason
abbrev pub number_of : Reason → ℕ
number_of reasons.Truncated = numbers.truncated
number_of reasons.Oversize = numbers.oversize
number_of reasons.BadRecord = numbers.bad_record
number_of reasons.BadCount = numbers.bad_count
number_of reasons.OutOfRange = numbers.out_of_range
number_of reasons.BadTree = numbers.bad_tree
number_of reasons.BadArguments = numbers.bad_arguments
number_of reasons.ShortOutput = numbers.short_output
number_of reasons.BadReadings = numbers.bad_readings
number_of reasons.BadAllowance = numbers.bad_allowance
number_of reasons.ClosedReading = numbers.closed_reading
number_of reasons.IllTyped = numbers.ill_typed
number_of reasons.BadRange = numbers.bad_range

-- what a check answers
abbrev pub as_verdict : {T : Type 0} → Result T Refusal → Verdict
as_verdict (Ok x) = Accepted
as_verdict (Err r) = Refused (number_of r.reason) r.place

-- what a call that writes answers
abbrev pub as_written : Result ℕ Refusal → written.Written
as_written (Ok n) = written.Length n
as_written (Err r) = written.Refused (number_of r.reason) r.place

-- what a search answers
abbrev pub as_searched : Result (Option ℤ) Refusal → searched.Searched
as_searched (Ok (Some z)) = searched.Found z
as_searched (Ok None) = searched.NoValue
as_searched (Err r) = searched.Refused (number_of r.reason) r.place
