-- A refusal that is passed on is the same refusal.
use Rattle.std.specs.Prelude.{◌≡◌, Result}
use Rattle.std.specs.Result.{IsErrAnd}
use Rattle.std.proofs.lemmas.Result.{err_from_is_err_and}
use Rattle.definitions.specs.Verdict.{Refused}
use Rattle.definitions.specs.Refusals.{number_of, as_verdict}
use Rattle.definitions.specs.declared.refusals.Refusal.{Refusal}

pub passed_on : {T : Type 0} (r : Result T Refusal) (e : Refusal) → IsErrAnd r (λ d. d ≡ e) → as_verdict r ≡ Refused (number_of e.reason) e.place
passed_on r e h = let p = err_from_is_err_and r h in rw (p.1, p.2)
