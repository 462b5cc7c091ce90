-- The first refusal of two.
use Rattle.std.specs.Prelude.{◌≡◌, refl, Result, Ok, Err}
use Rattle.std.specs.Result.{result_and}
use Rattle.definitions.specs.Verdicts.{◌and_then◌}
use Rattle.definitions.specs.Refusals.{as_verdict}
use Rattle.definitions.specs.declared.refusals.Refusal.{Refusal}

pub first_of_two : {T U : Type 0} (r : Result T Refusal) (s : Result U Refusal) → as_verdict (result_and r s) ≡ (as_verdict r and_then as_verdict s)
unfolding ◌and_then◌
first_of_two (Ok x) s = refl
first_of_two (Err e) s = refl
