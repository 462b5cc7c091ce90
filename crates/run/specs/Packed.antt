-- An outcome in one number of 64 bits.
use Rattle.std.specs.Prelude.{ℕ, ◌/◌, ◌%◌, Bool, ◌||◌, cond, eqb, Result, Ok, Err}
use Rattle.std.specs.Int.{w32}
use Rattle.std.proofs.Common.{to_z}
use Rattle.definitions.specs.CellBytes.{number_kind, constructor_kind}
use Rattle.run.specs.declared.state.Value.{Value}
use Rattle.run.specs.declared.state.Value.TheVariants.{Number, Constructor}
use Rattle.run.specs.declared.state.End.{End}

-- how a visit ends: with a value, or with a stop or a run fault
abbrev pub Outcome : Type 0
Outcome = Result Value End

unfoldable pub outcome_in : ℕ → Outcome
outcome_in x =
    cond (eqb (x % 65536) number_kind) (Ok (Number (to_z w32 (x / 65536 % 4294967296))))
    (cond (eqb (x % 65536) constructor_kind) (Ok (Constructor (x / 65536 % 65536) (x / 4294967296 % 65536)))
    (Err (record { number = x / 65536 % 65536 })))

-- whether it is a value
unfoldable pub is_value_in : ℕ → Bool
is_value_in x = eqb (x % 65536) number_kind || eqb (x % 65536) constructor_kind
