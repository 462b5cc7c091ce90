-- `run::packed::outcome_in` meets its contract.
use native.Mathlib.Omega.{arith}
use mir.ValLaws.{to_z-of_z}
use mir.Syntax.{w32}
use Rattle.run.proofs.Packing.{told_number, told_constructor, told_ended}
use borrow.Author.Rules.{rules}
use Rattle.run.proofs.packed.outcome_in.Goals as goal

pub returns-in-1 : goal.returns-in-1
returns-in-1 c = told_number _ _ c.kind_in.ensures _ _ c.in-1.is (to_z-of_z w32 _ (record { sfits = search rules })) c.number_in.ensures

pub returns-in-2 : goal.returns-in-2
returns-in-2 c = told_constructor _ _ c.kind_in.ensures _ _ c.in-2.is c.first_in.ensures c.second_in.ensures

pub returns-in_default : goal.returns-in_default
returns-in_default c =
    told_ended _ _ c.kind_in.ensures _ (λ q. omega (arith, q)) (λ q. omega (arith, q)) c.first_in-in_default.ensures
