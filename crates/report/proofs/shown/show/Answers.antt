-- Number and value, case by case.
use Rattle.std.proofs.Common.{rules, refl, w32}
use mir.ValLaws.{to_z-of_z}
use Rattle.answer.specs.Answers.{outcome_of, value_of}
use Rattle.report.proofs.shown.show.Goals as goal

pub returns-in-Number : goal.returns-in-Number
unfolding outcome_of value_of
returns-in-Number c = rw c.in-Number.is (record { number = refl; value = rw (to_z-of_z w32 c.in-Number.value (record { sfits = search rules })) at c.from.ensures })

pub returns-in-Constructor : goal.returns-in-Constructor
unfolding outcome_of value_of
returns-in-Constructor c =
    rw c.in-Constructor.is (record { number = refl; value = rw c.from-in-Constructor.ensures at c.from-in-Constructor-2.ensures })

pub returns-in-Ended : goal.returns-in-Ended
unfolding outcome_of value_of
returns-in-Ended c = rw c.in-Ended.is (record { number = refl; value = c.from-in-Ended.ensures })

pub returns-in-Refused : goal.returns-in-Refused
unfolding outcome_of value_of
returns-in-Refused c = rw c.in-Refused.is (record { number = refl; value = c.from-in-Refused.ensures })
