-- The measures of the cycle of visits: two for each step left, and one more at the function of a kind.
use Rattle.std.proofs.Common.{◌+◌, ◌*◌}
use Rattle.run.proofs.visit.+visits.Given as goal

abbrev pub decreases-visit : goal.decreases-visit
decreases-visit l = 2 * l.counts.now.left

abbrev pub decreases-visit_call : goal.decreases-visit_call
decreases-visit_call l = 2 * l.counts.now.left + 1

abbrev pub decreases-visit_formal : goal.decreases-visit_formal
decreases-visit_formal l = 2 * l.counts.now.left + 1

abbrev pub decreases-visit_operator : goal.decreases-visit_operator
decreases-visit_operator l = 2 * l.counts.now.left + 1

abbrev pub decreases-visit_select : goal.decreases-visit_select
decreases-visit_select l = 2 * l.counts.now.left + 1

abbrev pub decreases-visit_conditional : goal.decreases-visit_conditional
decreases-visit_conditional l = 2 * l.counts.now.left + 1

abbrev pub decreases-visit_case : goal.decreases-visit_case
decreases-visit_case l = 2 * l.counts.now.left + 1
