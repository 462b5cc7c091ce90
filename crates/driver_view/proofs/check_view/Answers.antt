-- `driver_view::check_view` meets its contract: the two tests in their order.
use Rattle.driver_view.proofs.Views.{checked}
use Rattle.driver_view.proofs.check_view.Goals as goal

pub returns : goal.returns
returns c = checked _ _ _ _ c.is_answer_record.ensures c.require-recorded.ensures c.require-roomy.ensures c.and.ensures
