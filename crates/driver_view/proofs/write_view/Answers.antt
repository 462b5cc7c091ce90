-- `driver_view::write_view` meets its contract: the refusal, or the view over the front of the output.
use Rattle.std.proofs.Common.{ap}
use Rattle.definitions.specs.Refusals.{as_verdict}
use Rattle.driver_view.proofs.Views.{refused, view_written}
use Rattle.driver_view.proofs.write_view.Goals as goal

pub returns-in_err-check_view : goal.returns-in_err-check_view
returns-in_err-check_view c =
    let from = c.from_residual in
    let err = c.in_err-check_view in
    refused from.result err.field-0.0 from.ensures.1 err.ensures

pub returns : goal.returns
returns c = view_written c.check_view.ensures (ap as_verdict c.in_ok-check_view.was) c.put_view.ensures
