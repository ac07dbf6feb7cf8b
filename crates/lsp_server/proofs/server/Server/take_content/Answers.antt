use Rattle.std.proofs.Common.{Some, Err, refl, ap}
use Rattle.lsp_server.proofs.ContentValues.{value_given, value_missing}
use Rattle.lsp_server.proofs.server.Server.take_content.Goals as goal

pub returns-in-Ok-clause-step : goal.returns-in-Ok-clause-step
returns-in-Ok-clause-step c = rw (value_given _ _ c.in-Ok.ensures.ok) c.take_value.ensures.step

pub returns-in-Ok-clause-exits : goal.returns-in-Ok-clause-exits
returns-in-Ok-clause-exits c = rw (value_given _ _ c.in-Ok.ensures.ok) c.take_value.ensures.exits

pub returns-in-Err-Invalid-clause-step : goal.returns-in-Err-Invalid-clause-step
returns-in-Err-Invalid-clause-step c =
    rw (value_missing _ (c.in-Err-Invalid.ensures.invalid (ap Err c.in-Err-Invalid.field-0-is)))
    (record { after = refl; sends = ap Some c.in_ok-error_for-in-Err-Invalid.ensures })

pub returns-in-Err-Invalid-clause-exits : goal.returns-in-Err-Invalid-clause-exits
returns-in-Err-Invalid-clause-exits c = rw (value_missing _ (c.in-Err-Invalid.ensures.invalid (ap Err c.in-Err-Invalid.field-0-is))) refl
