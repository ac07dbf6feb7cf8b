use Rattle.eval_laws.proofs.LeastFault.{ok_says, says_ok}
use Rattle.eval_laws.proofs.devices.faultless_lines_with_a_device_give_an_event.Goals as goal

pub returns : goal.returns
returns c = λ lines. (ok_says lines, says_ok lines)
