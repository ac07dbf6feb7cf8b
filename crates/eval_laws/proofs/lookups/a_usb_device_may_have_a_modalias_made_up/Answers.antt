use Rattle.eval_laws.proofs.UsbModaliases.{digits_read, empty_is_none, made_is, none_is_made, own_stays}
use Rattle.eval_laws.proofs.lookups.a_usb_device_may_have_a_modalias_made_up.Goals as goal

pub returns-clause-own : goal.returns-clause-own
returns-clause-own c = own_stays

pub returns-clause-empty : goal.returns-clause-empty
returns-clause-empty c = empty_is_none

pub returns-clause-made : goal.returns-clause-made
returns-clause-made c = made_is

pub returns-clause-digits : goal.returns-clause-digits
returns-clause-digits c = digits_read

pub returns-clause-manual : goal.returns-clause-manual
returns-clause-manual c = λ device env e. e

pub returns-clause-others : goal.returns-clause-others
returns-clause-others c = none_is_made
