use Rattle.builtin_usb.proofs.Lawful.{few_reported}
use Rattle.builtin_usb.proofs.laws.interfaces_are_few.Goals as goal

pub returns : goal.returns
returns c = few_reported
