use Rattle.builtin_usb.proofs.Lawful.{short}
use Rattle.builtin_usb.proofs.laws.serials_are_short.Goals as goal

pub returns : goal.returns
returns c = short
