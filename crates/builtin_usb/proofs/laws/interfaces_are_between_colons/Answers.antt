use Rattle.builtin_usb.proofs.Lawful.{is_between_colons}
use Rattle.builtin_usb.proofs.laws.interfaces_are_between_colons.Goals as goal

pub returns : goal.returns
returns c = is_between_colons
