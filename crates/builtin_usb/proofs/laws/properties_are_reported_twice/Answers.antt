use Rattle.builtin_usb.proofs.Lawful.{reported_twice}
use Rattle.builtin_usb.proofs.laws.properties_are_reported_twice.Goals as goal

pub returns : goal.returns
returns c = reported_twice
