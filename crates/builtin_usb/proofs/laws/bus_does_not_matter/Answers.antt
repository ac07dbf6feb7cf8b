use Rattle.builtin_usb.proofs.Lawful.{bus_apart_from}
use Rattle.builtin_usb.proofs.laws.bus_does_not_matter.Goals as goal

pub returns : goal.returns
returns c = bus_apart_from
