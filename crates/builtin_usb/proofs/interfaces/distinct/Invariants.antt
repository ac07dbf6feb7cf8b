use Rattle.std.proofs.Common.{◌≡◌, [], drop}
use Rattle.std.specs.Prelude.{fold}
use Rattle.builtin_usb.specs.Interfaces.{with_interface}
use Rattle.builtin_usb.proofs.interfaces.distinct.Given as goal

abbrev pub invariant-loop-interface : goal.invariant-loop-interface
invariant-loop-interface l = fold with_interface l.found.items (drop l.interface-index l.interfaces) ≡ fold with_interface [] l.interfaces
