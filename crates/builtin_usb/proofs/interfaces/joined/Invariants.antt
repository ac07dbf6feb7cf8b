use Rattle.std.proofs.Common.{◌≡◌, ◌++◌, drop, flat_map}
use Rattle.builtin_usb.specs.Interfaces.{written}
use Rattle.builtin_usb.proofs.interfaces.joined.Given as goal

abbrev pub invariant-loop-interface : goal.invariant-loop-interface
invariant-loop-interface l = l.text.items ++ flat_map written (drop l.interface-index l.found) ≡ flat_map written l.found
