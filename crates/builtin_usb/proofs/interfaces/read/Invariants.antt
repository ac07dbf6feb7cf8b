use Rattle.std.proofs.Common.{◌≡◌, ◌++◌, length}
use Rattle.std.specs.List.{filter_map}
use Rattle.builtin_usb.specs.Interfaces.{descriptors, interface_of}
use Rattle.builtin_usb.proofs.interfaces.read.Given as goal

abbrev pub invariant-loop-rest : goal.invariant-loop-rest
invariant-loop-rest l = record {
  interfaces : l.interfaces.items ++ filter_map interface_of (descriptors l.longest 0 l.rest).from
      ≡ filter_map interface_of (descriptors l.longest 0 l.fn.file).from;
  is_closed : (descriptors l.longest 0 l.rest).is_closed ≡ (descriptors l.longest 0 l.fn.file).is_closed;
}

abbrev pub decreases-loop-rest : goal.decreases-loop-rest
decreases-loop-rest l = length l.rest
