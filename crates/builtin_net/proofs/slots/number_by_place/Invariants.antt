use Rattle.std.proofs.Common.{◌≡◌, map}
use Rattle.builtin_devices.specs.Devices.{kernel_of}
use Rattle.builtin_net.specs.Slots.{number_holding, slot_files}
use Rattle.builtin_net.specs.Words.{first_given}
use Rattle.builtin_net.proofs.slots.number_by_place.Given as goal

abbrev pub invariant-loop-file : goal.invariant-loop-file
invariant-loop-file l =
    first_given (number_holding (kernel_of l.pci)) (map (λ file. (file.0.now, file.1.now)) l.file-iterator.rest.items)
    ≡ first_given (number_holding (kernel_of l.fn.pci)) (slot_files l.fn.event)
