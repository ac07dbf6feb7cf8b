use Rattle.std.proofs.Common.{◌≡◌, map}
use Rattle.std.specs.List.{list_any}
use Rattle.builtin_net.specs.Slots.{is_slot_of, slot_files}
use Rattle.builtin_net.proofs.slots.slot_by_identity.Given as goal

abbrev pub invariant-loop-file : goal.invariant-loop-file
invariant-loop-file l =
    list_any (is_slot_of l.number) (map (λ file. (file.0.now, file.1.now)) l.file-iterator.rest.items)
    ≡ list_any (is_slot_of l.number) (slot_files l.fn.event)
