use Rattle.std.proofs.Common.{◌≡◌, ◌++◌, flat_map, take}
use Rattle.device_core.specs.Notes.{due_note}
use Rattle.device_core.proofs.notes.push_each_due.Given as goal

abbrev pub invariant-loop-kind : goal.invariant-loop-kind
invariant-loop-kind l = l.notes.items ≡ l.initial.notes.items ++ flat_map (due_note l.event) (take l.kind-index l.kinds)
