use Rattle.std.proofs.Common.{◌≡◌, drop}
use Rattle.std.specs.List.{list_any}
use Rattle.eval_state.specs.Places.{shows}
use Rattle.eval_state.proofs.place.some_show.Given as goal

abbrev pub invariant-loop-device : goal.invariant-loop-device
invariant-loop-device l = list_any (shows l.path l.is_folder) (drop l.device-index l.devices) ≡ list_any (shows l.fn.path l.fn.is_folder) l.fn.devices
