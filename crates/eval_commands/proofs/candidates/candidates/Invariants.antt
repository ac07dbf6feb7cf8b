use Rattle.std.proofs.Common.{◌≡◌, ◌∷◌, map, take}
use Rattle.text_bytes.specs.declared.profile.Profile.TheVariants.{Udev}
use Rattle.eval_commands.specs.LookUps.{candidate}
use Rattle.eval_commands.proofs.candidates.candidates.Given as goal

abbrev pub invariant-loop-device : goal.invariant-loop-device
invariant-loop-device l = l.devices.items ≡ candidate Udev l.state.event.device l.state.env ∷ map (λ parent. candidate Udev parent parent.env) (take l.device-index l.device-items)
