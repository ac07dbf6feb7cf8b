use Rattle.std.proofs.Common.{◌≡◌, ◌∷◌, map}
use Rattle.builtin_path.proofs.way.from_device.Given as goal

abbrev pub invariant-loop-parent : goal.invariant-loop-parent
invariant-loop-parent l = l.members.items ≡ l.device ∷ map (λ d. d.now) l.yielded
