use Rattle.std.proofs.Common.{refl}
use Rattle.builtin_core.proofs.laws.each_kind_is_asked_for_by_its_builtins.Goals as goal

pub returns : goal.returns
returns c = record { function = refl; device = refl; interface = refl; host = refl; unit = refl; controller = refl; virtio = refl; serio = refl; input = refl }
