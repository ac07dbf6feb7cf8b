use Rattle.std.proofs.Common.{refl}
use Rattle.example_laws.proofs.Computing.{computed}
use Rattle.example_laws.proofs.reports.what_udev_leaves_out_says_why.Goals as goal

pub returns : goal.returns
unfolding computed
returns c = record { number = refl; removed = refl; interface = refl; imported = refl }
