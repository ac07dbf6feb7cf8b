use Rattle.std.proofs.Common.{refl}
use Rattle.builtin_link.specs.Versions.{version_ranks}
use Rattle.builtin_link.proofs.laws.each_version_comes_before_the_next.Goals as goal

pub returns : goal.returns
unfolding version_ranks
returns c = refl
