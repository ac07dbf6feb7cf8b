use Rattle.builtin_path.proofs.PathLaws.{short}
use Rattle.builtin_path.proofs.laws.tags_are_short.Goals as goal

pub returns : goal.returns
returns c = short
