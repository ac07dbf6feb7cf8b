use Rattle.text_bytes.specs.Names.{minus}
use Rattle.builtin_path.proofs.PathLaws.{distinguished}
use Rattle.builtin_path.proofs.laws.each_part_distinguishes_paths.Goals as goal

pub returns : goal.returns
returns c = distinguished minus
