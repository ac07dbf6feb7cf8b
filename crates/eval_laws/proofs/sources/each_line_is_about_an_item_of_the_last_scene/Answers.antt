use Rattle.eval_laws.proofs.ItemLines.{all_about}
use Rattle.eval_laws.proofs.sources.each_line_is_about_an_item_of_the_last_scene.Goals as goal

pub returns : goal.returns
returns c = all_about
