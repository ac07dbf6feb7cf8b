use Rattle.eval_laws.proofs.Linking.{link_is_safe}
use Rattle.eval_laws.proofs.rendering.rendered_links_are_safe.Goals as goal

pub returns : goal.returns
returns c = link_is_safe c.safe_texts_are_safe.ensures.link
