use Rattle.std.proofs.Common.{◌∙◌}
use Rattle.rule_places.specs.Alike.{same_part}
use Rattle.rule_places.proofs.Pairs.{pairs_of_like, pairs_of_unlike}
use Rattle.rule_places.proofs.alike.same_tokens.Goals as goal

pub returns-then-old-new : goal.returns-then-old-new
returns-then-old-new c = c.all_same.ensures ∙ pairs_of_like same_part c.args.old.now c.args.new.now c.if-old-new.true

pub returns-else-old-new : goal.returns-else-old-new
returns-else-old-new c = pairs_of_unlike same_part c.args.old.now c.args.new.now c.if-old-new.false
