use Rattle.std.proofs.Common.{sym, ◌∙◌}
use Rattle.rule_types.proofs.Equal.{none_left}
use Rattle.rule_types.proofs.keys.is_equal.Goals as goal

pub returns : goal.returns
returns c = c.is_empty.ensures ∙ sym (none_left c.loop-byte.name.now c.loop-byte.text.now c.in_default.ensures.cases) ∙ c.loop-byte.invariant
