use Rattle.std.proofs.Common.{refl}
use Rattle.rule_lints.proofs.near.known_property.Goals as goal

pub returns-then-is_among : goal.returns-then-is_among
returns-then-is_among c = rw (← c.is_among.ensures, c.if-is_among.true) refl

pub returns-else-is_among : goal.returns-else-is_among
returns-else-is_among c = rw (← c.is_among.ensures, c.if-is_among.false) c.near_one.ensures
