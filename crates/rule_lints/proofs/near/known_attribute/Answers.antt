use Rattle.rule_lints.proofs.near.known_attribute.Goals as goal

pub returns-else-starts_with : goal.returns-else-starts_with
returns-else-starts_with c = rw (← c.starts_with.ensures.value, c.if-starts_with.false) c.near_one.ensures
