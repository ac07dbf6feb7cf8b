use Rattle.eval_unread.proofs.FirstLooking.{given_none, manual_none, noted_by_first, unlooked_none}
use Rattle.eval_unread.proofs.laws.a_block_without_attributes_is_noted_by_the_first_rule_that_looks_at_one.Goals as goal

pub returns : goal.returns
returns c = record { noted = noted_by_first; unlooked = unlooked_none; given = given_none; manual = manual_none }
