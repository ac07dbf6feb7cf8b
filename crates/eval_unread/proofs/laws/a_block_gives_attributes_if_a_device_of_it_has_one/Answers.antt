use Rattle.eval_unread.proofs.FirstLooking.{above_gives, gone_gives, own_gives}
use Rattle.eval_unread.proofs.laws.a_block_gives_attributes_if_a_device_of_it_has_one.Goals as goal

pub returns : goal.returns
returns c = record { gone = gone_gives; own = own_gives; above = above_gives }
