use Rattle.std.proofs.Common.{refl}
use lib.Utf8.{encode}
use Rattle.engine_formats.proofs.Masking.{masked_length, masked_twice}
use Rattle.engine_formats.proofs.laws.terminals_are_not_obeyed.Goals as goal

pub returns-clause-nothing_left : goal.returns-clause-nothing_left
returns-clause-nothing_left c text = masked_twice text

pub returns-clause-as_long : goal.returns-clause-as_long
returns-clause-as_long c text = masked_length 0 0 text

pub returns-clause-characters : goal.returns-clause-characters
unfolding encode
returns-clause-characters c = refl

pub returns-clause-signs : goal.returns-clause-signs
unfolding encode
returns-clause-signs c = refl
