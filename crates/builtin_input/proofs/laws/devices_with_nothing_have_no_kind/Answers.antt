use Rattle.builtin_input.proofs.KindLaws.{no_kind}
use Rattle.builtin_input.proofs.laws.devices_with_nothing_have_no_kind.Goals as goal

pub returns : goal.returns
returns c = no_kind
