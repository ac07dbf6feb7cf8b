use Rattle.std.proofs.Common.{refl}
use Rattle.text_bytes.specs.Numbers.{decimal_below}
use Rattle.device_core.proofs.laws.some_numbers.Goals as goal

pub returns : goal.returns
unfolding decimal_below
returns c = record { usual = refl; greatest = refl; zero = refl; zeros = refl; major = refl; minor = refl }
