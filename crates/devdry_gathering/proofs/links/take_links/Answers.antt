use Rattle.std.proofs.Common.{refl}
use Rattle.devdry_gathering.proofs.links.take_links.Goals as goal

pub returns : goal.returns
returns g c = record { read = c.in_ok-read.read; is_read = c.in_ok-read.ensures.read; links = refl; says = (c.shown_in.ensures, refl) }
