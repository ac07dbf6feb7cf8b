use Rattle.std.proofs.Common.{rules}
use Rattle.devdry_links.proofs.checking.read_named.Goals as goal

pub returns-clause-read : goal.returns-clause-read
returns-clause-read g c = record { some = c.in_ok-some.some; are_read = c.in_ok-some.ensures.some; files = search rules; report = search rules }
