use Rattle.std.proofs.Common.{refl}
use Rattle.std.specs.Fmt.{digits}
use Rattle.devdry_links.specs.Notes.{unseen_in}
use Rattle.devdry_links.proofs.file_note_laws.unseen_signs_are_told_once.Goals as goal

pub returns-clause-each : goal.returns-clause-each
unfolding unseen_in digits
returns-clause-each c = refl

pub returns-clause-udev : goal.returns-clause-udev
unfolding unseen_in digits
returns-clause-udev c = refl
