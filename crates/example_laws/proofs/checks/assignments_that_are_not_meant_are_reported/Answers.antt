use Rattle.std.proofs.Common.{◌∷◌, [], codes, refl}
use Rattle.text_bytes.specs.declared.profile.Profile.TheVariants.{Manual}
use Rattle.engine_sessions.specs.declared.line.Format.TheVariants.{Gcc}
use Rattle.example_laws.specs.Answered.{text}
use Rattle.example_laws.specs.Checked.{linting, said}
use Rattle.example_laws.proofs.Checking.{checked}
use Rattle.example_laws.proofs.Computing.{computed}
use Rattle.example_laws.proofs.checks.assignments_that_are_not_meant_are_reported.Goals as goal

pub returns : goal.returns
unfolding computed
returns c = checked (linting Manual []) Gcc (text (codes "KERNEL==\"a\", RUN=\"/b\"" ∷ codes "KERNEL==\"a\", ATTR{serial}=\"1\"" ∷ codes "SUBSYSTEM==\"net\", NAME=\"a-name-of-16-byt\"" ∷ codes "SUBSYSTEM==\"net\", NAME=\"a-name-of-15-by\"" ∷ codes "SUBSYSTEM==\"usb\", ENV{SYSTEMD_WANTS}+=\"a\"" ∷ [])) (said (codes "1 files checked, 0 good, 1 bad\n") (text (codes "r.rules:1:14: warning: list replaced: RUN [W20]" ∷ codes "r.rules:2:14: warning: value assigned instead of compared: ATTR [W21]" ∷ codes "r.rules:3:25: warning: name of a network device too long: a-name-of-16-byt [W22]" ∷ codes "r.rules:5:19: warning: unit wanted without a tag: ENV [W23]" ∷ [])) 1) refl
