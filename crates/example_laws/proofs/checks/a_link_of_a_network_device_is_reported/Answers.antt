use Rattle.std.proofs.Common.{◌∷◌, [], codes, refl}
use Rattle.text_bytes.specs.declared.profile.Profile.TheVariants.{Manual}
use Rattle.engine_sessions.specs.declared.line.Format.TheVariants.{Gcc}
use Rattle.example_laws.specs.Answered.{text}
use Rattle.example_laws.specs.Checked.{linting, said}
use Rattle.example_laws.proofs.Checking.{checked}
use Rattle.example_laws.proofs.Computing.{computed}
use Rattle.example_laws.proofs.checks.a_link_of_a_network_device_is_reported.Goals as goal

pub returns : goal.returns
unfolding computed
returns c = checked (linting Manual []) Gcc (text (codes "SUBSYSTEM==\"net\", SYMLINK+=\"a\"" ∷ codes "KERNEL==\"eth0\", SYMLINK+=\"b\"" ∷ codes "SUBSYSTEM==\"net|tty\", SYMLINK+=\"c\"" ∷ codes "SUBSYSTEM!=\"net\", SYMLINK+=\"d\"" ∷ codes "SUBSYSTEM==\"net\", NAME=\"e\"" ∷ [])) (said (codes "1 files checked, 0 good, 1 bad\n") (codes "r.rules:1:29: warning: link of a network device: a [W26]\nr.rules:2:27: warning: link of a network device: b [W26]\n") 1) refl
