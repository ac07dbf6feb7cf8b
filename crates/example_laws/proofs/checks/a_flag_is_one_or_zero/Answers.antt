use Rattle.std.proofs.Common.{[], codes, refl}
use Rattle.text_bytes.specs.declared.profile.Profile.TheVariants.{Manual}
use Rattle.engine_sessions.specs.declared.line.Format.TheVariants.{Gcc}
use Rattle.example_laws.specs.Checked.{linting}
use Rattle.example_laws.proofs.Checking.{checked_database}
use Rattle.example_laws.proofs.Computing.{computed}
use Rattle.example_laws.proofs.checks.a_flag_is_one_or_zero.Goals as goal

pub returns : goal.returns
unfolding computed
returns c = checked_database (linting Manual []) Gcc (codes "usb:v0*\n ID_AUTOSUSPEND=0\n\nusb:v1*\n ID_AUTOSUSPEND=1\n\nusb:v2*\n ID_AUTOSUSPEND=2\n") (codes "d.hwdb:8:2: warning: value that the property does not take: ID_AUTOSUSPEND=2 [D13]\n") (λ strict. refl)
