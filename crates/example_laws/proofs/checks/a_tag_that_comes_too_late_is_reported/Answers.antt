use Rattle.std.proofs.Common.{◌∷◌, [], codes, refl}
use Rattle.text_bytes.specs.declared.profile.Profile.TheVariants.{Manual}
use Rattle.engine_sessions.specs.declared.line.Format.TheVariants.{Gcc}
use Rattle.example_laws.specs.Answered.{text}
use Rattle.example_laws.specs.Checked.{linting, said}
use Rattle.example_laws.proofs.Checking.{checked}
use Rattle.example_laws.proofs.Computing.{computed}
use Rattle.example_laws.proofs.checks.a_tag_that_comes_too_late_is_reported.Goals as goal

pub returns : goal.returns
unfolding computed
returns c = record {
  late = checked (linting Manual []) Gcc (text (codes "KERNEL==\"a\", TAG+=\"seat\", TAG+=\"uaccess\", TAG+=\"uaccess\"" ∷ codes "KERNEL==\"b\", TAG-=\"uaccess\"" ∷ [])) (said (codes "1 files checked, 0 good, 1 bad\n") (codes "r.rules:1:27: warning: tag uaccess in a late file: TAG [W27]\n") 1) refl;
  run = checked (linting Manual []) Gcc (text (codes "KERNEL==\"a\", TAG+=\"uaccess\"" ∷ codes "TAG==\"uaccess\", RUN{builtin}+=\"uaccess\"" ∷ [])) (said (codes "1 files checked, 1 good, 0 bad\n") [] 0) refl;
}
