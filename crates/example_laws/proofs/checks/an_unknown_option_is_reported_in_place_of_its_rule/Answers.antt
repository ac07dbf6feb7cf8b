use Rattle.std.proofs.Common.{◌∷◌, [], codes, refl}
use Rattle.text_bytes.specs.declared.profile.Profile.TheVariants.{Udev}
use Rattle.engine_sessions.specs.declared.line.Format.TheVariants.{Gcc}
use Rattle.example_laws.specs.Answered.{text}
use Rattle.example_laws.specs.Checked.{linting, said}
use Rattle.example_laws.proofs.Checking.{checked}
use Rattle.example_laws.proofs.Computing.{computed}
use Rattle.example_laws.proofs.checks.an_unknown_option_is_reported_in_place_of_its_rule.Goals as goal

pub returns : goal.returns
unfolding computed
returns c = checked (linting Udev []) Gcc (text (codes "KERNEL==\"a\", OPTIONS+=\"watch1\", OPTIONS+=\"watch2\"" ∷ codes "KERNEL==\"b\"" ∷ codes "KERNEL==\"c\", OPTIONS+=\"watch3\", TAG+=\"t\"" ∷ [])) (said (codes "1 files checked, 0 good, 1 bad\n") (codes "r.rules:1:24: error: bad value: watch1 [V5]\nr.rules:2:1: error: rule without effect [V18]\nr.rules:3:24: error: bad value: watch3 [V5]\n") 1) refl
