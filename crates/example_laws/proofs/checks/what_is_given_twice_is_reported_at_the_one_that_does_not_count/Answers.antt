use Rattle.std.proofs.Common.{◌∷◌, [], codes, refl}
use Rattle.text_bytes.specs.declared.profile.Profile.TheVariants.{Udev}
use Rattle.engine_sessions.specs.declared.line.Format.TheVariants.{Gcc}
use Rattle.example_laws.specs.Answered.{text}
use Rattle.example_laws.specs.Checked.{linting, not_linting, said}
use Rattle.example_laws.proofs.Checking.{checked}
use Rattle.example_laws.proofs.Computing.{computed}
use Rattle.example_laws.proofs.checks.what_is_given_twice_is_reported_at_the_one_that_does_not_count.Goals as goal

pub returns : goal.returns
unfolding computed
returns c = record {
  manual = checked not_linting Gcc (text (codes "GOTO=\"a\", GOTO=\"c\"" ∷ codes "LABEL=\"a\", LABEL=\"b\"" ∷ [])) (said (codes "1 files checked, 0 good, 1 bad\n") (codes "r.rules:1:17: error: label or goto given twice: c [V8]\nr.rules:2:19: error: label or goto given twice: b [V8]\n") 1) refl;
  udev = checked (linting Udev []) Gcc (text (codes "GOTO=\"b\", GOTO=\"c\"" ∷ codes "LABEL=\"a\", LABEL=\"b\"" ∷ [])) (said (codes "1 files checked, 0 good, 1 bad\n") (codes "r.rules:1:17: error: label or goto given twice: c [V8]\nr.rules:2:8: error: label or goto given twice: a [V8]\n") 1) refl;
}
