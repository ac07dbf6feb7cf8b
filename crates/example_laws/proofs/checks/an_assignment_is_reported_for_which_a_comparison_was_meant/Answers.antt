use Rattle.std.proofs.Common.{◌∷◌, [], codes, refl}
use Rattle.text_bytes.specs.declared.profile.Profile.TheVariants.{Manual}
use Rattle.engine_sessions.specs.declared.line.Format.TheVariants.{Gcc}
use Rattle.example_laws.specs.Answered.{text}
use Rattle.example_laws.specs.Checked.{linting, said}
use Rattle.example_laws.proofs.Checking.{checked}
use Rattle.example_laws.proofs.Computing.{computed}
use Rattle.example_laws.proofs.checks.an_assignment_is_reported_for_which_a_comparison_was_meant.Goals as goal

pub returns : goal.returns
unfolding computed
returns c = checked (linting Manual []) Gcc (text (codes "ENV{A}==\"1\", TAG+=\"t\"" ∷ codes "ENV{A}=\"1\", KERNEL==\"k\"" ∷ codes "KERNEL==\"k\", ENV{A}=\"1\"" ∷ codes "ENV{A}=\"2\", KERNEL==\"k\"" ∷ codes "ENV{B}=\"1\", KERNEL==\"k\"" ∷ codes "ATTR{A}=\"1\", KERNEL==\"k\"" ∷ codes "ENV{A}+=\"1\", KERNEL==\"k\"" ∷ [])) (said (codes "1 files checked, 0 good, 1 bad\n") (codes "r.rules:2:1: warning: value assigned that others compare: A [W7]\n") 1) refl
