use Rattle.std.proofs.Common.{◌∷◌, [], codes, refl}
use Rattle.text_bytes.specs.declared.profile.Profile.TheVariants.{Manual}
use Rattle.engine_sessions.specs.declared.line.Format.TheVariants.{Gcc}
use Rattle.example_laws.specs.Answered.{text}
use Rattle.example_laws.specs.Checked.{linting, said}
use Rattle.example_laws.proofs.Checking.{checked}
use Rattle.example_laws.proofs.Computing.{computed}
use Rattle.example_laws.proofs.checks.a_rule_for_every_device_is_reported.Goals as goal

pub returns : goal.returns
unfolding computed
returns c = checked (linting Manual []) Gcc (text (codes "ENV{A}=\"1\", MODE=\"0660\", SYMLINK+=\"a\"" ∷ codes "KERNEL==\"b\", SYMLINK+=\"b\"" ∷ codes "IMPORT{parent}=\"C\", SYMLINK+=\"c\"" ∷ codes "KERNEL==\"d\", GOTO=\"end\"" ∷ codes "SYMLINK+=\"e\"" ∷ codes "LABEL=\"end\"" ∷ [])) (said (codes "1 files checked, 0 good, 1 bad\n") (codes "r.rules:1:13: warning: rule without a match: MODE [W15]\n") 1) refl
