use Rattle.std.proofs.Common.{◌∷◌, [], codes, refl}
use Rattle.text_bytes.specs.declared.profile.Profile.TheVariants.{Manual}
use Rattle.engine_sessions.specs.declared.line.Format.TheVariants.{Gcc}
use Rattle.example_laws.specs.Answered.{text}
use Rattle.example_laws.specs.Checked.{linting, said}
use Rattle.example_laws.proofs.Checking.{checked}
use Rattle.example_laws.proofs.Computing.{computed}
use Rattle.example_laws.proofs.checks.a_result_that_no_program_gives_yet_is_reported.Goals as goal

pub returns : goal.returns
unfolding computed
returns c = checked (linting Manual []) Gcc (text (codes "KERNEL==\"a\", RESULT==\"1\", RESULT!=\"2\", SYMLINK+=\"a\"" ∷ codes "KERNEL==\"b\", PROGRAM==\"/b\", RESULT==\"1\", SYMLINK+=\"b\"" ∷ codes "KERNEL==\"c\", RESULT==\"1\", SYMLINK+=\"c\"" ∷ [])) (said (codes "1 files checked, 0 good, 1 bad\n") (codes "r.rules:1:14: warning: result before its program: RESULT [W25]\n") 1) refl
