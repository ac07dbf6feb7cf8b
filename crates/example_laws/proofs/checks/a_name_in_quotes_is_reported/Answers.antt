use Rattle.std.proofs.Common.{◌∷◌, [], codes, refl}
use Rattle.text_bytes.specs.declared.profile.Profile.TheVariants.{Manual}
use Rattle.engine_sessions.specs.declared.line.Format.TheVariants.{Gcc}
use Rattle.example_laws.specs.Answered.{text}
use Rattle.example_laws.specs.Checked.{linting, said}
use Rattle.example_laws.proofs.Checking.{checked}
use Rattle.example_laws.proofs.Computing.{computed}
use Rattle.example_laws.proofs.checks.a_name_in_quotes_is_reported.Goals as goal

pub returns : goal.returns
unfolding computed
returns c = checked (linting Manual []) Gcc (text (codes "ENV{\"A\"}=\"1\"" ∷ codes "ENV{A}=\"\\\"1\\\"\"" ∷ codes "KERNEL==\"k\", ENV{a\"b}=\"1\"" ∷ [])) (said (codes "1 files checked, 0 good, 1 bad\n") (codes "r.rules:1:1: warning: name in quotes: \"A\" [W10]\nr.rules:3:14: warning: name in quotes: a\"b [W10]\n") 1) refl
