use Rattle.std.proofs.Common.{◌∷◌, [], codes, refl}
use Rattle.text_bytes.specs.declared.profile.Profile.TheVariants.{Manual}
use Rattle.engine_sessions.specs.declared.line.Format.TheVariants.{Gcc}
use Rattle.example_laws.specs.Answered.{text}
use Rattle.example_laws.specs.Checked.{linting, said}
use Rattle.example_laws.proofs.Checking.{checked}
use Rattle.example_laws.proofs.Computing.{computed}
use Rattle.example_laws.proofs.checks.values_and_names_that_fit_nothing_are_reported.Goals as goal

pub returns : goal.returns
unfolding computed
returns c = checked (linting Manual []) Gcc (text (codes "ATTRS{idVendor}==\"0x04d8\", MODE=\"0660\"" ∷ codes "ATTRS{idVendor}==\"04d8\", MODE=\"0660\"" ∷ codes "KERNEL==\"a | b\", MODE=\"0660\"" ∷ codes "KERNEL==\"a|b\", MODE=\"0660\"" ∷ codes "KERNEL==\"a\", ENV{idVendor}==\"1\", MODE=\"0660\"" ∷ codes "KERNEL==\"%k\", MODE=\"0660\"" ∷ [])) (said (codes "1 files checked, 0 good, 1 bad\n") (text (codes "r.rules:1:19: warning: value that never fits: 0x04d8 [W16]" ∷ codes "r.rules:3:10: warning: blank beside a bar: a | b [W17]" ∷ codes "r.rules:5:14: warning: name near a known one: ATTRS [W18]" ∷ codes "r.rules:6:10: warning: no substitution: %k [W19]" ∷ [])) 1) refl
