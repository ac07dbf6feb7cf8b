use Rattle.std.proofs.Common.{◌∷◌, [], codes, refl}
use Rattle.text_bytes.specs.declared.profile.Profile.TheVariants.{Manual}
use Rattle.engine_sessions.specs.declared.line.Format.TheVariants.{Gcc}
use Rattle.example_laws.specs.Answered.{text}
use Rattle.example_laws.specs.Checked.{linting, said}
use Rattle.example_laws.proofs.Checking.{checked}
use Rattle.example_laws.proofs.Computing.{computed}
use Rattle.example_laws.proofs.checks.a_property_that_is_imported_further_down_is_reported.Goals as goal

pub returns : goal.returns
unfolding computed
returns c = checked (linting Manual []) Gcc (text (codes "KERNEL==\"a\", ENV{ID_FS_TYPE}==\"ext4\", MODE=\"0660\"" ∷ codes "KERNEL==\"a\", IMPORT{builtin}=\"blkid\"" ∷ codes "KERNEL==\"a\", ENV{ID_FS_TYPE}==\"ext4\", MODE=\"0660\"" ∷ codes "KERNEL==\"a\", ENV{A}==\"1\", IMPORT{program}=\"/p\", ENV{B}==\"2\", MODE=\"0660\"" ∷ [])) (said (codes "1 files checked, 0 good, 1 bad\n") (codes "r.rules:1:14: warning: property imported further down: ID_FS_TYPE [W6]\nr.rules:4:49: warning: property imported further down: B [W6]\n") 1) refl
