use Rattle.std.proofs.Common.{◌∷◌, [], codes, refl}
use Rattle.text_bytes.specs.declared.profile.Profile.TheVariants.{Manual}
use Rattle.engine_sessions.specs.declared.line.Format.TheVariants.{Plain}
use Rattle.example_laws.specs.Answered.{text}
use Rattle.example_laws.specs.Checked.{linting, said}
use Rattle.example_laws.proofs.Checking.{checked}
use Rattle.example_laws.proofs.Computing.{computed}
use Rattle.example_laws.proofs.checks.lints_are_reported_among_messages_by_line.Goals as goal

pub returns : goal.returns
unfolding computed
returns c = checked (linting Manual []) Plain (text (codes "SUBSYSTEM==\"block\", NAME=\"a\"" ∷ codes "NONE=\"1\"" ∷ codes "SUBSYSTEM==\"block\",NAME=\"c\"" ∷ codes "NONE=\"2\"" ∷ [])) (said (codes "1 files checked, 0 good, 1 bad\n") (text (codes "r.rules:1: W8 name outside net: a" ∷ codes "r.rules:2: V2 unknown key: NONE" ∷ codes "r.rules:3: S2 blank after a comma expected: NAME" ∷ codes "r.rules:3: W8 name outside net: c" ∷ codes "r.rules:4: V2 unknown key: NONE" ∷ [])) 1) refl
