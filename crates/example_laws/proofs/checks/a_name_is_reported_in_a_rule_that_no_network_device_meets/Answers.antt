use Rattle.std.proofs.Common.{◌∷◌, [], codes, refl}
use Rattle.text_bytes.specs.declared.profile.Profile.TheVariants.{Manual}
use Rattle.engine_sessions.specs.declared.line.Format.TheVariants.{Gcc}
use Rattle.example_laws.specs.Answered.{text}
use Rattle.example_laws.specs.Checked.{linting, said}
use Rattle.example_laws.proofs.Checking.{checked}
use Rattle.example_laws.proofs.Computing.{computed}
use Rattle.example_laws.proofs.checks.a_name_is_reported_in_a_rule_that_no_network_device_meets.Goals as goal

pub returns : goal.returns
unfolding computed
returns c = checked (linting Manual []) Gcc (text (codes "SUBSYSTEM==\"block\", NAME=\"a\"" ∷ codes "SUBSYSTEM==\"net\", NAME=\"b\"" ∷ codes "SUBSYSTEM!=\"net\", NAME=\"c\"" ∷ codes "SUBSYSTEM!=\"block\", NAME=\"d\"" ∷ codes "KERNEL==\"e\", NAME=\"e\"" ∷ codes "SUBSYSTEM==\"net|block\", NAME=\"f\"" ∷ [])) (said (codes "1 files checked, 0 good, 1 bad\n") (codes "r.rules:1:27: warning: name outside net: a [W8]\nr.rules:3:25: warning: name outside net: c [W8]\n") 1) refl
