use Rattle.std.proofs.Common.{◌∷◌, [], codes, refl}
use Rattle.text_bytes.specs.declared.profile.Profile.TheVariants.{Manual}
use Rattle.engine_sessions.specs.declared.line.Format.TheVariants.{Gcc, Plain}
use Rattle.example_laws.specs.Checked.{linting, not_linting, said}
use Rattle.example_laws.proofs.Checking.{checked}
use Rattle.example_laws.proofs.Computing.{computed}
use Rattle.example_laws.proofs.checks.the_status_is_that_of_what_is_reported.Goals as goal

pub returns : goal.returns
unfolding computed
returns c = record {
  linted = checked (linting Manual []) Plain (codes "SUBSYSTEM==\"block\", NAME=\"a\"") (said (codes "1 files checked, 0 good, 1 bad\n") (codes "r.rules:1: W8 name outside net: a\n") 1) refl;
  unasked = checked not_linting Plain (codes "SUBSYSTEM==\"block\", NAME=\"a\"") (said (codes "1 files checked, 1 good, 0 bad\n") [] 0) refl;
  ignored = checked (linting Manual (codes "W8" ∷ [])) Gcc (codes "SUBSYSTEM==\"block\", NAME=\"a\"") (said (codes "1 files checked, 1 good, 0 bad\n") [] 0) refl;
  message = checked (linting Manual (codes "W8" ∷ [])) Plain (codes "NONE=\"1\"") (said (codes "1 files checked, 0 good, 1 bad\n") (codes "r.rules:1: V2 unknown key: NONE\n") 1) refl;
}
