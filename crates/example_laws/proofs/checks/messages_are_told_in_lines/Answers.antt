use Rattle.std.proofs.Common.{false, ◌∷◌, [], codes, refl}
use Rattle.engine_sessions.specs.declared.line.Format.TheVariants.{Plain}
use Rattle.example_laws.specs.Answered.{text}
use Rattle.example_laws.specs.Checked.{not_linting, said}
use Rattle.example_laws.proofs.Checking.{checked, checked_database}
use Rattle.example_laws.proofs.Computing.{computed}
use Rattle.example_laws.proofs.checks.messages_are_told_in_lines.Goals as goal

pub returns : goal.returns
unfolding computed
returns c = record {
  verify = checked not_linting Plain
      (text (codes "KERNEL==\"a\", MODE=\"0660\"" ∷ codes "NONE=\"1\"" ∷ codes "KERNEL==\"b\",TAG+=\"t\"" ∷ codes "SUBSYSTEM==\"block\", NAME=\"c\"" ∷ []))
      (said (codes "1 files checked, 0 good, 1 bad\n") (codes "r.rules:2: V2 unknown key: NONE\nr.rules:3: S2 blank after a comma expected: TAG\n") 1) refl;
  without_style = checked (record not_linting { style = false }) Plain
      (text (codes "NONE=\"1\"" ∷ codes "KERNEL==\"b\",TAG+=\"t\"" ∷ []))
      (said (codes "1 files checked, 0 good, 1 bad\n") (codes "r.rules:1: V2 unknown key: NONE\n") 1) refl;
  update = checked_database not_linting Plain (codes "usb:v0*\n\nusb:v1*\n A\n")
      (codes "d.hwdb:1: H2 match without a property: usb:v0*\nd.hwdb:4: H4 no =: A\n") (λ strict. refl);
}
