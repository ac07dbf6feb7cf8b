-- A rules file with its commas and blanks mended.
use Rattle.std.specs.Prelude.{if◌then◌else◌}
use Rattle.text_bytes.specs.Text.{Text}
use Rattle.rule_places.specs.Alike.{is_mended}
use Rattle.rule_places.specs.Proposed.{proposed}

-- The file as it is proposed, if that is read as the same rules, with nothing left to mend; else the file stays as it is.
unfoldable pub mended : Text → Text
mended bytes = if is_mended bytes (proposed bytes) then proposed bytes else bytes
