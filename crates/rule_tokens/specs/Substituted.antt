-- Which values udev takes as texts with substitutions.
use Rattle.std.specs.Prelude.{Bool, ◌||◌, ◌==◌}
use Rattle.std.specs.List.{list_any}
use Rattle.text_bytes.specs.Text.{Text}
use Rattle.text_bytes.specs.Names.{dollar, open_bracket, percent}
use Rattle.text_bytes.specs.Texts.{begins_with}

-- whether a text has a byte that may begin a substitution
abbrev pub has_sign : Text → Bool
has_sign text = list_any (λ b. b == dollar || b == percent) text

-- whether udev takes a value as a text with substitutions: it has such a byte, or begins with `[`
abbrev pub is_substituted : Text → Bool
is_substituted text = has_sign text || begins_with open_bracket text
