-- What programs read in the formats that are made for them.
use Rattle.std.specs.Prelude.{ℕ, ◌+◌, ◌*◌, ◌^◌, ◌<◌, Bool, not, ◌==◌, ◌||◌, if◌then◌else◌, [], ◌∷◌, drop, length, take_while}
use Rattle.text_bytes.specs.Text.{Text}
use Rattle.text_bytes.specs.Escapes.{digit_value}
use Rattle.text_bytes.specs.Names.{carriage_return, colon, comma, newline, percent}
use Rattle.engine_formats.specs.Diagnostics.{DiagnosticValue}
use Rattle.engine_formats.specs.Sarif.{is_brace}

-- The numbers of a diagnostic are in the range of lines and columns.
pub record HasPlace (d : DiagnosticValue) : Type 0 where
  pub begins : d.begins < 2 ^ 32
  pub line : d.line < 2 ^ 32
  pub column : d.column < 2 ^ 32
  pub end : d.end < 2 ^ 32

-- What GitHub reads in a command: a `%` and two digits are the byte of their number, and any other byte is itself.
abbrev pub github_read : Text → Text
github_read [] = []
github_read (b ∷ []) = b ∷ []
github_read (b ∷ c ∷ []) = b ∷ c ∷ []
github_read (b ∷ high ∷ low ∷ rest) =
    if b == percent then (16 * digit_value high + digit_value low) ∷ github_read rest
    else b ∷ github_read (high ∷ low ∷ rest)

-- What a reader of SARIF takes from a message: of two braces in a row one.
abbrev pub message_read : Text → Text
message_read [] = []
message_read (b ∷ []) = b ∷ []
message_read (b ∷ c ∷ rest) = if is_brace b then b ∷ message_read rest else b ∷ message_read (c ∷ rest)

-- the two ends of a line
abbrev pub ends_line : ℕ → Bool
ends_line b = b == carriage_return || b == newline

-- what ends a property: a comma, a colon and the ends of a line
abbrev pub ends_property : ℕ → Bool
ends_property b = b == comma || b == colon || ends_line b

-- the property after a name at the start of a text, up to what ends it
abbrev pub property_at : Text → Text → Text
property_at name text = take_while (λ b. not (ends_property b)) (drop (length name) text)
