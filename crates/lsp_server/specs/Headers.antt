-- The length that a header part gives.
use Rattle.std.specs.Prelude.{ℕ, ◌-◌, ◌^◌, ◌==◌, Bool, List, [], ◌∷◌, Option, None, codes, drop, if◌then◌else◌, length, nat_eq}
use Rattle.std.specs.List.{after_last, before_last, ends_with}
use Rattle.std.specs.Str.{str_eq_ignore_ascii_case}
use Rattle.text_bytes.specs.Text.{Text}
use Rattle.text_bytes.specs.Lines.{lines}
use Rattle.text_bytes.specs.Names.{colon}
use Rattle.text_bytes.specs.Numbers.{decimal_below}
use Rattle.text_bytes.specs.Texts.{trimmed, unindented}
use Rattle.lsp_server.specs.Framed.{header_end}

-- whether a header part ends here
abbrev pub is_ended : Text → Bool
is_ended header = ends_with nat_eq header header_end

-- whether a name ends in `Content-Length`, in letters of any case
abbrev pub is_length_name : Text → Bool
is_length_name name = str_eq_ignore_ascii_case (drop (length name - 14) name) (codes "Content-Length")

-- whether a line gives a length: what comes before its last colon ends in that name
abbrev pub is_length_line : Text → Bool
is_length_line line = is_length_name (before_last (λ b. b == colon) line)

-- the length that a line gives: what follows its last colon, without the blanks around it, if that is a decimal number below 2^32
abbrev pub length_of : Text → Option ℕ
length_of line = decimal_below (2 ^ 32) (trimmed (unindented (after_last (λ b. b == colon) line)))

-- the length after a line: the one that it gives, or else the one before it
abbrev pub length_with : Option ℕ → Text → Option ℕ
length_with found line = if is_length_line line then length_of line else found

-- the length after lines
abbrev pub length_after : Option ℕ → List Text → Option ℕ
length_after found [] = found
length_after found (line ∷ lines) = length_after (length_with found line) lines

-- the length that a header part gives: that of the last of its lines that gives one
unfoldable pub content_length : Text → Option ℕ
content_length header = length_after None (lines header)
