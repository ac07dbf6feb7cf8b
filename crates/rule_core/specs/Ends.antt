-- The ends of lines as udev reads them, and files of which it reads nothing.
use Rattle.std.specs.Prelude.{ℕ, zero, suc, ◌+◌, ◌-◌, ◌==◌, nat_le, Bool, if◌then◌else◌, List, [], ◌∷◌, length, Option, Some, None}
use Rattle.text_bytes.specs.Text.{Text}
use Rattle.text_bytes.specs.Names.{carriage_return, newline, nul}
use Rattle.text_bytes.specs.Lines.{NumberedLine, numbered_lines}
use Rattle.text_bytes.specs.Numbers.{capped}
use Rattle.text_bytes.specs.declared.profile.Profile.{Profile}
use Rattle.text_bytes.specs.declared.profile.Profile.TheVariants.{Manual, Udev}
use Rattle.text_bytes.specs.declared.source_file.SourceFile.{SourceFile}

-- how many bytes of a NUL a text begins with
abbrev pub nul_size : Text → ℕ
nul_size [] = 0
nul_size (b ∷ text) = if b == nul then 1 else 0

-- how many bytes go on with an end of a line after its first byte: perhaps the other one of newline and carriage return, and perhaps a NUL
abbrev pub more_size : ℕ → Text → ℕ
more_size other [] = 0
more_size other (b ∷ text) = if b == other then 1 + nul_size text else nul_size (b ∷ text)

-- the size of the end of a line with which a text begins, 0 if it begins with none: a newline or a carriage return
-- with what goes on with it, or one NUL
abbrev pub end_size : Text → ℕ
end_size [] = 0
end_size (b ∷ text) =
    if b == newline then 1 + more_size carriage_return text
    else (if b == carriage_return then 1 + more_size newline text
    else nul_size (b ∷ text))

-- the bytes after so many of an end of a line, each further end as one newline
abbrev pub as_read_after : ℕ → Text → Text
as_read_after passed [] = []
as_read_after (suc passed) (b ∷ text) = as_read_after passed text
as_read_after zero (b ∷ text) =
    if end_size (b ∷ text) == 0 then b ∷ as_read_after zero text
    else newline ∷ as_read_after (end_size (b ∷ text) - 1) text

-- the bytes of a file with each end of a line as one newline
unfoldable pub as_read : Text → Text
as_read bytes = as_read_after 0 bytes

-- a file as it is read: for udev with each end of a line as one newline
abbrev pub file_as_read : Profile → SourceFile → SourceFile
file_as_read Manual file = file
file_as_read Udev file = record file { bytes = as_read file.bytes }

-- whether a line has more bytes than udev reads: 16,384 or more
abbrev pub is_too_long : Text → Bool
is_too_long text = nat_le 16384 (length text)

-- the number of the first line that is too long
abbrev pub first_too_long : List NumberedLine → Option ℕ
first_too_long [] = None
first_too_long (l ∷ ls) = if is_too_long l.text then Some (capped l.number) else first_too_long ls

-- the number of the line because of which udev gives a file up, which is the first that is too long
abbrev pub abandoned : Profile → Text → Option ℕ
abandoned Manual bytes = None
abandoned Udev bytes = first_too_long (numbered_lines bytes)
