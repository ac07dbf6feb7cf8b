-- The lines of a block, one by one.
use Rattle.std.specs.Prelude.{ℕ, Bool, false, ◌&&◌, List, [], ◌∷◌, ◌==◌, Option, Some, None, option_map, if◌then◌else◌, nat_eq}
use Rattle.std.specs.Option.{option_and_then}
use Rattle.std.specs.List.{find, starts_with}
use Rattle.text_bytes.specs.Names.{colon, space}
use Rattle.text_bytes.specs.Text.{Text}
use Rattle.device_core.specs.declared.lines.DeviceField.{DeviceField}
use Rattle.device_core.specs.declared.lines.DeviceField.TheVariants.{Subsystem, Driver, Node, Devnum, Attribute, Property, Stored, Tag, Link}
use Rattle.device_core.specs.declared.lines.LineKind.{LineKind}
use Rattle.device_core.specs.declared.lines.LineKind.TheVariants.{Action, Device, Field, Constant, Command, Answer, Output}

-- the letter that a line about the device above begins with
abbrev pub field_letter : DeviceField → ℕ
field_letter Subsystem = 85  -- U
field_letter Driver = 86  -- V
field_letter Node = 78  -- N
field_letter Devnum = 68  -- D
field_letter Attribute = 65  -- A
field_letter Property = 69  -- E
field_letter Stored = 66  -- B
field_letter Tag = 71  -- G
field_letter Link = 83  -- S

-- the letter that a line begins with
abbrev pub letter_of : LineKind → ℕ
letter_of Action = 67  -- C
letter_of Device = 80  -- P
letter_of (Field field) = field_letter field
letter_of Constant = 75  -- K
letter_of Command = 81  -- Q
letter_of Answer = 82  -- R
letter_of Output = 79  -- O

-- all kinds of lines
abbrev pub kinds : List LineKind
kinds =
    Action ∷ Device ∷ Field Subsystem ∷ Field Driver ∷ Field Node ∷ Field Devnum ∷ Field Attribute ∷ Field Property ∷ Field Stored ∷ Field Tag
    ∷ Field Link ∷ Constant ∷ Command ∷ Answer ∷ Output ∷ []

-- a line by its kind, and what follows the space
abbrev pub Row : Type 0
Row = LineKind × Text

-- the letter of a line that is a letter, a colon, a space and a rest, and the rest
abbrev pub form : Text → Option (ℕ × Text)
form [] = None
form (a ∷ []) = None
form (a ∷ b ∷ []) = None
form (a ∷ b ∷ c ∷ rest) = if b == colon && c == space then Some (a, rest) else None

-- the kind of line that has this letter
unfoldable pub kind_of : ℕ → Option LineKind
kind_of letter = find (λ kind. letter == letter_of kind) kinds

-- a line by its letter and rest, if the letter is known
abbrev pub row_from : ℕ × Text → Option Row
row_from parts = option_map (λ kind. (kind, parts.1)) (kind_of parts.0)

-- a line of the form with a known letter, by its kind
unfoldable pub row_of : Text → Option Row
row_of line = option_and_then row_from (form line)

-- whether the first of these lines begins as an answer does
unfoldable pub begins_answer : List Text → Bool
begins_answer [] = false
begins_answer (line ∷ lines) = starts_with nat_eq line (letter_of Answer ∷ colon ∷ space ∷ [])
