-- L1 to L4: what is reported for the lines of a .link file.
use Rattle.std.specs.Prelude.{ℕ, ◌+◌, ◌-◌, not, ◌||◌, List, [], ◌∷◌, ◌++◌, length, min, Option, Some, None, if◌then◌else◌}
use Rattle.std.specs.Str.{is_utf8}
use Rattle.text_bytes.specs.Names.{equals, open_bracket}
use Rattle.text_bytes.specs.Numbers.{capped}
use Rattle.text_bytes.specs.Texts.{begins_with, is_empty, split_once}
use Rattle.text_bytes.specs.Text.{Text}
use Rattle.link_files.specs.Lines.{from_start, stripped}
use Rattle.link_files.specs.Settings.{section_of}
use Rattle.link_files.specs.Joined.{JoinedLine, joined_lines}
use Rattle.link_files.specs.Keys.{form_of, is_extension, is_known, section_named}
use Rattle.link_files.specs.Values.{takes}
use Rattle.link_files.specs.declared.fault.LinkFault.{LinkFault}
use Rattle.link_files.specs.declared.fault.LinkFault.TheVariants as fault
use Rattle.link_files.specs.declared.keys.Form.{Form}
use Rattle.link_files.specs.declared.placed_fault.PlacedFault.{PlacedFault}
use Rattle.link_files.specs.declared.sections.Section.{Section}
use Rattle.link_files.specs.declared.sections.Section.TheVariants as section

-- A fault of a word of a line, before which so many bytes come. Of a line that is put together from several, the place is
-- within the first.
abbrev pub placed : JoinedLine → LinkFault → ℕ → Text → PlacedFault
placed l fault start word = record {
  line = capped l.number;
  column = capped (min start l.width + 1);
  end = capped (min (start + length word) l.width + 1);
  fault = fault;
  word = word;
}

-- how many blanks a line begins with
abbrev pub start_of : JoinedLine → ℕ
start_of l = length l.text - length (from_start l.text)

-- a line that is nothing that a file may have
abbrev pub bad_line : JoinedLine → List PlacedFault
bad_line l = placed l fault.BadLine (start_of l) (stripped l.text) ∷ []

-- a line that begins with `[`, by the name of the section in it: one that is unknown and not free to use
abbrev pub section_faults : JoinedLine → Option Text → List PlacedFault
section_faults l None = bad_line l
section_faults l (Some name) =
    if is_known (section_named name) || is_extension name then [] else placed l fault.UnknownSection (start_of l + 1) name ∷ []

-- a key and its value, by the form that the section has for the key: one that has none and is not free to use, or a value
-- of another form
abbrev pub value_faults : JoinedLine → (key value : Text) → Option Form → List PlacedFault
value_faults l key value None = if is_extension key then [] else placed l fault.UnknownKey (start_of l) key ∷ []
value_faults l key value (Some form) =
    if takes form value then []
    else placed l fault.BadValue (start_of l + (length (stripped l.text) - length value)) value ∷ []

-- a key and its value
abbrev pub key_faults : Section → JoinedLine → (key value : Text) → List PlacedFault
key_faults section l key value = if is_empty key then bad_line l else value_faults l key value (form_of section key)

-- an assignment in a known section, by the parts around its first `=`
abbrev pub parts_faults : Section → JoinedLine → Option (Text × Text) → List PlacedFault
parts_faults section l None = bad_line l
parts_faults section l (Some parts) = key_faults section l (stripped parts.0) (stripped parts.1)

-- the same before the first section, where none may be, and in an unknown section, where all is skipped
abbrev pub assignment_faults : Section → JoinedLine → Option (Text × Text) → List PlacedFault
assignment_faults section.Before l parts = bad_line l
assignment_faults section.Unknown l parts = []
assignment_faults section l parts = parts_faults section l parts

-- the faults of a line in a section
unfoldable pub line_faults : Section → JoinedLine → List PlacedFault
line_faults section l =
    let text = stripped l.text in
    if is_empty text then []
    else if not (is_utf8 text) then bad_line l
    else if begins_with open_bracket text then section_faults l (section_of text)
    else assignment_faults section l (split_once equals text)

-- the section that begins; if its name can't be read, what follows is skipped
abbrev pub section_begun : Option Text → Section
section_begun None = section.Unknown
section_begun (Some name) = section_named name

-- the section after a line
unfoldable pub section_after : Section → JoinedLine → Section
section_after section l =
    let text = stripped l.text in
    if begins_with open_bracket text then section_begun (section_of text) else section

-- the faults of lines, by the section before the first
abbrev pub faults_from : Section → List JoinedLine → List PlacedFault
faults_from section [] = []
faults_from section (l ∷ ls) = line_faults section l ++ faults_from (section_after section l) ls

-- the faults of the lines of a file
unfoldable pub file_faults : Text → List PlacedFault
file_faults bytes = faults_from section.Before (joined_lines bytes)
