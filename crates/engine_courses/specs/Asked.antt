-- Which rules the texts of `--why` ask for, and what is said about a text that asks for none.
use Rattle.std.specs.Prelude.{ℕ, Bool, true, false, not, ◌==◌, ◌||◌, ◌&&◌, List, [], ◌∷◌, ◌++◌, map}
use Rattle.std.specs.Prelude.{filter, find, codes, decimal, Option, Some, None, option_map}
use Rattle.std.specs.List.{list_any}
use Rattle.text_bytes.specs.Escapes.{escape_text}
use Rattle.text_bytes.specs.Names.{colon, newline}
use Rattle.file_messages.specs.declared.message.Message.{Message}
use Rattle.text_bytes.specs.Text.{Text}
use Rattle.text_tables.specs.Texts.{same_text}
use Rattle.rule_types.specs.Rules.{Rule}
use Rattle.engine_courses.specs.Named.{alike}
use Rattle.engine_courses.specs.Meant.{meant_file}
use Rattle.engine_courses.specs.Nearest.{Place, nearest}

-- whether a text asks for a place: it is the name of its file, or `FILE:LINE`, by the file's name as the two are compared
abbrev pub asks : Text → Place → Bool
asks text place =
    let both = alike text place.0 in
    same_text both.0 both.1 || same_text both.0 (both.1 ++ colon ∷ decimal place.1)

-- whether one of the texts of `--why` asks for a line of a file
abbrev pub is_asked : List Text → Text → ℕ → Bool
is_asked why file line = list_any (λ text. asks text (file, line)) why

-- whether one of these rules is on a line of a file
abbrev pub has_rule : List Rule → Text → ℕ → Bool
has_rule rules file line = list_any (λ r. same_text r.file file && r.line == line) rules

-- the messages on lines that are asked for and are no rule, since what the message says kept them from being read as one
unfoldable pub unread : List Text → List Message → List Rule → List Message
unread why messages rules = filter (λ m. is_asked why m.file m.line && not (has_rule rules m.file m.line)) messages

-- the places of rules and of messages
abbrev pub places_of : List Message → List Rule → List Place
places_of messages rules = map (λ r. (r.file, r.line)) rules ++ map (λ m. (m.file, m.line)) messages

-- whether a text asks for one of these places
abbrev pub is_known : List Place → Text → Bool
is_known places text = list_any (asks text) places

-- what is missing: a rule, with the nearest place of the text's file, or such a file, with the one that may be meant
abbrev pub missing : Option Place → (meant : Option Place) → Text
missing None None = codes "rules file"
missing None (Some place) = codes "rules file, the nearest is " ++ escape_text place.0
missing (Some place) meant = codes "rule, the nearest is " ++ escape_text place.0 ++ colon ∷ decimal place.1

-- the line on a text that asks for nothing
unfoldable pub unknown_line : List Place → Text → Text
unknown_line places text =
    codes "devdry: --why " ++ escape_text text ++ codes ": no such " ++ missing (nearest text places) (meant_file text places) ++ newline ∷ []

-- the line on the first text that asks for no rule and no message's place
unfoldable pub unknown : List Text → List Message → List Rule → Option Text
unknown why messages rules = let places = places_of messages rules in option_map (unknown_line places) (find (λ text. not (is_known places text)) why)
