-- What .link files set.
use Rattle.std.specs.Prelude.{ℕ, ◌-◌, ◌||◌, ◌&&◌, ◌==◌, not, Bool, true, false, List, [], ◌∷◌, ◌++◌, fold, length, take, drop, nat_eq}
use Rattle.std.specs.Prelude.{Option, Some, None, if◌then◌else◌}
use Rattle.std.specs.List.{list_all, starts_with}
use Rattle.std.specs.Str.{is_utf8}
use Rattle.text_bytes.specs.Escapes.{is_control}
use Rattle.text_bytes.specs.Lines.{lines}
use Rattle.text_bytes.specs.Names.{backslash, close_bracket, double_quote, equals, open_bracket, single_quote}
use Rattle.text_bytes.specs.Texts.{begins_with, ends_in, is_empty, split_once}
use Rattle.text_bytes.specs.Text.{Text}
use Rattle.link_files.specs.Lines.{joined, stripped}
use Rattle.link_files.specs.declared.settings.Setting.{Setting}

-- whether a byte may be in the name of a section: no control, no quote and no backslash
abbrev pub is_section_byte : ℕ → Bool
is_section_byte b = not (is_control b || (b == double_quote || (b == single_quote || b == backslash)))

-- the section that a line begins which begins with `[`, if it ends in `]` and the bytes between may be in a name
unfoldable pub section_of : Text → Option Text
section_of text =
    let inside = take (length text - 2) (drop 1 text) in
    if ends_in close_bracket text && list_all is_section_byte inside then Some inside else None

-- What was read so far: whether each line could be read, the section that has begun, and what was set.
pub record ReadingValue : Type 0 where
  pub is_sound : Bool
  pub section : Text
  pub settings : List Setting

-- nothing was read yet
abbrev pub unread : ReadingValue
unread = record { is_sound = true; section = []; settings = [] }

-- what is read cannot be used
abbrev pub broken : ReadingValue → ReadingValue
broken r = record r { is_sound = false }

-- a section begins; with a name that can't be read, nothing can be used
abbrev pub with_section : ReadingValue → Option Text → ReadingValue
with_section r None = broken r
with_section r (Some name) = record r { section = name }

-- a setting of the section that has begun
abbrev pub with_setting : ReadingValue → (key value : Text) → ReadingValue
with_setting r key value = record r { settings = r.settings ++ (let s : Setting = record { section = r.section; key = key; value = value } in s) ∷ [] }

-- what comes before a `=` and what comes after it are the key and the value; a line without it sets nothing
abbrev pub with_assignment : ReadingValue → Option (Text × Text) → ReadingValue
with_assignment r None = r
with_assignment r (Some parts) = with_setting r (stripped parts.0) (stripped parts.1)

-- What a line makes of what was read. A line that is not UTF-8 makes all of no use.
unfoldable pub with_line : ReadingValue → Text → ReadingValue
with_line r line =
    let text = stripped line in
    if is_empty text then r
    else if not (is_utf8 text) then broken r
    else if begins_with open_bracket text then with_section r (section_of text)
    else with_assignment r (split_once equals text)

-- a file without the mark of UTF-8 that some editors put at its start
abbrev pub unmarked : Text → Text
unmarked bytes = if starts_with nat_eq bytes (239 ∷ 187 ∷ 191 ∷ []) then drop 3 bytes else bytes

-- what a file adds to what files before it set; each begins without a section
unfoldable pub with_file : ReadingValue → (bytes : Text) → ReadingValue
with_file r bytes = fold with_line (record r { section = [] }) (joined (lines (unmarked bytes)))
