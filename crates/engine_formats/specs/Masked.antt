-- Texts for a terminal, without the characters of UTF-8 that it would obey.
use Rattle.std.specs.Prelude.{ℕ, Bool, ◌==◌, ◌&&◌, ◌||◌, nat_le, if◌then◌else◌, [], ◌∷◌}
use Rattle.text_bytes.specs.Text.{Text}
use Rattle.engine_sessions.specs.Readers.{is_for_people}
use Rattle.engine_sessions.specs.declared.line.Format.{Format}

-- whether a byte is in a range, both ends included
abbrev pub is_within : ℕ → ℕ → ℕ → Bool
is_within first last b = nat_le first b && nat_le b last

-- whether a byte is the last one of a mark of direction, or of a character that ends a line, whose first bytes are those of
-- U+2000: U+200E and U+200F, and U+2028 to U+202E
abbrev pub ends_mark : ℕ → Bool
ends_mark b = is_within 142 143 b || is_within 168 174 b

-- A byte by the two before it. The last byte of a control character, U+0080 to U+009F, makes it `¿`, U+00BF; that of a mark of
-- direction, or of a character that ends a line, makes it a sign as well: `؆`, U+0606, for U+061C; `‽`, U+203D, for U+200E,
-- U+200F and U+2028 to U+202E; and `⁇`, U+2047, for U+2066 to U+2069. Any other byte stays.
abbrev pub masked_byte : ℕ → ℕ → ℕ → ℕ
masked_byte before last b =
    if last == 194 && is_within 128 159 b then 191
    else if last == 216 && b == 156 then 134
    else if before == 226 && last == 128 && ends_mark b then 189
    else if before == 226 && last == 129 && is_within 166 169 b then 135
    else b

-- a text after two bytes, byte by byte
abbrev pub masked_after : ℕ → ℕ → Text → Text
masked_after before last [] = []
masked_after before last (b ∷ text) = masked_byte before last b ∷ masked_after last b text

-- a text, as long as it was, and each character as wide
abbrev pub masked : Text → Text
masked text = masked_after 0 0 text

-- a text as lines of a format show it: masked if the lines are for people
abbrev pub shown_in : Format → Text → Text
shown_in format text = if is_for_people format then masked text else text
