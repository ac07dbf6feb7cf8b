-- What is in a line, and no editor shows.
use Rattle.std.specs.Prelude.{ℕ, Bool, false, not, ◌&&◌, ◌||◌, ◌==◌, [], ◌∷◌, codes, is_some}
use Rattle.text_bytes.specs.Text.{Text}
use Rattle.text_bytes.specs.Names.{carriage_return, hash}
use Rattle.text_bytes.specs.Texts.{begins_with, ends_in, following, unindented}
use Rattle.devdry_links.specs.declared.unseen.Unseen.{Unseen}
use Rattle.devdry_links.specs.declared.unseen.Unseen.TheVariants.{Mark, Return, NoBreak}

-- U+FEFF in UTF-8
abbrev pub byte_order_mark : Text
byte_order_mark = 239 ∷ 187 ∷ 191 ∷ []

-- whether a no-break space, U+00A0 in UTF-8, ends in a text that this byte comes before
abbrev pub has_no_break_after : ℕ → Text → Bool
has_no_break_after before [] = false
has_no_break_after before (b ∷ text) = (before == 194 && b == 160) || has_no_break_after b text

-- whether a text has a no-break space
abbrev pub has_no_break : Text → Bool
has_no_break text = has_no_break_after 0 text

-- whether a line has it: a byte order mark at its start, a carriage return at its end, or a no-break space if it is no comment
abbrev pub is_in : Unseen → Text → Bool
is_in Mark line = is_some (following byte_order_mark line)
is_in Return line = ends_in carriage_return line
is_in NoBreak line = not (begins_with hash (unindented line)) && has_no_break line

-- what is told of it
abbrev pub told_of : Unseen → Text
told_of Mark = codes "a byte order mark, which no editor shows: save the file as UTF-8 without one"
told_of Return = codes "the line ends in a carriage return, as on Windows: save the file with LF alone"
told_of NoBreak = codes "a no-break space, which looks like a space: write a space"
