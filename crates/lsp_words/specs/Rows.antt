-- A row by itself.
use Rattle.std.specs.Prelude.{ℕ, ◌-◌, Bool, List, [], take, drop, if◌then◌else◌}
use Rattle.std.specs.List.{prefix_len}
use Rattle.text_bytes.specs.Names.{backslash, hash}
use Rattle.text_bytes.specs.Texts.{begins_with, ends_in, trimmed, unindented, without_last}
use Rattle.text_bytes.specs.Text.{Text}
use Rattle.rule_tokens.specs.Grammar.{Item, is_gap_byte}
use Rattle.rule_tokens.specs.Lines.{items_from}

-- whether a row is a comment: its first byte that is no blank is `#`
abbrev pub is_comment : Text → Bool
is_comment row = begins_with hash (unindented row)

-- what a row adds to its rule: nothing if it is a comment, else all but the backslash with which the rule goes on
abbrev pub body : Text → Text
body row = if is_comment row then [] else if ends_in backslash row then without_last row else row

-- whether a rule goes on after a row; a comment changes nothing
abbrev pub goes_on_after : (before : Bool) → Text → Bool
goes_on_after before row = if is_comment row then before else ends_in backslash row

-- a text without the blanks at its start and without the whitespace at its end
abbrev pub stripped : Text → Text
stripped text = trimmed (unindented text)

-- The tokens of a row in turn, and the fault that ends them. Commas and blanks may come first, since a row may go on with
-- a rule between any two of its tokens. Places are counted from the start of the row.
unfoldable pub items_in : Text → List Item
items_in row = items_from (prefix_len is_gap_byte (body row)) (body row)

-- the bytes of a text from a place up to another one, as many as there are
abbrev pub between : ℕ → ℕ → Text → Text
between from to text = take (to - from) (drop from text)
