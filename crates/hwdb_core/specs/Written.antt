-- What is looked at in a line as it is written.
use Rattle.std.specs.Prelude.{ℕ, ◌-◌, Bool, not, ◌==◌, ◌&&◌, ◌||◌, nat_lt, if◌then◌else◌, [], ◌∷◌, length, drop, position, slice_index}
use Rattle.std.specs.Prelude.{Option, Some, None, is_none, option_map}
use Rattle.std.specs.List.{suffix_len}
use Rattle.text_bytes.specs.Names.{close_bracket, hash, open_bracket, space, tab, is_whitespace}
use Rattle.text_bytes.specs.Texts.{begins_with, ends_in, following}
use Rattle.text_bytes.specs.Text.{Text}

-- what follows the three bytes of a byte order mark in UTF-8, if a text begins with them
abbrev pub after_mark : Text → Option Text
after_mark text = following (239 ∷ 187 ∷ 191 ∷ []) text

-- whether a text ends in a space or a tab
abbrev pub ends_blank : Text → Bool
ends_blank text = ends_in space text || ends_in tab text

-- whether a line without a comment ends in a space or a tab
abbrev pub ends_in_blank : Text → Bool
ends_in_blank line = is_none (position (λ b. b == hash) line) && ends_blank line

-- the rest of a line from a place on, if something other than whitespace comes before it
abbrev pub cut_at : Text → Option ℕ → Option Text
cut_at line None = None
cut_at line (Some at) = if nat_lt 0 at && not (is_whitespace (slice_index line (at - 1))) then Some (drop at line) else None

-- the rest of a line from its first `#` on, if that cuts a word
abbrev pub cut_word : Text → Option Text
cut_word line = cut_at line (position (λ b. b == hash) line)

-- what follows the last `]` of a text, all of it if it has none
abbrev pub after_sets : Text → Text
after_sets text = drop (length text - suffix_len (λ b. not (b == close_bracket)) text) text

-- a match from the first `[` on behind which there is no `]`
abbrev pub open_set : Text → Option Text
open_set text = option_map (λ at. drop at (after_sets text)) (position (λ b. b == open_bracket) (after_sets text))

-- whether a blank is beside the `=` between a key and a value
abbrev pub is_blank_beside : Text → Text → Bool
is_blank_beside key value = (ends_blank key || begins_with space value) || begins_with tab value
