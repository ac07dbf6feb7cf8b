-- What the places of kept lines show in a file.
use Rattle.std.specs.Prelude.{◌≡◌, ◌<◌, ◌≤◌, ℕ, ◌+◌, ◌-◌, ◌⊎◌, List, [], ◌∷◌, ◌++◌, take, drop, length, map, flat_map, Some}
use Rattle.text_bytes.specs.Text.{Text}
use Rattle.text_bytes.specs.Lines.{NumberedLine, numbered_lines}
use Rattle.text_bytes.specs.declared.profile.Profile.{Profile}
use Rattle.rule_core.specs.Lines.{joined_lines, kept, piece_of, run_text}
use Rattle.rule_places.specs.Kept.{kept_from, line_at}
use Rattle.rule_places.specs.declared.kept.KeptLine.{KeptLine}

-- what those of these lines that are kept give to joined lines, one after another
abbrev pub kept_text : List NumberedLine → Text
kept_text ls = run_text (map piece_of (kept ls))

-- the line is one of these
abbrev pub IsAmong : NumberedLine → List NumberedLine → Type 0
IsAmong l [] = ⊥
IsAmong l (x ∷ xs) = (l ≡ x) ⊎ IsAmong l xs

-- Among lines, of which these are the kept ones with this text after so many bytes of others, one has the byte of a
-- place: from its column on the bytes of that line are those of the text, as many as the line has left up to the `\`
-- at its end, if it has one.
pub record Shows (kept : List KeptLine) (text : Text) (ls : List NumberedLine) (start at : ℕ) : Type 0 where
  pub line : NumberedLine
  pub place : KeptLine
  pub among : IsAmong line ls
  pub number : place.number ≡ line.number
  pub found : line_at kept at ≡ Some place
  pub begins : place.start ≤ at
  pub reaches : at < place.start + place.size
  pub counted : 0 < place.column
  pub ends : place.column - 1 + place.size ≡ length (piece_of line).text
  pub bytes : take (place.size - (at - place.start)) (drop (place.column - 1 + (at - place.start)) line.text)
      ≡ take (place.size - (at - place.start)) (drop (at - start) text)

-- the line that is found for a byte of a file's kept lines has that byte at the column that is reported, and after it those that follow
abbrev pub IsShown : Text → ℕ → Type 0
IsShown bytes at = Shows (kept_from 0 (numbered_lines bytes)) (kept_text (numbered_lines bytes)) (numbered_lines bytes) 0 at

-- the joined lines of a file are what its kept lines give, one after another; after these only the bytes of an open
-- line are left
abbrev pub AreJoined : Profile → Text → Type 0
AreJoined profile bytes = (left : Text) × (kept_text (numbered_lines bytes) ≡ flat_map (λ l. l.text) (joined_lines profile bytes).lines ++ left)
