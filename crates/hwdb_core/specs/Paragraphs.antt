-- The paragraphs of a file, and the four parts of each.
use Rattle.std.specs.Prelude.{◌≡◌, Bool, true, not, ◌==◌, List, [], ◌∷◌, ◌++◌, length, take_while, filter, All}
use Rattle.std.specs.List.{slice_split}
use Rattle.text_bytes.specs.Names.{space}
use Rattle.text_bytes.specs.Lines.{NumberedLine}
use Rattle.text_bytes.specs.Texts.{begins_with, is_empty, skip_while}

-- whether nothing is left of a line
abbrev pub is_empty_line : NumberedLine → Bool
is_empty_line l = length l.text == 0

-- whether there is a line
abbrev pub has_lines : List NumberedLine → Bool
has_lines ls = not (is_empty ls)

-- the longest runs of lines that are not empty: what is between the empty lines, if that has lines
abbrev pub paragraphs : List NumberedLine → List (List NumberedLine)
paragraphs ls = filter has_lines (slice_split is_empty_line ls)

-- a line that begins with a space is a property
abbrev pub is_property : NumberedLine → Bool
is_property l = begins_with space l.text

-- any other is a match
abbrev pub is_match : NumberedLine → Bool
is_match l = not (is_property l)

-- the four parts of a paragraph
pub record Cut : Type 0 where
  -- properties that no match comes before
  pub early : List NumberedLine
  -- the matches
  pub matches : List NumberedLine
  -- the properties of these matches
  pub properties : List NumberedLine
  -- what comes from the next match on
  pub rest : List NumberedLine

-- nothing, or lines of which the first is a match
abbrev pub EmptyOrMatch : List NumberedLine → Type 0
EmptyOrMatch [] = Unit {0}
EmptyOrMatch (l ∷ ls) = is_match l ≡ true

-- Four parts are those of a paragraph if they are its lines in order, each of its own kind. The rest begins with a
-- match. Without matches there are no properties of theirs, and without these there is no rest.
pub record IsCut (p : List NumberedLine) (c : Cut) : Type 0 where
  pub whole : p ≡ c.early ++ (c.matches ++ (c.properties ++ c.rest))
  pub early_properties : All (λ l. is_property l ≡ true) c.early
  pub all_matches : All (λ l. is_match l ≡ true) c.matches
  pub all_properties : All (λ l. is_property l ≡ true) c.properties
  pub rest_begins : EmptyOrMatch c.rest
  pub no_matches : c.matches ≡ [] → c.properties ≡ []
  pub no_properties : c.properties ≡ [] → c.rest ≡ []

-- the parts of a paragraph: properties as long as they last, then matches, then properties, then the rest
abbrev pub cut : List NumberedLine → Cut
cut p =
    let from_matches = skip_while is_property p in
    let from_properties = skip_while is_match from_matches in
    record {
      early = take_while is_property p;
      matches = take_while is_match from_matches;
      properties = take_while is_property from_properties;
      rest = skip_while is_property from_properties;
    }
