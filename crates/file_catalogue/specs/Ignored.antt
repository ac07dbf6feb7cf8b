-- What `--ignore` names.
use Rattle.std.specs.Prelude.{◌==◌, ◌&&◌, ◌||◌, if◌then◌else◌, List, [], ◌∷◌, Bool, Option, codes, filter, find, flat_map, is_some, length, nat_eq, not}
use Rattle.std.specs.List.{list_any, slice_split, starts_with}
use Rattle.std.specs.Str.{bytes_eq}
use Rattle.text_bytes.specs.Names.{comma}
use Rattle.text_bytes.specs.Text.{Text}
use Rattle.file_catalogue.specs.Catalogue.{all_codes, remark_of}

-- whether a part names the class of a code: it is its letter
abbrev pub is_of_class : Text → Text → Bool
is_of_class part code = length part == 1 && starts_with nat_eq code part

-- the codes of the class that a part names
unfoldable pub class_codes : Text → List Text
class_codes part = filter (is_of_class part) all_codes

-- whether a part names a class of codes
unfoldable pub is_class : Text → Bool
is_class part = list_any (is_of_class part) all_codes

-- what a part of a value names: the codes of a class, and otherwise itself
abbrev pub codes_named : Text → List Text
codes_named part = if is_class part then class_codes part else part ∷ []

-- the parts of a value, between its commas
abbrev pub cut_at_commas : Text → List Text
cut_at_commas value = slice_split (λ b. b == comma) value

-- what values name, in their order
abbrev pub ignored_codes : List Text → List Text
ignored_codes values = flat_map codes_named (flat_map cut_at_commas values)

-- a part may be ignored: it is the word `comments`, the code of a remark or the letter of a class
abbrev pub is_ignorable : Text → Bool
is_ignorable part = bytes_eq part (codes "comments") || (is_some (remark_of part) || is_class part)

-- the first of these parts that may not
abbrev pub first_unknown : List Text → Option Text
first_unknown parts = find (λ part. not (is_ignorable part)) parts

-- the first part of values that may not, if there is one
abbrev pub unknown_ignored : List Text → Option Text
unknown_ignored values = first_unknown (flat_map cut_at_commas values)
