-- Which place is nearest to the line that a text of `--why` asks for.
use Rattle.std.specs.Prelude.{ℕ, Bool, not, ◌==◌, ◌||◌, ◌&&◌, nat_lt, if◌then◌else◌, List, [], ◌∷◌}
use Rattle.std.specs.Prelude.{find, filter_map, Option, Some, None, option_map, option_and_then}
use Rattle.std.specs.Int.{abs_diff}
use Rattle.std.specs.List.{list_any}
use Rattle.text_bytes.specs.Texts.{following}
use Rattle.text_bytes.specs.Numbers.{capped}
use Rattle.text_bytes.specs.Names.{colon}
use Rattle.text_bytes.specs.Numbers.{decimal, is_decimal}
use Rattle.text_bytes.specs.Text.{Text}
use Rattle.engine_courses.specs.Named.{alike}

-- a place: a file's name, and a line of it
abbrev pub Place : Type 0
Place = Text × ℕ

-- the number of a line that decimal digits write; at most 2^32 - 1, as in reports
abbrev pub line_number : Text → Option ℕ
line_number digits = if is_decimal digits then Some (capped (decimal digits)) else None

-- the line of a place's file that a text asks for as `FILE:N`, by the file's name as the two are compared
abbrev pub line_asked : Text → Place → Option ℕ
line_asked text place =
    let both = alike text place.0 in
    option_and_then line_number (option_and_then (following (colon ∷ [])) (following both.1 both.0))

-- how far the line of a place is from another one, and the place
abbrev pub Candidate : Type 0
Candidate = ℕ × Place

-- how far a place is from the line of its file that a text asks for, and the place
abbrev pub candidate_of : Text → Place → Option Candidate
candidate_of text place = option_map (λ line. (abs_diff line place.1, place)) (line_asked text place)

-- whether one place is nearer than another: it is less far, or as far and on a smaller line
abbrev pub is_nearer : Candidate → Candidate → Bool
is_nearer a b = nat_lt a.0 b.0 || (a.0 == b.0 && nat_lt a.1.1 b.1.1)

-- the first of some places to which none of them is nearer
unfoldable pub least : List Candidate → Option Candidate
least all = find (λ a. not (list_any (λ b. is_nearer b a) all)) all

-- of the places in the file of a text `FILE:N`, the one nearest to that line
abbrev pub nearest : Text → List Place → Option Place
nearest text places = option_map (λ found. found.1) (least (filter_map (candidate_of text) places))
