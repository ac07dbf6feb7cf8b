-- What the rest of a line says: two parts, numbers, answers and paths.
use Rattle.std.specs.Prelude.{ℕ, ◌^◌, Bool, true, false, not, ◌&&◌, [], ◌∷◌, ◌++◌, length, ◌==◌, nat_le}
use Rattle.std.specs.Prelude.{Option, Some, None, option_map, if◌then◌else◌, nat_eq, is_some}
use Rattle.std.specs.Option.{option_and_then}
use Rattle.std.specs.List.{starts_with}
use Rattle.text_bytes.specs.Names.{slash, colon, equals, space}
use Rattle.text_bytes.specs.Texts.{is_empty, split_once}
use Rattle.text_bytes.specs.Numbers.{decimal_below}
use Rattle.text_bytes.specs.Text.{Text}
use Rattle.text_tables.specs.Pairs.{Pair}
use Rattle.device_core.specs.Values.{NumberValue, AnswerValue}

-- a pair whose name is not empty
abbrev pub with_name : Pair → Option Pair
with_name p = if is_empty p.0 then None else Some p

-- a name and its value: what comes before the first `=` and is not empty, and what comes after it
unfoldable pub pair_of : Text → Option Pair
pair_of rest = option_and_then with_name (split_once equals rest)

-- the number that 1 to `most` digits write, if it is below the bound
unfoldable pub number_below : ℕ → ℕ → Text → Option ℕ
number_below most bound text = if nat_le (length text) most then decimal_below bound text else None

-- a part of a device number has 1 to 10 digits and is below 2^32
abbrev pub is_part : Text → Bool
is_part text = is_some (number_below 10 (2 ^ 32) text)

-- two texts as a device number, if both are parts of one
abbrev pub with_parts : Pair → Option NumberValue
with_parts p = if is_part p.0 && is_part p.1 then Some (record { major = p.0; minor = p.1 }) else None

-- a device number: two numbers of 1 to 10 digits below 2^32, and a colon in between; as written
unfoldable pub number_of : Text → Option NumberValue
number_of rest = option_and_then with_parts (split_once colon rest)

-- the status and the text of an answer: what comes before the first space and after it
abbrev pub answer_parts : Text → Option Pair → Pair
answer_parts rest None = (rest, [])
answer_parts rest (Some p) = p

-- an answer whose first text is a status of 1 to 3 digits, at most 255
abbrev pub with_status : Pair → Option AnswerValue
with_status p = option_map (λ status. record { status = status; text = p.1 }) (number_below 3 256 p.0)

-- an answer: a status of 1 to 3 digits, at most 255, and then nothing or a space and a text
unfoldable pub answer_of : Text → Option AnswerValue
answer_of rest = with_status (answer_parts rest (split_once space rest))

-- whether each slash is followed by a byte that is not a slash; the first argument says that one comes right before
-- the text
abbrev pub names_follow : Bool → Text → Bool
names_follow after_slash [] = not after_slash
names_follow after_slash (b ∷ text) = if b == slash then not after_slash && names_follow true text else names_follow false text

-- the path of an event device: it begins with a slash, has no empty component and does not end in a slash
unfoldable pub is_device_path : Text → Bool
is_device_path [] = false
is_device_path (b ∷ text) = b == slash && names_follow true text

-- whether a path is that of a parent: not empty, and the other path begins with it and a slash
unfoldable pub is_parent_path : (child parent : Text) → Bool
is_parent_path child parent = not (is_empty parent) && starts_with nat_eq child (parent ++ slash ∷ [])
