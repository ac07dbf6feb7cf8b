-- JSON values made of lists.
use Rattle.std.specs.Prelude.{ℕ, List, [], ◌∷◌, ◌++◌, decimal}
use Rattle.text_bytes.specs.Text.{Text}
use Rattle.text_bytes.specs.Names.{newline}
use Rattle.json.specs.Json.{Json, array, number, object, Items, item, no_items, Members, member, no_members}
use Rattle.json.specs.Print.{print}
use Rattle.json.specs.Tree.{json_tokens}

abbrev pub number_value : ℕ → Json
number_value n = number (decimal n)

-- members, each of a key and a value
abbrev pub members_of : List (Text × Json) → Members
members_of [] = no_members
members_of (m ∷ ms) = member m.0 m.1 (members_of ms)

-- an object of members, in this order
abbrev pub object_of : List (Text × Json) → Json
object_of ms = object (members_of ms)

abbrev pub items_of : List Json → Items
items_of [] = no_items
items_of (j ∷ js) = item j (items_of js)

-- an array of values
abbrev pub array_of : List Json → Json
array_of js = array (items_of js)

-- a value on a line of its own, without blanks between its parts
unfoldable pub value_line : Json → Text
value_line value = print (json_tokens value) ++ newline ∷ []
