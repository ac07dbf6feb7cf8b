-- The properties that a paragraph gives the devices that its matches fit.
use Rattle.std.specs.Prelude.{ℕ, ◌+◌, Bool, ◌&&◌, ◌==◌, if◌then◌else◌, List, [], ◌∷◌, length, take, drop}
use Rattle.std.specs.Prelude.{position, flat_map, sum_by, Option, Some, None, Result, Ok, Err, is_ok}
use Rattle.std.specs.List.{list_any}
use Rattle.text_bytes.specs.Text.{Text}
use Rattle.text_bytes.specs.Names.{equals}
use Rattle.text_bytes.specs.Lines.{NumberedLine}
use Rattle.text_bytes.specs.Texts.{unindented}
use Rattle.text_bytes.specs.Numbers.{capped}
use Rattle.file_messages.specs.declared.message.MessageKind.{MessageKind}
use Rattle.file_messages.specs.declared.message.MessageKind.TheVariants.{NoEquals, EmptyKey}
use Rattle.text_core.specs.Spell.{spell}
use Rattle.text_core.specs.declared.item.Item.{Item}
use Rattle.text_core.specs.declared.glob_fault.GlobFault.{GlobFault}
use Rattle.hwdb_core.specs.Paragraphs.{Cut}

-- a key and its value
pub record Pair : Type 0 where
  pub key : Text
  pub value : Text

-- what a text says whose first `=` is at a place: the key comes before it, and may not be empty, the value after it
abbrev pub pair_at : Text → Option ℕ → Result Pair MessageKind
pair_at t None = Err NoEquals
pair_at t (Some at) = if at == 0 then Err EmptyKey else Ok (record { key = take at t; value = drop (at + 1) t })

-- a property without its leading blanks
abbrev pub property_text : NumberedLine → Text
property_text l = unindented l.text

-- what a property says, or what is wrong with it
abbrev pub pair_of : NumberedLine → Result Pair MessageKind
pair_of l = pair_at (property_text l) (position (λ b. b == equals) (property_text l))

-- an entry of the database except for its place among all
pub record Property : Type 0 where
  pub pattern : List Item
  pub key : Text
  pub value : Text
  pub file : Text
  pub line : ℕ

-- what a line of a file gives a pattern: one property, or none if something is wrong with the line
abbrev pub from_pair : Text → List Item → ℕ → Result Pair MessageKind → List Property
from_pair file pattern number (Ok pair) = record { pattern = pattern; key = pair.key; value = pair.value; file = file; line = capped number } ∷ []
from_pair file pattern number (Err kind) = []

-- what a property of its paragraph gives a pattern
abbrev pub from_line : Text → List Item → NumberedLine → List Property
from_line file pattern l = from_pair file pattern l.number (pair_of l)

-- what properties give a match: nothing if it is not a pattern
abbrev pub from_spelled : Text → List NumberedLine → Result (List Item) GlobFault → List Property
from_spelled file properties (Ok pattern) = flat_map (from_line file pattern) properties
from_spelled file properties (Err fault) = []

-- the properties of a paragraph: for each match in order each property in order
abbrev pub cut_properties : Text → Cut → List Property
cut_properties file c = flat_map (λ l. from_spelled file c.properties (spell l.text)) c.matches

-- whether a match gives an entry: it is a pattern, and nothing is wrong with some property of it
abbrev pub gives_entry : List NumberedLine → NumberedLine → Bool
gives_entry properties l = is_ok (spell l.text) && list_any (λ q. is_ok (pair_of q)) properties

-- how many bytes those matches of a paragraph have that give an entry
abbrev pub cut_match_bytes : Cut → ℕ
cut_match_bytes c = sum_by (λ l. if gives_entry c.properties l then length l.text else 0) c.matches
