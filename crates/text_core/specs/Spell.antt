-- What a text spells as a pattern: its items from the left, or its first fault.
use Rattle.std.specs.Prelude.{ℕ, zero, suc, ◌+◌, Bool, false, not, ◌==◌, ◌||◌, ◌&&◌, nat_lt, if◌then◌else◌, List}
use Rattle.std.specs.Prelude.{◌∷◌, [], length, take, drop, position, Option, Some, None, Result, Ok, Err}
use Rattle.std.specs.Char.{is_ascii_alphabetic}
use Rattle.std.specs.List.{zip}
use Rattle.std.specs.Option.{option_map}
use Rattle.text_bytes.specs.Text.{Text}
use Rattle.text_bytes.specs.Names.{bang, caret, close_bracket, colon, dot, equals, open_bracket, question_mark, star}
use Rattle.text_core.specs.Sets.{set_of, set_takes}
use Rattle.text_core.specs.declared.glob_fault.GlobFault.{GlobFault}
use Rattle.text_core.specs.declared.glob_fault.GlobFault.TheVariants.{Class, TooLong}
use Rattle.text_core.specs.declared.item.Item.{Item}
use Rattle.text_core.specs.declared.item.Item.TheVariants.{Byte, One, Many, Among}
use Rattle.text_core.specs.declared.reading.Reading.{Reading}
use Rattle.text_core.specs.declared.reading.Reading.TheVariants.{Exact, Blind}
use Rattle.text_core.specs.declared.spell.Head.{Head}

-- How many bytes a text to be read may have.
abbrev pub max_len : ℕ
max_len = 16384

-- A byte that negates a set.
abbrev pub is_sign : ℕ → Bool
is_sign b = b == bang || b == caret

-- A byte that ends a set.
abbrev pub closes : ℕ → Bool
closes b = b == close_bracket

-- A byte that, directly after a `[` among the members, makes it the beginning of a class.
abbrev pub opens_class : ℕ → Bool
opens_class b = b == colon || b == dot || b == equals

-- Whether the text after a `[` begins with a sign.
abbrev pub negated : Text → Bool
negated [] = false
negated (b ∷ t) = is_sign b

-- How many bytes of the text after a `[` come before the members.
abbrev pub sign_len : Text → ℕ
sign_len t = if negated t then 1 else 0

-- How many members are at the front of a text: the first byte is one, and the first `]` after it ends them.
abbrev pub members_len : Text → Option ℕ
members_len t = option_map (λ n. n + 1) (position closes (drop 1 t))

-- The place of the first `[` among members that `:`, `.` or `=` directly follows.
abbrev pub class_place : Text → Option ℕ
class_place members = position (λ pair. pair.0 == open_bracket && opens_class pair.1) (zip members (drop 1 members))

-- A set as it is written after its `[`: whether a sign negates it, its members, their place in the whole text, and how
-- many bytes it takes with its `]`.
pub record WrittenSet : Type 0 where
  pub negated : Bool
  pub members : Text
  pub place : ℕ
  pub len : ℕ

-- The set that is written after a `[` at a place, if a `]` ends one.
abbrev pub set_after : ℕ → Text → Option WrittenSet
set_after at t =
    let unsigned = drop (sign_len t) t in
    option_map (λ n. record {
      negated = negated t;
      members = take n unsigned;
      place = at + 1 + sign_len t;
      len = sign_len t + n + 1;
    }) (members_len unsigned)

-- The item of a set; or the fault if a class is found among its members.
abbrev pub set_unless_class : Reading → WrittenSet → Option ℕ → Result Head GlobFault
set_unless_class reading set None =
    Ok (record { item = Among (set_of (set_takes reading set.negated set.members)); following = set.len })
set_unless_class reading set (Some n) = Err (Class (set.place + n))

-- The item of a set, or else of a `[` that begins no set and means itself.
abbrev pub set_or_byte : Reading → Option WrittenSet → Result Head GlobFault
set_or_byte reading None = Ok (record { item = Byte open_bracket; following = 0 })
set_or_byte reading (Some set) = set_unless_class reading set (class_place set.members)

-- What a `[` at a place begins, before the text t.
unfoldable pub bracket : Reading → ℕ → Text → Result Head GlobFault
bracket reading at t = set_or_byte reading (set_after at t)

-- The item of a byte that means itself. Read blind, a letter is the set of that letter, so of both its cases.
abbrev pub itself : Reading → ℕ → Item
itself Exact b = Byte b
itself Blind b = if is_ascii_alphabetic b then Among (set_of (set_takes Blind false (b ∷ []))) else Byte b

-- The item that the byte b at a place begins, and how many of the bytes t after it belong to it.
unfoldable pub first_item : Reading → ℕ → ℕ → Text → Result Head GlobFault
first_item reading at b t =
    if b == star then Ok (record { item = Many; following = 0 })
    else if b == question_mark then Ok (record { item = One; following = 0 })
    else if b == open_bracket then bracket reading at t
    else Ok (record { item = itself reading b; following = 0 })

-- A byte that means itself wherever it stands outside of sets, and is no set in this reading.
abbrev pub is_plain : Reading → ℕ → Bool
is_plain Exact b = not (b == star) && (not (b == question_mark) && not (b == open_bracket))
is_plain Blind b = false

-- An item, and after it those that the rest spells.
abbrev pub with_item : Item → Result (List Item) GlobFault → Result (List Item) GlobFault
with_item x (Ok items) = Ok (x ∷ items)
with_item x (Err e) = Err e

-- The item found in front, and after it what the rest spells once the item's own bytes are skipped.
abbrev pub with_first : Result Head GlobFault → (ℕ → Result (List Item) GlobFault) → Result (List Item) GlobFault
with_first (Ok head) rest = with_item head.item (rest head.following)
with_first (Err e) rest = Err e

-- What a text spells that is at a place of a whole one, after so many bytes to be skipped.
abbrev pub items_at : Reading → Text → ℕ → ℕ → Result (List Item) GlobFault
items_at reading [] passed at = Ok []
items_at reading (b ∷ t) zero at = with_first (first_item reading at b t) (λ n. items_at reading t n (at + 1))
items_at reading (b ∷ t) (suc n) at = items_at reading t n (at + 1)

-- What a text spells in a reading; being too long comes before all else.
unfoldable pub spell_by : Reading → Text → Result (List Item) GlobFault
spell_by reading t = if nat_lt max_len (length t) then Err TooLong else items_at reading t 0 0

-- What a text spells.
unfoldable pub spell : Text → Result (List Item) GlobFault
spell t = spell_by Exact t

-- What a text spells with ASCII case ignored.
unfoldable pub spell_blind : Text → Result (List Item) GlobFault
spell_blind t = spell_by Blind t
