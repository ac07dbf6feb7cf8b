-- The grammar of a pattern's text: the pieces that it is written in, and what each of them means.
-- It says the same as the reading of `Spell` without its order, its places and its counts.
use Rattle.std.specs.Prelude.{◌≡◌, ◌≢◌, ℕ, ◌+◌, ◌<◌, ◌≤◌, ◌↔◌, Bool, true, false, List, ◌∷◌, [], ◌++◌, length, map, drop, Result, Ok, Err}
use Rattle.std.specs.List.{list_any}
use Rattle.text_bytes.specs.Text.{Text}
use Rattle.text_bytes.specs.Names.{bang, caret, close_bracket, open_bracket, question_mark, star}
use Rattle.text_core.specs.Sets.{set_of, set_takes}
use Rattle.text_core.specs.Spell.{closes, itself, max_len, negated, opens_class}
use Rattle.text_core.specs.declared.glob_fault.GlobFault.{GlobFault}
use Rattle.text_core.specs.declared.glob_fault.GlobFault.TheVariants.{Class, TooLong}
use Rattle.text_core.specs.declared.item.Item.{Item}
use Rattle.text_core.specs.declared.item.Item.TheVariants.{One, Many, Among}
use Rattle.text_core.specs.declared.reading.Reading.{Reading}

-- What is between the `[` of a set and its members.
pub data Sign : Type 0 where
  no_sign : Sign
  bang_sign : Sign
  caret_sign : Sign

-- How a sign is written.
abbrev pub print_sign : Sign → Text
print_sign no_sign = []
print_sign bang_sign = bang ∷ []
print_sign caret_sign = caret ∷ []

-- Whether a sign negates the set.
abbrev pub negates : Sign → Bool
negates no_sign = false
negates bang_sign = true
negates caret_sign = true

-- A text is a set and then the rest: `[`, a sign, members and `]`. The members are one byte or more; only the first
-- of them may be a `]`; and if no sign is written, they don't begin with one.
pub record IsSet (t : Text) (sign : Sign) (members rest : Text) : Type 0 where
  pub text : t ≡ open_bracket ∷ (print_sign sign ++ (members ++ close_bracket ∷ rest))
  pub some : 0 < length members
  pub unclosed : list_any closes (drop 1 members) ≡ false
  pub unsigned : sign ≡ no_sign → negated members ≡ false

-- No set is at the front of a text.
abbrev pub NoSet : Text → Type 0
NoSet t = (sign : Sign) (members rest : Text) → IsSet t sign members rest → ⊥

-- At a place among the members a class begins: a `[` directly before `:`, `.` or `=`.
pub record IsClassAt (members : Text) (n : ℕ) : Type 0 where
  pub before : Text
  pub next : ℕ
  pub following : Text
  pub whole : members ≡ before ++ open_bracket ∷ next ∷ following
  pub opens : opens_class next ≡ true
  pub place : length before ≡ n

-- No class begins among the members.
abbrev pub NoClass : Text → Type 0
NoClass members = (n : ℕ) → IsClassAt members n → ⊥

-- A piece of a pattern's text.
pub data Piece : Type 0 where
  many : Piece
  one : Piece
  set : Sign → Text → Piece
  byte : ℕ → Piece

-- A text is a piece and then the rest. A star and a question mark are written as such, a set has no class among its
-- members, and any byte with which none of these begins is a piece alone.
abbrev pub IsPiece : Piece → Text → Text → Type 0
IsPiece many t rest = t ≡ star ∷ rest
IsPiece one t rest = t ≡ question_mark ∷ rest
IsPiece (set sign members) t rest = IsSet t sign members rest × NoClass members
IsPiece (byte b) t rest = (t ≡ b ∷ rest) × (b ≢ star) × (b ≢ question_mark) × NoSet t

-- A text is these pieces, one after another, and then the rest.
abbrev pub ArePieces : List Piece → Text → Text → Type 0
ArePieces [] t rest = t ≡ rest
ArePieces (piece ∷ pieces) t rest = (more : Text) × IsPiece piece t more × ArePieces pieces more rest

-- The item that a piece means.
abbrev pub item_of : Reading → Piece → Item
item_of reading many = Many
item_of reading one = One
item_of reading (set sign members) = Among (set_of (set_takes reading (negates sign) members))
item_of reading (byte b) = itself reading b

-- A text is written in pieces that mean these items.
pub record Spells (reading : Reading) (t : Text) (items : List Item) : Type 0 where
  pub pieces : List Piece
  pub written : ArePieces pieces t []
  pub meant : items ≡ map (item_of reading) pieces

-- After some pieces of a text comes a set with a class among its members, the first of which begins at a place of the
-- text.
pub record HasClassAt (t : Text) (at : ℕ) : Type 0 where
  pub pieces : List Piece
  pub following : Text
  pub written : ArePieces pieces t following
  pub sign : Sign
  pub members : Text
  pub rest : Text
  pub a_set : IsSet following sign members rest
  pub place : ℕ
  pub a_class : IsClassAt members place
  pub first : (n : ℕ) → IsClassAt members n → place ≤ n
  pub start : ℕ
  pub starts : start + length following ≡ length t
  pub at_place : at ≡ start + 1 + length (print_sign sign) + place

-- A function reads texts as the grammar says: items if a text of at most 16,384 bytes is written in pieces that mean
-- them, the fault Class if such a text has a class at that place, and TooLong for longer ones alone.
pub record FollowsGrammar (reading : Reading) (spelled : Text → Result (List Item) GlobFault) : Type 0 where
  pub items : (t : Text) (items : List Item) → (spelled t ≡ Ok items) ↔ ((length t ≤ max_len) × Spells reading t items)
  pub class : (t : Text) (at : ℕ) → (spelled t ≡ Err (Class at)) ↔ ((length t ≤ max_len) × HasClassAt t at)
  pub too_long : (t : Text) → (spelled t ≡ Err TooLong) ↔ (max_len < length t)
