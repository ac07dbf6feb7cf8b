-- What a text spells as a pattern of fnmatch(3) in the C locale, and as a choice of such patterns.
use Rattle.std.specs.Prelude.{ℕ, zero, suc, ◌-◌, Bool, true, false, ◌==◌, ◌||◌, nat_lt, if◌then◌else◌}
use Rattle.std.specs.Prelude.{List, ◌∷◌, [], map, length, drop, Option, Some, None, Result, Ok, Err}
use Rattle.std.specs.List.{list_any, slice_split}
use Rattle.text_bytes.specs.Text.{Text}
use Rattle.text_bytes.specs.Names.{backslash, open_bracket, question_mark, star}
use Rattle.text_core.specs.Brackets.{Closed, elements_at}
use Rattle.text_core.specs.Choices.{is_bar}
use Rattle.text_core.specs.Elements.{takes_among}
use Rattle.text_core.specs.Sets.{set_of, set_takes}
use Rattle.text_core.specs.Spell.{itself, max_len, negated, sign_len}
use Rattle.text_core.specs.declared.glob_fault.GlobFault.{GlobFault}
use Rattle.text_core.specs.declared.glob_fault.GlobFault.TheVariants.{TooLong}
use Rattle.text_core.specs.declared.item.Item.{Item}
use Rattle.text_core.specs.declared.item.Item.TheVariants.{Byte, One, Many, Among}
use Rattle.text_core.specs.declared.reading.Reading.{Reading}
use Rattle.text_core.specs.declared.reading.Reading.TheVariants.{Exact}
use Rattle.text_core.specs.declared.spell.Head.{Head}

-- The set of the elements after a `[`, if they are closed; else the `[` means itself.
abbrev pub set_or_bracket : Reading → Text → Option Closed → Head
set_or_bracket reading t None = record { item = Byte open_bracket; following = 0 }
set_or_bracket reading t (Some closed) =
    record { item = Among (set_of (takes_among reading (negated t) closed.elements)); following = length t - closed.left }

-- What a `[` begins before a text.
unfoldable pub fnmatch_bracket : Reading → Text → Head
fnmatch_bracket reading t = set_or_bracket reading t (elements_at reading true (drop (sign_len t) t) 0)

-- A backslash makes the byte after it mean itself; at the end of a text nothing fits it.
abbrev pub fnmatch_escaped : Reading → Text → Head
fnmatch_escaped reading [] = record { item = Among (set_of (set_takes Exact false [])); following = 0 }
fnmatch_escaped reading (b ∷ t) = record { item = itself reading b; following = 1 }

-- The item that a byte begins, and how many of the bytes after it belong to it.
unfoldable pub fnmatch_first : Reading → ℕ → Text → Head
fnmatch_first reading b t =
    if b == star then record { item = Many; following = 0 }
    else if b == question_mark then record { item = One; following = 0 }
    else if b == open_bracket then fnmatch_bracket reading t
    else if b == backslash then fnmatch_escaped reading t
    else record { item = itself reading b; following = 0 }

-- The item found in front, and after it those of the rest once the item's own bytes are skipped.
abbrev pub with_head : Head → (ℕ → List Item) → List Item
with_head head rest = head.item ∷ rest head.following

-- The items of a text, after so many bytes to be skipped.
abbrev pub fnmatch_items : Reading → Text → ℕ → List Item
fnmatch_items reading [] passed = []
fnmatch_items reading (b ∷ t) zero = with_head (fnmatch_first reading b t) (λ n. fnmatch_items reading t n)
fnmatch_items reading (b ∷ t) (suc n) = fnmatch_items reading t n

-- A byte that makes all parts of a choice patterns.
abbrev pub is_special : ℕ → Bool
is_special b = b == star || b == question_mark || b == open_bracket

-- The items of a part: those of its pattern, or its bytes if the choice has no special byte.
abbrev pub fnmatch_part : Reading → Bool → Text → List Item
fnmatch_part reading true part = fnmatch_items reading part 0
fnmatch_part reading false part = map (itself reading) part

-- The patterns of a choice: those of the texts between the bars. Being too long comes before all else.
unfoldable pub fnmatch_choice : Reading → Text → Result (List (List Item)) GlobFault
fnmatch_choice reading t =
    if nat_lt max_len (length t) then Err TooLong
    else Ok (map (fnmatch_part reading (list_any is_special t)) (slice_split is_bar t))
