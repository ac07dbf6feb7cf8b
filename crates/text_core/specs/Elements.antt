-- The elements between the brackets of a pattern of fnmatch(3), in the C locale.
use Rattle.std.specs.Prelude.{ℕ, ◌+◌, Bool, true, false, not, ◌==◌, ◌&&◌, nat_le, nat_lt, if◌then◌else◌}
use Rattle.std.specs.Prelude.{List, ◌∷◌, [], take, drop, position, slice_index, Option, Some, None}
use Rattle.std.specs.Char.{to_ascii_lowercase}
use Rattle.std.specs.List.{prefix_len, zip}
use Rattle.std.specs.Option.{option_map}
use Rattle.text_bytes.specs.Text.{Text}
use Rattle.text_bytes.specs.Names.{backslash, close_bracket, colon, dot, equals, minus, open_bracket}
use Rattle.text_core.specs.Classes.{class_has, class_of}
use Rattle.text_core.specs.declared.byte_class.ByteClass.{ByteClass}
use Rattle.text_core.specs.declared.elements.Element.{Element}
use Rattle.text_core.specs.declared.elements.Element.TheVariants.{Single, Range, AsIs, Class, Unknown}
use Rattle.text_core.specs.declared.elements.Found.{Found}
use Rattle.text_core.specs.declared.reading.Reading.{Reading}
use Rattle.text_core.specs.declared.reading.Reading.TheVariants.{Exact, Blind}

-- A byte as a reading compares it: read blind, a capital is its lower case letter.
abbrev pub folded : Reading → ℕ → ℕ
folded Exact b = b
folded Blind b = to_ascii_lowercase b

-- A byte that stands for itself.
abbrev pub single : Reading → ℕ → Found
single reading b = record { element = Single (folded reading b); following = 0 }

-- The byte after a backslash stands for itself.
abbrev pub escaped : Reading → Text → Option Found
escaped reading [] = None
escaped reading (b ∷ t) = Some (record { element = Single (folded reading b); following = 1 })

-- Whether a text begins with a mark and a `]`, which end what `[` and that mark began.
abbrev pub is_ended : ℕ → Text → Bool
is_ended mark [] = false
is_ended mark (b ∷ []) = false
is_ended mark (b ∷ c ∷ t) = b == mark && c == close_bracket

-- A lower case letter other than z, of which the names of classes are made.
abbrev pub is_small_letter : ℕ → Bool
is_small_letter b = nat_le 97 b && nat_lt b 122

-- The class of a name, or a name that means nothing.
abbrev pub class_element : Option ByteClass → Element
class_element (Some class) = Class class
class_element None = Unknown

-- `[:name:]` from after its `[:`: letters, and after them `:]`.
unfoldable pub named_class : Text → Option Found
named_class t =
    let n = prefix_len is_small_letter t in
    if is_ended colon (drop n t) then Some (record { element = class_element (class_of (take n t)); following = n + 3 }) else None

-- `[=x=]` from after its `[=`.
abbrev pub equivalence : Text → Option Found
equivalence [] = None
equivalence (b ∷ t) = if is_ended equals t then Some (record { element = AsIs b; following = 4 }) else None

-- What a `[` with the text after it names: a class, or one byte; in another form nothing.
abbrev pub class_or_equivalence : Text → Option Found
class_or_equivalence [] = None
class_or_equivalence (mark ∷ t) =
    if mark == colon then named_class t
    else if mark == equals then equivalence t
    else None

-- How many bytes come before the first `.]`.
unfoldable pub symbol_len : Text → Option ℕ
symbol_len t = position (λ pair. pair.0 == dot && pair.1 == close_bracket) (zip t (drop 1 t))

-- A symbol of one byte is that byte, and any other symbol means nothing.
abbrev pub symbol_element : ℕ → ℕ → Element
symbol_element b n = if n == 1 then AsIs b else Unknown

-- `[.x.]` from after its `[.`, if a `.]` ends it.
abbrev pub symbol : Text → Option Found
symbol [] = None
symbol (b ∷ t) = option_map (λ n. record { element = symbol_element b n; following = n + 3 }) (symbol_len (b ∷ t))

-- What a `[` that names no class is: the beginning of a symbol, or itself.
abbrev pub symbol_or_bracket : Reading → Text → Option Found
symbol_or_bracket reading [] = Some (single reading open_bracket)
symbol_or_bracket reading (mark ∷ t) = if mark == dot then symbol t else Some (single reading open_bracket)

-- What may stand alone or at an end of a range; nothing if the text ends within it.
unfoldable pub point : Reading → ℕ → Text → Option Found
point reading b t =
    if b == backslash then escaped reading t
    else if b == open_bracket then symbol_or_bracket reading t
    else Some (single reading b)

-- Whether a range goes on: a minus comes next, and after it a byte that is no `]`.
abbrev pub proceeds : Text → Bool
proceeds [] = false
proceeds (b ∷ []) = false
proceeds (b ∷ c ∷ t) = b == minus && not (c == close_bracket)

-- The byte of an element that may be at an end of a range.
abbrev pub end_of : Element → Option ℕ
end_of (Single b) = Some b
end_of (AsIs b) = Some b
end_of (Range first last) = None
end_of (Class class) = None
end_of Unknown = None

-- The range between two ends, both of which mean something.
abbrev pub range_between : Option ℕ → Option ℕ → Element
range_between None last = Unknown
range_between (Some low) None = Unknown
range_between (Some low) (Some high) = Range low high

-- A range from its first end to its last.
abbrev pub range_to : Found → Option Found → Option Found
range_to first last =
    option_map (λ end. record { element = range_between (end_of first.element) (end_of end.element); following = first.following + end.following + 2 }) last

-- The range that a first end begins before a text, or else that end alone.
unfoldable pub ranged : Reading → Found → Text → Option Found
ranged reading first t =
    if proceeds t then range_to first (point reading (slice_index t 1) (drop 2 t)) else Some first

-- What a first end, if there is one, begins before the text after it.
abbrev pub ranged_after : Reading → Text → Option Found → Option Found
ranged_after reading t None = None
ranged_after reading t (Some first) = ranged reading first (drop first.following t)

-- What a `[` names, or else the point that begins here.
abbrev pub named_or : Option Found → Option Found → Option Found
named_or (Some found) other = Some found
named_or None other = other

-- The element that a byte begins before a text; nothing if the text ends within it.
unfoldable pub element_of : Reading → ℕ → Text → Option Found
element_of reading b t =
    named_or (if b == open_bracket then class_or_equivalence t else None) (ranged_after reading t (point reading b t))

-- Whether an element has a byte. A class, and a byte with a name, are compared with the byte in its own case.
abbrev pub element_has : Reading → Element → ℕ → Bool
element_has reading (Single own) b = own == folded reading b
element_has reading (Range first last) b = nat_le first (folded reading b) && nat_le (folded reading b) last
element_has reading (AsIs own) b = own == b
element_has reading (Class class) b = class_has class b
element_has reading Unknown b = false

-- Whether an element is a name that means nothing.
abbrev pub is_unknown : Element → Bool
is_unknown Unknown = true
is_unknown (Single own) = false
is_unknown (Range first last) = false
is_unknown (AsIs own) = false
is_unknown (Class class) = false

-- Whether a set takes a byte: it takes the bytes that an element has, or if it is negated the others. A byte that
-- none of the elements before has is not taken once a name that means nothing is reached.
abbrev pub takes_among : Reading → Bool → List Element → ℕ → Bool
takes_among reading negated [] b = negated
takes_among reading negated (element ∷ elements) b =
    if is_unknown element then false
    else if element_has reading element b then not negated
    else takes_among reading negated elements b
