-- The units of characters, and changes that cut none.
use Rattle.std.proofs.Common.{◌≡◌, ℕ, ◌+◌, ◌-◌, ◌/◌, ◌%◌, ◌<◌, ◌≤◌, max, Bool, true, false, cond, List, [], ◌∷◌, ◌++◌, Option, Some, None, length, take, drop, get_or, flat_map, nat_le, nat_lt, refl, ap, sym, subst, ◌∙◌, arith, length-append}
use Rattle.std.specs.Char.Escape.{encode_utf16}
use Rattle.std.proofs.Math.Utf8.{encode, encodes}
use Rattle.std.proofs.lemmas.List.Sums.{sum_by-append}
use Rattle.std.proofs.lemmas.Str.{IsUtf8-append, IsUtf8-drop, IsUtf8-take}
use Rattle.std.specs.Str.{IsCharBoundary, IsUtf8}
use Rattle.text_bytes.specs.Text.{Text}
use Rattle.lsp_messages.specs.ChangeValues.{ChangeValue}
use Rattle.lsp_messages.specs.TextChanges.{changed}
use Rattle.lsp_messages.specs.Places.{IsPlace}
use Rattle.lsp_messages.specs.Rows.{offset_of}
use Rattle.lsp_messages.specs.Units.{is_within, units, width}
use Rattle.lsp_messages.specs.declared.counting.Encoding.{Encoding}
use Rattle.lsp_messages.specs.declared.counting.Encoding.TheVariants.{Utf8, Utf16}
use Rattle.lsp_messages.specs.declared.rows.Position.{Position}
use Rattle.lsp_messages.proofs.Landing.{names_place}

next_none : (e : Encoding) (n : ℕ) → width e (128 + n % 64) ≡ 0
next_none Utf8 n = let within : is_within (128 + n % 64) ≡ true = grind arith in rw within refl
next_none Utf16 n = let within : is_within (128 + n % 64) ≡ true = grind arith in rw within refl

one8 : (b : ℕ) → b < 128 → width Utf8 b ≡ 1
one8 b h = grind arith

two8 : (b : ℕ) → 192 ≤ b → b < 224 → width Utf8 b ≡ 2
two8 b l h = grind arith

three8 : (b : ℕ) → 224 ≤ b → b < 240 → width Utf8 b ≡ 3
three8 b l h = grind arith

four8 : (b : ℕ) → 240 ≤ b → width Utf8 b ≡ 4
four8 b l = grind arith

one16 : (b : ℕ) → b < 128 → width Utf16 b ≡ 1
one16 b h = grind arith

more16 : (b : ℕ) → 192 ≤ b → b < 240 → width Utf16 b ≡ 1
more16 b l h = grind arith

two16 : (b : ℕ) → 240 ≤ b → width Utf16 b ≡ 2
two16 b l = grind arith

-- the units of a character in UTF-8 are its bytes
bytes_of_one : (c : ℕ) → units Utf8 (encode c) ≡ length (encode c)
unfolding encode
bytes_of_one c = by (nat_lt c 128) (nat_lt c 2048) (nat_lt c 65536) refl refl refl
  where
    by : (x y z : Bool) → nat_lt c 128 ≡ x → nat_lt c 2048 ≡ y → nat_lt c 65536 ≡ z
        → units Utf8 (cond x (c ∷ []) (cond y ((192 + c / 64) ∷ (128 + c % 64) ∷ []) (cond z ((224 + c / 4096) ∷ (128 + c / 64 % 64) ∷ (128 + c % 64) ∷ []) ((240 + c / 262144) ∷ (128 + c / 4096 % 64) ∷ (128 + c / 64 % 64) ∷ (128 + c % 64) ∷ []))))
        ≡ length (cond x (c ∷ []) (cond y ((192 + c / 64) ∷ (128 + c % 64) ∷ []) (cond z ((224 + c / 4096) ∷ (128 + c / 64 % 64) ∷ (128 + c % 64) ∷ []) ((240 + c / 262144) ∷ (128 + c / 4096 % 64) ∷ (128 + c / 64 % 64) ∷ (128 + c % 64) ∷ []))))
    by true y z a b d = let first = one8 c (grind arith) in omega (arith, first)
    by false true z a b d = let less : c < 2048 = grind arith in let first = two8 (192 + c / 64) (omega arith) (omega arith) in let last = next_none Utf8 c in omega (arith, first, last)
    by false false true a b d =
        let less : c < 65536 = grind arith in
        let first = three8 (224 + c / 4096) (omega arith) (omega arith) in
        let last = next_none Utf8 c in
        let third = next_none Utf8 (c / 64) in
        omega (arith, first, last, third)
    by false false false a b d =
        let first = four8 (240 + c / 262144) (omega arith) in
        let last = next_none Utf8 c in
        let third = next_none Utf8 (c / 64) in
        let second = next_none Utf8 (c / 4096) in
        omega (arith, first, last, third, second)

-- and in UTF-16 those of UTF-16
units_of_one : (c : ℕ) → units Utf16 (encode c) ≡ length (encode_utf16 c)
unfolding encode
units_of_one c = by (nat_lt c 128) (nat_lt c 2048) (nat_lt c 65536) refl refl refl
  where
    by : (x y z : Bool) → nat_lt c 128 ≡ x → nat_lt c 2048 ≡ y → nat_lt c 65536 ≡ z
        → units Utf16 (cond x (c ∷ []) (cond y ((192 + c / 64) ∷ (128 + c % 64) ∷ []) (cond z ((224 + c / 4096) ∷ (128 + c / 64 % 64) ∷ (128 + c % 64) ∷ []) ((240 + c / 262144) ∷ (128 + c / 4096 % 64) ∷ (128 + c / 64 % 64) ∷ (128 + c % 64) ∷ []))))
        ≡ length (cond z (c ∷ []) ((0xD800 + (c - 0x1_0000) / 0x400) ∷ (0xDC00 + (c - 0x1_0000) % 0x400) ∷ []))
    by true y true a b d = let first = one16 c (grind arith) in omega (arith, first)
    by true y false a b d = absurd (grind arith)
    by false true true a b d = let less : c < 2048 = grind arith in let first = more16 (192 + c / 64) (omega arith) (omega arith) in let last = next_none Utf16 c in omega (arith, first, last)
    by false true false a b d = absurd (grind arith)
    by false false true a b d =
        let less : c < 65536 = grind arith in
        let first = more16 (224 + c / 4096) (omega arith) (omega arith) in
        let last = next_none Utf16 c in
        let third = next_none Utf16 (c / 64) in
        omega (arith, first, last, third)
    by false false false a b d =
        let first = two16 (240 + c / 262144) (omega arith) in
        let last = next_none Utf16 c in
        let third = next_none Utf16 (c / 64) in
        let second = next_none Utf16 (c / 4096) in
        omega (arith, first, last, third, second)

bytes_of_all : (cs : List ℕ) → units Utf8 (encodes cs) ≡ length (encodes cs)
bytes_of_all [] = refl
bytes_of_all (c ∷ cs) =
    sum_by-append (width Utf8) (encode c) (encodes cs) ∙ ap (λ n. n + units Utf8 (encodes cs)) (bytes_of_one c) ∙ ap (λ n. length (encode c) + n) (bytes_of_all cs)
    ∙ sym (length-append (encode c) (encodes cs))

-- the units of UTF-8 are its bytes
pub units_utf8 : (text : Text) → IsUtf8 text → units Utf8 text ≡ length text
units_utf8 text h = subst (λ t. units Utf8 t ≡ length t) h.1.1 (bytes_of_all h.0)

-- the units of characters in UTF-16
pub units_utf16 : (cs : List ℕ) → units Utf16 (encodes cs) ≡ length (flat_map encode_utf16 cs)
units_utf16 [] = refl
units_utf16 (c ∷ cs) =
    sum_by-append (width Utf16) (encode c) (encodes cs) ∙ ap (λ n. n + units Utf16 (encodes cs)) (units_of_one c) ∙ ap (λ n. length (encode_utf16 c) + n) (units_utf16 cs)
    ∙ sym (length-append (encode_utf16 c) (flat_map encode_utf16 cs))

begins : (b : ℕ) → is_within b ≡ false → 128 ≤ b → 192 ≤ b
begins b h l = grind arith

-- a place is the boundary of a character
boundary : (text : Text) (offset : ℕ) → IsPlace text offset → IsCharBoundary text offset
boundary text offset place = (place.inside, λ l h. begins (get_or text offset 0) place.whole h)

later : (text : Text) (from to : ℕ) → IsCharBoundary text from → IsCharBoundary text to → IsCharBoundary text (max from to)
later text from to f t = by (nat_le from to) refl
  where
    by : (b : Bool) → nat_le from to ≡ b → IsCharBoundary text (max from to)
    by true is = let most : to ≡ max from to = grind arith in subst (IsCharBoundary text) most t
    by false is = let most : from ≡ max from to = grind arith in subst (IsCharBoundary text) most f

keeps : (e : Encoding) (text : Text) (range : Option (Position × Position)) (new : Text) → IsUtf8 text → IsUtf8 new → IsUtf8 (changed e text (record { range = range; text = new }))
keeps e text None new whole more = more
keeps e text (Some range) new whole more =
    let from = boundary text (offset_of e text range.0) (names_place e text range.0) in
    let to = boundary text (offset_of e text range.1) (names_place e text range.1) in
    IsUtf8-append (take (offset_of e text range.0) text ++ new) (drop (max (offset_of e text range.0) (offset_of e text range.1)) text)
    (IsUtf8-append (take (offset_of e text range.0) text) new (IsUtf8-take text (offset_of e text range.0) whole from) more)
    (IsUtf8-drop text (max (offset_of e text range.0) (offset_of e text range.1)) whole (later text (offset_of e text range.0) (offset_of e text range.1) from to))

-- a change of UTF-8 by UTF-8 is UTF-8
pub keeps_utf8 : (e : Encoding) (text : Text) (change : ChangeValue) → IsUtf8 text → IsUtf8 change.text → IsUtf8 (changed e text change)
keeps_utf8 e text change whole more = keeps e text change.range change.text whole more
