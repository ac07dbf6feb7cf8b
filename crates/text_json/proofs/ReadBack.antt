-- What is told is UTF-8, and is read back.
use Rattle.std.proofs.Common.{◌≡◌, ℕ, suc, ◌+◌, ◌*◌, ◌<◌, ◌/◌, ◌%◌, Bool, true, false, not, ◌&&◌, ◌||◌, cond, eqb, ltb, List, [], ◌∷◌, ◌++◌, flat_map, length, get_or, refl, ap, ◌∙◌, arith, codes}
use Rattle.std.specs.Str.{IsUtf8, is_utf8}
use Rattle.std.specs.Str.Lossy.{replacement_bytes}
use Rattle.std.proofs.lemmas.Bool.{agree_below_at, eqb-true}
use Rattle.std.proofs.lemmas.Str.{IsUtf8-append, IsUtf8-from_is_utf8, IsUtf8-nil}
use Rattle.json.proofs.Printed.Utf8.{IsUtf8-are_ascii, are_ascii}
use Rattle.std.specs.Char.{encode_utf8}
use Rattle.text_bytes.specs.Names.{backslash}
use Rattle.text_bytes.specs.Escapes.{hex_digit, digit_value, is_control, is_escaped, unescaped}
use Rattle.text_json.specs.Told.{is_itself, is_marked, stands, told_byte, told_read, told_text}

-- the numbers of a text are bytes
abbrev pub AreBytes : List ℕ → Type 0
AreBytes text = (k : ℕ) → k < length text → get_or text k 0 < 256

-- each byte is told in ASCII, which is UTF-8
byte_utf8 : (b : ℕ) → b < 256 → IsUtf8 (told_byte b)
byte_utf8 b h = IsUtf8-are_ascii (told_byte b) (agree_below_at (λ b. are_ascii (told_byte b)) (λ _. true) 256 b refl h)

bytes_utf8 : (text : List ℕ) → AreBytes text → IsUtf8 (flat_map told_byte text)
bytes_utf8 [] h = IsUtf8-nil
bytes_utf8 (b ∷ text) h =
    IsUtf8-append (told_byte b) (flat_map told_byte text) (byte_utf8 b (h 0 (omega arith))) (bytes_utf8 text (λ k l. h (suc k) (omega arith)))

and_first : (a b : Bool) → a && b ≡ true → a ≡ true
and_first true b h = refl
and_first false b h = absurd cc

and_second : (a b : Bool) → a && b ≡ true → b ≡ true
and_second true b h = h
and_second false b h = absurd cc

not_true : (a : Bool) → not a ≡ true → a ≡ false
not_true true h = absurd cc
not_true false h = refl

mark_utf8 : IsUtf8 replacement_bytes
unfolding encode_utf8
mark_utf8 = (65533 ∷ [], (refl, refl))

utf8_by : (text : List ℕ) (itself : Bool) → is_itself text ≡ itself → AreBytes text
    → IsUtf8 (cond itself text (replacement_bytes ++ flat_map told_byte text))
utf8_by text true e h = IsUtf8-from_is_utf8 text (and_first (is_utf8 text) (not (is_marked text)) e)
utf8_by text false e h = IsUtf8-append replacement_bytes (flat_map told_byte text) mark_utf8 (bytes_utf8 text h)

pub told_utf8 : (text : List ℕ) → AreBytes text → IsUtf8 (told_text text)
unfolding told_text
told_utf8 text h = utf8_by text (is_itself text) refl h

digits_agree : (n : ℕ) → n < 16 → eqb (digit_value (hex_digit n)) n ≡ true
digits_agree n h = agree_below_at (λ n. eqb (digit_value (hex_digit n)) n) (λ _. true) 16 n refl h

-- a digit is read as its number
digit_read : (n : ℕ) → n < 16 → digit_value (hex_digit n) ≡ n
digit_read n h = eqb-true (digit_value (hex_digit n)) n (digits_agree n h)

-- a byte that is not a backslash stands for itself
plain_read : (b : ℕ) (rest : List ℕ) → eqb b backslash ≡ false → unescaped (b ∷ rest) ≡ b ∷ unescaped rest
plain_read b [] e = refl
plain_read b (c ∷ []) e = refl
plain_read b (c ∷ d ∷ []) e = refl
plain_read b (x ∷ high ∷ low ∷ rest) e = rw e refl

or_second : (a b : Bool) → a || b ≡ false → b ≡ false
or_second true b h = absurd cc
or_second false b h = h

no_backslash : (b : ℕ) → stands b ≡ true → eqb b backslash ≡ false
no_backslash b h = or_second (is_control b) (eqb b backslash) (not_true (is_escaped b) (and_second (ltb b 128) (not (is_escaped b)) h))

byte_read_by : (b : ℕ) (rest : List ℕ) (itself : Bool) → stands b ≡ itself → b < 256
    → unescaped (cond itself (b ∷ []) (codes "\\x" ++ hex_digit (b / 16) ∷ hex_digit (b % 16) ∷ []) ++ rest) ≡ b ∷ unescaped rest
byte_read_by b rest true e h = plain_read b rest (no_backslash b e)
byte_read_by b rest false e h =
    let high : digit_value (hex_digit (b / 16)) ≡ b / 16 = digit_read (b / 16) (omega arith) in
    let low : digit_value (hex_digit (b % 16)) ≡ b % 16 = digit_read (b % 16) (omega arith) in
    let whole : 16 * digit_value (hex_digit (b / 16)) + digit_value (hex_digit (b % 16)) ≡ b = omega arith in
    ap (λ (n : ℕ). n ∷ unescaped rest) whole

bytes_read : (text : List ℕ) → AreBytes text → unescaped (flat_map told_byte text) ≡ text
bytes_read [] h = refl
bytes_read (b ∷ text) h =
    byte_read_by b (flat_map told_byte text) (stands b) refl (h 0 (omega arith))
    ∙ ap (λ (bs : List ℕ). b ∷ bs) (bytes_read text (λ k l. h (suc k) (omega arith)))

read_by : (text : List ℕ) (itself : Bool) → is_itself text ≡ itself → AreBytes text
    → told_read (cond itself text (replacement_bytes ++ flat_map told_byte text)) ≡ text
read_by text true e h = rw (not_true (is_marked text) (and_second (is_utf8 text) (not (is_marked text)) e)) refl
read_by text false e h = bytes_read text h

pub told_back : (text : List ℕ) → AreBytes text → told_read (told_text text) ≡ text
unfolding told_text
told_back text h = read_by text (is_itself text) refl h
