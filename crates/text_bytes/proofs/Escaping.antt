-- Escaped texts: no control byte is in them, what needs no escape is its own, and all are read back.
use Rattle.std.proofs.Common.{◌≡◌, ℕ, suc, ◌+◌, ◌*◌, ◌<◌, ◌/◌, ◌%◌, Bool, true, false, ◌||◌, eqb, List, [], ◌∷◌, ◌++◌, All, cond, length, take, get_or, refl, ap, sym, ◌∙◌, arith, codes}
use Rattle.std.proofs.lemmas.Bool.{agree_below_at, eqb-true}
use Rattle.std.proofs.lemmas.List.{take_more, flat_map_more}
use Rattle.std.proofs.lemmas.List.Elements.{All-nil, All-cons}
use Rattle.text_bytes.specs.Names.{backslash}
use Rattle.text_bytes.specs.Escapes.{is_control, is_escaped, hex_digit, digit_value, escape_byte, escape_text, unescaped}

-- a byte that is not a control byte
abbrev pub IsShown : ℕ → Type 0
IsShown b = is_control b ≡ false

digit_is_shown : (n : ℕ) → n < 16 → IsShown (hex_digit n)
digit_is_shown n h = agree_below_at (λ n. is_control (hex_digit n)) (λ _. false) 16 n refl h

by_case : (b : ℕ) (needed : Bool) → is_escaped b ≡ needed → IsShown (hex_digit (b / 16)) → IsShown (hex_digit (b % 16))
    → All IsShown (cond needed (codes "\\x" ++ hex_digit (b / 16) ∷ hex_digit (b % 16) ∷ []) (b ∷ []))
by_case b true e high low =
    let second : List ℕ = hex_digit (b % 16) ∷ [] in
    let digits : List ℕ = hex_digit (b / 16) ∷ second in
    All-cons IsShown 92 (120 ∷ digits) refl (All-cons IsShown 120 digits refl (All-cons IsShown (hex_digit (b / 16)) second high (All-cons IsShown (hex_digit (b % 16)) [] low (All-nil IsShown))))
by_case b false e high low = let stays : is_control b ≡ false = grind (arith, e) in All-cons IsShown b [] stays (All-nil IsShown)

pub escape_byte-shown : (b : ℕ) → b < 256 → All IsShown (escape_byte b)
escape_byte-shown b h = by_case b (is_escaped b) refl (digit_is_shown (b / 16) (omega arith)) (digit_is_shown (b % 16) (omega arith))

pub escape_text-same : (text : List ℕ) → All (λ b. is_escaped b ≡ false) text → escape_text text ≡ text
escape_text-same [] h = refl
escape_text-same (b ∷ text) h =
    let here : is_escaped b ≡ false = h 0 b (omega arith) in
    let rest : All (λ b. is_escaped b ≡ false) text = λ k d l. h (suc k) d (omega arith) in
    rw here (ap (λ (bs : List ℕ). b ∷ bs) (escape_text-same text rest))

-- one byte more
pub escape_text-more : (text : List ℕ) (i : ℕ) → i < length text → escape_text (take i text) ++ escape_byte (get_or text i 0) ≡ escape_text (take (i + 1) text)
escape_text-more text i h = flat_map_more escape_byte [] (take i text) (get_or text i 0) ∙ ap escape_text (sym (take_more text i 0 h))

digits_agree : (n : ℕ) → n < 16 → eqb (digit_value (hex_digit n)) n ≡ true
digits_agree n h = agree_below_at (λ n. eqb (digit_value (hex_digit n)) n) (λ _. true) 16 n refl h

-- a digit is read as its number
digit_value-hex_digit : (n : ℕ) → n < 16 → digit_value (hex_digit n) ≡ n
digit_value-hex_digit n h = eqb-true (digit_value (hex_digit n)) n (digits_agree n h)

-- a byte that is not a backslash stands for itself
unescaped-plain : (b : ℕ) (rest : List ℕ) → eqb b backslash ≡ false → unescaped (b ∷ rest) ≡ b ∷ unescaped rest
unescaped-plain b [] e = refl
unescaped-plain b (c ∷ []) e = refl
unescaped-plain b (c ∷ d ∷ []) e = refl
unescaped-plain b (x ∷ high ∷ low ∷ rest) e = rw e refl

or_second : (a b : Bool) → a || b ≡ false → b ≡ false
or_second true b h = absurd cc
or_second false b h = h

unescaped-by_case : (b : ℕ) (rest : List ℕ) (needed : Bool) → is_escaped b ≡ needed → b < 256
    → unescaped (cond needed (codes "\\x" ++ hex_digit (b / 16) ∷ hex_digit (b % 16) ∷ []) (b ∷ []) ++ rest) ≡ b ∷ unescaped rest
unescaped-by_case b rest true e h =
    let high : digit_value (hex_digit (b / 16)) ≡ b / 16 = digit_value-hex_digit (b / 16) (omega arith) in
    let low : digit_value (hex_digit (b % 16)) ≡ b % 16 = digit_value-hex_digit (b % 16) (omega arith) in
    let whole : 16 * digit_value (hex_digit (b / 16)) + digit_value (hex_digit (b % 16)) ≡ b = omega arith in
    ap (λ (n : ℕ). n ∷ unescaped rest) whole
unescaped-by_case b rest false e h = unescaped-plain b rest (or_second (is_control b) (eqb b backslash) e)

-- what was written is read back
pub unescaped-escape_text : (text : List ℕ) → All (λ b. b < 256) text → unescaped (escape_text text) ≡ text
unescaped-escape_text [] h = refl
unescaped-escape_text (b ∷ text) h =
    let here : b < 256 = h 0 b (omega arith) in
    let rest : All (λ b. b < 256) text = λ k d l. h (suc k) d (omega arith) in
    unescaped-by_case b (escape_text text) (is_escaped b) refl here ∙ ap (λ (bs : List ℕ). b ∷ bs) (unescaped-escape_text text rest)
