-- What workflow commands say is read back, and ends nothing.
use Rattle.std.proofs.Common.{◌≡◌, ℕ, ◌+◌, ◌*◌, ◌/◌, ◌%◌, ◌<◌, Bool, true, false, ◌||◌, cond, eqb, ltb, not, arith, List, [], ◌∷◌, ◌++◌, codes, decimal, take_while, refl, ap, sym, ◌∙◌, append_assoc}
use Rattle.std.specs.List.{list_any}
use Rattle.std.proofs.lemmas.Bool.{agree_below_at, eqb-true, ltb-true}
use Rattle.std.proofs.lemmas.List.Folds.{list_any-append}
use Rattle.text_bytes.specs.Escapes.{digit_value, hex_digit, is_control}
use Rattle.text_bytes.specs.Names.{carriage_return, colon, comma, delete, newline, percent}
use Rattle.engine_formats.specs.Diagnostics.{DiagnosticValue}
use Rattle.engine_formats.specs.Github.{github_byte, github_place, github_property, github_text, property_byte}
use Rattle.engine_formats.specs.Readers.{ends_line, ends_property, github_read, property_at}
use Rattle.engine_formats.specs.Uris.{percent_byte}
use Rattle.engine_formats.proofs.OneLine.{up_to}

-- a byte that is not `%` is itself
pub plain : (b : ℕ) (rest : List ℕ) → eqb b percent ≡ false → github_read (b ∷ rest) ≡ b ∷ github_read rest
plain b [] e = refl
plain b (c ∷ []) e = refl
plain b (c ∷ d ∷ rest) e = rw e refl

read_back : (b : ℕ) (rest : List ℕ) (is_percent is_return is_newline : Bool) → eqb b percent ≡ is_percent → eqb b carriage_return ≡ is_return → eqb b newline ≡ is_newline
    → github_read (cond is_percent (codes "%25") (cond is_return (codes "%0D") (cond is_newline (codes "%0A") (b ∷ []))) ++ rest) ≡ b ∷ github_read rest
read_back b rest true r n e f g = ap (λ (m : ℕ). m ∷ github_read rest) (sym (eqb-true b percent e))
read_back b rest false true n e f g = ap (λ (m : ℕ). m ∷ github_read rest) (sym (eqb-true b carriage_return f))
read_back b rest false false true e f g = ap (λ (m : ℕ). m ∷ github_read rest) (sym (eqb-true b newline g))
read_back b rest false false false e f g = plain b rest e

read_byte : (b : ℕ) (rest : List ℕ) → github_read (github_byte b ++ rest) ≡ b ∷ github_read rest
read_byte b rest = read_back b rest (eqb b percent) (eqb b carriage_return) (eqb b newline) refl refl refl

-- a control byte is the number of its two digits
control_back : (b : ℕ) → b < 128 → is_control b ≡ true → 16 * digit_value (hex_digit (b / 16)) + digit_value (hex_digit (b % 16)) ≡ b
control_back b small h =
    eqb-true (16 * digit_value (hex_digit (b / 16)) + digit_value (hex_digit (b % 16))) b
    (agree_below_at (λ b. eqb (16 * digit_value (hex_digit (b / 16)) + digit_value (hex_digit (b % 16))) b) (λ _. true) 128 b refl small)

control_small : (b : ℕ) (low : Bool) → ltb b 32 ≡ low → (low || eqb b delete) ≡ true → b < 128
control_small b true e h = let below : b < 32 = ltb-true b 32 e in omega (arith, below)
control_small b false e h = let same : b ≡ delete = eqb-true b delete h in omega (arith, same)

property_back : (b : ℕ) (rest : List ℕ) (is_colon is_comma control : Bool) → eqb b colon ≡ is_colon → eqb b comma ≡ is_comma → is_control b ≡ control
    → github_read (cond is_colon (codes "%3A") (cond is_comma (codes "%2C") (cond control (percent_byte b) (github_byte b))) ++ rest) ≡ b ∷ github_read rest
property_back b rest true c d e f g = ap (λ (m : ℕ). m ∷ github_read rest) (sym (eqb-true b colon e))
property_back b rest false true d e f g = ap (λ (m : ℕ). m ∷ github_read rest) (sym (eqb-true b comma f))
property_back b rest false false true e f g = ap (λ (m : ℕ). m ∷ github_read rest) (control_back b (control_small b (ltb b 32) refl g) g)
property_back b rest false false false e f g = read_byte b rest

pub text_read_back : (said : List ℕ) → github_read (github_text said) ≡ said
text_read_back [] = refl
text_read_back (b ∷ said) = read_byte b (github_text said) ∙ ap (λ (bs : List ℕ). b ∷ bs) (text_read_back said)

pub property_read_back : (value : List ℕ) → github_read (github_property value) ≡ value
property_read_back [] = refl
property_read_back (b ∷ value) =
    property_back b (github_property value) (eqb b colon) (eqb b comma) (is_control b) refl refl refl ∙ ap (λ (bs : List ℕ). b ∷ bs) (property_read_back value)

ends_no_line : (b : ℕ) (is_percent is_return is_newline : Bool) → eqb b carriage_return ≡ is_return → eqb b newline ≡ is_newline
    → list_any ends_line (cond is_percent (codes "%25") (cond is_return (codes "%0D") (cond is_newline (codes "%0A") (b ∷ [])))) ≡ false
ends_no_line b true r n f g = refl
ends_no_line b false true n f g = refl
ends_no_line b false false true f g = refl
ends_no_line b false false false f g = rw (f, g) refl

pub text_ends_no_line : (said : List ℕ) → list_any ends_line (github_text said) ≡ false
text_ends_no_line [] = refl
text_ends_no_line (b ∷ said) =
    rw (list_any-append ends_line (github_byte b) (github_text said), ends_no_line b (eqb b percent) (eqb b carriage_return) (eqb b newline) refl refl) (text_ends_no_line said)

-- the digits of a control byte end no property
digits_end_none : (b : ℕ) → is_control b ≡ true → list_any ends_property (percent_byte b) ≡ false
digits_end_none b h = agree_below_at (λ b. list_any ends_property (percent_byte b)) (λ _. false) 128 b refl (control_small b (ltb b 32) refl h)

byte_ends_none : (b : ℕ) (is_percent is_return is_newline : Bool) → eqb b colon ≡ false → eqb b comma ≡ false → eqb b carriage_return ≡ is_return → eqb b newline ≡ is_newline
    → list_any ends_property (cond is_percent (codes "%25") (cond is_return (codes "%0D") (cond is_newline (codes "%0A") (b ∷ [])))) ≡ false
byte_ends_none b true r n d e f g = refl
byte_ends_none b false true n d e f g = refl
byte_ends_none b false false true d e f g = refl
byte_ends_none b false false false d e f g = rw (d, e, f, g) refl

ends_no_property : (b : ℕ) (is_colon is_comma control : Bool) → eqb b colon ≡ is_colon → eqb b comma ≡ is_comma → is_control b ≡ control
    → list_any ends_property (cond is_colon (codes "%3A") (cond is_comma (codes "%2C") (cond control (percent_byte b) (github_byte b)))) ≡ false
ends_no_property b true c h d e f = refl
ends_no_property b false true h d e f = refl
ends_no_property b false false true d e f = digits_end_none b f
ends_no_property b false false false d e f = byte_ends_none b (eqb b percent) (eqb b carriage_return) (eqb b newline) d e refl refl

pub property_ends_none : (value : List ℕ) → list_any ends_property (github_property value) ≡ false
property_ends_none [] = refl
property_ends_none (b ∷ value) =
    rw (list_any-append ends_property (property_byte b) (github_property value), ends_no_property b (eqb b colon) (eqb b comma) (is_control b) refl refl refl) (property_ends_none value)

six_parts : (p a b c d e f : List ℕ) → (((((p ++ a) ++ b) ++ c) ++ d) ++ e) ++ f ≡ p ++ (a ++ (b ++ (c ++ (d ++ (e ++ f)))))
six_parts p a b c d e f = simp append_assoc

pub path_read_back : (d : DiagnosticValue) → github_read (property_at (codes " file=") (github_place d)) ≡ d.path
unfolding github_place
path_read_back d =
    let rest : List ℕ = codes "line=" ++ (decimal d.line ++ (codes ",col=" ++ (decimal d.column ++ (codes ",endColumn=" ++ decimal d.end)))) in
    ap (λ (t : List ℕ). github_read (take_while (λ b. not (ends_property b)) t))
    (six_parts (github_property d.path) (codes ",line=") (decimal d.line) (codes ",col=") (decimal d.column) (codes ",endColumn=") (decimal d.end))
    ∙ ap github_read (up_to ends_property (github_property d.path) comma rest (property_ends_none d.path) refl) ∙ property_read_back d.path
