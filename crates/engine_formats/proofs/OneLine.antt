-- What is printed as JSON stays on its line.
use Rattle.std.proofs.Common.{◌≡◌, ℕ, ◌+◌, ◌^◌, ◌<◌, ◌≤◌, ◌%◌, Bool, true, false, ◌&&◌, ◌||◌, cond, eqb, ltb, not, take_while, List, [], ◌∷◌, ◌++◌, decimal, refl, ap, ◌∙◌, arith}
use Rattle.std.specs.List.{list_any, onto_first}
use Rattle.std.proofs.lemmas.Bool.{agree_below_at, le-ltb, ltb-false, ltb-true, ne_eqb, or_from}
use Rattle.std.proofs.lemmas.Fmt.{decimal_by_steps}
use Rattle.std.proofs.lemmas.List.Folds.{list_any-append}
use Rattle.std.proofs.lemmas.List.Sums.{take_while-cons}
use Rattle.text_bytes.specs.Lines.{lines}
use Rattle.text_bytes.specs.Names.{newline}
use Rattle.json.specs.Print.{begins, ends, escape, escape_byte, print_from, separator, token_text}
use Rattle.json.specs.Token as token
use Rattle.json.specs.Token.{Token}

-- a byte is not in a text
abbrev pub Lacks : ℕ → List ℕ → Type 0
Lacks byte text = list_any (λ b. eqb b byte) text ≡ false

pub lacks-append : (byte : ℕ) (first second : List ℕ) → Lacks byte first → Lacks byte second → Lacks byte (first ++ second)
lacks-append byte first second p q =
    list_any-append (λ b. eqb b byte) first second
    ∙ or_from (list_any (λ b. eqb b byte) first) (list_any (λ b. eqb b byte) second) p q

-- a byte that is not a digit is not in a number
pub decimal_lacks : (byte : ℕ) → ((d : ℕ) → d < 10 → eqb (48 + d) byte ≡ false) → (n : ℕ) → n < 2 ^ 64 → Lacks byte (decimal n)
decimal_lacks byte no_digit n h =
    decimal_by_steps (λ _ ds. Lacks byte ds)
    (λ d small. or_from (eqb (48 + d) byte) false (no_digit d small) refl)
    (λ m ds _ so_far. lacks-append byte ds ((48 + m % 10) ∷ []) so_far (or_from (eqb (48 + m % 10) byte) false (no_digit (m % 10) (omega arith)) refl))
    n h

low_escape : (b : ℕ) → b < 128 → Lacks newline (escape_byte b)
unfolding escape_byte
low_escape b h = agree_below_at (λ b. list_any (λ x. eqb x newline) (escape_byte b)) (λ _. false) 128 b refl h

high_escape : (b : ℕ) → 128 ≤ b → Lacks newline (escape_byte b)
unfolding escape_byte
high_escape b h =
    rw (
      ne_eqb b 34 (λ e. omega arith),
      ne_eqb b 92 (λ e. omega arith),
      ne_eqb b 8 (λ e. omega arith),
      ne_eqb b 12 (λ e. omega arith),
      ne_eqb b 10 (λ e. omega arith),
      ne_eqb b 13 (λ e. omega arith),
      ne_eqb b 9 (λ e. omega arith),
      le-ltb b 32 (omega arith),
    )
    (or_from (eqb b newline) false (ne_eqb b newline (λ e. omega arith)) refl)

by_height : (b : ℕ) (low : Bool) → ltb b 128 ≡ low → Lacks newline (escape_byte b)
by_height b true e = low_escape b (ltb-true b 128 e)
by_height b false e = high_escape b (ltb-false b 128 e)

escape_lacks : (text : List ℕ) → Lacks newline (escape text)
escape_lacks [] = refl
escape_lacks (b ∷ text) = lacks-append newline (escape_byte b) (escape text) (by_height b (ltb b 128) refl) (escape_lacks text)

-- a token's text stays on its line
abbrev pub IsClean : Token → Type 0
IsClean token.begin_object = Unit {0}
IsClean token.end_object = Unit {0}
IsClean token.begin_array = Unit {0}
IsClean token.end_array = Unit {0}
IsClean (token.key s) = Unit {0}
IsClean (token.string s) = Unit {0}
IsClean (token.number s) = Lacks newline s
IsClean (token.boolean b) = Unit {0}
IsClean token.null = Unit {0}
IsClean token.bad = Unit {0}

abbrev pub AreClean : List Token → Type 0
AreClean [] = Unit {0}
AreClean (t ∷ ts) = IsClean t × AreClean ts

pub clean-append : (ts us : List Token) → AreClean ts → AreClean us → AreClean (ts ++ us)
clean-append [] us p q = q
clean-append (t ∷ ts) us p q = (p.0, clean-append ts us p.1 q)

quoted_lacks : (s : List ℕ) → Lacks newline (escape s ++ 34 ∷ [])
quoted_lacks s = lacks-append newline (escape s) (34 ∷ []) (escape_lacks s) refl

token_lacks : (t : Token) → IsClean t → Lacks newline (token_text t)
token_lacks token.begin_object h = refl
token_lacks token.end_object h = refl
token_lacks token.begin_array h = refl
token_lacks token.end_array h = refl
token_lacks (token.key s) h = lacks-append newline (34 ∷ (escape s ++ 34 ∷ [])) (58 ∷ []) (quoted_lacks s) refl
token_lacks (token.string s) h = quoted_lacks s
token_lacks (token.number s) h = h
token_lacks (token.boolean true) h = refl
token_lacks (token.boolean false) h = refl
token_lacks token.null h = refl
token_lacks token.bad h = refl

comma_lacks : (is_there : Bool) → Lacks newline (cond is_there (44 ∷ []) [])
comma_lacks true = refl
comma_lacks false = refl

pub print_lacks : (after : Bool) (ts : List Token) → AreClean ts → Lacks newline (print_from after ts)
unfolding print_from
print_lacks after [] h = refl
print_lacks after (t ∷ ts) h =
    lacks-append newline (separator after t) (token_text t ++ print_from (ends t) ts)
    (comma_lacks (after && begins t))
    (lacks-append newline (token_text t) (print_from (ends t) ts) (token_lacks t h.0) (print_lacks (ends t) ts h.1))

pub or_parts : (a b : Bool) → (a || b) ≡ false → (a ≡ false) × (b ≡ false)
or_parts true b e = absurd (cc)
or_parts false b e = (refl, e)

-- a text that stays on its line is the first line if a newline follows
pub first_line_is : (text rest : List ℕ) → Lacks newline text → lines (text ++ newline ∷ rest) ≡ text ∷ lines rest
first_line_is [] rest h = refl
first_line_is (b ∷ text) rest h =
    let parts = or_parts (eqb b newline) (list_any (λ x. eqb x newline) text) h in
    rw parts.0 (ap (onto_first b) (first_line_is text rest parts.1))

-- what comes before the first byte that passes a test
pub up_to : (test : ℕ → Bool) (text : List ℕ) (b : ℕ) (rest : List ℕ) → list_any test text ≡ false → test b ≡ true → take_while (λ x. not (test x)) (text ++ b ∷ rest) ≡ text
up_to test [] b rest h k = rw k refl
up_to test (x ∷ text) b rest h k =
    let parts = or_parts (test x) (list_any test text) h in
    take_while-cons (λ y. not (test y)) x (text ++ b ∷ rest) ∙ rw parts.0 (ap (λ (t : List ℕ). x ∷ t) (up_to test text b rest parts.1 k))
